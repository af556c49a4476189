-- 64 pages made of entries over groups over groups: every page is in form, and together they are a well-formed tree whose records are
-- those of the lower groups. Assumes nothing.
use Prim.Native.Nat.{ℕ, suc, ◌+◌, ◌≤◌, ◌<◌}
use native.Mathlib.Nat.{add-zero, zero-add, not-suc-le-zero}
use native.Mathlib.Omega.{arith}
use mathlib.Core.Path.{◌≡◌, refl, sym, ◌∙◌}
use mathlib.Core.Bool.{Bool, true, false}
use mathlib.Core.List.{List, [], ◌∷◌, ◌++◌}
use lib.ListN.{length, drop, get_or, length-drop}
use lib.Seq.{get_or-drop}
use borrow.Author.Tests.{eq-eqb}
use Rattle.field.specs.Test.{pick}
use Rattle.field.specs.Bytes.{Bytes, zeroes}
use Rattle.field.proofs.Test.{both-intro, all-intro, all_nil, pick_true, pick-false}
use Rattle.field.proofs.Byte.{bytes-zeroes}
use Rattle.page.specs.Page.{Kind, root, base, leaf, empty, ascend, number, made, shaped, is_root, is_empty, formed}
use Rattle.page.specs.Page.{first_base, last_base, base_pages, leaf_pages, to_leaves}
use Rattle.page.specs.Places.{place, base_place}
use Rattle.page.specs.Pages.{all_formed}
use Rattle.page.specs.Each.{Each, nil, Long}
use Rattle.page.proofs.Made.{shaped-facts, Fit, fit-root, fit-base, fit-leaf, fit-empty, Fill, letter-made, bytes-made}
use Rattle.page.proofs.Kept.{Changed, made-changed, changed-empty, changed-leaf, changed-base}
use Rattle.page.proofs.Region.{formed-0, empty-formed, base-formed, leaf-formed}
use Rattle.page.proofs.Places.{base-place-in, base-place-apart, place_in, place-apart, place-above}
use Rattle.page.proofs.Pages.{formed-all}
use Rattle.tree.specs.Tree.{root_entries, base_entries, all_records, pointers, pointed_once, starts_at_zero, headed, well_formed}
use Rattle.tree.specs.Layout.{fresh}
use Rattle.tree.proofs.Tally.{pointers-append}
use Rattle.laid.proofs.Groups.{flat}
use Rattle.laid.proofs.Heads.{Heads, heads-length, heads-long, heads-ascend, heads-pointing, heads-none, heads-once}
use Rattle.laid.proofs.Under.{Holds, heads-below, heads-kept}
use Rattle.laid.proofs.Sheet.{sheet, each-sheet, length-sheet, sheet-base, sheet-leaf, places, run-full}

-- ---- a new page

-- what stands in it
pub fresh-changed : (k : Kind) (rs : List (List ℕ)) → Fit k → Fill k rs → Changed k 0 rs (fresh k rs)
unfolding fresh
fresh-changed k rs fit f = made-changed k 0 (zeroes 8) rs fit (omega arith) refl f

-- it is made of bytes
pub fresh-bytes : (k : Kind) (rs : List (List ℕ)) → k.sign < 256 → Each Bytes rs → Bytes (fresh k rs)
unfolding fresh
fresh-bytes k rs h p = bytes-made k.sign 0 (zeroes 8) rs h (bytes-zeroes 8) p

-- a test that cannot hold fails
either : (t : Bool) → (t ≡ true → ⊥) → t ≡ false
either true f = absurd (f refl)
either false f = refl

-- a page with another letter is not empty
fresh-not-empty : (k : Kind) (rs : List (List ℕ)) → (k.sign ≡ 101 → ⊥) → is_empty (fresh k rs) ≡ false
unfolding fresh is_empty
fresh-not-empty k rs ne =
    either (shaped empty (made k.sign 0 (zeroes 8) rs))
    (λ e. ne (sym (letter-made k.sign 0 (zeroes 8) rs) ∙ (shaped-facts empty (made k.sign 0 (zeroes 8) rs) e).lettered))

-- an empty page has no rows
pub fill_none : Fill empty []
fill_none = record { long = nil; order = unfold ascend in refl; enough = omega arith; room = omega arith }

-- and is in form
pub blank : Changed empty 0 [] (fresh empty [])
blank = fresh-changed empty [] fit-empty fill_none

-- ---- pointers

-- what is asked of each page is asked of all
once-all : (es : List (List ℕ)) (p : ℕ) (pgs : List (List ℕ))
    → ((i : ℕ) → i < length pgs → pointers (p + i) es ≡ pick (is_empty (get_or pgs i [])) 0 1)
    → pointed_once es p pgs ≡ true
unfolding pointed_once
once-all es p [] f = refl
once-all es p (pg ∷ pgs) f =
    both-intro _ _ (eq-eqb (pointers p es) (pick (is_empty pg) 0 1) (rw (add-zero p) at (f 0 (omega arith))))
    (once-all es (p + 1) pgs
    (λ i h. let e : p + 1 + i ≡ p + suc i = omega arith in
    rw e (f (suc i) (omega arith))))

-- ---- the tree

-- root entries es over the groups bs of the entries level, and these over the groups ls of records
pub record Parts (es level : List (List ℕ)) (bs ls : List (List (List ℕ))) : Type 0 where
  pub seven : length bs ≤ base_pages
  pub most : length ls ≤ leaf_pages
  pub upper : Heads 101 110 base_place 0 0 es bs
  pub lower : Heads 114 99 place 0 0 level ls
  pub grouped : flat bs ≡ level
  pub bases : (i : ℕ) → i < length bs → Fill base (get_or bs i [])
  pub pointed : (i : ℕ) → i < length bs → to_leaves (get_or bs i []) ≡ true
  pub leaves : (i : ℕ) → i < length ls → Fill leaf (get_or ls i [])
  pub starts : starts_at_zero es ≡ true
  pub heads : (ps : List (List ℕ)) → Holds 8 ps base_place 0 bs → headed ps es ≡ true

module _ (es level : List (List ℕ)) (bs ls : List (List (List ℕ))) (t : Parts es level bs ls) where
  -- the root's entries fit a root page
  pub root-fill : Fill root es
  root-fill =
      record {
        long = heads-long t.upper;
        order = heads-ascend t.upper;
        enough = omega arith;
        room = omega (arith, heads-length t.upper, t.seven);
      }

  -- the root page
  pub root-changed : Changed root 0 es (fresh root es)
  root-changed = fresh-changed root es fit-root root-fill

  -- the base page of group i
  pub base-changed : (i : ℕ) → i < length bs → Changed base 0 (get_or bs i []) (fresh base (get_or bs i []))
  base-changed i h = fresh-changed base (get_or bs i []) fit-base (t.bases i h)

  -- the leaf page of group i
  pub leaf_changed : (i : ℕ) → i < length ls → Changed leaf 0 (get_or ls i []) (fresh leaf (get_or ls i []))
  leaf_changed i h = fresh-changed leaf (get_or ls i []) fit-leaf (t.leaves i h)

  -- every page is 256 bytes long
  pub sheet-whole : Each (Long 256) (sheet es bs ls)
  sheet-whole =
      each-sheet es bs ls root-changed.whole (λ i h. (base-changed i h).whole) (λ i h. (leaf_changed i h).whole) blank.whole

  -- and has number 0
  pub sheet-stamps : Each (λ pg. number pg ≡ 0) (sheet es bs ls)
  sheet-stamps =
      each-sheet es bs ls root-changed.stamped (λ i h. (base-changed i h).stamped) (λ i h. (leaf_changed i h).stamped) blank.stamped

  -- page 0 is a root page
  root-formed : formed 0 (fresh root es) ≡ true
  unfolding is_root
  root-formed =
      formed-0 (fresh root es)
      ∙ both-intro _ _ root-changed.form (rw root-changed.holds (heads-pointing first_base last_base t.upper (λ k h l. base-place-in k (omega (arith, t.seven)))))

  -- every page is in form
  pub sheet-formed : all_formed 0 (sheet es bs ls) ≡ true
  sheet-formed =
      let none : is_empty (fresh empty []) ≡ true = changed-empty 0 [] (fresh empty []) blank in
      formed-all 0 (sheet es bs ls)
      (λ q h. rw (zero-add q)
      (places es bs ls t.seven t.most (λ p pg. formed p pg ≡ true) root-formed
      (λ i k. let h = base-place-in i (omega (arith, t.seven)) in
      base-formed (base_place i) (fresh base (get_or bs i [])) h.0 h.1
      (changed-base 0 (get_or bs i []) (fresh base (get_or bs i [])) (base-changed i k) (t.pointed i k)))
      (λ i k m. empty-formed (base_place i) (fresh empty []) (base-place-in i m).0 none)
      (λ i k. leaf-formed (place i) (fresh leaf (get_or ls i [])) (place_in i (omega (arith, t.most))).0
      (changed-leaf 0 (get_or ls i []) (fresh leaf (get_or ls i [])) (leaf_changed i k)))
      (λ i k m. empty-formed (place i) (fresh empty []) (omega (arith, (place_in i m).0)) none)
      q (omega (arith, length-sheet es bs ls t.seven t.most))))

  -- the base pages hold the groups of entries
  holds-base : Holds 8 (sheet es bs ls) base_place 0 bs
  holds-base i h =
      rw (zero-add i, sheet-base es bs ls t.seven t.most i (omega (arith, t.seven)), run-full base_pages base bs i h) (base-changed i h).holds

  -- the leaf pages hold the groups of records
  holds-leaf : Holds 16 (sheet es bs ls) place 0 ls
  holds-leaf i h = rw (zero-add i, sheet-leaf es bs ls t.seven t.most i, run-full leaf_pages leaf ls i h) (leaf_changed i h).holds

  -- the root's entries
  root_is : root_entries (sheet es bs ls) ≡ es
  unfolding root_entries sheet
  root_is = root-changed.holds

  -- the entries of all base pages
  level-is : base_entries (sheet es bs ls) ≡ level
  unfolding base_entries
  level-is = rw root_is (heads-below 8 (sheet es bs ls) t.upper holds-base ∙ t.grouped)

  -- all records
  pub sheet-records : all_records (sheet es bs ls) ≡ flat ls
  unfolding all_records
  sheet-records = rw level-is (heads-below 16 (sheet es bs ls) t.lower holds-leaf)

  -- a page that holds a group is pointed to once, an empty one never
  once : (q : ℕ) → q < 64 → 1 ≤ q → pointers q (es ++ level) ≡ pick (is_empty (get_or (sheet es bs ls) q [])) 0 1
  once q h =
      let none : pick {A = ℕ} (is_empty (fresh empty [])) 0 1 ≡ 0 =
      pick_true (is_empty (fresh empty [])) 0 1 (changed-empty 0 [] (fresh empty []) blank) in
      places es bs ls t.seven t.most (λ p pg. 1 ≤ p → pointers p (es ++ level) ≡ pick (is_empty pg) 0 1)
      (λ k. absurd (not-suc-le-zero k))
      (λ i k l. rw (
        pointers-append (base_place i) es level,
        heads-once i base-place-apart t.upper (omega arith) (omega arith),
        heads-none (base_place i) t.lower (λ n u v e. omega (arith, place-above n i (omega (arith, t.seven)))),
        fresh-not-empty base (get_or bs i []) (λ e. omega arith),
        pick-false {A = ℕ} false 0 1 refl,
      ))
      (λ i k m l. rw (
        pointers-append (base_place i) es level,
        heads-none (base_place i) t.upper (λ n u v e. omega (arith, base-place-apart n i e)),
        heads-none (base_place i) t.lower (λ n u v e. omega (arith, place-above n i m)),
        none,
      ))
      (λ i k l. rw (
        pointers-append (place i) es level,
        heads-none (place i) t.upper (λ n u v e. omega (arith, place-above i n (omega (arith, t.seven)))),
        heads-once i place-apart t.lower (omega arith) (omega arith),
        fresh-not-empty leaf (get_or ls i []) (λ e. omega arith),
        pick-false {A = ℕ} false 0 1 refl,
      ))
      (λ i k m l. rw (
        pointers-append (place i) es level,
        heads-none (place i) t.upper (λ n u v e. omega (arith, place-above i n (omega (arith, t.seven)))),
        heads-none (place i) t.lower (λ n u v e. omega (arith, place-apart n i e)),
        none,
      ))
      q h

  -- the tree is well formed
  pub sheet-well : well_formed (sheet es bs ls) ≡ true
  unfolding well_formed
  sheet-well =
      let ps : List (List ℕ) = sheet es bs ls in
      rw (root_is, level-is)
      (all-intro _ _
      (once-all (es ++ level) 1 (drop 1 ps)
      (λ i h. let k : 1 + i < 64 = omega (arith, length-drop 1 ps, length-sheet es bs ls t.seven t.most) in
      rw (get_or-drop 1 ps i []) (once (1 + i) k (omega arith))))
      (all-intro _ _ t.starts
      (all-intro _ _ (t.heads ps holds-base)
      (all-intro _ _ (heads-kept 8 ps t.upper holds-base) (all-intro _ _ (heads-kept 16 ps t.lower holds-leaf) all_nil)))))
