-- A delete over the bytes: whatever sheets `delete_sheets` gives on tidy pages, laid in place they leave tidy pages without the key.
-- Assumes nothing.
use Prim.Native.Nat.{ℕ, suc, ◌+◌, ◌≤◌, ◌<◌}
use native.Mathlib.Omega.{arith}
use mathlib.Core.Path.{◌≡◌, refl, sym, ap, ap₂, ◌∙◌}
use mathlib.Core.Bool.{Bool, true, false}
use mathlib.Core.List.{List, [], ◌∷◌, ◌++◌}
use borrow.Author.Tests.{leb-true, leb-false, le-leb}
use lib.Dec.{leb}
use lib.ListN.{length, length-append}
use Rattle.field.specs.Test.{pick, need, there}
use Rattle.field.specs.Bytes.{zeroes, most4}
use Rattle.field.proofs.Test.{pick_true, pick-false}
use Rattle.page.specs.Page.{root, base, leaf, empty, key_of, to_page, entry, spare, entries, records}
use Rattle.page.specs.Pages.{page, pages}
use Rattle.page.specs.Places.{Basic}
use Rattle.page.proofs.Pages.{get_or-pages}
use Rattle.tree.specs.Tree.{under, all_records, root_entries}
use Rattle.tree.specs.Answer.{record_with}
use Rattle.saving.specs.Save.{without_key, Sheet, sheet, in_order, cannot, sheets, base_for, leaf_for, lowered, closed, unite, right_lowered, empty_out}
use Rattle.saving.specs.Save.{delete_from, delete_sheets}
use Rattle.tidy.specs.Tidy.{Tidy}
use Rattle.tidy.proofs.Model.{Entry, first}
use Rattle.tidy.proofs.Entries.{ent, ents}
use Rattle.tidy.proofs.Below.{root_is}
use Rattle.tidy.proofs.Known.{sound}
use Rattle.saved.specs.Saved.{Saves, DeleteSaves}
use Rattle.saved.proofs.Marked.{each-parts}
use Rattle.saved.proofs.Way.{Way, way}
use Rattle.saved.proofs.Saves.{given-one, given-past}
use Rattle.saved.proofs.Take.{take-kept, take_left, take-right}
use Rattle.saved.proofs.Drop.{drop-plain, drop-right}

-- ---- entries without one, by what stands before it and behind it

closed-left : (pre : List (List ℕ)) (e : List ℕ) (post : List (List ℕ)) → 1 ≤ length pre → closed pre e post ≡ pre ++ post
unfolding closed
closed-left [] e post h = absurd (omega arith)
closed-left (x ∷ pre) e post h = refl

closed-right : (e f : List ℕ) (post : List (List ℕ)) → closed [] e (f ∷ post) ≡ entry (key_of e) (to_page f) ∷ post
unfolding closed lowered
closed-right e f post = refl

closed_none : (e : List ℕ) → closed [] e [] ≡ []
unfolding closed lowered
closed_none e = refl

-- the base page behind that is lowered

right-left : (pre : List (List ℕ)) (e : List ℕ) (post ps : List (List ℕ)) → 1 ≤ length pre → right_lowered pre e post ps ≡ []
unfolding right_lowered
right-left [] e post ps h = absurd (omega arith)
right-left (x ∷ pre) e post ps h = refl

right-none : (e : List ℕ) (ps : List (List ℕ)) → right_lowered [] e [] ps ≡ []
unfolding right_lowered
right-none e ps = refl

right-one : (e f : List ℕ) (post : List (List ℕ)) (w : List ℕ) → to_page f < 64
    → right_lowered [] e (f ∷ post) (pages w)
    ≡ sheet (to_page f) base.sign (spare (page (to_page f) w)) (lowered (key_of e) (entries (page (to_page f) w))) ∷ []
unfolding right_lowered under
right-one e f post w h = rw (get_or-pages (to_page f) w h)

-- the first key, where one stands before it
first-same : (pre : List (List ℕ)) (e : Entry) (post : List Entry) → 1 ≤ length pre → first (ents pre ++ e ∷ post) ≡ 0 → first (ents pre ++ post) ≡ 0
first-same [] e post h k = absurd (omega arith)
first-same (x ∷ pre) e post h k = k

-- ---- in a tree that has records

module _ (w : List ℕ) (tidy : Tidy w) (key n : ℕ) (small : n ≤ most4) (g : Way w key) where
  open g use {r1, e, r2, b1, x, b2, root-parts, base-parts, base-named, leaf-named, root-to, basic, leafy, tree}

  abbrev b : ℕ
  b = to_page e

  abbrev p : ℕ
  p = to_page x

  abbrev left : List (List ℕ)
  left = without_key key (records (page p w))

  abbrev new : List (List ℕ)
  new = without_key key (all_records (pages w))

  -- ---- what the definition gives

  abbrev one : List Sheet
  one = sheet p leaf.sign (spare (page p w)) left ∷ []

  from_is : delete_from key (base_for key (pages w)) (leaf_for key (pages w)) (pages w)
      ≡ need (there (record_with key (records (page p w)))) (cannot 15) (pick (leb 1 (length left)) (sheets one) (empty_out key b p (pages w)))
  unfolding delete_from
  from_is = rw (base-named, leaf-named, get_or-pages p w (omega (arith, leafy)))

  -- the base page keeps the entries es; the root keeps the entries es, and the sheets ys are the base page behind
  abbrev two : (es : List (List ℕ)) → List Sheet
  two es = in_order (sheet b base.sign (spare (page b w)) es ∷ sheet p empty.sign (zeroes 8) [] ∷ [])

  abbrev more : (es : List (List ℕ)) → List Sheet → List Sheet
  more es ys = in_order (sheet 0 root.sign (spare (page 0 w)) es ∷ sheet b empty.sign (zeroes 8) [] ∷ sheet p empty.sign (zeroes 8) [] ∷ ys)

  out-is : empty_out key b p (pages w)
      ≡ pick (leb 1 (length (closed b1 x b2))) (sheets (two (closed b1 x b2))) (sheets (more (closed r1 e r2) (right_lowered r1 e r2 (pages w))))
  unfolding empty_out unite
  out-is =
      rw (
        get_or-pages b w (omega (arith, basic)),
        get_or-pages 0 w (omega arith),
        base-parts.0,
        base-parts.1,
        base-parts.2,
        root-parts.0,
        root-parts.1,
        root-parts.2,
      )

  module _ (none_left : left ≡ []) (xs : List Sheet) (out : empty_out key b p (pages w) ≡ sheets xs) where
    stays : (es : List (List ℕ)) → closed b1 x b2 ≡ es → 1 ≤ length es → two es ≡ xs
    stays es c h =
        given-one (two es) xs
        (sym (pick_true (leb 1 (length es)) (sheets (two es)) (sheets (more (closed r1 e r2) (right_lowered r1 e r2 (pages w)))) (le-leb 1 (length es) h))
        ∙ sym (rw c at out-is) ∙ out)

    goes : (es : List (List ℕ)) (ys : List Sheet) → b1 ≡ [] → b2 ≡ [] → closed r1 e r2 ≡ es → right_lowered r1 e r2 (pages w) ≡ ys → more es ys ≡ xs
    goes es ys c d h k =
        let z : closed b1 x b2 ≡ [] = ap₂ (λ (u v : List (List ℕ)). closed u x v) c d ∙ closed_none x in
        given-one (more es ys) xs
        (sym (pick-false (leb 1 (length {A = List ℕ} [])) (sheets (two [])) (sheets (more es ys)) refl) ∙ sym (rw (z, h, k) at out-is) ∙ out)

    -- ---- by what stands beside the entries

    by-root : (c1 c2 : List (List ℕ)) → r1 ≡ c1 → r2 ≡ c2 → b1 ≡ [] → b2 ≡ [] → Saves n xs w new
    by-root (z ∷ c1) c2 h k c d =
        let m : length r1 ≡ suc (length c1) = ap length h in
        let l : 1 ≤ length r1 = omega arith in
        rw (← goes (r1 ++ r2) [] c d (closed-left r1 e r2 l) (right-left r1 e r2 (pages w) l))
        (drop-plain w tidy key n small g none_left c d (first-same r1 (ent e) (ents r2) l tree.zero-first))
    by-root [] [] h k c d =
        rw (← goes (r1 ++ r2) [] c d
        (ap₂ (λ (u v : List (List ℕ)). closed u e v) h k ∙ closed_none e ∙ sym (ap₂ (λ (u v : List (List ℕ)). u ++ v) h k))
        (ap₂ (λ (u v : List (List ℕ)). right_lowered u e v (pages w)) h k ∙ right-none e (pages w)))
        (drop-plain w tidy key n small g none_left c d (ap₂ (λ (u v : List (List ℕ)). first (ents u ++ ents v)) h k))
    by-root [] (f ∷ rest) h k c d =
        let t : Basic (to_page f) = (each-parts [] f rest (rw k at (each-parts r1 e r2 root-to).2)).1 in
        rw (← goes (entry (key_of e) (to_page f) ∷ rest) _ c d (ap₂ (λ (u v : List (List ℕ)). closed u e v) h k ∙ closed-right e f rest)
        (ap₂ (λ (u v : List (List ℕ)). right_lowered u e v (pages w)) h k ∙ right-one e f rest w (omega (arith, t))))
        (drop-right w tidy key n small g none_left c d f rest h k)

    by-base : (c1 c2 : List (List ℕ)) → b1 ≡ c1 → b2 ≡ c2 → Saves n xs w new
    by-base (z ∷ c1) c2 c d =
        let m : length b1 ≡ suc (length c1) = ap length c in
        let l : 1 ≤ length b1 = omega arith in
        let k : length (b1 ++ b2) ≡ length b1 + length b2 = length-append b1 b2 in
        rw (← stays (b1 ++ b2) (closed-left b1 x b2 l) (omega arith)) (take_left w tidy key n small g none_left l)
    by-base [] (y ∷ bs) c d =
        rw (← stays (entry (key_of x) (to_page y) ∷ bs) (ap₂ (λ (u v : List (List ℕ)). closed u x v) c d ∙ closed-right x y bs) (omega arith))
        (take-right w tidy key n small g none_left y bs c d)
    by-base [] [] c d = by-root r1 r2 refl refl c d

  delete-from : (xs : List Sheet) → delete_from key (base_for key (pages w)) (leaf_for key (pages w)) (pages w) ≡ sheets xs → Saves n xs w new
  delete-from xs c =
      by_left (leb 1 (length left)) refl
      (given-past (there (record_with key (records (page p w)))) 15 (pick (leb 1 (length left)) (sheets one) (empty_out key b p (pages w))) xs
      (sym from_is ∙ c)).1
    where
      none : (l : List (List ℕ)) → length l < 1 → l ≡ []
      none [] h = refl
      none (z ∷ l) h = absurd (omega arith)

      by_left : (t : Bool) → leb 1 (length left) ≡ t → pick t (sheets one) (empty_out key b p (pages w)) ≡ sheets xs → Saves n xs w new
      by_left true h d = rw (← given-one one xs (unfold pick in d)) (take-kept w tidy key n small g (leb-true 1 (length left) h))
      by_left false h d = by-base (none left (leb-false 1 (length left) h)) xs (unfold pick in d) b1 b2 refl refl

pub delete-saves : DeleteSaves
unfolding delete_sheets
delete-saves w tidy key n small xs c =
    let k = given-past (leb 1 (length (root_entries (pages w)))) 15 (delete_from key (base_for key (pages w)) (leaf_for key (pages w)) (pages w)) xs c in
    let s : 1 ≤ length (entries (page 0 w)) = rw (root_is w (sound w tidy)) at (leb-true 1 (length (root_entries (pages w))) k.0) in
    delete-from w tidy key n small (way w tidy key s) xs k.1
