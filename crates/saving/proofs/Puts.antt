-- The pages that a put changes, by places: a first record, a record put into a leaf, a full leaf split. Assumes nothing.
use Prim.Native.Nat.{ℕ, ◌+◌, ◌-◌, ◌≤◌, ◌<◌}
use native.Mathlib.Numerals.{add-one}
use native.Mathlib.Omega.{arith}
use mathlib.Core.Path.{◌≡◌, refl, sym, ap, ◌∙◌}
use mathlib.Core.Bool.{true}
use mathlib.Core.List.{List, [], ◌∷◌, ◌++◌, append_assoc}
use lib.ListN.{length, take, drop, get_or, length-append, length-drop}
use lib.Seq.{take-suc, length-take-le}
use lib.Dec.{leb, ltb}
use borrow.Author.Tests.{eq-eqb, ne_eqb, le-leb, lt-leb, lt-ltb, le-ltb, ltb-true}
use Rattle.field.specs.Test.{both, all}
use Rattle.field.proofs.Test.{both-intro, both_false, both-no, all_head, pick_true, pick-false, need-true, need-false}
use Rattle.page.specs.Page.{root, base, leaf, first_base, last_base, last_leaf, key_of, entry, count, rows}
use Rattle.page.specs.Pages.{page, pages}
use Rattle.page.specs.Places.{Leafy, empty_leaf}
use Rattle.page.proofs.Rows.{length-rows}
use Rattle.page.proofs.Pages.{get_or-pages}
use Rattle.tree.proofs.Regions.{decide}
use Rattle.tree.proofs.Sound.{root-entries}
use Rattle.unit.specs.Choice.{lowest_empty}
use Rattle.saving.specs.Save.{cannot, sheets, rewritten, anew, nowhere, free_leaf, with_record, before, through, behind, base_for, leaf_for, put_first, split_leaf, put_into, put_sheets}
use Rattle.field.specs.declared.PageNo.{PageNo}
use Rattle.saving.specs.Draft.{with_at, Patch}
use Rattle.saving.specs.Route.{Stands, Leads}
use Rattle.saving.specs.declared.draft.More.TheVariants.{Entry}
use Rattle.saving.specs.declared.route.Route.{Route}
use Rattle.saving.proofs.Found.{Parts}
use Rattle.saving.proofs.Leads.{parted}
use Rattle.saving.proofs.Shapes.{order-three, order-swap}

-- ---- the lowest empty leaf page

lowest-above : (low c p : ℕ) (pgs : List (List ℕ)) → lowest_empty low c p pgs < c → low < lowest_empty low c p pgs
unfolding lowest_empty
lowest-above low c p [] h = absurd (let z : ⊥ = omega arith in z)
lowest-above low c p (pg ∷ pgs) h =
    decide (all (ltb low p ∷ ltb p c ∷ empty_leaf p pg ∷ []))
    (λ t. rw (pick_true _ p _ t) (ltb-true low p (all_head _ _ t)))
    (λ t. rw (pick-false _ p (lowest_empty low c (p + 1) pgs) t) (lowest-above low c (p + 1) pgs (rw (pick-false _ p (lowest_empty low c (p + 1) pgs) t) at h)))

pub free-leafy : (q : ℕ) (ps : List (List ℕ)) → q ≡ free_leaf ps → q ≤ last_leaf → Leafy q
unfolding free_leaf
free-leafy q ps e h = (let k : 7 < q = rw e (lowest-above last_base nowhere 0 ps (omega arith)) in k, h)

-- ---- a first record

module _ (r : List ℕ) (ps : List (List ℕ)) (q : ℕ) (e : q ≡ free_leaf ps) where
  pub first-none : last_leaf < q → put_first r ps ≡ cannot 18
  unfolding put_first
  first-none h = need-false _ _ _ (le-ltb (free_leaf ps) nowhere (omega arith))

  pub first_some : q ≤ last_leaf
      → put_first r ps
      ≡ sheets
      (rewritten ps 0 root.sign (entry 0 first_base ∷ []) ∷ anew first_base base.sign (entry 0 q ∷ []) ∷ anew q leaf.sign (r ∷ []) ∷ [])
  unfolding put_first
  first_some h = rw e (need-true _ _ _ (lt-ltb (free_leaf ps) nowhere (omega arith)))

-- ---- a full leaf split

module _ (key b p : ℕ) (es rs ps : List (List ℕ)) (u : ℕ) (z : Parts key es u) where
  abbrev wider : (k q : ℕ) → List (List ℕ)
  wider k q = take (u + 1) es ++ (entry k q ∷ drop (u + 1) es)

  wider-is : (k q : ℕ) → before key es ++ (through key es ∷ entry k q ∷ behind key es) ≡ wider k q
  wider-is k q =
      rw (z.front, z.here, z.back)
      (sym (append_assoc (take u es) (get_or es u [] ∷ []) (entry k q ∷ drop (u + 1) es))
      ∙ ap (λ (l : List (List ℕ)). l ++ (entry k q ∷ drop (u + 1) es)) (sym (take-suc es u [] z.inside) ∙ ap (λ (n : ℕ). take n es) (sym (add-one u))))

  wider-length : (k q : ℕ) → length (wider k q) ≡ length es + 1
  wider-length k q =
      length-append (take (u + 1) es) (entry k q ∷ drop (u + 1) es)
      ∙ (let a : length (take (u + 1) es) ≡ u + 1 = length-take-le (u + 1) es (omega (arith, z.inside)) in
      let d : length (drop (u + 1) es) ≡ length es - (u + 1) = length-drop (u + 1) es in
      omega (arith, z.inside))

  module _ (q : ℕ) (e : q ≡ free_leaf ps) where
    pub split-nowhere : last_leaf < q → split_leaf key b p es rs ps ≡ cannot 18
    unfolding split_leaf
    split-nowhere h = need-false _ _ _ (ap (both _) (le-ltb (free_leaf ps) nowhere (omega arith)) ∙ both-no _)

    pub split-full : base.most ≤ length es → split_leaf key b p es rs ps ≡ cannot 18
    unfolding split_leaf
    split-full h =
        need-false _ _ _
        (both_false _ _ (rw (wider-is (key_of (get_or rs 8 [])) (free_leaf ps)) (lt-leb (length (wider (key_of (get_or rs 8 [])) (free_leaf ps))) base.most (omega (arith, wider-length (key_of (get_or rs 8 [])) (free_leaf ps))))))

    module _ (k : ℕ) (f : k ≡ key_of (get_or rs 8 [])) (fits : length es < base.most) (free : q ≤ last_leaf) where
      passes : both (leb (length (wider (key_of (get_or rs 8 [])) (free_leaf ps))) base.most) (ltb (free_leaf ps) nowhere) ≡ true
      passes =
          both-intro _ _ (le-leb (length (wider (key_of (get_or rs 8 [])) (free_leaf ps))) base.most (omega (arith, wider-length (key_of (get_or rs 8 [])) (free_leaf ps)))) (lt-ltb (free_leaf ps) nowhere (omega arith))

      pub split-low : b < p → p < q
          → split_leaf key b p es rs ps
          ≡ sheets (rewritten ps b base.sign (wider k q) ∷ rewritten ps p leaf.sign (take 8 rs) ∷ anew q leaf.sign (drop 8 rs) ∷ [])
      unfolding split_leaf
      split-low h l =
          rw (e, f, wider-is (key_of (get_or rs 8 [])) (free_leaf ps)) (need-true _ _ _ passes ∙ ap sheets (order-three _ _ _ h (omega arith)))

      pub split-high : b < q → q ≤ p
          → split_leaf key b p es rs ps
          ≡ sheets (rewritten ps b base.sign (wider k q) ∷ anew q leaf.sign (drop 8 rs) ∷ rewritten ps p leaf.sign (take 8 rs) ∷ [])
      unfolding split_leaf
      split-high h l =
          rw (e, f, wider-is (key_of (get_or rs 8 [])) (free_leaf ps)) (need-true _ _ _ passes ∙ ap sheets (order-swap _ _ _ (omega arith) (omega arith)))

-- ---- the base page on the way to a key

module _ (w : List ℕ) (x : Route) (t : Leads w x) where
  pub under-parts : Parts x.key (rows 8 (page x.base.0 w)) x.under
  under-parts = parted x.key 8 x.base.0 x.under w t.under t.base.full

  pub under-there : x.under + 1 ≤ count (page x.base.0 w)
  under-there = omega (arith, under-parts.inside, length-rows 8 (page x.base.0 w))

  -- it takes an entry more
  pub widens : (k : ℕ) (q : PageNo) → count (page x.base.0 w) < base.most → Patch 8 w x.base.0 (x.under + 1) (Entry k q) (x.under + 1)
  widens k q h =
      record {
        fits = t.base.fits;
        low = under-there;
        high = under-there;
        room = omega (arith, under-there);
        few = omega (arith, under-there);
        suits = refl;
      }

-- ---- a record put into a leaf

module _ (w r : List ℕ) (key b p i k : ℕ) (s : Stands w p key i k) (e : key ≡ key_of r) (small : p < 64) where
  abbrev old : List (List ℕ)
  old = rows 16 (page p w)

  put_is : with_record r old ≡ take i old ++ (r ∷ drop k old)
  unfolding with_record
  put_is = rw (← e, s.low, s.high)

  put-length : length (with_record r old) ≡ i + 1 + (count (page p w) - k)
  put-length =
      ap length put_is ∙ length-append (take i old) (r ∷ drop k old)
      ∙ (let n : length old ≡ count (page p w) = length-rows 16 (page p w) in
      let a : length (take i old) ≡ i = length-take-le i old (omega (arith, s.order, s.inside)) in
      let d : length (drop k old) ≡ length old - k = length-drop k old in
      omega arith)

  pub into-leaf : i + 1 + (count (page p w) - k) ≤ leaf.most → put_into r b p (pages w) ≡ sheets (rewritten (pages w) p leaf.sign (take i old ++ (r ∷ drop k old)) ∷ [])
  unfolding put_into
  into-leaf h = rw (get_or-pages p w small, put_is) (pick_true _ _ _ (rw (← put_is) (le-leb (length (with_record r old)) leaf.most (omega (arith, put-length)))))

  pub into-split : b < 64 → k ≡ i → leaf.most ≤ count (page p w) → put_into r b p (pages w) ≡ split_leaf key b p (rows 8 (page b w)) (with_at i r old) (pages w)
  unfolding put_into with_at
  into-split h f full =
      rw (get_or-pages p w small, get_or-pages b w h, put_is, e)
      (pick-false _ _ _ (rw (← put_is) (lt-leb (length (with_record r old)) leaf.most (omega (arith, put-length, s.inside)))) ∙ rw f)

-- ---- by the root

module _ (r w : List ℕ) where
  pub put_first_lem : count (page 0 w) ≡ 0 → put_sheets r (pages w) ≡ put_first r (pages w)
  unfolding put_sheets
  put_first_lem h = pick_true _ _ _ (eq-eqb _ 0 (ap length (root-entries w) ∙ length-rows 8 (page 0 w) ∙ h))

  pub put-below : (key b p : ℕ) → key ≡ key_of r → b ≡ base_for key (pages w) → p ≡ leaf_for key (pages w) → (count (page 0 w) ≡ 0 → ⊥)
      → put_sheets r (pages w) ≡ put_into r b p (pages w)
  unfolding put_sheets
  put-below key b p e f g h =
      rw (f, g, e) (pick-false _ _ _ (ne_eqb _ 0 (λ z. h (sym (ap length (root-entries w) ∙ length-rows 8 (page 0 w)) ∙ z))))
