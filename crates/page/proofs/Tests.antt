-- The ways through the tests of a page's form, for `search`: each premise has the form in which the code's record has it.
-- Assumes nothing.
use Prim.Native.Nat.{ℕ, ◌+◌, ◌-◌, ◌*◌, ◌≤◌, ◌<◌}
use native.Mathlib.Omega.{arith}
use mathlib.Core.Path.{◌≡◌, refl, sym, ap, ◌∙◌}
use mathlib.Core.Bool.{Bool, true, false, not, false≢true}
use mathlib.Core.List.{List, [], ◌∷◌}
use lib.ListN.{length, take, drop, get_or}
use lib.Dec.{eqb, leb}
use borrow.Author.Tests.{eqb-true, leb-true, eq-eqb, ne_eqb, le-leb, lt-leb, not-true, not-false}
use borrow.Author.Rules.{part_to_end}
use Rattle.field.specs.Test.{both, all, pick}
use Rattle.field.specs.Bytes.{part, all_zero}
use Rattle.field.proofs.Test.{both_end, both_true, both_false, all_head, all_tail, pick_same, pick_second}
use Rattle.page.specs.Page.{kind, rows_of, ascend, pointing, letter, count, spare, rows, shaped, last_base, is_root, is_base, is_leaf, is_empty, formed}
use Rattle.page.specs.Shape.{head_shaped, body_shaped}
use Rattle.page.specs.Pages.{page, pages, all_formed}
use Rattle.page.proofs.Turns.{rows_next}
use Rattle.page.proofs.Pages.{lent-page}

-- ---- a page's header

module _ (sg least most : ℕ) (l : List ℕ) where
  pub head-size! : (length l ≡ 256 → ⊥) → false ≡ head_shaped sg least most l
  unfolding head_shaped all both
  head-size! h = rw (ne_eqb (length l) 256 h)

  module _ (long : length l ≡ 256) where
    pub head-mark! : (get_or l 0 0 ≡ 112 → ⊥) → false ≡ head_shaped sg least most l
    unfolding head_shaped all both
    head-mark! h = rw (eq-eqb (length l) 256 long, ne_eqb (get_or l 0 0) 112 h)

    module _ (p : get_or l 0 0 ≡ 112) where
      pub head-letter! : (get_or l 1 0 ≡ sg → ⊥) → false ≡ head_shaped sg least most l
      unfolding head_shaped letter all both
      head-letter! h = rw (eq-eqb (length l) 256 long, eq-eqb (get_or l 0 0) 112 p, ne_eqb (get_or l 1 0) sg h)

      module _ (q : get_or l 1 0 ≡ sg) (n : ℕ) (e : n ≡ count l) where
        so_far : head_shaped sg least most l ≡ all (leb least n ∷ leb n most ∷ all_zero (spare l) ∷ [])
        unfolding head_shaped letter all both
        so_far = rw (eq-eqb (length l) 256 long, eq-eqb (get_or l 0 0) 112 p, eq-eqb (get_or l 1 0) sg q, ← e)

        pub head-few! : n < least → false ≡ head_shaped sg least most l
        unfolding all both
        head-few! h = sym (so_far ∙ rw (lt-leb least n h))

        module _ (f : least ≤ n) where
          pub head-many! : most < n → false ≡ head_shaped sg least most l
          unfolding all both
          head-many! h = sym (so_far ∙ rw (le-leb least n f, lt-leb n most h))

          pub head-spare! : n ≤ most → (z : Bool) → z ≡ all_zero (take 8 (drop 8 l)) → z ≡ head_shaped sg least most l
          unfolding all both spare part
          head-spare! m z ez = sym (so_far ∙ rw (le-leb least n f, le-leb n most m, ← ez) (both_end z))

-- ---- a page of a kind: its header, then its body

halves : (a b c d e f g h : Bool)
    → all (a ∷ b ∷ c ∷ d ∷ e ∷ f ∷ g ∷ h ∷ []) ≡ both (all (a ∷ b ∷ c ∷ d ∷ e ∷ f ∷ [])) (both g h)
unfolding all both
halves false b c d e f g h = refl
halves true false c d e f g h = refl
halves true true false d e f g h = refl
halves true true true false e f g h = refl
halves true true true true false f g h = refl
halves true true true true true false g h = refl
halves true true true true true true g h = ap (both g) (both_end h)

module _ (sg sz a b least most : ℕ) (l : List ℕ) where
  shaped-halves : shaped (kind sg sz a b least most) l ≡ both (head_shaped sg least most l) (body_shaped sz a b l)
  unfolding shaped head_shaped body_shaped
  shaped-halves = halves _ _ _ _ _ _ _ _

  module _ (h : Bool) (e : h ≡ head_shaped sg least most l) where
    pub kind-head! : not h ≡ true → false ≡ shaped (kind sg sz a b least most) l
    kind-head! g = sym (shaped-halves ∙ both_false _ _ (sym e ∙ not-true h g))

    pub kind-body! : not h ≡ false → (x : Bool) → x ≡ body_shaped sz a b l → x ≡ shaped (kind sg sz a b least most) l
    kind-body! g x f = f ∙ sym (shaped-halves ∙ both_true _ _ (sym e ∙ not-false h g))

    module _ (from to : ℕ) where
      pub points-head! : not h ≡ true → false ≡ both (shaped (kind sg sz a b least most) l) (pointing from to (rows 8 l))
      points-head! g = sym (both_false _ _ (sym (kind-head! g)))

      pub points-body! : not h ≡ false → (x : Bool) → x ≡ both (body_shaped sz a b l) (pointing from to (rows 8 l))
          → x ≡ both (shaped (kind sg sz a b least most) l) (pointing from to (rows 8 l))
      points-body! g x f = f ∙ ap (λ (t : Bool). both t (pointing from to (rows 8 l))) (kind-body! g (body_shaped sz a b l) refl)

-- what a header that passes says
module _ (sg least most : ℕ) (l : List ℕ) (h : Bool) (e : h ≡ head_shaped sg least most l) (g : not h ≡ false) where
  passed : all (eqb (length l) 256 ∷ eqb (get_or l 0 0) 112 ∷ eqb (letter l) sg ∷ leb least (count l) ∷ leb (count l) most ∷ all_zero (spare l) ∷ []) ≡ true
  unfolding head_shaped
  passed = sym e ∙ not-false h g

  pub head-whole : length l ≡ 256
  head-whole = eqb-true (length l) 256 (all_head _ _ passed)

  pub head-most : count l ≤ most
  head-most = leb-true (count l) most (all_head _ _ (all_tail _ _ (all_tail _ _ (all_tail _ _ (all_tail _ _ passed)))))

-- ---- a page's body: rows in order, then zeros

module _ (sz a b n : ℕ) (l : List ℕ) (f : n ≡ count l) where
  body : body_shaped sz a b l ≡ both (ascend a b 0 (rows_of sz n (drop 16 l))) (all_zero (drop (16 + sz * n) l))
  unfolding body_shaped rows
  body = rw (← f)

  module _ (z : Bool) (e : z ≡ ascend a b 0 (rows_of sz n (drop 16 l))) where
    pub body-order! : not z ≡ true → false ≡ body_shaped sz a b l
    body-order! g = sym (body ∙ both_false _ _ (sym e ∙ not-true z g))

    pub body-rest! : not z ≡ false → (x : Bool) → x ≡ all_zero (take (length l - (16 + sz * n)) (drop (16 + sz * n) l)) → x ≡ body_shaped sz a b l
    body-rest! g x d =
        let y : x ≡ all_zero (drop (16 + sz * n) l) = rw part_to_end at d in
        y ∙ sym (body ∙ both_true _ _ (sym e ∙ not-false z g))

-- two tests that are made first, of three
apart-no : (o z p : Bool) → both o p ≡ false → both (both o z) p ≡ false
unfolding both
apart-no true true p e = e
apart-no true false p e = refl
apart-no false z p e = refl

apart-both : (o z p : Bool) → both o p ≡ true → both (both o z) p ≡ z
unfolding both
apart-both true true p e = e
apart-both true false p e = refl
apart-both false z p e = absurd (false≢true e)

module _ (a b from to n : ℕ) (l : List ℕ) (f : n ≡ count l) (z : Bool)
    (e : z ≡ both (ascend a b 0 (rows_of 8 n (drop 16 l))) (pointing from to (rows_of 8 n (drop 16 l)))) where
  whole : both (body_shaped 8 a b l) (pointing from to (rows 8 l))
      ≡ both (both (ascend a b 0 (rows_of 8 n (drop 16 l))) (all_zero (drop (16 + 8 * n) l))) (pointing from to (rows_of 8 n (drop 16 l)))
  unfolding rows
  whole = rw (body 8 a b n l f, ← f)

  pub points-order! : not z ≡ true → false ≡ both (body_shaped 8 a b l) (pointing from to (rows 8 l))
  points-order! g = sym (whole ∙ apart-no _ _ _ (sym e ∙ not-true z g))

  pub points-rest! : not z ≡ false → (x : Bool) → x ≡ all_zero (take (length l - (16 + 8 * n)) (drop (16 + 8 * n) l))
      → x ≡ both (body_shaped 8 a b l) (pointing from to (rows 8 l))
  points-rest! g x d =
      let y : x ≡ all_zero (drop (16 + 8 * n) l) = rw part_to_end at d in
      y ∙ sym (whole ∙ apart-both _ _ _ (sym e ∙ not-false z g))

-- ---- the kinds of page that may stand in a place

module _ (p : ℕ) (l : List ℕ) (z : Bool) where
  pub formed-root! : p ≡ 0 → z ≡ is_root l → z ≡ formed p l
  unfolding formed pick
  formed-root! h e = e ∙ rw (eq-eqb p 0 h)

  pub place-base! : p ≤ last_base → z ≡ is_base l → z ≡ pick (leb p last_base) (is_base l) (is_leaf l)
  unfolding pick
  place-base! h e = e ∙ rw (le-leb p last_base h)

  pub place-leaf! : last_base < p → z ≡ is_leaf l → z ≡ pick (leb p last_base) (is_base l) (is_leaf l)
  unfolding pick
  place-leaf! h e = e ∙ rw (lt-leb p last_base h)

  module _ (e : z ≡ pick (leb p last_base) (is_base l) (is_leaf l)) (low : 1 ≤ p) where
    below : formed p l ≡ pick (is_empty l) true z
    unfolding formed
    below = rw (ne_eqb p 0 (λ k. omega arith), ← e) (unfold pick in refl)

    pub below-kind! : z ≡ true → true ≡ formed p l
    below-kind! h = sym (below ∙ pick_second (is_empty l) z h)

    pub below-empty! : z ≡ false → (x : Bool) → x ≡ is_empty l → x ≡ formed p l
    below-empty! h x f = f ∙ sym (pick_same (is_empty l)) ∙ sym (below ∙ rw h)

-- ---- all pages, one after the other: those from page p on

formed-next : (p : ℕ) (w : List ℕ) → p < 64
    → all_formed p (rows_of 256 (64 - p) (drop (256 * p) w))
    ≡ both (formed p (page p w)) (all_formed (p + 1) (rows_of 256 (64 - (p + 1)) (drop (256 * (p + 1)) w)))
unfolding all_formed page
formed-next p w h =
    let n : 64 - p - 1 ≡ 64 - (p + 1) = omega arith in
    let o : 256 * p + 256 ≡ 256 * (p + 1) = omega arith in
    rw (rows_next 256 (64 - p) (256 * p) w (omega arith), n, o)

module _ (p : ℕ) (w : List ℕ) (e : all_formed 0 (pages w) ≡ all_formed p (rows_of 256 (64 - p) (drop (256 * p) w))) where
  pub formed-end! : p ≤ 64 → 64 ≤ p → true ≡ all_formed 0 (pages w)
  unfolding all_formed rows_of
  formed-end! h k = let q : p ≡ 64 = omega arith in sym (e ∙ rw q)

  module _ (z : Bool) (f : z ≡ formed p (take (256 * p + 256 - 256 * p) (drop (256 * p) w))) (h : p < 64) where
    lent : formed p (page p w) ≡ z
    lent = sym (f ∙ ap (formed p) (lent-page p w))

    pub formed-stop! : not z ≡ true → false ≡ all_formed 0 (pages w)
    formed-stop! g = sym (e ∙ formed-next p w h ∙ both_false _ _ (lent ∙ not-true z g))

    pub formed-more! : not z ≡ false → all_formed 0 (pages w) ≡ all_formed (p + 1) (rows_of 256 (64 - (p + 1)) (drop (256 * (p + 1)) w))
    formed-more! g = e ∙ formed-next p w h ∙ both_true _ _ (lent ∙ not-false z g)

-- the root first
module _ (w : List ℕ) (z : Bool) (e : z ≡ is_root (take 256 w)) where
  front : all_formed 0 (pages w) ≡ both z (all_formed 1 (rows_of 256 (64 - 1) (drop (256 * 1) w)))
  unfolding pages page part
  front = formed-next 0 w (omega arith) ∙ rw (← formed-root! 0 (page 0 w) z refl e)

  pub front-stop! : not z ≡ true → false ≡ all_formed 0 (pages w)
  front-stop! h = sym (front ∙ both_false _ _ (not-true z h))

  pub front-more : not z ≡ false → all_formed 0 (pages w) ≡ all_formed 1 (rows_of 256 (64 - 1) (drop (256 * 1) w))
  front-more h = front ∙ both_true _ _ (not-false z h)
