-- The steps of a plan, each by its place: of a move, of a swap, of a compact. Assumes nothing.
use Prim.Native.Nat.{ℕ, zero, suc, ◌+◌, ◌-◌, ◌*◌, ◌/◌, ◌%◌, ◌≤◌, ◌<◌}
use native.Mathlib.Nat.{not-suc-le-zero, add-zero}
use native.Mathlib.Numerals.{add-one}
use native.Mathlib.Omega.{arith}
use mathlib.Core.Path.{◌≡◌, refl, sym, ap, ◌∙◌}
use mathlib.Core.Bool.{Bool, true, false, not, false≢true}
use mathlib.Core.List.{List, [], ◌∷◌, ◌++◌, append_assoc}
use lib.ListN.{length, drop, get_or, length-drop, get_or-eq_default}
use lib.Seq.{get_or-drop}
use lib.Dec.{eqb, leb}
use borrow.Author.Tests.{eq-eqb, ne_eqb, eqb-true, eqb-false, leb-true, not-true}
use Rattle.field.specs.Test.{both, pick}
use Rattle.field.specs.Bytes.{le2}
use Rattle.field.proofs.Test.{all_head, all_tail, pick_true, pick-false, pick-either, both-1, both-2}
use Rattle.field.proofs.Part.{split}
use Rattle.field.proofs.Number.{le2-drop}
use Rattle.logs.specs.Record.{saves}
use Rattle.logs.specs.Plan.{Step, take_out, bring_in, point, close, gather, removals, others, replacing, compact_plan, move_plan, swap_plan, plan}
use Rattle.logs.specs.Log.{listed, differ, compact_ok, swap_ok, move_ok, type_ok, begin_ok, saves_at, read_fields, read_begin}
use Rattle.logs.proofs.Fields.{length-read_fields, get_or-read_fields}

-- the unit's end comes last, and wherever one looks past it
last_of : (xs : List Step) (d : Step) (i : ℕ) → length xs ≤ i → get_or (xs ++ (d ∷ [])) i d ≡ d
last_of [] d zero h = refl
last_of [] d (suc i) h = refl
last_of (x ∷ xs) d zero h = absurd (not-suc-le-zero h)
last_of (x ∷ xs) d (suc i) h = last_of xs d i (omega arith)

-- ---- move and swap

module _ (p a d u i : ℕ) where
  pub move-out! : i ≡ 0 → take_out a d ≡ get_or (move_plan p a d ++ (close u ∷ [])) i (close u)
  unfolding move_plan
  move-out! h = rw h

  pub move-in! : i ≡ 1 → bring_in a d 1 ≡ get_or (move_plan p a d ++ (close u ∷ [])) i (close u)
  unfolding move_plan
  move-in! h = rw h

  pub move-point! : i ≡ 2 → point p a d false ≡ get_or (move_plan p a d ++ (close u ∷ [])) i (close u)
  unfolding move_plan
  move-point! h = rw h

  pub move-close! : (i ≡ 0 → ⊥) → (i ≡ 1 → ⊥) → (i ≡ 2 → ⊥) → close u ≡ get_or (move_plan p a d ++ (close u ∷ [])) i (close u)
  move-close! h j k = let n : length (move_plan p a d) ≡ 3 = unfold move_plan in refl in sym (last_of (move_plan p a d) (close u) i (omega arith))

module _ (p q a b u i : ℕ) where
  pub swap_at : (j : ℕ) → i ≡ j → get_or (swap_plan p q a b ++ (close u ∷ [])) j (close u) ≡ get_or (swap_plan p q a b ++ (close u ∷ [])) i (close u)
  swap_at j h = rw h

  pub swap-close! : (i ≡ 0 → ⊥) → (i ≡ 1 → ⊥) → (i ≡ 2 → ⊥) → (i ≡ 3 → ⊥) → (i ≡ 4 → ⊥) → (i ≡ 5 → ⊥)
      → close u ≡ get_or (swap_plan p q a b ++ (close u ∷ [])) i (close u)
  swap-close! h j k l m n = let z : length (swap_plan p q a b) ≡ 6 = unfold swap_plan in refl in sym (last_of (swap_plan p q a b) (close u) i (omega arith))

-- ---- compact

-- LO and LI for each page
abbrev pairs : (dest : ℕ) → List ℕ → List Step
pairs dest [] = []
pairs dest (p ∷ ps) = take_out p dest ∷ bring_in p dest 1 ∷ pairs dest ps

-- what is not listed is no page of the list
not_listed : (d p : ℕ) (ps : List ℕ) (t : Bool) → eqb d p ≡ t → pick t true (listed d ps) ≡ false → (d ≡ p → ⊥) × (listed d ps ≡ false)
unfolding pick
not_listed d p ps true q f = absurd (false≢true (sym f))
not_listed d p ps false q f = (eqb-false d p q, f)

listed-head : (d p : ℕ) (ps : List ℕ) → listed d (p ∷ ps) ≡ false → (d ≡ p → ⊥) × (listed d ps ≡ false)
unfolding listed
listed-head d p ps e = not_listed d p ps (eqb d p) refl e

-- where the destination is not listed, every page is gathered
gather-all : (dest : ℕ) (ps : List ℕ) → listed dest ps ≡ false → gather dest ps ≡ pairs dest ps
unfolding gather pick
gather-all dest [] e = refl
gather-all dest (p ∷ ps) e =
    let h = listed-head dest p ps e in
    rw (ne_eqb p dest (λ q. h.0 (sym q)), gather-all dest ps h.1)

length_pairs : (dest : ℕ) (ps : List ℕ) → length (pairs dest ps) ≡ 2 * length ps
length_pairs dest [] = refl
length_pairs dest (p ∷ ps) = omega (arith, length_pairs dest ps)

pairs-even : (dest : ℕ) (ps : List ℕ) (xs : List Step) (d : Step) (j : ℕ) → j < length ps → get_or (pairs dest ps ++ xs) (2 * j) d ≡ take_out (get_or ps j 0) dest
pairs-even dest [] xs d j h = absurd (not-suc-le-zero h)
pairs-even dest (p ∷ ps) xs d zero h = refl
pairs-even dest (p ∷ ps) xs d (suc j) h = let e : 2 * suc j ≡ suc (suc (2 * j)) = omega arith in rw e (pairs-even dest ps xs d j (omega arith))

pairs-odd : (dest : ℕ) (ps : List ℕ) (xs : List Step) (d : Step) (j : ℕ) → j < length ps → get_or (pairs dest ps ++ xs) (2 * j + 1) d ≡ bring_in (get_or ps j 0) dest 1
pairs-odd dest [] xs d j h = absurd (not-suc-le-zero h)
pairs-odd dest (p ∷ ps) xs d zero h = refl
pairs-odd dest (p ∷ ps) xs d (suc j) h = let e : 2 * suc j + 1 ≡ suc (suc (2 * j + 1)) = omega arith in rw e (pairs-odd dest ps xs d j (omega arith))

-- behind a list of steps
step_past : (ys xs : List Step) (d : Step) (i k : ℕ) → length ys ≡ k → get_or (ys ++ xs) (k + i) d ≡ get_or xs i d
step_past [] xs d i zero e = let z : 0 + i ≡ i = omega arith in rw z
step_past [] xs d i (suc k) e = absurd (omega (arith, e))
step_past (y ∷ ys) xs d i zero e = absurd (omega (arith, e))
step_past (y ∷ ys) xs d i (suc k) e = let z : suc k + i ≡ suc (k + i) = omega arith in rw z (step_past ys xs d i k (omega (arith, e)))

removals-at : (base : ℕ) (ps : List ℕ) (xs : List Step) (d : Step) (j : ℕ) → j < length ps → get_or (removals base ps ++ xs) j d ≡ point base (get_or ps j 0) 0 false
unfolding removals
removals-at base [] xs d j h = absurd (not-suc-le-zero h)
removals-at base (p ∷ ps) xs d zero h = refl
removals-at base (p ∷ ps) xs d (suc j) h = removals-at base ps xs d j (omega arith)

length-removals : (base : ℕ) (ps : List ℕ) → length (removals base ps) ≡ length ps
unfolding removals
length-removals base [] = refl
length-removals base (p ∷ ps) = ap suc (length-removals base ps)

-- the steps between the pairs and the removals: none in place
abbrev heads : (base c dest s : ℕ) → List Step
heads base c dest zero = point base c dest false ∷ []
heads base c dest (suc s) = []

heads-at : (base c dest s : ℕ) (xs : List Step) (d : Step) (r : ℕ) → s ≤ 1 → get_or (heads base c dest s ++ xs) r d ≡ get_or (point base c dest false ∷ xs) (r + s) d
heads-at base c dest zero xs d r h = rw (add-zero r)
heads-at base c dest (suc zero) xs d r h = rw (add-one r)
heads-at base c dest (suc (suc s)) xs d r h = absurd (omega arith)

-- the destination is the first page listed, or none, and the pages differ
abbrev Free : (dest c : ℕ) → List ℕ → Type 0
Free dest c ps = (pick (eqb dest c) true (not (listed dest (c ∷ ps))) ≡ true) × (differ (c ∷ ps) ≡ true)

shape_of : (base dest u c : ℕ) (ps : List ℕ) (t : Bool) → eqb c dest ≡ t → Free dest c ps
    → compact_plan base dest (c ∷ ps) ++ (close u ∷ [])
    ≡ pairs dest (drop (pick t 1 0) (c ∷ ps)) ++ (heads base c dest (pick t 1 0) ++ (removals base ps ++ (close u ∷ [])))
unfolding compact_plan gather replacing others pick differ
shape_of base dest u c ps true q f =
    let e : c ≡ dest = eqb-true c dest q in
    let n : listed dest ps ≡ false = rw e at (not-true (listed c ps) (both-1 _ _ f.1)) in
    rw (q, gather-all dest ps n) (append_assoc (pairs dest ps) (removals base ps) (close u ∷ []))
shape_of base dest u c ps false q f =
    let k : dest ≡ c → ⊥ = λ e. eqb-false c dest q (sym e) in
    let w : not (listed dest (c ∷ ps)) ≡ true = rw (ne_eqb dest c k) at f.0 in
    let n : listed dest ps ≡ false = (listed-head dest c ps (not-true _ w)).1 in
    rw (q, gather-all dest ps n) (append_assoc (pairs dest (c ∷ ps)) (point base c dest false ∷ removals base ps) (close u ∷ []))

module _ (base dest u c : ℕ) (ps : List ℕ) (f : Free dest c ps) (s : ℕ) (es : s ≡ pick (eqb c dest) 1 0) (i : ℕ) where
  small : s ≤ 1
  small = rw es (pick-either (λ (x : ℕ). x ≤ 1) (eqb c dest) 1 0 (omega arith) (omega arith))

  shape : compact_plan base dest (c ∷ ps) ++ (close u ∷ []) ≡ pairs dest (drop s (c ∷ ps)) ++ (heads base c dest s ++ (removals base ps ++ (close u ∷ [])))
  shape = rw es (shape_of base dest u c ps (eqb c dest) refl f)

  long : length (drop s (c ∷ ps)) ≡ length (c ∷ ps) - s
  long = length-drop s (c ∷ ps)

  module _ (h : i < 2 * (length (c ∷ ps) - s)) where
    pub compact-even : i % 2 ≡ 0 → take_out (get_or (c ∷ ps) (i / 2 + s) 0) dest ≡ get_or (compact_plan base dest (c ∷ ps) ++ (close u ∷ [])) i (close u)
    compact-even e =
        let q : i ≡ 2 * (i / 2) = omega arith in
        let k : i / 2 < length (drop s (c ∷ ps)) = rw long (omega arith) in
        let z : i / 2 + s ≡ s + i / 2 = omega arith in
        let a : get_or (compact_plan base dest (c ∷ ps) ++ (close u ∷ [])) i (close u) ≡ get_or (compact_plan base dest (c ∷ ps) ++ (close u ∷ [])) (2 * (i / 2)) (close u) =
        ap (λ (x : ℕ). get_or (compact_plan base dest (c ∷ ps) ++ (close u ∷ [])) x (close u)) q in
        sym (a ∙ rw (shape, pairs-even dest (drop s (c ∷ ps)) _ (close u) (i / 2) k, get_or-drop s (c ∷ ps) (i / 2) 0, z))

    pub compact-odd : (i % 2 ≡ 0 → ⊥) → bring_in (get_or (c ∷ ps) (i / 2 + s) 0) dest 1 ≡ get_or (compact_plan base dest (c ∷ ps) ++ (close u ∷ [])) i (close u)
    compact-odd e =
        let q : i ≡ 2 * (i / 2) + 1 = omega arith in
        let k : i / 2 < length (drop s (c ∷ ps)) = rw long (omega arith) in
        let z : i / 2 + s ≡ s + i / 2 = omega arith in
        let a : get_or (compact_plan base dest (c ∷ ps) ++ (close u ∷ [])) i (close u) ≡ get_or (compact_plan base dest (c ∷ ps) ++ (close u ∷ [])) (2 * (i / 2) + 1) (close u) =
        ap (λ (x : ℕ). get_or (compact_plan base dest (c ∷ ps) ++ (close u ∷ [])) x (close u)) q in
        sym (a ∙ rw (shape, pairs-odd dest (drop s (c ∷ ps)) _ (close u) (i / 2) k, get_or-drop s (c ∷ ps) (i / 2) 0, z))

  module _ (h : 2 * (length (c ∷ ps) - s) ≤ i) (j : ℕ) (ej : j ≡ i - 2 * (length (c ∷ ps) - s) + s) where
    behind : get_or (compact_plan base dest (c ∷ ps) ++ (close u ∷ [])) i (close u) ≡ get_or (point base c dest false ∷ (removals base ps ++ (close u ∷ []))) j (close u)
    behind =
        let k : ℕ = 2 * (length (c ∷ ps) - s) in
        let q : i ≡ k + (i - k) = omega arith in
        let l : length (pairs dest (drop s (c ∷ ps))) ≡ k = length_pairs dest (drop s (c ∷ ps)) ∙ rw long in
        let a : get_or (compact_plan base dest (c ∷ ps) ++ (close u ∷ [])) i (close u) ≡ get_or (compact_plan base dest (c ∷ ps) ++ (close u ∷ [])) (k + (i - k)) (close u) =
        ap (λ (x : ℕ). get_or (compact_plan base dest (c ∷ ps) ++ (close u ∷ [])) x (close u)) q in
        a ∙ rw (shape, step_past (pairs dest (drop s (c ∷ ps))) (heads base c dest s ++ (removals base ps ++ (close u ∷ []))) (close u) (i - k) k l, ej)
        (heads-at base c dest s (removals base ps ++ (close u ∷ [])) (close u) (i - k) small)

    pub compact-replace : j ≡ 0 → point base c dest false ≡ get_or (compact_plan base dest (c ∷ ps) ++ (close u ∷ [])) i (close u)
    compact-replace e = sym (behind ∙ rw e)

    pub compact-remove : (j ≡ 0 → ⊥) → j < length (c ∷ ps) → point base (get_or (c ∷ ps) j 0) 0 false ≡ get_or (compact_plan base dest (c ∷ ps) ++ (close u ∷ [])) i (close u)
    compact-remove e k =
        let r : ℕ = j - 1 in
        let q : j ≡ suc r = omega arith in
        sym (behind ∙ rw q (removals-at base ps (close u ∷ []) (close u) r (omega arith)))

    pub compact-close : length (c ∷ ps) ≤ j → close u ≡ get_or (compact_plan base dest (c ∷ ps) ++ (close u ∷ [])) i (close u)
    compact-close k =
        let r : ℕ = j - 1 in
        let q : j ≡ suc r = omega arith in
        let l : length (removals base ps) ≡ length ps = length-removals base ps in
        sym (behind ∙ rw q (last_of (removals base ps) (close u) r (omega arith)))

-- ---- the same of any list of pages but the empty one

module _ (base dest u : ℕ) where
  compact-gather : (l : List ℕ) → 1 ≤ length l → pick (eqb dest (get_or l 0 0)) true (not (listed dest l)) ≡ true → differ l ≡ true → (s : ℕ) → s ≡ pick (eqb (get_or l 0 0) dest) 1 0
      → (i : ℕ) → i < 2 * (length l - s)
      → pick (eqb (i % 2) 0) (take_out (get_or l (i / 2 + s) 0) dest) (bring_in (get_or l (i / 2 + s) 0) dest 1) ≡ get_or (compact_plan base dest l ++ (close u ∷ [])) i (close u)
  compact-gather [] h f g s e i k = absurd (not-suc-le-zero h)
  compact-gather (c ∷ ps) h f g s e i k =
      split 0 (i % 2)
      (λ o. pick-false _ _ _ (ne_eqb (i % 2) 0 (λ z. omega arith)) ∙ compact-odd base dest u c ps (f, g) s e i k (λ z. omega arith))
      (λ o. let z : i % 2 ≡ 0 = omega arith in pick_true _ _ _ (eq-eqb (i % 2) 0 z) ∙ compact-even base dest u c ps (f, g) s e i k z)

  compact-behind : (l : List ℕ) → 1 ≤ length l → pick (eqb dest (get_or l 0 0)) true (not (listed dest l)) ≡ true → differ l ≡ true → (s : ℕ) → s ≡ pick (eqb (get_or l 0 0) dest) 1 0
      → (i : ℕ) → 2 * (length l - s) ≤ i → (j : ℕ) → j ≡ i - 2 * (length l - s) + s
      → (j ≡ 0 → point base (get_or l 0 0) dest false ≡ get_or (compact_plan base dest l ++ (close u ∷ [])) i (close u))
      × ((j ≡ 0 → ⊥) → j < length l → point base (get_or l j 0) 0 false ≡ get_or (compact_plan base dest l ++ (close u ∷ [])) i (close u))
      × (length l ≤ j → close u ≡ get_or (compact_plan base dest l ++ (close u ∷ [])) i (close u))
  compact-behind [] h f g s e i k j q = absurd (not-suc-le-zero h)
  compact-behind (c ∷ ps) h f g s e i k j q =
      (compact-replace base dest u c ps (f, g) s e i k j q, compact-remove base dest u c ps (f, g) s e i k j q, compact-close base dest u c ps (f, g) s e i k j q)

-- ---- by the begin record's bytes

-- what the test of a begin record says of each type
pub record Compacts (m : List ℕ) : Type 0 where
  pub base : get_or m 18 0 ≡ 1
  pub few : 2 ≤ get_or m 19 0
  pub many : get_or m 19 0 ≤ 8
  pub free : pick (eqb (le2 m 40) (get_or (read_fields (get_or m 19 0) (drop 24 m)) 0 0)) true (not (listed (le2 m 40) (read_fields (get_or m 19 0) (drop 24 m)))) ≡ true
  pub differs : differ (read_fields (get_or m 19 0) (drop 24 m)) ≡ true

module _ (m : List ℕ) (u : ℕ) (ok : begin_ok (read_begin u m) ≡ true) where
  typed : type_ok (read_begin u m) ≡ true
  unfolding begin_ok
  typed = all_head _ _ (all_tail _ _ ok)

  pub is-compact : get_or m 16 0 ≡ 1 → Compacts m
  unfolding begin_ok read_begin compact_ok type_ok
  is-compact t =
      let e : compact_ok (read_begin u m) ≡ true = sym (pick_true _ _ _ (eq-eqb (get_or m 16 0) 1 t)) ∙ typed in
      let nb : length (read_fields (get_or m 18 0) (drop 20 m)) ≡ get_or m 18 0 = length-read_fields (get_or m 18 0) (drop 20 m) in
      let nl : length (read_fields (get_or m 19 0) (drop 24 m)) ≡ get_or m 19 0 = length-read_fields (get_or m 19 0) (drop 24 m) in
      let e1 = all_tail _ _ e in
      let e2 = all_tail _ _ e1 in
      let e6 = all_tail _ _ (all_tail _ _ (all_tail _ _ (all_tail _ _ e2))) in
      record {
        base = sym nb ∙ eqb-true _ _ (all_head _ _ e);
        few = omega (arith, leb-true 2 (length (read_fields (get_or m 19 0) (drop 24 m))) (all_head _ _ e1));
        many = omega (arith, leb-true (length (read_fields (get_or m 19 0) (drop 24 m))) 8 (all_head _ _ e2));
        free = all_head _ _ e6;
        differs = all_head _ _ (all_tail _ _ (all_tail _ _ (all_tail _ _ (all_tail _ _ (all_tail _ _ ok)))));
      }

  pub record Swaps : Type 0 where
    pub few : 1 ≤ get_or m 18 0
    pub leaves : get_or m 19 0 ≡ 2

  pub is-swap : get_or m 16 0 ≡ 2 → Swaps
  unfolding read_begin swap_ok type_ok
  is-swap t =
      let ne : eqb (get_or m 16 0) 1 ≡ false = ne_eqb (get_or m 16 0) 1 (λ q. omega arith) in
      let e : swap_ok (read_begin u m) ≡ true = sym (pick-false _ _ _ ne ∙ pick_true _ _ _ (eq-eqb (get_or m 16 0) 2 t)) ∙ typed in
      let nb : length (read_fields (get_or m 18 0) (drop 20 m)) ≡ get_or m 18 0 = length-read_fields (get_or m 18 0) (drop 20 m) in
      let nl : length (read_fields (get_or m 19 0) (drop 24 m)) ≡ get_or m 19 0 = length-read_fields (get_or m 19 0) (drop 24 m) in
      record {
        few = omega (arith, leb-true 1 (length (read_fields (get_or m 18 0) (drop 20 m))) (all_head _ _ e));
        leaves = sym nl ∙ eqb-true _ _ (all_head _ _ (all_tail _ _ (all_tail _ _ e)));
      }

  pub record Moves : Type 0 where
    pub type : get_or m 16 0 ≡ 3
    pub base : get_or m 18 0 ≡ 1
    pub leaf : get_or m 19 0 ≡ 1

  pub is_move : saves_at m ≡ false → (get_or m 16 0 ≡ 1 → ⊥) → (get_or m 16 0 ≡ 2 → ⊥) → Moves
  unfolding read_begin move_ok type_ok saves saves_at
  is_move v f g =
      let e : both (eqb (get_or m 16 0) 3) (move_ok (read_begin u m)) ≡ true =
      sym (pick-false _ _ _ (ne_eqb (get_or m 16 0) 1 f) ∙ pick-false _ _ _ (ne_eqb (get_or m 16 0) 2 g) ∙ pick-false _ _ _ v) ∙ typed in
      let k : move_ok (read_begin u m) ≡ true = both-2 _ _ e in
      let nb : length (read_fields (get_or m 18 0) (drop 20 m)) ≡ get_or m 18 0 = length-read_fields (get_or m 18 0) (drop 20 m) in
      let nl : length (read_fields (get_or m 19 0) (drop 24 m)) ≡ get_or m 19 0 = length-read_fields (get_or m 19 0) (drop 24 m) in
      record {
        type = eqb-true _ _ (both-1 _ _ e);
        base = sym nb ∙ eqb-true _ _ (all_head _ _ k);
        leaf = sym nl ∙ eqb-true _ _ (all_head _ _ (all_tail _ _ k));
      }

-- a page listed in a begin record
leaf-at : (m : List ℕ) (j : ℕ) → j < get_or m 19 0 → get_or (read_fields (get_or m 19 0) (drop 24 m)) j 0 ≡ le2 m (24 + 2 * j)
leaf-at m j h = get_or-read_fields (get_or m 19 0) j 0 (drop 24 m) h ∙ le2-drop 24 (2 * j) m

-- ---- the ways through a compact's step, for `search`

module _ (m : List ℕ) (u i : ℕ) (x : Compacts m) (d c k s : ℕ) (pd : d ≡ le2 m 40) (pc : c ≡ le2 m 24) (pk : k ≡ get_or m 19 0) (es : s ≡ pick (eqb c d) 1 0) where
  leaves : List ℕ
  leaves = read_fields (get_or m 19 0) (drop 24 m)

  many : length leaves ≡ k
  unfolding leaves
  many = length-read_fields (get_or m 19 0) (drop 24 m) ∙ sym pk

  head : get_or leaves 0 0 ≡ c
  unfolding leaves
  head = leaf-at m 0 (omega (arith, x.few)) ∙ sym pc

  skip : s ≡ pick (eqb (get_or leaves 0 0) (le2 m 40)) 1 0
  skip = rw (head, ← pd) es

  pub gathered! : (p : ℕ) (r : Step) → p ≡ le2 m (24 + 2 * (i / 2 + s)) → r ≡ pick (eqb (i % 2) 0) (take_out p d) (bring_in p d 1) → i < 2 * (k - s)
      → r ≡ get_or (compact_plan (le2 m 20) (le2 m 40) (read_fields (get_or m 19 0) (drop 24 m)) ++ (close u ∷ [])) i (close u)
  unfolding leaves
  gathered! p r pp pr h =
      let b : i / 2 + s < get_or m 19 0 = omega arith in
      let e : get_or (read_fields (get_or m 19 0) (drop 24 m)) (i / 2 + s) 0 ≡ p = leaf-at m (i / 2 + s) b ∙ sym pp in
      pr ∙ rw (← e, pd)
      (compact-gather (le2 m 20) (le2 m 40) u (read_fields (get_or m 19 0) (drop 24 m)) (omega (arith, many, x.few)) x.free x.differs s skip i (omega (arith, many)))

  module _ (h : 2 * (k - s) ≤ i) where
    behind! : (j : ℕ) → j ≡ i - 2 * (k - s) + s
        → (j ≡ 0 → point (le2 m 20) (get_or leaves 0 0) (le2 m 40) false ≡ get_or (compact_plan (le2 m 20) (le2 m 40) leaves ++ (close u ∷ [])) i (close u))
        × ((j ≡ 0 → ⊥) → j < length leaves → point (le2 m 20) (get_or leaves j 0) 0 false ≡ get_or (compact_plan (le2 m 20) (le2 m 40) leaves ++ (close u ∷ [])) i (close u))
        × (length leaves ≤ j → close u ≡ get_or (compact_plan (le2 m 20) (le2 m 40) leaves ++ (close u ∷ [])) i (close u))
    behind! j q =
        compact-behind (le2 m 20) (le2 m 40) u leaves (omega (arith, many, x.few)) (unfold leaves in x.free) (unfold leaves in x.differs) s skip i (omega (arith, many)) j (rw many q)

    pub replaced! : (b : ℕ) → b ≡ le2 m 20 → i - 2 * (k - s) + s ≡ 0
        → point b c d false ≡ get_or (compact_plan (le2 m 20) (le2 m 40) (read_fields (get_or m 19 0) (drop 24 m)) ++ (close u ∷ [])) i (close u)
    unfolding leaves
    replaced! b q z = rw (q, ← head, pd) ((behind! (i - 2 * (k - s) + s) refl).0 z)

    pub removed! : (b p : ℕ) → b ≡ le2 m 20 → p ≡ le2 m (24 + 2 * (i - 2 * (k - s) + s)) → (i - 2 * (k - s) + s ≡ 0 → ⊥) → i - 2 * (k - s) + s < k
        → point b p 0 false ≡ get_or (compact_plan (le2 m 20) (le2 m 40) (read_fields (get_or m 19 0) (drop 24 m)) ++ (close u ∷ [])) i (close u)
    unfolding leaves
    removed! b p q r z y =
        let e : get_or (read_fields (get_or m 19 0) (drop 24 m)) (i - 2 * (k - s) + s) 0 ≡ p = leaf-at m (i - 2 * (k - s) + s) (omega arith) ∙ sym r in
        rw (q, ← e) ((behind! (i - 2 * (k - s) + s) refl).1 z (rw many y))

    pub closed! : k ≤ i - 2 * (k - s) + s → close u ≡ get_or (compact_plan (le2 m 20) (le2 m 40) (read_fields (get_or m 19 0) (drop 24 m)) ++ (close u ∷ [])) i (close u)
    unfolding leaves
    closed! y = (behind! (i - 2 * (k - s) + s) refl).2 (rw many y)

-- ---- the bases, and the plan by the type

module _ (m : List ℕ) where
  base-at : (j d : ℕ) → j < get_or m 18 0 → get_or (read_fields (get_or m 18 0) (drop 20 m)) j d ≡ le2 m (20 + 2 * j)
  base-at j d h = get_or-read_fields (get_or m 18 0) j d (drop 20 m) h ∙ le2-drop 20 (2 * j) m

  pub second-same! : (v k : ℕ) → v ≡ le2 m 20 → k ≡ get_or m 18 0 → k < 2 → v ≡ get_or (read_fields (get_or m 18 0) (drop 20 m)) 1 (le2 m 20)
  second-same! v k e q h =
      let l : length (read_fields (get_or m 18 0) (drop 20 m)) ≡ get_or m 18 0 = length-read_fields (get_or m 18 0) (drop 20 m) in
      e ∙ sym (get_or-eq_default (read_fields (get_or m 18 0) (drop 20 m)) (le2 m 20) (omega arith))

  pub second-other! : (v k : ℕ) → v ≡ le2 m 22 → k ≡ get_or m 18 0 → 2 ≤ k → v ≡ get_or (read_fields (get_or m 18 0) (drop 20 m)) 1 (le2 m 20)
  second-other! v k e q h = e ∙ sym (base-at 1 (le2 m 20) (omega arith))

module _ (m : List ℕ) (u i : ℕ) (ok : begin_ok (read_begin u m) ≡ true) (r : Step) (t : ℕ) (q : t ≡ get_or m 16 0) where
  pub step-compact! : r ≡ get_or (compact_plan (le2 m 20) (le2 m 40) (read_fields (get_or m 19 0) (drop 24 m)) ++ (close u ∷ [])) i (close u) → t ≡ 1
      → r ≡ get_or (plan (read_begin u m)) i (close u)
  unfolding plan read_begin pick
  step-compact! e h =
      let x : Compacts m = is-compact m u ok (sym q ∙ h) in
      let p : get_or (read_fields (get_or m 18 0) (drop 20 m)) 0 0 ≡ le2 m 20 = base-at m 0 0 (omega (arith, x.base)) in
      e ∙ rw (← q, eq-eqb t 1 h, p)

  pub step-swap! : (p a b c : ℕ) → p ≡ le2 m 20 → c ≡ get_or (read_fields (get_or m 18 0) (drop 20 m)) 1 (le2 m 20) → a ≡ le2 m 24 → b ≡ le2 m 26
      → r ≡ get_or (swap_plan p c a b ++ (close u ∷ [])) i (close u) → t ≡ 2 → r ≡ get_or (plan (read_begin u m)) i (close u)
  unfolding plan read_begin pick
  step-swap! p a b c pp pc pa pb e h =
      let x : Swaps m u ok = is-swap m u ok (sym q ∙ h) in
      let e0 : get_or (read_fields (get_or m 18 0) (drop 20 m)) 0 0 ≡ p = base-at m 0 0 (omega (arith, x.few)) ∙ sym pp in
      let e1 : get_or (read_fields (get_or m 18 0) (drop 20 m)) 1 p ≡ c = rw pp (sym pc) in
      let a0 : get_or (read_fields (get_or m 19 0) (drop 24 m)) 0 0 ≡ a = leaf-at m 0 (omega (arith, x.leaves)) ∙ sym pa in
      let b0 : get_or (read_fields (get_or m 19 0) (drop 24 m)) 1 0 ≡ b = leaf-at m 1 (omega (arith, x.leaves)) ∙ sym pb in
      let n : eqb t 1 ≡ false = ne_eqb t 1 (λ z. omega arith) in
      e ∙ rw (← q, n, eq-eqb t 2 h, e0, e1, a0, b0)

  step_move : saves_at m ≡ false → (p a d : ℕ) → p ≡ le2 m 20 → a ≡ le2 m 24 → d ≡ le2 m 40 → r ≡ get_or (move_plan p a d ++ (close u ∷ [])) i (close u) → (t ≡ 1 → ⊥) → (t ≡ 2 → ⊥)
      → r ≡ get_or (plan (read_begin u m)) i (close u)
  unfolding plan read_begin pick saves saves_at
  step_move v p a d pp pa pd e f g =
      let x : Moves m u ok = is_move m u ok v (λ z. f (q ∙ z)) (λ z. g (q ∙ z)) in
      let e0 : get_or (read_fields (get_or m 18 0) (drop 20 m)) 0 0 ≡ p = base-at m 0 0 (omega (arith, x.base)) ∙ sym pp in
      let a0 : get_or (read_fields (get_or m 19 0) (drop 24 m)) 0 0 ≡ a = leaf-at m 0 (omega (arith, x.leaf)) ∙ sym pa in
      let w : leb 4 t ≡ false = rw q v in
      e ∙ rw (← q, ne_eqb t 1 f, ne_eqb t 2 g, w, e0, a0, pd)

  pub step-other! : saves_at m ≡ false → (p a d : ℕ) → p ≡ le2 m 20 → a ≡ le2 m 24 → d ≡ le2 m 40 → r ≡ get_or (move_plan p a d ++ (close u ∷ [])) i (close u) → eqb (get_or m 16 0) 1 ≡ false → (t ≡ 2 → ⊥)
      → r ≡ get_or (plan (read_begin u m)) i (close u)
  step-other! v p a d pp pa pd e f g = step_move v p a d pp pa pd e (λ z. false≢true (sym f ∙ eq-eqb (get_or m 16 0) 1 (sym q ∙ z))) g
