-- The ways through the tests of a begin record's type, for `search`. Assumes nothing.
use Prim.Native.Nat.{ℕ, ◌-◌, ◌≤◌, ◌<◌}
use native.Mathlib.Omega.{arith}
use mathlib.Core.Path.{◌≡◌, refl, sym, ap, ◌∙◌}
use mathlib.Core.Bool.{Bool, true, false, not}
use mathlib.Core.List.{List, [], ◌∷◌}
use lib.ListN.{length, take, drop, get_or, length-drop}
use lib.Seq.{take_all}
use lib.Dec.{eqb, leb}
use borrow.Author.Tests.{eq-eqb, ne_eqb, eqb-true, leb-true, le-leb, lt-leb, not-true, not-false}
use Rattle.field.specs.Test.{both, all, pick}
use Rattle.field.specs.Bytes.{part, all_zero, le2}
use Rattle.field.proofs.Test.{all_head, all_tail, both_end, both_true, both_false, pick_true, pick-false}
use Rattle.field.proofs.Number.{le2-drop}
use Rattle.field.proofs.Part.{part-part, length_part}
use Rattle.page.specs.Page.{rows_of, ascend, ascend_records}
use Rattle.logs.specs.Record.{saves}
use Rattle.logs.specs.Log.{within, on_leaves, listed, differ, compact_ok, swap_ok, move_ok, carries_ok, save_ok, type_ok, begin_ok, saves_at, read_fields, read_begin}
use Rattle.logs.proofs.Fields.{all-fail, length-read_fields, get_or-read_fields}
use Rattle.logs.proofs.Begun.{begin-type!, begin-rest! }

module _ (m : List ℕ) where
  -- the destination lies among the leaf pages
  dest-in : on_leaves (le2 m 40 ∷ []) ≡ on_leaves (read_fields 1 (drop 40 m))
  unfolding read_fields
  dest-in = rw (le2-drop 40 0 m)

  compact_tests : List Bool
  compact_tests =
      eqb (get_or m 18 0) 1 ∷ leb 2 (get_or m 19 0) ∷ leb (get_or m 19 0) 8 ∷ leb 1 (get_or m 17 0) ∷ leb (get_or m 17 0) 15 ∷ on_leaves (read_fields 1 (drop 40 m))
      ∷ pick (eqb (le2 m 40) (get_or (read_fields (get_or m 19 0) (drop 24 m)) 0 0)) true (not (listed (le2 m 40) (read_fields (get_or m 19 0) (drop 24 m)))) ∷ []

  compact-is : all compact_tests ≡ compact_ok (read_begin 0 m)
  unfolding compact_tests compact_ok read_begin
  compact-is = rw (length-read_fields (get_or m 18 0) (drop 20 m), length-read_fields (get_or m 19 0) (drop 24 m), ← dest-in)

  pub compact-bases! : (v : ℕ) → v ≡ get_or m 18 0 → (v ≡ 1 → ⊥) → false ≡ compact_ok (read_begin 0 m)
  unfolding compact_tests
  compact-bases! v q f = all-fail compact_tests 0 (ne_eqb (get_or m 18 0) 1 (λ z. f (q ∙ z))) ∙ compact-is

  pub compact-few! : (v : ℕ) → v ≡ get_or m 19 0 → v < 2 → false ≡ compact_ok (read_begin 0 m)
  unfolding compact_tests
  compact-few! v q f = all-fail compact_tests 1 (rw (← q) (lt-leb 2 v f)) ∙ compact-is

  pub compact-many! : (v : ℕ) → v ≡ get_or m 19 0 → 8 < v → false ≡ compact_ok (read_begin 0 m)
  unfolding compact_tests
  compact-many! v q f = all-fail compact_tests 2 (rw (← q) (lt-leb v 8 f)) ∙ compact-is

  pub compact-low! : (v : ℕ) → v ≡ get_or m 17 0 → v < 1 → false ≡ compact_ok (read_begin 0 m)
  unfolding compact_tests
  compact-low! v q f = all-fail compact_tests 3 (rw (← q) (lt-leb 1 v f)) ∙ compact-is

  pub compact-high! : (v : ℕ) → v ≡ get_or m 17 0 → 15 < v → false ≡ compact_ok (read_begin 0 m)
  unfolding compact_tests
  compact-high! v q f = all-fail compact_tests 4 (rw (← q) (lt-leb v 15 f)) ∙ compact-is

  pub compact-dest! : (z : Bool) → z ≡ on_leaves (read_fields 1 (drop 40 m)) → not z ≡ true → false ≡ compact_ok (read_begin 0 m)
  unfolding compact_tests
  compact-dest! z q f = all-fail compact_tests 5 (sym q ∙ not-true z f) ∙ compact-is

  module _ (a : ℕ) (pa : a ≡ get_or m 18 0) (ha : a ≡ 1) (b : ℕ) (pb : b ≡ get_or m 19 0) (hb : 2 ≤ b) (kb : b ≤ 8) (f : ℕ) (pf : f ≡ get_or m 17 0) (hf : 1 ≤ f) (kf : f ≤ 15)
      (z : Bool) (pz : z ≡ on_leaves (read_fields 1 (drop 40 m))) (hz : not z ≡ false) (d : ℕ) (pd : d ≡ le2 m 40) (e : ℕ) (pe : e ≡ le2 m 24) where
    so_far : compact_ok (read_begin 0 m) ≡ pick (eqb d e) true (not (listed d (read_fields b (drop 24 m))))
    unfolding compact_tests all both
    so_far =
        let x : 0 < b = omega arith in
        let y : get_or (read_fields b (drop 24 m)) 0 0 ≡ e = get_or-read_fields b 0 0 (drop 24 m) x ∙ le2-drop 24 0 m ∙ sym pe in
        sym compact-is ∙ rw (← pa, ← pb, ← pf, ← pz, ← pd, eq-eqb a 1 ha, le-leb 2 b hb, le-leb b 8 kb, le-leb 1 f hf, le-leb f 15 kf, not-false z hz, y) (both_end _)

    pub compact-first! : d ≡ e → true ≡ compact_ok (read_begin 0 m)
    unfolding pick
    compact-first! h = sym (so_far ∙ rw (eq-eqb d e h))

    pub compact-rest! : (d ≡ e → ⊥) → (y : Bool) → y ≡ listed d (read_fields b (drop 24 m)) → not y ≡ compact_ok (read_begin 0 m)
    unfolding pick
    compact-rest! h y q = sym (so_far ∙ rw (ne_eqb d e h, ← q))

  -- ---- swap

  swap_tests : List Bool
  swap_tests = leb 1 (get_or m 18 0) ∷ leb (get_or m 18 0) 2 ∷ eqb (get_or m 19 0) 2 ∷ eqb (get_or m 17 0) 0 ∷ eqb (le2 m 40) 0 ∷ []

  swap_is : all swap_tests ≡ swap_ok (read_begin 0 m)
  unfolding swap_tests swap_ok read_begin
  swap_is = rw (length-read_fields (get_or m 18 0) (drop 20 m), length-read_fields (get_or m 19 0) (drop 24 m))

  pub swap-few! : (v : ℕ) → v ≡ get_or m 18 0 → v < 1 → false ≡ swap_ok (read_begin 0 m)
  unfolding swap_tests
  swap-few! v q f = all-fail swap_tests 0 (rw (← q) (lt-leb 1 v f)) ∙ swap_is

  pub swap-many! : (v : ℕ) → v ≡ get_or m 18 0 → 2 < v → false ≡ swap_ok (read_begin 0 m)
  unfolding swap_tests
  swap-many! v q f = all-fail swap_tests 1 (rw (← q) (lt-leb v 2 f)) ∙ swap_is

  pub swap-leaves! : (v : ℕ) → v ≡ get_or m 19 0 → (v ≡ 2 → ⊥) → false ≡ swap_ok (read_begin 0 m)
  unfolding swap_tests
  swap-leaves! v q f = all-fail swap_tests 2 (ne_eqb (get_or m 19 0) 2 (λ z. f (q ∙ z))) ∙ swap_is

  pub swap-fill! : (v : ℕ) → v ≡ get_or m 17 0 → (v ≡ 0 → ⊥) → false ≡ swap_ok (read_begin 0 m)
  unfolding swap_tests
  swap-fill! v q f = all-fail swap_tests 3 (ne_eqb (get_or m 17 0) 0 (λ z. f (q ∙ z))) ∙ swap_is

  pub swap-rest! : (a : ℕ) (pa : a ≡ get_or m 18 0) (ha : 1 ≤ a) (ka : a ≤ 2) (b : ℕ) (pb : b ≡ get_or m 19 0) (hb : b ≡ 2) (f : ℕ) (pf : f ≡ get_or m 17 0) (hf : f ≡ 0)
      (d : ℕ) (pd : d ≡ le2 m 40) → eqb d 0 ≡ swap_ok (read_begin 0 m)
  unfolding swap_tests all both
  swap-rest! a pa ha ka b pb hb f pf hf d pd =
      sym (sym swap_is ∙ rw (← pa, ← pb, ← pf, ← pd, le-leb 1 a ha, le-leb a 2 ka, eq-eqb b 2 hb, eq-eqb f 0 hf) (both_end _))

  -- ---- move

  move_tests : List Bool
  move_tests =
      eqb (get_or m 18 0) 1 ∷ eqb (get_or m 19 0) 1 ∷ eqb (get_or m 17 0) 0 ∷ on_leaves (read_fields 1 (drop 40 m))
      ∷ not (listed (le2 m 40) (read_fields (get_or m 19 0) (drop 24 m))) ∷ []

  move-is : all move_tests ≡ move_ok (read_begin 0 m)
  unfolding move_tests move_ok read_begin
  move-is = rw (length-read_fields (get_or m 18 0) (drop 20 m), length-read_fields (get_or m 19 0) (drop 24 m), ← dest-in)

  pub move-bases! : (v : ℕ) → v ≡ get_or m 18 0 → (v ≡ 1 → ⊥) → false ≡ move_ok (read_begin 0 m)
  unfolding move_tests
  move-bases! v q f = all-fail move_tests 0 (ne_eqb (get_or m 18 0) 1 (λ z. f (q ∙ z))) ∙ move-is

  pub move-leaves! : (v : ℕ) → v ≡ get_or m 19 0 → (v ≡ 1 → ⊥) → false ≡ move_ok (read_begin 0 m)
  unfolding move_tests
  move-leaves! v q f = all-fail move_tests 1 (ne_eqb (get_or m 19 0) 1 (λ z. f (q ∙ z))) ∙ move-is

  pub move-fill! : (v : ℕ) → v ≡ get_or m 17 0 → (v ≡ 0 → ⊥) → false ≡ move_ok (read_begin 0 m)
  unfolding move_tests
  move-fill! v q f = all-fail move_tests 2 (ne_eqb (get_or m 17 0) 0 (λ z. f (q ∙ z))) ∙ move-is

  pub move-dest! : (z : Bool) → z ≡ on_leaves (read_fields 1 (drop 40 m)) → not z ≡ true → false ≡ move_ok (read_begin 0 m)
  unfolding move_tests
  move-dest! z q f = all-fail move_tests 3 (sym q ∙ not-true z f) ∙ move-is

  pub move-rest! : (a : ℕ) (pa : a ≡ get_or m 18 0) (ha : a ≡ 1) (b : ℕ) (pb : b ≡ get_or m 19 0) (hb : b ≡ 1) (f : ℕ) (pf : f ≡ get_or m 17 0) (hf : f ≡ 0)
      (z : Bool) (pz : z ≡ on_leaves (read_fields 1 (drop 40 m))) (hz : not z ≡ false) (d : ℕ) (pd : d ≡ le2 m 40)
      (y : Bool) (py : y ≡ listed d (read_fields 1 (drop 24 m))) → not y ≡ move_ok (read_begin 0 m)
  unfolding move_tests all both
  move-rest! a pa ha b pb hb f pf hf z pz hz d pd y py =
      sym (sym move-is ∙ rw (← pa, ← pb, ← pf, ← pz, ← pd, eq-eqb a 1 ha, eq-eqb b 1 hb, eq-eqb f 0 hf, not-false z hz, hb, ← py) (both_end _))

  -- ---- put and delete

  save_tests : List Bool
  save_tests =
      leb (get_or m 16 0) 5 ∷ eqb (get_or m 18 0) 0 ∷ eqb (get_or m 19 0) 0 ∷ eqb (get_or m 17 0) 0 ∷ eqb (le2 m 40) 0 ∷ carries_ok (get_or m 16 0) (part 44 16 m ∷ []) ∷ []

  save-is : saves_at m ≡ true → all save_tests ≡ save_ok (read_begin 0 m)
  unfolding save_tests save_ok read_begin
  save-is v = rw (length-read_fields (get_or m 18 0) (drop 20 m), length-read_fields (get_or m 19 0) (drop 24 m), pick_true (saves_at m) (part 44 16 m ∷ []) [] v)

  module _ (v : saves_at m ≡ true) where
    pub save-type! : (t : ℕ) → t ≡ get_or m 16 0 → 5 < t → false ≡ save_ok (read_begin 0 m)
    unfolding save_tests
    save-type! t q f = all-fail save_tests 0 (rw (← q) (lt-leb t 5 f)) ∙ save-is v

    pub save-bases! : (n : ℕ) → n ≡ get_or m 18 0 → (n ≡ 0 → ⊥) → false ≡ save_ok (read_begin 0 m)
    unfolding save_tests
    save-bases! n q f = all-fail save_tests 1 (ne_eqb (get_or m 18 0) 0 (λ z. f (q ∙ z))) ∙ save-is v

    pub save-leaves! : (n : ℕ) → n ≡ get_or m 19 0 → (n ≡ 0 → ⊥) → false ≡ save_ok (read_begin 0 m)
    unfolding save_tests
    save-leaves! n q f = all-fail save_tests 2 (ne_eqb (get_or m 19 0) 0 (λ z. f (q ∙ z))) ∙ save-is v

    pub save-fill! : (n : ℕ) → n ≡ get_or m 17 0 → (n ≡ 0 → ⊥) → false ≡ save_ok (read_begin 0 m)
    unfolding save_tests
    save-fill! n q f = all-fail save_tests 3 (ne_eqb (get_or m 17 0) 0 (λ z. f (q ∙ z))) ∙ save-is v

    pub save-dest! : (n : ℕ) → n ≡ le2 m 40 → (n ≡ 0 → ⊥) → false ≡ save_ok (read_begin 0 m)
    unfolding save_tests
    save-dest! n q f = all-fail save_tests 4 (ne_eqb (le2 m 40) 0 (λ z. f (q ∙ z))) ∙ save-is v

    pub save-rest! : (t : ℕ) (pt : t ≡ get_or m 16 0) (ht : t ≤ 5) (a : ℕ) (pa : a ≡ get_or m 18 0) (ha : a ≡ 0) (b : ℕ) (pb : b ≡ get_or m 19 0) (hb : b ≡ 0) (f : ℕ) (pf : f ≡ get_or m 17 0) (hf : f ≡ 0)
        (d : ℕ) (pd : d ≡ le2 m 40) (hd : d ≡ 0) (z : Bool) → z ≡ carries_ok (get_or m 16 0) (part 44 16 m ∷ []) → z ≡ save_ok (read_begin 0 m)
    unfolding save_tests all both
    save-rest! t pt ht a pa ha b pb hb f pf hf d pd hd z e =
        sym (sym (save-is v) ∙ rw (← e, ← pt, ← pa, ← pb, ← pf, ← pd, le-leb t 5 ht, eq-eqb a 0 ha, eq-eqb b 0 hb, eq-eqb f 0 hf, eq-eqb d 0 hd) (both_end _))

  -- ---- the record that a put or delete carries

  module _ (room : 60 ≤ length m) where
    one-row : rows_of 16 1 (drop 44 m) ≡ part 44 16 m ∷ []
    unfolding rows_of part
    one-row = refl

    value-is : drop 6 (part 44 16 m) ≡ part 50 10 m
    value-is =
        let n : length (drop 6 (part 44 16 m)) ≡ 10 = length-drop 6 (part 44 16 m) ∙ rw (length_part 44 16 m room) in
        sym (take_all 10 (drop 6 (part 44 16 m)) (omega arith)) ∙ (unfold part in part-part 6 10 44 16 m (omega arith) room)

    pub carries-mark! : (z : Bool) → z ≡ ascend 114 99 0 (rows_of 16 1 (drop 44 m)) → not z ≡ true → false ≡ carries_ok (get_or m 16 0) (part 44 16 m ∷ [])
    unfolding carries_ok
    carries-mark! z e h = sym (both_false _ _ (sym (e ∙ rw one-row) ∙ not-true z h))

    module _ (z : Bool) (e : z ≡ ascend 114 99 0 (rows_of 16 1 (drop 44 m))) (h : not z ≡ false) (t : ℕ) (q : t ≡ get_or m 16 0) where
      marked : ascend_records 0 (part 44 16 m ∷ []) ≡ true
      marked = sym (e ∙ rw one-row) ∙ not-false z h

      pub carries-put! : (t ≡ 5 → ⊥) → true ≡ carries_ok (get_or m 16 0) (part 44 16 m ∷ [])
      unfolding carries_ok
      carries-put! f = sym (both_true _ _ marked ∙ rw (← q) (pick-false _ _ _ (ne_eqb t 5 f)))

      pub carries-rest! : t ≡ 5 → (y : Bool) → y ≡ all_zero (take (60 - 50) (drop 50 m)) → y ≡ carries_ok (get_or m 16 0) (part 44 16 m ∷ [])
      unfolding carries_ok
      carries-rest! f y p =
          let x : y ≡ all_zero (drop 6 (part 44 16 m)) = p ∙ ap all_zero (sym (value-is ∙ (unfold part in refl))) in
          x ∙ sym (both_true _ _ marked ∙ rw (← q) (pick_true _ _ _ (eq-eqb t 5 f)))

  -- ---- the type

  module _ (t : ℕ) (q : t ≡ get_or m 16 0) where
    type-is : type_ok (read_begin 0 m)
        ≡ pick (eqb t 1) (compact_ok (read_begin 0 m)) (pick (eqb t 2) (swap_ok (read_begin 0 m)) (pick (leb 4 t) (save_ok (read_begin 0 m)) (both (eqb t 3) (move_ok (read_begin 0 m)))))
    unfolding type_ok saves
    type-is = let e : (read_begin 0 m).type ≡ t = unfold read_begin in sym q in rw e

    pub type-compact! : (z : Bool) → t ≡ 1 → z ≡ compact_ok (read_begin 0 m) → z ≡ type_ok (read_begin 0 m)
    unfolding pick
    type-compact! z h e = sym (type-is ∙ rw (eq-eqb t 1 h, ← e))

    pub type-swap! : (z : Bool) → t ≡ 2 → z ≡ swap_ok (read_begin 0 m) → z ≡ type_ok (read_begin 0 m)
    unfolding pick
    type-swap! z h e = let n : eqb t 1 ≡ false = ne_eqb t 1 (λ x. omega arith) in sym (type-is ∙ rw (n, eq-eqb t 2 h, ← e))

    pub type-move! : (z : Bool) → t ≡ 3 → z ≡ move_ok (read_begin 0 m) → z ≡ type_ok (read_begin 0 m)
    unfolding pick both
    type-move! z h e =
        let n : eqb t 1 ≡ false = ne_eqb t 1 (λ x. omega arith) in
        let k : eqb t 2 ≡ false = ne_eqb t 2 (λ x. omega arith) in
        let j : leb 4 t ≡ false = lt-leb 4 t (omega arith) in
        sym (type-is ∙ rw (n, k, j, eq-eqb t 3 h, ← e))

    pub type-none! : saves_at m ≡ false → (t ≡ 1 → ⊥) → (t ≡ 2 → ⊥) → (t ≡ 3 → ⊥) → false ≡ type_ok (read_begin 0 m)
    unfolding pick both saves_at
    type-none! v a b c =
        let j : leb 4 t ≡ false = ap (leb 4) q ∙ v in
        sym (type-is ∙ rw (ne_eqb t 1 a, ne_eqb t 2 b, j, ne_eqb t 3 c))

  -- a put's or a delete's
  type-saves : saves_at m ≡ true → type_ok (read_begin 0 m) ≡ save_ok (read_begin 0 m)
  unfolding pick saves_at
  type-saves v =
      let four : 4 ≤ get_or m 16 0 = leb-true 4 (get_or m 16 0) v in
      type-is (get_or m 16 0) refl ∙ rw (ne_eqb (get_or m 16 0) 1 (λ e. omega (arith, e, four)), ne_eqb (get_or m 16 0) 2 (λ e. omega (arith, e, four)), v)

  -- it lists nothing, so that its pages keep to their rules
  saves-none : save_ok (read_begin 0 m) ≡ true → (get_or m 18 0 ≡ 0) × (get_or m 19 0 ≡ 0)
  unfolding save_ok read_begin
  saves-none e =
      let t1 = all_tail _ _ e in
      let t2 = all_tail _ _ t1 in
      (sym (length-read_fields (get_or m 18 0) (drop 20 m)) ∙ eqb-true _ 0 (all_head _ _ t1), sym (length-read_fields (get_or m 19 0) (drop 24 m)) ∙ eqb-true _ 0 (all_head _ _ t2))

  pub save-begin! : saves_at m ≡ true → (z : Bool) → z ≡ save_ok (read_begin 0 m) → z ≡ begin_ok (read_begin 0 m)
  unfolding read_fields within differ
  save-begin! v false e = begin-type! m false (e ∙ sym (type-saves v)) refl
  save-begin! v true e =
      let k = saves-none (sym e) in
      begin-rest! m 0 (sym k.0) 0 (sym k.1) true refl true (e ∙ sym (type-saves v)) refl true refl refl true refl refl true refl refl
