-- Each way through the begins' tests, and their answers, as laws over what the code has there. Assumes nothing.
use Prim.Native.Nat.{ℕ, ◌+◌, ◌≤◌, ◌<◌}
use native.Mathlib.Omega.{arith}
use mathlib.Core.Path.{◌≡◌, refl, sym, ap, ◌∙◌}
use mathlib.Core.Bool.{Bool, true, false, not}
use mathlib.Core.List.{List, []}
use mathlib.Core.Option.{Option, some, none}
use lib.ListN.{length}
use lib.Dec.{leb}
use borrow.Author.Tests.{le-leb, lt-leb}
use Rattle.field.specs.Test.{need, given, when, there}
use Rattle.field.proofs.Test.{need-true, need-false, given-some, given-none}
use Rattle.page.specs.Pages.{pages, all_formed}
use Rattle.logs.specs.Record.{Begin}
use Rattle.logs.specs.Log.{State, Log, at_end}
use Rattle.logs.specs.Scan.{shown, scanned}
use Rattle.logs.specs.declared.scan.Scan.{Scan}
use Rattle.tree.specs.Tree.{well_formed}
use Rattle.unit.specs.Choice.{compact_unit, order_unit}
use Rattle.unit.specs.Chosen.{Picks}
use Rattle.unit.specs.declared.choice.Choice.{Choice}
use Rattle.store.specs.Calls.{Lent, lent, Left, refused, two_sized, known, begun, begin_with, begin_compact, begin_order}
use Rattle.starting.specs.Begins.{unready, record_of}
use Rattle.store.specs.Knows.{knows}
use Rattle.store.proofs.Passed.{Knows, knows-yes}
use Rattle.store.proofs.Ending.{end-opened, end-lk}
use Rattle.store.proofs.Replies.{refused_as}
use Rattle.starting.proofs.Asked.{Kept, got, begin-past}
use Rattle.beginning.proofs.Units.{picked, none-picked}

-- ---- tests 9, 3 and 8

-- the reply, by the three tests
abbrev said : (o a t : Bool) → ℕ
said o a t = need (not o) 9 (need a 3 (need t 8 0))

-- what a call leaves that makes them: the same reply, or what comes after them
module _ (d : Lent) (y : Left) where
  abbrev through : (o a t : Bool) → Left
  through o a t = need (not o) (refused 0 9 d) (need a (refused 0 3 d) (need t (refused 0 8 d) y))

  stopped_by : (o a t : Bool) (r : ℕ) → r ≡ said o a t → (r ≡ 0 → ⊥) → through o a t ≡ refused 0 r d
  unfolding need
  stopped_by true a t r e z = ap (λ (r : ℕ). refused 0 r d) (sym e)
  stopped_by false false t r e z = ap (λ (r : ℕ). refused 0 r d) (sym e)
  stopped_by false true false r e z = ap (λ (r : ℕ). refused 0 r d) (sym e)
  stopped_by false true true r e z = absurd (z e)

  passed-by : (o a t : Bool) → 0 ≡ said o a t → through o a t ≡ y
  unfolding need
  passed-by true a t e = absurd (let z : ⊥ = omega arith in z)
  passed-by false false t e = absurd (let z : ⊥ = omega arith in z)
  passed-by false true false e = absurd (let z : ⊥ = omega arith in z)
  passed-by false true true e = refl

-- what they say where they are passed
facts-by : (o a t : Bool) → 0 ≡ said o a t → (a ≡ true) × (t ≡ true)
unfolding need
facts-by true a t e = absurd (let z : ⊥ = omega arith in z)
facts-by false false t e = absurd (let z : ⊥ = omega arith in z)
facts-by false true false e = absurd (let z : ⊥ = omega arith in z)
facts-by false true true e = (refl, refl)

pub ready-facts : (o : Bool) (w : List ℕ) → 0 ≡ unready o w → (all_formed 0 (pages w) ≡ true) × (well_formed (pages w) ≡ true)
unfolding unready
ready-facts o w e = facts-by o _ _ e

module _ (d : Lent) (s : State) (choose : ℕ → List (List ℕ) → Option Begin) where
  pub begin-unready : (r : ℕ) → r ≡ unready (there s.opened) d.work → (r ≡ 0 → ⊥) → begin_with d s choose ≡ refused 0 r d
  unfolding begin_with unready
  begin-unready r e z = stopped_by d _ (there s.opened) _ _ r e z

  module _ (e : 0 ≡ unready (there s.opened) d.work) where
    pub begin-none : choose (s.unit + 1) (pages d.work) ≡ none → begin_with d s choose ≡ refused 0 11 d
    unfolding begin_with unready
    begin-none q = passed-by d _ (there s.opened) _ _ e ∙ given-none _ (refused 0 11 d) _ q

    pub begin-begun : (b : Begin) → choose (s.unit + 1) (pages d.work) ≡ some b → begin_with d s choose ≡ begun d s b
    unfolding begin_with unready
    begin-begun b q = passed-by d _ (there s.opened) _ _ e ∙ given-some _ b (refused 0 11 d) _ q

-- ---- the begins

module _ (used forced : ℕ) (work log : List ℕ) where
  abbrev d : Lent
  d = lent used forced work [] log []

  -- test 2 passed
  module _ (a : length work ≡ 16384) (b : length log ≡ 8192) (t : Scan) (e : t ≡ scanned forced log) (k : knows t used ≡ true) where
    abbrev g : Knows d t
    g = knows-yes d t e k

    abbrev s : State
    s = at_end g.log

    -- a call that goes on as both do
    module _ (call : Left) (choose : ℕ → List (List ℕ) → Option Begin) (is : call ≡ begin_with d s choose) where
      pub begin-tests : (v u f r : ℕ) → Kept used forced work log [] v u f r → r ≡ unready t.walk.opened work → (r ≡ 0 → ⊥) → got used forced work log [] v u f ≡ call
      begin-tests v u f r q i z =
          refused_as d r v u f call (is ∙ begin-unready d s choose r (i ∙ ap (λ (o : Bool). unready o work) (end-opened d t g)) z) q

      module _ (r : ℕ) (i : r ≡ unready t.walk.opened work) (z : r ≡ 0) (c : Choice) (p : Picks c (λ u. choose u (pages work))) where
        ready : 0 ≡ unready (there s.opened) work
        ready = sym z ∙ i ∙ ap (λ (o : Bool). unready o work) (end-opened d t g)

        pub begin-nothing : (v u f : ℕ) → Kept used forced work log [] v u f 11 → c.found ≡ false → got used forced work log [] v u f ≡ call
        begin-nothing v u f q n = refused_as d 11 v u f call (is ∙ begin-none d s choose ready (none-picked c _ p n (s.unit + 1))) q

        pub begin-goes : (x : Left) → c.found ≡ true → ((s : State) → t.walk ≡ shown s → x ≡ begun d s (record_of c (s.unit + 1))) → x ≡ call
        begin-goes x y h = h s g.walk ∙ sym (is ∙ begin-begun d s choose ready (record_of c (s.unit + 1)) (picked c _ p y (s.unit + 1)))

  -- begin compact
  module _ (fill : ℕ) where
    abbrev compact-body : Log → Left
    compact-body g = need (leb fill 15) (refused 0 12 d) (begin_with d (at_end g) (λ unit ps. compact_unit unit fill (at_end g).lk ps))

    pub compact-is : begin_compact fill d ≡ need (two_sized d) (refused 0 1 d) (given (known d) (refused 0 2 d) compact-body)
    unfolding begin_compact
    compact-is = refl

    module _ (a : length work ≡ 16384) (b : length log ≡ 8192) (t : Scan) (e : t ≡ scanned forced log) (k : knows t used ≡ true) where
      pub compact-fill : (v u f : ℕ) → Kept used forced work log [] v u f 12 → 15 < fill → got used forced work log [] v u f ≡ begin_compact fill d
      compact-fill v u f q h =
          refused_as d 12 v u f (begin_compact fill d)
          (begin-past used forced work log [] (begin_compact fill d) compact-body compact-is a b t e k ∙ need-false _ (refused 0 12 d) _ (lt-leb fill 15 h)) q

      pub compact-with : fill ≤ 15
          → begin_compact fill d ≡ begin_with d (at_end (knows-yes d t e k).log) (λ unit ps. compact_unit unit fill (when t.walk.known t.walk.lk) ps)
      compact-with h =
          begin-past used forced work log [] (begin_compact fill d) compact-body compact-is a b t e k ∙ need-true _ (refused 0 12 d) _ (le-leb fill 15 h)
          ∙ ap (λ (lk : Option ℕ). begin_with d (at_end (knows-yes d t e k).log) (λ unit ps. compact_unit unit fill lk ps)) (sym (end-lk d t (knows-yes d t e k)))

  -- begin order
  abbrev order-body : Log → Left
  order-body g = begin_with d (at_end g) order_unit

  pub order_is : begin_order d ≡ need (two_sized d) (refused 0 1 d) (given (known d) (refused 0 2 d) order-body)
  unfolding begin_order
  order_is = refl

  pub order-with : (a : length work ≡ 16384) (b : length log ≡ 8192) (t : Scan) (e : t ≡ scanned forced log) (k : knows t used ≡ true)
      → begin_order d ≡ begin_with d (at_end (knows-yes d t e k).log) order_unit
  order-with a b t e k = begin-past used forced work log [] (begin_order d) order-body order_is a b t e k
