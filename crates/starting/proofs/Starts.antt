-- The answers of what both begins have in common, as laws over what the code has there. Assumes nothing.
use Prim.Native.Nat.{ℕ, ◌+◌, ◌≤◌, ◌<◌}
use native.Mathlib.Omega.{arith}
use mathlib.Core.Path.{◌≡◌, sym, ap, ◌∙◌}
use mathlib.Core.Bool.{Bool, true, false, not}
use mathlib.Core.List.{List, []}
use lib.ListN.{length}
use lib.Dec.{leb}
use borrow.Author.Tests.{le-leb, lt-leb, not-true, not-false}
use Rattle.field.specs.Test.{need}
use Rattle.field.specs.Bytes.{put, most4}
use Rattle.field.proofs.Test.{both-intro, both_true, both_false, need-true, need-false}
use Rattle.page.specs.Pages.{pages, all_formed}
use Rattle.logs.specs.Record.{Begin, LB, length_of, kind_of, carried, size, encode}
use Rattle.logs.specs.Plan.{plan}
use Rattle.logs.specs.Log.{State, after}
use Rattle.logs.specs.Scan.{shown}
use Rattle.logs.specs.Table.{kinds, kind_at}
use Rattle.logs.specs.Write.{begin_of}
use Rattle.logs.specs.declared.scan.Walk.{Walk}
use Rattle.tree.specs.Tree.{well_formed}
use Rattle.unit.specs.Next.{room}
use Rattle.unit.specs.declared.choice.Choice.{Choice}
use Rattle.store.specs.Calls.{Lent, lent, Left, left, refused, stepped, begun_with, begun}
use Rattle.starting.specs.Begins.{unready, record_of}
use Rattle.store.proofs.Ending.{shown-at, shown-number, shown-unit}
use Rattle.store.proofs.Replies.{refused_as}
use Rattle.starting.proofs.Units.{room-any, length-any}

-- ---- tests 9, 3 and 8

module _ (o : Bool) (w : List ℕ) where
  pub unready-open! : o ≡ true → 9 ≡ unready o w
  unfolding unready need
  unready-open! e = rw e

  pub unready-pages! : o ≡ false → (z : Bool) → z ≡ all_formed 0 (pages w) → not z ≡ true → 3 ≡ unready o w
  unfolding unready need
  unready-pages! e z i n = rw (e, ← i, not-true z n)

  module _ (e : o ≡ false) (z : Bool) (i : z ≡ all_formed 0 (pages w)) (n : not z ≡ false) (x : Bool) (j : x ≡ well_formed (pages w)) where
    pub unready-tree! : not x ≡ true → 8 ≡ unready o w
    unfolding unready need
    unready-tree! m = rw (e, ← i, not-false z n, ← j, not-true x m)

    pub unready-none! : not x ≡ false → 0 ≡ unready o w
    unfolding unready need
    unready-none! m = rw (e, ← i, not-false z n, ← j, not-false x m)

-- ---- tests 6 and 7

-- of a unit that begins with g, of which `many` records of `long` bytes follow
module _ (d : Lent) (s : State) (g : Begin) (long many : ℕ) where
  pub begun-room : 8192 < s.at + size (LB g) + long → begun_with d s g long many ≡ refused 0 6 d
  unfolding begun_with
  begun-room h = need-false _ (refused 0 6 d) _ (lt-leb (s.at + (size (LB g) + long)) 8192 (omega (arith, h)))

  module _ (h : s.at + size (LB g) + long ≤ 8192) where
    fits : leb (s.at + (size (LB g) + long)) 8192 ≡ true
    fits = le-leb (s.at + (size (LB g) + long)) 8192 (omega (arith, h))

    pub begun-number : 4294967295 < s.number + 1 + many → begun_with d s g long many ≡ refused 0 7 d
    unfolding begun_with
    begun-number n = need-true _ (refused 0 6 d) _ fits ∙ need-false _ (refused 0 7 d) _ (both_false _ _ (lt-leb (s.number + (1 + many)) most4 (omega (arith, n))))

    module _ (n : s.number + 1 + many ≤ 4294967295) where
      counts : leb (s.number + (1 + many)) most4 ≡ true
      counts = le-leb (s.number + (1 + many)) most4 (omega (arith, n))

      pub begun-unit : 4294967295 < g.unit → begun_with d s g long many ≡ refused 0 7 d
      unfolding begun_with
      begun-unit u = need-true _ (refused 0 6 d) _ fits ∙ need-false _ (refused 0 7 d) _ (both_true _ _ counts ∙ lt-leb g.unit most4 u)

      pub begun-begins : g.unit ≤ 4294967295 → begun_with d s g long many
          ≡ left 0 [] (lent (s.at + size (LB g)) d.forced d.work d.store (put s.at (encode (s.number + 1) (LB g)) d.log) d.bytes)
      unfolding begun_with stepped after
      begun-begins u = need-true _ (refused 0 6 d) _ fits ∙ need-true _ (refused 0 7 d) _ (both-intro _ _ counts (le-leb g.unit most4 u))

-- an LB's length, off the table
pub lb-long : (n : ℕ) → n ≡ length_of (kind_at 1) 0 → n ≡ 44
unfolding length_of kind_at kinds
lb-long n e = e

-- the answers of the code that makes them, at a log's end s with the numbers w; head is an LB's length
module _ (used forced : ℕ) (work log : List ℕ) (w : Walk) (c : Choice) (s : State) (e : w ≡ shown s) (head bytes steps : ℕ)
    (i : head ≡ length_of (kind_at 1) 0) (j : bytes ≡ room work (plan (record_of c 0))) (k : steps ≡ length (plan (record_of c 0))) where
  abbrev given_to : Lent
  given_to = lent used forced work [] log []

  abbrev lb : Begin
  lb = record_of c (s.unit + 1)

  abbrev meant : Left
  meant = begun given_to s lb

  head-is : size (LB lb) ≡ head
  unfolding size length_of kind_of carried record_of begin_of
  head-is = sym (lb-long head i)

  at-is : w.at ≡ s.at
  at-is = shown-at w s e

  number_is : w.number.0 ≡ s.number
  number_is = shown-number w s e

  unit-is : w.unit.0 ≡ s.unit
  unit-is = shown-unit w s e

  unit-next : lb.unit ≡ w.unit.0 + 1
  unfolding record_of begin_of
  unit-next = ap (λ (x : ℕ). x + 1) (sym unit-is)

  begun-is : meant ≡ begun_with given_to s lb bytes steps
  unfolding begun
  begun-is = rw (room-any c (s.unit + 1) work, length-any c (s.unit + 1), ← j, ← k)

  module _ (v u f : ℕ) where
    abbrev kept : Left
    kept = left v [] (lent u f work [] log [])

    pub unit-room : (v ≡ 6) × (u ≡ used) × (f ≡ forced) → 8192 < w.at + head + bytes → kept ≡ meant
    unit-room q h = refused_as given_to 6 v u f meant (begun-is ∙ begun-room given_to s lb bytes steps (omega (arith, h, head-is, at-is))) q

    pub unit-number : (v ≡ 7) × (u ≡ used) × (f ≡ forced) → w.at + head + bytes ≤ 8192 → 4294967295 < w.number.0 + 1 + steps → kept ≡ meant
    unit-number q h n =
        refused_as given_to 7 v u f meant
        (begun-is ∙ begun-number given_to s lb bytes steps (omega (arith, h, head-is, at-is)) (omega (arith, n, number_is))) q

    pub unit-last : (v ≡ 7) × (u ≡ used) × (f ≡ forced) → w.at + head + bytes ≤ 8192 → w.number.0 + 1 + steps ≤ 4294967295 → 4294967295 ≤ w.unit.0 → kept ≡ meant
    unit-last q h n m =
        refused_as given_to 7 v u f meant
        (begun-is
        ∙ begun-unit given_to s lb bytes steps (omega (arith, h, head-is, at-is)) (omega (arith, n, number_is)) (omega (arith, m, unit-next))) q

  pub unit-begun : w.at + head + bytes ≤ 8192 → w.number.0 + 1 + steps ≤ 4294967295 → w.unit.0 < 4294967295
      → (l : List ℕ) → l ≡ put w.at (encode (w.number.0 + 1) (LB (record_of c (w.unit.0 + 1)))) log
      → left 0 [] (lent (w.at + head) forced work [] l []) ≡ meant
  unit-begun h n m l q =
      rw (q, ← head-is, at-is, number_is, unit-is)
      (sym
      (begun-is
      ∙ begun-begins given_to s lb bytes steps (omega (arith, h, head-is, at-is)) (omega (arith, n, number_is)) (omega (arith, m, unit-next))))
