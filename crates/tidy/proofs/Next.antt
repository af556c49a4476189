-- The record that a step finds does the step, so that a log in form stays in form. Assumes nothing.
use Prim.Native.Nat.{ℕ, ◌≤◌}
use native.Mathlib.Omega.{arith}
use mathlib.Core.Path.{◌≡◌, refl}
use mathlib.Core.Bool.{Bool, true, false}
use mathlib.Core.List.{List}
use mathlib.Core.Option.{Option, some, some-injective}
use lib.Dec.{eqb}
use Rattle.field.specs.Test.{both, pick}
use Rattle.field.specs.Bytes.{Bytes, most4}
use Rattle.field.proofs.Test.{when-some, bind-some}
use Rattle.field.proofs.Number.{le4-small}
use Rattle.page.specs.Page.{key_of, to_page, leaf, records}
use Rattle.page.specs.Each.{Each}
use Rattle.page.proofs.Made.{Fill}
use Rattle.page.proofs.Kept.{bytes-rows}
use Rattle.logs.specs.Record.{Rec}
use Rattle.logs.specs.Plan.{Step, take_out, bring_in, point, close}
use Rattle.logs.specs.Valid.{Does, does-out, does-in, does-point, does-close}
use Rattle.unit.specs.Next.{is_other, lowest_to, skipped, next_rec}
use Rattle.tidy.proofs.Pages.{leaf-rows}

-- an LM's key fits four bytes
lowest-small : (skip : Option ℕ) (p k : ℕ) {es : List (List ℕ)} → Each Bytes es → lowest_to skip p es ≡ some k → k ≤ most4
unfolding lowest_to pick key_of
lowest-small skip p k Each.nil e = let z : ◌≡◌ {A = ℕ} 0 1 = cc in absurd (omega arith)
lowest-small skip p k (Each.cons {r = r} {rs = rs} b bs) e =
    by-test (both (eqb (to_page r) p) (is_other skip (key_of r))) e (lowest-small skip p k bs)
  where
    by-test : (t : Bool) → pick t (some (key_of r)) (lowest_to skip p rs) ≡ some k → (lowest_to skip p rs ≡ some k → k ≤ most4) → k ≤ most4
    by-test true f rest = let q : key_of r ≡ k = some-injective (key_of r) k f in omega (arith, le4-small r 2 b)
    by-test false f rest = rest f

-- given the bytes of the page that the step changes
pub next-does : (x : Step) (did : List Rec) (pg : List ℕ) (r : Rec) → Bytes pg → next_rec x did pg ≡ some r → Does did x r
unfolding next_rec
next-does (take_out org dest) did pg r b e =
    let w = when-some _ _ _ e in
    let f : Fill leaf (records pg) = leaf-rows pg w.0 in
    rw (← w.1)
    (does-out (record { some-rows = f.enough; few-rows = f.room; long = f.long; bytes = bytes-rows 16 pg b; order = f.order }))
next-does (bring_in org dest back) did pg r b e = rw (← (some-injective _ _ e)) (does-in refl)
next-does (point base old new other) did pg r b e =
    let w = bind-some _ _ _ e in
    rw (← (some-injective _ _ w.gives)) (does-point (lowest-small (skipped other did) old w.from (bytes-rows 8 pg b) w.was))
next-does (close unit) did pg r b e = rw (← (some-injective _ _ e)) does-close
