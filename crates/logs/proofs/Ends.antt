-- Where records end: the offset f is the end of the m-th record after `at` exactly where `ending_at` finds its number, and ends ascend,
-- so the m is one. Assumes nothing.
use Prim.Native.Nat.{ℕ, zero, suc, ◌+◌, ◌≤◌, ◌<◌}
use native.Mathlib.Nat.{add-zero, not-suc-le-zero}
use native.Mathlib.Omega.{arith}
use mathlib.Core.Path.{◌≡◌, refl, sym, ap, ◌∙◌}
use mathlib.Core.Bool.{Bool, true, false}
use mathlib.Core.List.{List, [], ◌∷◌}
use mathlib.Core.Option.{Option, some, some-injective}
use lib.ListN.{length, take}
use lib.Dec.{eqb}
use borrow.Author.Tests.{eqb-true, eq-eqb, ne_eqb}
use Rattle.field.specs.Test.{pick}
use Rattle.field.proofs.Part.{split}
use Rattle.field.proofs.Test.{pick_true, pick-false, when-some, when_true}
use Rattle.logs.specs.Record.{Rec, size, length_of, sizes}
use Rattle.logs.specs.Log.{ending_at, Log, last_forced}
use Rattle.logs.proofs.Record.{size-least}

-- ---- ends ascend

-- more records are more bytes
pub sizes-take-less : (m k : ℕ) (rs : List Rec) → m < k → k ≤ length rs → sizes (take m rs) < sizes (take k rs)
unfolding sizes
sizes-take-less m zero rs h j = absurd (not-suc-le-zero h)
sizes-take-less m (suc k) [] h j = absurd (not-suc-le-zero j)
sizes-take-less zero (suc k) (r ∷ rs) h j = omega (arith, size-least r)
sizes-take-less (suc m) (suc k) (r ∷ rs) h j = omega (arith, sizes-take-less m k rs (omega arith) (omega arith))

-- at one offset one record ends
pub sizes-take-one : (m k : ℕ) (rs : List Rec) → m ≤ length rs → k ≤ length rs → sizes (take m rs) ≡ sizes (take k rs) → m ≡ k
sizes-take-one m k rs h j e =
    split m k (λ a. omega (arith, sizes-take-less m k rs a j))
    (λ a. split k m (λ b. omega (arith, sizes-take-less k m rs b h)) (λ b. omega arith))

-- all the records' bytes are no less than those of some
pub sizes-take-most : (m : ℕ) (rs : List Rec) → sizes (take m rs) ≤ sizes rs
unfolding sizes
sizes-take-most zero rs = omega arith
sizes-take-most (suc m) [] = omega arith
sizes-take-most (suc m) (r ∷ rs) = omega (arith, sizes-take-most m rs)

-- ---- the number of the record that ends at an offset

-- f is where the record numbered v ends: the m-th behind the end `at` of the record numbered n
pub record Ends (f at n : ℕ) (rs : List Rec) (v : ℕ) : Type 0 where
  pub count : ℕ
  pub among : count ≤ length rs
  pub place : f ≡ at + sizes (take count rs)
  pub number : v ≡ n + count

-- an end at the front
here : (f at n : ℕ) (rs : List Rec) (v : ℕ) → at ≡ f → n ≡ v → Ends f at n rs v
unfolding sizes
here f at n rs v e q = record { count = 0; among = omega arith; place = omega arith; number = omega arith }

-- an end behind the first record
further : (f at n : ℕ) (r : Rec) (rs : List Rec) (v : ℕ) → Ends f (at + size r) (n + 1) rs v → Ends f at n (r ∷ rs) v
unfolding sizes
further f at n r rs v e =
    record { count = suc e.count; among = omega (arith, e.among); place = omega (arith, e.place); number = omega (arith, e.number) }

-- an end here, or further on
by_place : {X : Type 0} (n v : ℕ) (t : Bool) (rest : Option ℕ) → pick t (some n) rest ≡ some v → (t ≡ true → n ≡ v → X) → (rest ≡ some v → X) → X
unfolding pick
by_place n v true rest e a b = a refl (some-injective n v e)
by_place n v false rest e a b = b e

-- what is found is the end of a record
pub ending_at-facts : (f at n : ℕ) (rs : List Rec) (v : ℕ) → ending_at f at n rs ≡ some v → Ends f at n rs v
unfolding ending_at
ending_at-facts f at n [] v e = let w = when-some (eqb at f) n v e in here f at n [] v (eqb-true at f w.0) w.1
ending_at-facts f at n (r ∷ rs) v e =
    by_place n v (eqb at f) (ending_at f (at + size r) (n + 1) rs) e (λ t q. here f at n (r ∷ rs) v (eqb-true at f t) q)
    (λ d. further f at n r rs v (ending_at-facts f (at + size r) (n + 1) rs v d))

-- each record's end is found
pub ending_at-take : (f at n m : ℕ) (rs : List Rec) → m ≤ length rs → f ≡ at + sizes (take m rs) → ending_at f at n rs ≡ some (n + m)
unfolding ending_at sizes
ending_at-take f at n zero [] h e = when_true (eqb at f) n (eq-eqb at f (omega arith)) ∙ ap some (sym (add-zero n))
ending_at-take f at n zero (r ∷ rs) h e = pick_true (eqb at f) (some n) _ (eq-eqb at f (omega arith)) ∙ ap some (sym (add-zero n))
ending_at-take f at n (suc m) [] h e = absurd (not-suc-le-zero h)
ending_at-take f at n (suc m) (r ∷ rs) h e =
    let q : n + 1 + m ≡ n + suc m = omega arith in
    pick-false (eqb at f) (some n) _ (ne_eqb at f (λ z. omega (arith, size-least r)))
    ∙ ending_at-take f (at + size r) (n + 1) m rs (omega arith) (omega arith)
    ∙ ap some q

-- the end of a record is found, with its number
pub ending_at-of : (f at n : ℕ) (rs : List Rec) (v : ℕ) → Ends f at n rs v → ending_at f at n rs ≡ some v
ending_at-of f at n rs v e = ending_at-take f at n e.count rs e.among e.place ∙ ap some (sym e.number)

-- ---- the last forced record of a log

-- the last forced record is found where a record ends
pub last_forced-facts : (f : ℕ) (g : Log) (v : ℕ) → last_forced f g ≡ some v → Ends f 24 g.top.number g.recs v
unfolding last_forced length_of
last_forced-facts f g v e = ending_at-facts f 24 g.top.number g.recs v e

-- where a record ends, it is found
pub last_forced-of : (f : ℕ) (g : Log) (v : ℕ) → Ends f 24 g.top.number g.recs v → last_forced f g ≡ some v
unfolding last_forced length_of
last_forced-of f g v e = ending_at-of f 24 g.top.number g.recs v e

-- the same by the number of records before it
pub last_forced-take : (g : Log) (m : ℕ) → m ≤ length g.recs → last_forced (24 + sizes (take m g.recs)) g ≡ some (g.top.number + m)
unfolding last_forced length_of
last_forced-take g m h = ending_at-take (24 + sizes (take m g.recs)) 24 g.top.number m g.recs h refl
