-- Test 3 of a step, of the unit that is open at a log's end. Assumes nothing.
use Rattle.std.specs.Prelude.{ℕ, Bool, true, List, [], ◌∷◌}
use Rattle.field.specs.Test.{pick, given}
use Rattle.logs.specs.Record.{saves}
use Rattle.logs.specs.Plan.{Step}
use Rattle.logs.specs.Log.{Open, read_log, at_end}
use Rattle.unit.specs.Next.{target_of}
use Rattle.store.specs.Calls.{formed_at}

-- the page that the first of these steps changes is in form
unfoldable pub first_formed : (todo : List Step) → (w : List ℕ) → Bool
first_formed [] w = true
first_formed (x ∷ xs) w = formed_at (target_of x) w

-- what a put or delete lacks tests all pages
unfoldable pub open_formed : Open → (w : List ℕ) → Bool
open_formed o w = pick (saves o.start) true (first_formed o.todo w)

unfoldable pub next_formed : (w l : List ℕ) → Bool
next_formed w l = given (read_log l) true (λ g. given (at_end g).opened true (λ o. open_formed o w))
