-- Recovery from the repeated pages on, as the code makes it: the inner contracts of its finishing and of what follows. Assumes nothing.
use Rattle.std.specs.Prelude.{ℕ, ◌≤◌, ◌≡◌, true, List, length, take}
use Rattle.field.specs.Test.{given}
use Rattle.logs.specs.Log.{State, read_log, at_end}
use Rattle.logs.specs.Scan.{shown, scanned}
use Rattle.logs.specs.declared.scan.Walk.{Walk}
use Rattle.tree.specs.Walk.{InForm}
use Rattle.store.specs.Calls.{Lent, Left, zeroed, Went, stopped, went, finish_open, recovered, log_length}

-- what is found before finishing: pages in form, and what one pass over the log knows at its end
pub record Found (w l : List ℕ) (v : Walk) : Type 0 where
  pub form : InForm w
  pub long : length l ≡ log_length
  pub walk : v ≡ (scanned 0 l).walk
  pub ok : v.ok ≡ true

-- the unit that is open at the end of the log l is finished on the pages w
unfoldable pub finishing : (w l : List ℕ) → Went
finishing w l = given (read_log l) (stopped 2) (λ g. finish_open (at_end g).opened (at_end g) w l)

-- where that went to an end: the pages and the log there, and the walk v from the numbers that were found
pub record Ended (o : Went) (found v : Walk) (w' l' : List ℕ) : Type 0 where
  pub state : State
  pub is : o ≡ went state w' l'
  pub shows : v ≡ shown state
  pub form : InForm w'
  pub inside : v.at ≤ log_length
  pub later : found.number.0 ≤ v.number.0

-- what it leaves: 0 and the end, or the reply that stopped it; the log l up to the end that was found stays
pub record Finishes (o : Went) (l : List ℕ) (found : Walk) (reply : ℕ) (v : Walk) (w' l' : List ℕ) : Type 0 where
  pub done : reply ≡ 0 → Ended o found v w' l'
  pub stops : (reply ≡ 0 → ⊥) → o ≡ stopped reply
  pub front : take found.at l' ≡ take found.at l

-- finishing, then test 8
unfoldable pub completing : Lent → (w : List ℕ) → Left
completing d w = given (read_log d.log) (zeroed 2 d) (λ g. recovered d (at_end g) (finish_open (at_end g).opened (at_end g) w d.log))
