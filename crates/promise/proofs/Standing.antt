-- A record that ends a log in form: its number fits, its page lies in its region, what it brings in are rows of an LO. Assumes nothing.
use Prim.Native.Nat.{◌+◌}
use mathlib.Core.List.{List, [], ◌∷◌, ◌++◌}
use lib.ListN.{length}
use Rattle.logs.specs.Record.{Check, Rec}
use Rattle.logs.specs.Log.{State, first, at_end}
use Rattle.logs.proofs.State.{number-at_end}
use Rattle.logs.specs.Valid.{Fits, Valid, cons, Good}
use Rattle.logs.proofs.Valid.{valid-split}
use Rattle.logs.proofs.Sound.{sound-at_end}
use Rattle.unit.proofs.Places.{end-keeps}
use Rattle.unit.proofs.Kept.{Stands, fits-stands}
use Rattle.promise.specs.Parts.{log_of, state_of}

-- a record that ends a log in form fits the log before it
pub last_fits : (c : Check) (l : List Rec) (r : Rec) → Good (log_of c (l ++ (r ∷ []))) → Fits (state_of c l) r
unfolding at_end
last_fits c l r g = head-fits (valid-split (first c) l (r ∷ []) g.valid).1
  where
    head-fits : {s : State} → Valid s (r ∷ []) → Fits s r
    head-fits (cons f v) = f

-- the log before it is in form
pub before-good : (c : Check) (l : List Rec) (r : Rec) → Good (log_of c (l ++ (r ∷ []))) → Good (log_of c l)
before-good c l r g = record { top = g.top; valid = (valid-split (first c) l (r ∷ []) g.valid).0 }

pub last-stands : (c : Check) (l : List Rec) (r : Rec) → Good (log_of c (l ++ (r ∷ []))) → Stands (c.number + length l + 1) r
last-stands c l r g =
    let b : Good (log_of c l) = before-good c l r g in
    let t : Stands ((state_of c l).number + 1) r = fits-stands (sound-at_end (log_of c l) b) (end-keeps (log_of c l) b) (last_fits c l r g) in
    rw (number-at_end (log_of c l)) at t
