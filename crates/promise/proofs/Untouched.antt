-- A put or delete leaves LK: only a compact's LE moves it. Assumes nothing.
use mathlib.Core.Path.{◌≡◌, refl, ap, ◌∙◌}
use mathlib.Core.Bool.{true}
use mathlib.Core.Option.{Option, some}
use Rattle.field.specs.Test.{given}
use Rattle.field.proofs.Test.{pick-false}
use Rattle.logs.specs.Record.{saves, Rec, LB, LO, LI, LM, LG, LE}
use Rattle.logs.specs.Log.{Open, State, lk_ended, lk_by, after}
use Rattle.logs.proofs.Plan.{saves-type}
use Rattle.promise.specs.Promise.{KeyStays}

by-record : (s : State) (o : Open) (r : Rec) → s.opened ≡ some o → saves o.start ≡ true → lk_by r s.lk s.opened ≡ s.lk
unfolding lk_by lk_ended given
by-record s o (LB g) e v = refl
by-record s o (LO org dest rs) e v = refl
by-record s o (LI org dest back rs) e v = refl
by-record s o (LM base old new key) e v = refl
by-record s o (LG i) e v = refl
by-record s o (LE unit images) e v = ap (λ (x : Option Open). given x s.lk (lk_ended s.lk)) e ∙ pick-false _ _ _ (saves-type o.start v)

pub key-stays : KeyStays
unfolding after lk_by
key-stays = record { begins = λ s g. refl; goes_on = by-record }
