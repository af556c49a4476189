-- A refused call leaves all that it was lent, and a recovery refused past its lengths all but the work pages: `store`'s laws of refusals, as
-- the promise has them. Assumes nothing.
use Prim.Native.Nat.{ℕ}
use mathlib.Core.Path.{◌≡◌, refl, ap, ◌∙◌}
use mathlib.Core.Bool.{false}
use Rattle.store.specs.Calls.{Lent, lent, Left, refused, zeroed, pages_length, three_sized, recover}
use Rattle.store.proofs.Refusals.{Keeps, build-keeps, begin-compact-keeps, begin-order-keeps, begin-put-keeps, begin-delete-keeps, step_keeps, flush-keeps, force-keeps}
use Rattle.store.proofs.Refusals.{checkpoint-keeps, find-keeps, list-keeps, recover-sized, recover-unsized}
use Rattle.field.specs.Bytes.{zeroes}
use Rattle.promise.specs.Promise.{Call, to_begin_compact, to_begin_order, to_begin_put, to_begin_delete, to_step, to_flush, to_force, to_checkpoint, to_find, to_list, does, Refusals}

pub refused-now : (k r : ℕ) (d : Lent) → (refused k r d).now ≡ d
unfolding refused
refused-now k r d = refl

zeroed-now : (r : ℕ) (d : Lent) → (zeroed r d).now ≡ lent d.used d.forced (zeroes pages_length) d.store d.log d.bytes
unfolding zeroed
zeroed-now r d = refl

kept-now : (k : ℕ) (d : Lent) (x : Left) → Keeps k d x → (x.reply ≡ 0 → ⊥) → x.now ≡ d
kept-now k d x h bad = ap (λ (y : Left). y.now) (h bad) ∙ refused-now k x.reply d

call-now : (k : Call) (d : Lent) → ((does k d).reply ≡ 0 → ⊥) → (does k d).now ≡ d
unfolding does
call-now (to_begin_compact fill) d = kept-now 0 d _ (begin-compact-keeps fill d)
call-now to_begin_order d = kept-now 0 d _ (begin-order-keeps d)
call-now to_begin_put d = kept-now 0 d _ (begin-put-keeps d)
call-now (to_begin_delete key) d = kept-now 0 d _ (begin-delete-keeps key d)
call-now to_step d = kept-now 0 d _ (step_keeps d)
call-now (to_flush p) d = kept-now 0 d _ (flush-keeps p d)
call-now to_force d = kept-now 0 d _ (force-keeps d)
call-now (to_checkpoint clear) d = kept-now 0 d _ (checkpoint-keeps clear d)
call-now (to_find key) d = kept-now 10 d _ (find-keeps key d)
call-now (to_list low high) d = kept-now 2 d _ (list-keeps low high d)

pub unsized-now : (d : Lent) → three_sized d ≡ false → (recover d).now ≡ d
unsized-now d e = ap (λ (y : Left). y.now) (recover-unsized d e) ∙ refused-now 1 1 d

pub refusals : Refusals
refusals =
    record {
      calls = call-now;
      building = λ f g d. kept-now 0 d _ (build-keeps f g d);
      lengths = unsized-now;
      recovery = λ d bad sized. ap (λ (y : Left). y.now) (recover-sized d sized bad) ∙ zeroed-now _ d;
    }
