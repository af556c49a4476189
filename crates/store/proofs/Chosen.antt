-- The begin record of a put or a delete is one that the log's form accepts. Assumes nothing.
use Prim.Native.Nat.{ℕ, ◌≤◌}
use native.Mathlib.Omega.{arith}
use mathlib.Core.Path.{◌≡◌, refl}
use mathlib.Core.Bool.{true}
use mathlib.Core.List.{List, [], ◌∷◌}
use borrow.Author.Tests.{le-leb}
use lib.ListN.{drop}
use Rattle.field.specs.Test.{both, pick}
use Rattle.field.specs.Bytes.{all_zero, bytes4, most4}
use Rattle.field.proofs.Test.{both-intro, all-intro, all_nil}
use Rattle.field.proofs.Zero.{all-zeroes}
use Rattle.page.specs.Page.{ascend, ascend_records, key_of}
use Rattle.logs.specs.Record.{saves}
use Rattle.logs.specs.Log.{within, differ, carries_ok, save_ok, type_ok, begin_ok}
use Rattle.logs.specs.Write.{begin_of, save_of}
use Rattle.store.specs.Calls.{deleting}

pub saves-put : (u : ℕ) (r : List ℕ) → saves (save_of u 4 r) ≡ true
unfolding saves save_of begin_of
saves-put u r = refl

pub saves-delete : (u : ℕ) (r : List ℕ) → saves (save_of u 5 r) ≡ true
unfolding saves save_of begin_of
saves-delete u r = refl

-- a put's, whose record bears its mark
pub put-ok : (u : ℕ) (r : List ℕ) → u ≤ most4 → ascend_records 0 (r ∷ []) ≡ true → begin_ok (save_of u 4 r) ≡ true
unfolding begin_ok type_ok save_ok carries_ok saves save_of begin_of within differ pick
put-ok u r h a =
    all-intro _ _ (le-leb u most4 h)
    (all-intro _ _ (all-intro _ _ refl (all-intro _ _ refl (all-intro _ _ refl (all-intro _ _ refl (all-intro _ _ refl (all-intro _ _ (both-intro _ _ a refl) all_nil))))))
    (all-intro _ _ refl (all-intro _ _ refl (all-intro _ _ refl (all-intro _ _ refl (all-intro _ _ refl all_nil))))))

-- a delete's record bears its mark
marked : (key : ℕ) → ascend_records 0 (deleting key ∷ []) ≡ true
unfolding ascend deleting both
marked key = both-intro _ _ (le-leb 0 (key_of (deleting key)) (omega arith)) refl

-- and has no value
worthless : (key : ℕ) → all_zero (drop 6 (deleting key)) ≡ true
unfolding deleting bytes4
worthless key = all-zeroes 10

pub delete-ok : (u key : ℕ) → u ≤ most4 → begin_ok (save_of u 5 (deleting key)) ≡ true
unfolding begin_ok type_ok save_ok carries_ok saves save_of begin_of within differ pick
delete-ok u key h =
    all-intro _ _ (le-leb u most4 h)
    (all-intro _ _ (all-intro _ _ refl (all-intro _ _ refl (all-intro _ _ refl (all-intro _ _ refl (all-intro _ _ refl
    (all-intro _ _ (both-intro _ _ (marked key) (worthless key)) all_nil))))))
    (all-intro _ _ refl (all-intro _ _ refl (all-intro _ _ refl (all-intro _ _ refl (all-intro _ _ refl all_nil))))))
