-- "A refusal returns zeros beside its number and changes nothing, but a refused recovery past test 1 zeroes all work pages; its log and
-- numbers stay": of each call's definition. Assumes nothing.
use Prim.Native.Nat.{ℕ}
use mathlib.Core.Path.{◌≡◌, refl, sym, ap}
use mathlib.Core.Bool.{Bool, true, false}
use mathlib.Core.List.{List}
use mathlib.Core.Option.{Option, some, none}
use Rattle.field.specs.Test.{need, given}
use Rattle.field.proofs.Test.{need-true, need-false}
use Rattle.logs.specs.Record.{Begin}
use Rattle.logs.specs.Log.{State}
use Rattle.tree.specs.Answer.{Found, missing, found}
use Rattle.store.specs.Calls.{Lent, Left, refused, zeroed, three_sized, Went, stopped, went, stepped, recovered, answered, begun_with, begun, begin_with, saving_all, begin_save, begin_put, begin_delete}
use Rattle.saving.specs.Rest.{Rest, refuses, lacks}
use Rattle.store.specs.Calls.{build, recover, begin_compact, begin_order, step, flush, force, checkpoint, find, list}

-- q says what a refusal with a reply leaves; x is what a call leaves, and refuses only so
abbrev pub Refuses : (q : ℕ → Left) → Left → Type 0
Refuses q x = (x.reply ≡ 0 → ⊥) → x ≡ q x.reply

-- the reply, k zeros, and all that was lent
abbrev pub Keeps : (k : ℕ) → Lent → Left → Type 0
Keeps k d x = Refuses (λ r. refused k r d) x

-- recovery past test 1: work all zeros, the rest as lent
abbrev pub Zeroes : Lent → Left → Type 0
Zeroes d x = Refuses (λ r. zeroed r d) x

pub reply-refused : (k : ℕ) (d : Lent) (r : ℕ) → (refused k r d).reply ≡ r
unfolding refused
reply-refused k d r = refl

reply-zeroed : (d : Lent) (r : ℕ) → (zeroed r d).reply ≡ r
unfolding zeroed
reply-zeroed d r = refl

-- ---- through a chain of tests, whatever a refusal leaves

module _ (q : ℕ → Left) (says : (r : ℕ) → (q r).reply ≡ r) where
  by-refusal : (r : ℕ) → Refuses q (q r)
  by-refusal r bad = ap q (sym (says r))

  by-done : (x : Left) → x.reply ≡ 0 → Refuses q x
  by-done x e bad = absurd (bad e)

  by-test : (b : Bool) (r : ℕ) (y : Left) → Refuses q y → Refuses q (need b (q r) y)
  unfolding need
  by-test true r y h = h
  by-test false r y h = by-refusal r

  by_value : {A : Type 0} (o : Option A) (r : ℕ) (f : A → Left) → ((a : A) → Refuses q (f a)) → Refuses q (given o (q r) f)
  unfolding given
  by_value none r f h = by-refusal r
  by_value (some a) r f h = h a

-- ---- the calls but recovery

module _ (k : ℕ) (d : Lent) where
  test : (b : Bool) (r : ℕ) (y : Left) → Keeps k d y → Keeps k d (need b (refused k r d) y)
  test b r y h = by-test (λ r. refused k r d) (reply-refused k d) b r y h

  value : {A : Type 0} (o : Option A) (r : ℕ) (f : A → Left) → ((a : A) → Keeps k d (f a)) → Keeps k d (given o (refused k r d) f)
  value o r f h = by_value (λ r. refused k r d) (reply-refused k d) o r f h

  done : (x : Left) → x.reply ≡ 0 → Keeps k d x
  done x e = by-done (λ r. refused k r d) (reply-refused k d) x e

  refusal : (r : ℕ) → Keeps k d (refused k r d)
  refusal r = by-refusal (λ r. refused k r d) (reply-refused k d) r

pub build-keeps : (f g : ℕ) (d : Lent) → Keeps 0 d (build f g d)
unfolding build
build-keeps f g d = test 0 d _ 1 _ (test 0 d _ 12 _ (test 0 d _ 16 _ (test 0 d _ 17 _ (done 0 d _ refl))))

stepped-keeps : (d : Lent) (x : Went) → Keeps 0 d (stepped d x)
unfolding stepped
stepped-keeps d (stopped r) = refusal 0 d r
stepped-keeps d (went s w l) = done 0 d _ refl

pub step_keeps : (d : Lent) → Keeps 0 d (step d)
unfolding step
step_keeps d = test 0 d _ 1 _ (value 0 d _ 2 _ (λ g. value 0 d _ 10 _ (λ o. stepped-keeps d _)))

begun-with-keeps : (d : Lent) (s : State) (b : Begin) (long many : ℕ) → Keeps 0 d (begun_with d s b long many)
unfolding begun_with
begun-with-keeps d s b long many = test 0 d _ 6 _ (test 0 d _ 7 _ (stepped-keeps d _))

begun-keeps : (d : Lent) (s : State) (b : Begin) → Keeps 0 d (begun d s b)
unfolding begun
begun-keeps d s b = begun-with-keeps d s b _ _

begin-keeps : (d : Lent) (s : State) (choose : ℕ → List (List ℕ) → Option Begin) → Keeps 0 d (begin_with d s choose)
unfolding begin_with
begin-keeps d s choose = test 0 d _ 9 _ (test 0 d _ 3 _ (test 0 d _ 8 _ (value 0 d _ 11 _ (begun-keeps d s))))

pub begin-compact-keeps : (fill : ℕ) (d : Lent) → Keeps 0 d (begin_compact fill d)
unfolding begin_compact
begin-compact-keeps fill d = test 0 d _ 1 _ (value 0 d _ 2 _ (λ g. test 0 d _ 12 _ (begin-keeps d _ _)))

pub begin-order-keeps : (d : Lent) → Keeps 0 d (begin_order d)
unfolding begin_order
begin-order-keeps d = test 0 d _ 1 _ (value 0 d _ 2 _ (λ g. begin-keeps d _ _))

saving-keeps : (d : Lent) (s : State) (b : Begin) (x : Rest) → Keeps 0 d (saving_all d s b x)
unfolding saving_all
saving-keeps d s b (refuses r) = refusal 0 d r
saving-keeps d s b (lacks rs) = begun-with-keeps d s b _ _

save-keeps : (d : Lent) (s : State) (b : Begin) → Keeps 0 d (begin_save d s b)
unfolding begin_save
save-keeps d s b = test 0 d _ 9 _ (saving-keeps d s b _)

pub begin-put-keeps : (d : Lent) → Keeps 0 d (begin_put d)
unfolding begin_put
begin-put-keeps d = test 0 d _ 1 _ (value 0 d _ 2 _ (λ g. test 0 d _ 12 _ (test 0 d _ 16 _ (save-keeps d _ _))))

pub begin-delete-keeps : (key : ℕ) (d : Lent) → Keeps 0 d (begin_delete key d)
unfolding begin_delete
begin-delete-keeps key d = test 0 d _ 1 _ (value 0 d _ 2 _ (λ g. save-keeps d _ _))

pub flush-keeps : (p : ℕ) (d : Lent) → Keeps 0 d (flush p d)
unfolding flush
flush-keeps p d = test 0 d _ 1 _ (value 0 d _ 2 _ (λ g. test 0 d _ 12 _ (test 0 d _ 13 _ (done 0 d _ refl))))

pub force-keeps : (d : Lent) → Keeps 0 d (force d)
unfolding force
force-keeps d = test 0 d _ 1 _ (value 0 d _ 2 _ (λ g. done 0 d _ refl))

pub checkpoint-keeps : (clear : Bool) (d : Lent) → Keeps 0 d (checkpoint clear d)
unfolding checkpoint
checkpoint-keeps clear d =
    test 0 d _ 1 _ (value 0 d _ 2 _ (λ g. test 0 d _ 9 _ (test 0 d _ 14 _ (test 0 d _ 7 _ (done 0 d _ refl)))))

answered-keeps : (d : Lent) (x : Found) → Keeps 10 d (answered d x)
unfolding answered
answered-keeps d (missing r) = refusal 10 d r
answered-keeps d (found v) = done 10 d _ refl

pub find-keeps : (key : ℕ) (d : Lent) → Keeps 10 d (find key d)
unfolding find
find-keeps key d = test 10 d _ 1 _ (value 10 d _ 2 _ (λ g. test 10 d _ 9 _ (answered-keeps d _)))

pub list-keeps : (low high : ℕ) (d : Lent) → Keeps 2 d (list low high d)
unfolding list
list-keeps low high d =
    test 2 d _ 1 _ (value 2 d _ 2 _ (λ g. test 2 d _ 9 _ (test 2 d _ 3 _ (test 2 d _ 8 _ (done 2 d _ refl)))))

-- ---- recovery

module _ (d : Lent) where
  test-past : (b : Bool) (r : ℕ) (y : Left) → Zeroes d y → Zeroes d (need b (zeroed r d) y)
  test-past b r y h = by-test (λ r. zeroed r d) (reply-zeroed d) b r y h

  value-past : {A : Type 0} (o : Option A) (r : ℕ) (f : A → Left) → ((a : A) → Zeroes d (f a)) → Zeroes d (given o (zeroed r d) f)
  value-past o r f h = by_value (λ r. zeroed r d) (reply-zeroed d) o r f h

recovered-zeroes : (d : Lent) (s : State) (x : Went) → Zeroes d (recovered d s x)
unfolding recovered
recovered-zeroes d s (stopped r) = by-refusal (λ r. zeroed r d) (reply-zeroed d) r
recovered-zeroes d s (went s' w l) = test-past d _ 8 _ (by-done (λ r. zeroed r d) (reply-zeroed d) _ refl)

pub recover-sized : (d : Lent) → three_sized d ≡ true → Zeroes d (recover d)
unfolding recover
recover-sized d e =
    rw (need-true (three_sized d) _ _ e)
    (value-past d _ 2 _ (λ g. test-past d _ 3 _ (test-past d _ 4 _ (value-past d _ 5 _ (λ w. recovered-zeroes d _ _)))))

pub recover-unsized : (d : Lent) → three_sized d ≡ false → recover d ≡ refused 1 1 d
unfolding recover
recover-unsized d e = need-false (three_sized d) _ _ e
