-- "show that any two results it allows are equal", for each of the twelve calls by name. A call's contract says that what the code returns and leaves,
-- shown as a `Left`, is what the call's definition leaves; two results that it allows are then one, in every field of the struct that is returned
-- and in every byte of each buffer. Assumes nothing.
use Rattle.std.specs.Prelude.{ℕ, ◌≡◌, Bool, List, [], ◌∷◌}
use Rattle.field.specs.Test.{pick}
use Rattle.store.specs.declared.known.Numbers.{Numbers}
use Rattle.store.specs.declared.known.Answer.{Answer}
use Rattle.finding.specs.declared.FindAnswer.{FindAnswer}
use Rattle.answering.specs.declared.ListAnswer.{ListAnswer}
use Rattle.waking.specs.declared.RecoverAnswer.{RecoverAnswer}
use Rattle.store.specs.Calls.{Lent, lent, Left, left}
use Rattle.store.specs.Calls as Calls

-- what a call returns, and the buffers as it leaves them; a buffer that it is not lent is []
pub record Result (A : Type 0) : Type 0 where
  pub answer : A
  pub work : List ℕ
  pub store : List ℕ
  pub log : List ℕ
  pub bytes : List ℕ

-- ---- a result as the contracts show it, by the struct that is returned

abbrev numbered : {A : Type 0} → Numbers → Result A → Lent
numbered n x = lent n.used n.forced x.work x.store x.log x.bytes

-- build, begin, step, flush, force, checkpoint
abbrev pub replied : Result Answer → Left
replied x = left x.answer.reply [] (numbered x.answer.numbers x)

abbrev pub recovered : Result RecoverAnswer → Left
recovered x = left x.answer.recovered.reply (x.answer.recovered.count ∷ []) (numbered x.answer.numbers x)

abbrev pub found : Result FindAnswer → Left
found x = left x.answer.found.reply x.answer.found.value (numbered x.answer.numbers x)

abbrev pub listed : Result ListAnswer → Left
listed x =
    left x.answer.listed.reply (x.answer.listed.count ∷ pick x.answer.listed.more 1 0 ∷ []) (numbered x.answer.numbers x)

-- ---- the twelve calls

-- any two results that are shown as what the definition leaves are equal
abbrev pub Fixes : {A : Type 0} → (shown : Result A → Left) → (means : Left) → Type 0
Fixes {A} shown means = (x y : Result A) → shown x ≡ means → shown y ≡ means → x ≡ y

pub record Fixed : Type 0 where
  pub build : (f g : ℕ) (d : Lent) → Fixes replied (Calls.build f g d)
  pub recover : (d : Lent) → Fixes recovered (Calls.recover d)
  pub begin_compact : (fill : ℕ) (d : Lent) → Fixes replied (Calls.begin_compact fill d)
  pub begin_order : (d : Lent) → Fixes replied (Calls.begin_order d)
  pub begin_put : (d : Lent) → Fixes replied (Calls.begin_put d)
  pub begin_delete : (key : ℕ) (d : Lent) → Fixes replied (Calls.begin_delete key d)
  pub step : (d : Lent) → Fixes replied (Calls.step d)
  pub flush : (p : ℕ) (d : Lent) → Fixes replied (Calls.flush p d)
  pub force : (d : Lent) → Fixes replied (Calls.force d)
  pub checkpoint : (clear : Bool) (d : Lent) → Fixes replied (Calls.checkpoint clear d)
  pub find : (key : ℕ) (d : Lent) → Fixes found (Calls.find key d)
  pub list : (low high : ℕ) (d : Lent) → Fixes listed (Calls.list low high d)
