-- Tests and answers that may be missing, as functions of their test: a chain of them reads like a list of refusals in order.
-- Assumes nothing.
use Rattle.std.specs.Prelude.{Bool, true, false, List, [], ◌∷◌}
use Rattle.std.proofs.Math.Option.{Option, some, none}

-- both tests; the second is not looked at where the first fails
unfoldable pub both : Bool → Bool → Bool
both true b = b
both false b = false

-- every test of a list, from its front
unfoldable pub all : List Bool → Bool
all [] = true
all (b ∷ bs) = both b (all bs)

-- the first where the test holds, else the second
unfoldable pub pick {ℓ} : {A : Type ℓ} → Bool → A → A → A
pick true x y = x
pick false x y = y

-- a test that must hold: the refusal where it does not, else what follows
unfoldable pub need {ℓ} : {A : Type ℓ} → Bool → A → A → A
need true refusal rest = rest
need false refusal rest = refusal

-- a value that must be there: the refusal where it is not, else what follows from it
unfoldable pub given {ℓ κ} : {A : Type ℓ} {B : Type κ} → Option A → B → (A → B) → B
given none refusal rest = refusal
given (some a) refusal rest = rest a

-- a value that is there only where the test holds
unfoldable pub when {ℓ} : {A : Type ℓ} → Bool → A → Option A
when true x = some x
when false x = none

-- what follows from a value, if it is there
unfoldable pub bind {ℓ κ} : {A : Type ℓ} {B : Type κ} → Option A → (A → Option B) → Option B
bind none f = none
bind (some a) f = f a

-- is a value there
unfoldable pub there {ℓ} : {A : Type ℓ} → Option A → Bool
there none = false
there (some a) = true
