-- Laws of the tests and of answers that may be missing: what a test that holds says, and what makes it hold. Assumes nothing.
use mathlib.Core.Path.{◌≡◌, refl, sym}
use mathlib.Core.Logic.{◌⊎◌, inl, inr}
use mathlib.Core.Bool.{Bool, true, false, false≢true}
use mathlib.Core.List.{List, [], ◌∷◌}
use mathlib.Core.Option.{Option, some, none}
use Rattle.field.specs.Test.{both, all, pick, need, given, when, bind, there}

-- ---- both

pub both-1 : (a b : Bool) → both a b ≡ true → a ≡ true
unfolding both
both-1 true b e = refl
both-1 false b e = e

pub both-2 : (a b : Bool) → both a b ≡ true → b ≡ true
unfolding both
both-2 true b e = e
both-2 false b e = absurd (false≢true e)

pub both-intro : (a b : Bool) → a ≡ true → b ≡ true → both a b ≡ true
unfolding both
both-intro a b p q = rw p q

pub both_true : (a b : Bool) → a ≡ true → both a b ≡ b
unfolding both
both_true a b p = rw p

pub both_false : (a b : Bool) → a ≡ false → both a b ≡ false
unfolding both
both_false a b p = rw p

pub both_end : (a : Bool) → both a true ≡ a
unfolding both
both_end true = refl
both_end false = refl

pub both-no : (a : Bool) → both a false ≡ false
unfolding both
both-no true = refl
both-no false = refl

pub both-assoc : (a b c : Bool) → both (both a b) c ≡ both a (both b c)
unfolding both
both-assoc true b c = refl
both-assoc false b c = refl

-- ---- all

pub all_head : (b : Bool) (bs : List Bool) → all (b ∷ bs) ≡ true → b ≡ true
unfolding all
all_head b bs e = both-1 b (all bs) e

pub all_tail : (b : Bool) (bs : List Bool) → all (b ∷ bs) ≡ true → all bs ≡ true
unfolding all
all_tail b bs e = both-2 b (all bs) e

pub all_nil : all [] ≡ true
unfolding all
all_nil = refl

pub all_one : (b : Bool) → all (b ∷ []) ≡ b
unfolding all
all_one b = both_end b

pub all-intro : (b : Bool) (bs : List Bool) → b ≡ true → all bs ≡ true → all (b ∷ bs) ≡ true
unfolding all
all-intro b bs p q = both-intro b (all bs) p q

pub all_true : (b : Bool) (bs : List Bool) → b ≡ true → all (b ∷ bs) ≡ all bs
unfolding all
all_true b bs p = both_true b (all bs) p

pub all-false : (b : Bool) (bs : List Bool) → b ≡ false → all (b ∷ bs) ≡ false
unfolding all
all-false b bs p = both_false b (all bs) p

-- ---- pick, need, given

pub pick_true {ℓ} : {A : Type ℓ} (b : Bool) (x y : A) → b ≡ true → pick b x y ≡ x
unfolding pick
pick_true b x y p = rw p

pub pick-false {ℓ} : {A : Type ℓ} (b : Bool) (x y : A) → b ≡ false → pick b x y ≡ y
unfolding pick
pick-false b x y p = rw p

pub pick_same : (b : Bool) → pick b true false ≡ b
unfolding pick
pick_same true = refl
pick_same false = refl

pub pick-or : (a b : Bool) → pick a true b ≡ true → (a ≡ true) ⊎ (b ≡ true)
unfolding pick
pick-or true b e = inl refl
pick-or false b e = inr e

pub pick_second : (a b : Bool) → b ≡ true → pick a true b ≡ true
unfolding pick
pick_second true b e = refl
pick_second false b e = e

-- what holds of both answers holds of the one picked
pub pick-either {ℓ κ} : {A : Type ℓ} (P : A → Type κ) (b : Bool) (x y : A) → P x → P y → P (pick b x y)
unfolding pick
pick-either P true x y p q = p
pick-either P false x y p q = q

pub need-true {ℓ} : {A : Type ℓ} (b : Bool) (refusal rest : A) → b ≡ true → need b refusal rest ≡ rest
unfolding need
need-true b refusal rest p = rw p

pub need-false {ℓ} : {A : Type ℓ} (b : Bool) (refusal rest : A) → b ≡ false → need b refusal rest ≡ refusal
unfolding need
need-false b refusal rest p = rw p

pub given-some {ℓ κ} : {A : Type ℓ} {B : Type κ} (o : Option A) (a : A) (refusal : B) (rest : A → B) → o ≡ some a
    → given o refusal rest ≡ rest a
unfolding given
given-some o a refusal rest p = rw p

pub given-none {ℓ κ} : {A : Type ℓ} {B : Type κ} (o : Option A) (refusal : B) (rest : A → B) → o ≡ none → given o refusal rest ≡ refusal
unfolding given
given-none o refusal rest p = rw p

-- ---- when, bind, there

none-some : {A : Type 0} {y : A} → none ≡ some y → true ≡ false
none-some e = cc

pub when-some : {A : Type 0} (b : Bool) (x y : A) → when b x ≡ some y → (b ≡ true) × (x ≡ y)
unfolding when
when-some true x y e = (refl, cc)
when-some false x y e = absurd (false≢true (sym (none-some e)))

pub when_true : {A : Type 0} (b : Bool) (x : A) → b ≡ true → when b x ≡ some x
unfolding when
when_true b x p = rw p

pub when_false : {A : Type 0} (b : Bool) (x : A) → b ≡ false → when b x ≡ none
unfolding when
when_false b x p = rw p

-- the value that a `bind` went on from
pub record Bound {A B : Type 0} (o : Option A) (f : A → Option B) (y : B) : Type 0 where
  pub from : A
  pub was : o ≡ some from
  pub gives : f from ≡ some y

pub bind-some : {A B : Type 0} (o : Option A) (f : A → Option B) (y : B) → bind o f ≡ some y → Bound o f y
unfolding bind
bind-some none f y e = absurd (false≢true (sym (none-some e)))
bind-some (some a) f y e = record { from = a; was = refl; gives = e }

pub bind-intro : {A B : Type 0} (o : Option A) (f : A → Option B) (a : A) → o ≡ some a → bind o f ≡ f a
unfolding bind
bind-intro o f a p = rw p

pub there-some : {A : Type 0} (o : Option A) (a : A) → o ≡ some a → there o ≡ true
unfolding there
there-some o a p = rw p
