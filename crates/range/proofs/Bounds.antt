-- Records in bounds: none of those below the lower one or above the upper one, all of those between, and of records whose keys rise those up to the
-- upper one. Assumes nothing.
use Prim.Native.Nat.{ℕ, suc, ◌≤◌, ◌<◌}
use native.Mathlib.Omega.{arith}
use mathlib.Core.Path.{◌≡◌, refl, sym, ap, ◌∙◌}
use mathlib.Core.Bool.{Bool, true, false}
use mathlib.Core.List.{List, [], ◌∷◌}
use borrow.Author.Tests.{le-leb, lt-leb}
use Rattle.field.specs.Test.{both}
use Rattle.field.proofs.Test.{both_false, both-intro, pick_true, pick-false}
use Rattle.field.proofs.Part.{split}
use Rattle.page.specs.Page.{key_of}
use Rattle.page.specs.Each.{Each, nil, cons}
use Rattle.tree.specs.Answer.{between}
use Rattle.range.specs.Walked.{up_to}
use Rattle.range.proofs.Rising.{Rising, rising-least}

both-never : (t : Bool) → both t false ≡ false
unfolding both
both-never true = refl
both-never false = refl

module _ (low high : ℕ) (r : List ℕ) (rs : List (List ℕ)) where
  between-under : key_of r < low → between low high (r ∷ rs) ≡ between low high rs
  unfolding between
  between-under h = pick-false _ _ _ (both_false _ _ (lt-leb low (key_of r) h))

  between-here : low ≤ key_of r → key_of r ≤ high → between low high (r ∷ rs) ≡ r ∷ between low high rs
  unfolding between
  between-here h k = pick_true _ _ _ (both-intro _ _ (le-leb low (key_of r) h) (le-leb (key_of r) high k))

  between-over : high < key_of r → between low high (r ∷ rs) ≡ between low high rs
  unfolding between
  between-over h = pick-false _ _ _ (rw (lt-leb (key_of r) high h) (both-never _))

pub between_none : (low high : ℕ) (rs : List (List ℕ)) → Each (λ r. key_of r < low) rs → between low high rs ≡ []
between_none low high [] nil = unfold between in refl
between_none low high (r ∷ rs) (cons h p) = between-under low high r rs h ∙ between_none low high rs p

pub between-all : (low high : ℕ) (rs : List (List ℕ)) → Each (λ r. low ≤ key_of r) rs → Each (λ r. key_of r ≤ high) rs → between low high rs ≡ rs
between-all low high [] nil nil = unfold between in refl
between-all low high (r ∷ rs) (cons h p) (cons k q) = between-here low high r rs h k ∙ ap (λ (x : List (List ℕ)). r ∷ x) (between-all low high rs p q)

between-above : (low high : ℕ) (rs : List (List ℕ)) → Each (λ r. suc high ≤ key_of r) rs → between low high rs ≡ []
between-above low high [] nil = unfold between in refl
between-above low high (r ∷ rs) (cons h p) = between-over low high r rs (omega (arith, h)) ∙ between-above low high rs p

pub up_to-none : (high : ℕ) → up_to high [] ≡ []
unfolding up_to
up_to-none high = refl

module _ (high : ℕ) (r : List ℕ) (rs : List (List ℕ)) where
  pub up_to-here : key_of r ≤ high → up_to high (r ∷ rs) ≡ r ∷ up_to high rs
  unfolding up_to
  up_to-here h = pick_true _ _ _ (le-leb (key_of r) high h)

  pub up_to-stop : high < key_of r → up_to high (r ∷ rs) ≡ []
  unfolding up_to
  up_to-stop h = pick-false _ _ _ (lt-leb (key_of r) high h)

pub up_to-between : (low high top lo : ℕ) (rs : List (List ℕ)) → Rising lo rs → Each (λ r. key_of r ≤ top) rs → up_to high (between low top rs) ≡ between low high rs
up_to-between low high top lo [] a nil = unfold up_to between in refl
up_to-between low high top lo (r ∷ rs) a (cons t p) =
    split (key_of r) low
    (λ h. ap (up_to high) (between-under low top r rs h) ∙ up_to-between low high top (suc (key_of r)) rs a.1 p ∙ sym (between-under low high r rs h))
    (λ h. ap (up_to high) (between-here low top r rs h t)
    ∙ split high (key_of r)
    (λ k. up_to-stop high r (between low top rs) k
    ∙ sym (between-over low high r rs k ∙ between-above low high rs (rising-least (suc high) (suc (key_of r)) rs (omega arith) a.1)))
    (λ k. up_to-here high r (between low top rs) k
    ∙ ap (λ (x : List (List ℕ)). r ∷ x) (up_to-between low high top (suc (key_of r)) rs a.1 p)
    ∙ sym (between-here low high r rs h k)))
