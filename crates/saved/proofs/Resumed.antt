-- A put or a delete that was begun is worked out anew at each step, and finds its own images logged. Assumes nothing.
use Prim.Native.Nat.{ℕ, ◌+◌, ◌≤◌}
use native.Mathlib.Omega.{arith}
use mathlib.Core.Path.{◌≡◌, refl, sym, ap, ap₂, ◌∙◌}
use mathlib.Core.Bool.{true}
use mathlib.Core.List.{List, [], ◌∷◌, ◌++◌, map}
use borrow.Author.Tests.{eq-eqb}
use lib.ListN.{length, drop}
use lib.Seq.{drop_at}
use Rattle.field.specs.Bytes.{most4}
use Rattle.field.proofs.Test.{all-intro, all_nil, need-true}
use Rattle.field.proofs.Same.{same_refl}
use Rattle.page.specs.Page.{number}
use Rattle.page.specs.Pages.{pages}
use Rattle.page.proofs.Made.{number-made}
use Rattle.logs.specs.Record.{Begin, Image, Rec, LE}
use Rattle.logs.specs.Log.{images_of}
use Rattle.saving.specs.Rest.{image_of, sheets_of, refuses, lacks, begins, logging, imaging, saving, resumed, rest_of}
use Rattle.saving.specs.Save.{Sheet, drawn, Changed}
use Rattle.tidy.specs.Tidy.{Tidy}
use Rattle.saved.specs.Units.{SaveResumes}

-- every image bears the number
abbrev Bear : ℕ → List Image → Type 0
Bear n [] = Unit {0}
Bear n (i ∷ is) = (number i.bytes ≡ n) × Bear n is

bear-made : (n : ℕ) (xs : List Sheet) → n ≤ most4 → Bear n (map (image_of n) xs)
unfolding image_of drawn
bear-made n [] h = tt
bear-made n (x ∷ xs) h = (number-made x.sign n x.spare x.rows (omega arith), bear-made n xs h)

bear-front : (n : ℕ) (is ks : List Image) → Bear n (is ++ ks) → Bear n is
bear-front n [] ks b = tt
bear-front n (i ∷ is) ks b = (b.0, bear-front n is ks b.1)

-- the images that are logged are the first of those worked out
begins-with : (n : ℕ) (is ks : List Image) → Bear n is → begins n is (is ++ ks) ≡ true
unfolding begins
begins-with n [] ks b = refl
begins-with n (i ∷ is) ks b =
    all-intro _ _ (eq-eqb i.at i.at refl)
    (all-intro _ _ (same_refl i.bytes)
    (all-intro _ _ (eq-eqb (number i.bytes) n b.0)
    (all-intro _ _ (begins-with n is ks b.1) all_nil)))

imaging-on : (u n : ℕ) (is ks : List Image) → Bear n is → imaging u n is (is ++ ks) ≡ lacks (logging ks ++ (LE u (is ++ ks) ∷ []))
unfolding imaging
imaging-on u n is ks b =
    need-true (begins n is (is ++ ks)) (refuses 5) (lacks (logging (drop (length is) (is ++ ks)) ++ (LE u (is ++ ks) ∷ []))) (begins-with n is ks b)
    ∙ ap (λ (l : List Image). lacks (logging l ++ (LE u (is ++ ks) ∷ []))) (drop_at is ks (length is) refl)

-- tests 3 on all pages and 8 pass on tidy pages
rest-is : (g : Begin) (n : ℕ) (did : List Rec) (w : List ℕ) → Tidy w → rest_of g n did w ≡ saving g n (images_of did []) (sheets_of g (pages w))
unfolding resumed
rest-is g n did w t = rw (need-true _ (refuses 3) _ t.form, need-true _ (refuses 8) _ t.tree)

pub save-resumes : SaveResumes
unfolding saving
save-resumes g n w xs tidy c h =
    record {
      images = map (image_of (n + length xs + 1)) xs;
      are = refl;
      rest = λ did is ks e f.
          rest-is g n did w tidy
          ∙ ap₂ (λ (l : List Image) (s : Changed). saving g n l s) e c
          ∙ ap (λ (js : List Image). imaging g.unit (n + length xs + 1) is js) f
          ∙ imaging-on g.unit (n + length xs + 1) is ks (bear-front (n + length xs + 1) is ks (bear-all f))
          ∙ ap (λ (js : List Image). lacks (logging ks ++ (LE g.unit js ∷ []))) (sym f);
    }
  where
    bear-all : {js : List Image} → map (image_of (n + length xs + 1)) xs ≡ js → Bear (n + length xs + 1) js
    bear-all f = rw f at (bear-made (n + length xs + 1) xs h)
