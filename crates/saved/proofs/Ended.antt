-- The LE of a put or a delete lays the unit's images in place. Assumes nothing.
use Prim.Native.Nat.{ℕ}
use mathlib.Core.Path.{◌≡◌, refl, sym, ap, ◌∙◌}
use mathlib.Core.Logic.{◌≢◌, ⊎_elim}
use mathlib.Core.Bool.{true}
use mathlib.Core.List.{List, [], ◌∷◌, map}
use mathlib.Core.Option.{some}
use borrow.Author.Tests.{eq-eqb, ne_eqb, lt-leb}
use lib.Dec.{eqb, leb}
use Rattle.field.proofs.Test.{pick_true, pick-false}
use Rattle.page.specs.Page.{number}
use Rattle.page.specs.Pages.{page}
use Rattle.logs.specs.Log.{listed}
use Rattle.logs.specs.Record.{LE}
use Rattle.unit.specs.Next.{image_at, targets, change, apply}
use Rattle.unit.specs.Next as Next
use Rattle.saving.specs.Rest.{image_of}
use Rattle.unit.proofs.Pagewise.{listed-none, once-small}
use Rattle.unit.specs.Next.{changed_at}
use Rattle.saving.specs.Save.{Sheet, drawn}
use Rattle.tidy.proofs.Trail.{eq?}
use Rattle.saved.specs.Saved.{laid, EachStands}
use Rattle.saved.specs.Units.{SaveEnds}
use Rattle.saved.proofs.Changed.{places_of, rising-once, changed-laid}

-- the pages of the images
places-images : (n : ℕ) (xs : List Sheet) → Next.places_of (map (image_of n) xs) ≡ places_of xs
unfolding Next.places_of image_of
places-images n [] = refl
places-images n (x ∷ xs) = ap (λ (l : List ℕ). x.at ∷ l) (places-images n xs)

-- the image of a page is what stands there
image-stands : (n : ℕ) (v : List ℕ) (xs : List Sheet) (p : ℕ) (pg : List ℕ) → EachStands n v xs → listed p (places_of xs) ≡ true
    → image_at p (map (image_of n) xs) pg ≡ page p v
unfolding image_at image_of listed
image-stands n v [] p pg s i = absurd (listed-none p i)
image-stands n v (x ∷ xs) p pg s i =
    ⊎_elim
    (λ (e : x.at ≡ p). pick_true (eqb x.at p) (drawn n x) (image_at p (map (image_of n) xs) pg) (eq-eqb x.at p e)
    ∙ sym s.0
    ∙ ap (λ (q : ℕ). page q v) e)
    (λ (d : x.at ≢ p). pick-false (eqb x.at p) (drawn n x) (image_at p (map (image_of n) xs) pg) (ne_eqb x.at p d)
    ∙ image-stands n v xs p pg s.1 (sym (pick-false (eqb p x.at) true (listed p (places_of xs)) (ne_eqb p x.at (λ c. d (sym c)))) ∙ i))
    (eq? x.at p)

pub save-ends : SaveEnds
unfolding apply targets change
save-ends unit n xs w rs whole low s =
    ap (λ (ps : List ℕ). changed_at ps (change n (LE unit (map (image_of n) xs))) w) (places-images n xs)
    ∙ changed-laid n xs w rs whole s (change n (LE unit (map (image_of n) xs)))
    (λ p i. ap some
    (pick-false (leb n (number (page p w))) (page p w) (image_at p (map (image_of n) xs) (page p w))
    (lt-leb n (number (page p w)) (low p (once-small (places_of xs) p (rising-once 0 xs s.rising) i)))
    ∙ image-stands n (laid n xs w) xs p (page p w) s.stand i))
