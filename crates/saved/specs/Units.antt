-- Document 02, no. 1, for the unit of a put or a delete: what its LE does to the pages, that it may be worked out anew after each of its LGs, and
-- that its records may stand in the log. Assumes nothing.
use Rattle.std.specs.Prelude.{ℕ, ◌+◌, ◌≤◌, ◌<◌, ◌≡◌, true, List, [], ◌∷◌, ◌++◌, map, length}
use Rattle.std.proofs.Math.Option.{some}
use Rattle.field.specs.Bytes.{most4}
use Rattle.page.specs.Page.{number}
use Rattle.page.specs.Pages.{page, pages}
use Rattle.logs.specs.Record.{Begin, Image, Rec, LG, LE}
use Rattle.logs.specs.Log.{images_of, all_bear}
use Rattle.logs.specs.Valid.{Logs}
use Rattle.unit.specs.Next.{apply}
use Rattle.saving.specs.Rest.{image_of, sheets_of, lacks, logging, rest_of}
use Rattle.saving.specs.Save.{Sheet, sheets}
use Rattle.tidy.specs.Tidy.{Tidy}
use Rattle.saved.specs.Saved.{laid, Saves}

-- ---- its LE

-- every page bears a lower number
abbrev pub Lower : (n : ℕ) (w : List ℕ) → Type 0
Lower n w = (p : ℕ) → p < 64 → number (page p w) < n

-- the LE lays its images in place
abbrev pub SaveEnds : Type 0
SaveEnds =
    (unit n : ℕ) (xs : List Sheet) (w : List ℕ) (rs : List (List ℕ)) → length w ≡ 16384 → Lower n w → Saves n xs w rs
    → apply n (LE unit (map (image_of n) xs)) w ≡ some (laid n xs w)

-- ---- the unit worked out anew at each step

-- a unit whose LB has the number n and whose pages are xs: after any first images of it, were they logged, it lacks the LGs of the others and the
-- LE; all bear the number of that LE
pub record Resumes (g : Begin) (n : ℕ) (w : List ℕ) (xs : List Sheet) : Type 0 where
  pub images : List Image
  pub are : images ≡ map (image_of (n + length xs + 1)) xs
  pub rest : (did : List Rec) (is ks : List Image) → images_of did [] ≡ is → images ≡ is ++ ks
      → rest_of g n did w ≡ lacks (logging ks ++ (LE g.unit images ∷ []))

abbrev pub SaveResumes : Type 0
SaveResumes =
    (g : Begin) (n : ℕ) (w : List ℕ) (xs : List Sheet) → Tidy w → sheets_of g (pages w) ≡ sheets xs → n + length xs + 1 ≤ most4 → Resumes g n w xs

-- ---- its records in the log

-- each may stand where it comes
pub record Enters (unit n : ℕ) (images : List Image) : Type 0 where
  pub image : (is : List Image) (k : Image) (ks : List Image) → images ≡ is ++ k ∷ ks → Logs unit is (LG k)
  pub end : Logs unit images (LE unit images)
  pub bears : all_bear n images ≡ true

abbrev pub SaveEnters : Type 0
SaveEnters =
    (unit n : ℕ) (xs : List Sheet) (w : List ℕ) (rs : List (List ℕ)) → n ≤ most4 → Saves n xs w rs → Enters unit n (map (image_of n) xs)
