-- Document 02, no. 1: the records that an open put or delete still lacks, worked out anew from all pages. Assumes nothing.
use Rattle.std.specs.Prelude.{ℕ, ◌+◌, Bool, true, false, List, [], ◌∷◌, ◌++◌, map, eqb, length, drop, get_or}
use Rattle.field.specs.Test.{all, pick, need}
use Rattle.field.specs.Bytes.{same}
use Rattle.page.specs.Page.{key_of, number}
use Rattle.page.specs.Pages.{pages, all_formed}
use Rattle.tree.specs.Tree.{well_formed}
use Rattle.saving.specs.Save.{Sheet, drawn, Changed, cannot, sheets, put_sheets, delete_sheets}
use Rattle.logs.specs.Record.{Begin, Image, Rec, LG, LE}
use Rattle.logs.specs.Log.{images_of}

-- the image of a sheet, with this log number
unfoldable pub image_of : (n : ℕ) → Sheet → Image
image_of n x = record { at = x.at; bytes = drawn n x }

-- what the begin record's put or delete changes
unfoldable pub sheets_of : Begin → (ps : List (List ℕ)) → Changed
sheets_of g ps = let r : List ℕ = get_or g.saved 0 [] in pick (eqb g.type 4) (put_sheets r ps) (delete_sheets (key_of r) ps)

-- the records that an open unit lacks, or the reply that refuses them
pub data Rest : Type 0 where
  refuses : (reply : ℕ) → Rest
  lacks : (rs : List Rec) → Rest

-- the images that are logged are the first of those worked out, which bear the number n
unfoldable pub begins : (n : ℕ) → (logged worked : List Image) → Bool
begins n [] js = true
begins n (i ∷ is) [] = false
begins n (i ∷ is) (j ∷ js) =
    let rest = begins n is js in
    all (eqb i.at j.at ∷ same i.bytes j.bytes ∷ eqb (number i.bytes) n ∷ rest ∷ [])

-- LGs of these images
unfoldable pub logging : List Image → List Rec
logging [] = []
logging (i ∷ is) = LG i ∷ logging is

-- "followed by one whole-page record .. per changed page in number order .. and LE": the images is are logged, LE's number will be n
unfoldable pub imaging : (unit n : ℕ) (is js : List Image) → Rest
imaging u n is js = need (begins n is js) (refuses 5) (lacks (logging (drop (length is) js) ++ (LE u js ∷ [])))

-- of the unit that begins with g and whose LB has the number n, these images being logged
unfoldable pub saving : (g : Begin) (n : ℕ) (is : List Image) → Changed → Rest
saving g n is (cannot reply) = refuses reply
saving g n is (sheets xs) = let end : ℕ = n + length xs + 1 in imaging g.unit end is (map (image_of end) xs)

-- "an open unit is worked out anew": tests 3 on all work pages, 8, 18 or 15, and 5 for a logged image that differs; its LB has the number n
unfoldable pub resumed : (g : Begin) (n : ℕ) (is : List Image) → (w : List ℕ) → Rest
resumed g n is w =
    need (all_formed 0 (pages w)) (refuses 3)
    (need (well_formed (pages w)) (refuses 8)
    (saving g n is (sheets_of g (pages w))))

-- the same, given the unit's records since its LB, the latest first
abbrev pub rest_of : (g : Begin) (n : ℕ) (did : List Rec) → (w : List ℕ) → Rest
rest_of g n did w = resumed g n (images_of did []) w
