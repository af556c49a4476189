-- What an open put or delete lacks, as the code finds it: the pages changed are worked out, then compared with the images that are logged.
-- Assumes nothing.
use Rattle.std.specs.Prelude.{ℕ, ◌+◌, ◌-◌, ◌*◌, ◌≤◌, ◌≡◌, true, List, [], ◌∷◌, ◌++◌, map, length, take, drop, get_or, eqb}
use Rattle.field.specs.Test.{pick, need}
use Rattle.field.specs.Bytes.{part}
use Rattle.page.specs.Page.{key_of}
use Rattle.page.specs.Pages.{pages, all_formed}
use Rattle.logs.specs.Record.{begin, image, end, length_of, type_at, Image, Rec, LE, sizes}
use Rattle.logs.specs.Log.{saves_at}
use Rattle.logs.specs.Valid.{Filed}
use Rattle.logs.specs.Scan.{images_on}
use Rattle.logs.specs.declared.scan.Walk.{Walk}
use Rattle.tree.specs.Tree.{well_formed}
use Rattle.saving.specs.Save.{Sheet, Changed, cannot, sheets, put_sheets, delete_sheets}
use Rattle.saving.specs.Draft.{sheet_of}
use Rattle.saving.specs.Rest.{image_of, Rest, refuses, lacks, begins, logging}
use Rattle.saving.specs.declared.plan.Plan.{Plan}

-- ---- the pages changed

-- tests 3 on all work pages and 8 alone: the reply, 0 where both hold
unfoldable pub readied : (w : List ℕ) → ℕ
readied w = need (all_formed 0 (pages w)) 3 (need (well_formed (pages w)) 8 0)

-- tests 3 on all work pages, 8, 18 or 15: the pages that a put (type 4) or delete with the record r changes
unfoldable pub worked : (type : ℕ) (r w : List ℕ) → Changed
worked t r w =
    need (all_formed 0 (pages w)) (cannot 3)
    (need (well_formed (pages w)) (cannot 8)
    (pick (eqb t 4) (put_sheets r (pages w)) (delete_sheets (key_of r) (pages w))))

-- the same, and 5 where one of the images logged is another; LB has the number n
unfoldable pub compared : (n : ℕ) (is : List Image) → Changed → Changed
compared n is (cannot reply) = cannot reply
compared n is (sheets xs) =
    let last : ℕ = n + length xs + 1 in
    need (begins last is (map (image_of last) xs)) (cannot 5) (sheets xs)

-- the records that are lacked then
unfoldable pub lacking : (unit n : ℕ) (is : List Image) → Changed → Rest
lacking u n is (cannot reply) = refuses reply
lacking u n is (sheets xs) =
    let last : ℕ = n + length xs + 1 in
    lacks (logging (drop (length is) (map (image_of last) xs)) ++ (LE u (map (image_of last) xs) ∷ []))

-- the drafts that a plan lists, as pages
unfoldable pub drafted : (ps : List (List ℕ)) (r : List ℕ) → Plan → List Sheet
drafted ps r x = take x.count (sheet_of ps r x.first ∷ sheet_of ps r x.second ∷ sheet_of ps r x.third ∷ sheet_of ps r x.fourth ∷ [])

-- ---- by the numbers of the walk at the log's end

-- what is known there of an open put or delete: its images stand one behind the other from its begin record to the log's end
pub record Unfinished (l : List ℕ) (w : Walk) : Type 0 where
  pub saves : saves_at (drop w.begin l) ≡ true
  pub inside : w.at ≤ length l
  pub laid : w.at ≡ w.begin + length_of begin 1 + length_of image 1 * w.done
  pub filed : Filed 0 (images_on l w)
  pub counted : w.done ≤ w.number.0

-- its begin record's type, and the record carried
unfoldable pub type_on : (l : List ℕ) → Walk → ℕ
type_on l w = get_or l (w.begin + type_at) 0

unfoldable pub record_on : (l : List ℕ) → Walk → List ℕ
record_on l w = part (w.begin + begin.fixed) begin.each l

-- LB's number, and LE's where so many pages are changed
unfoldable pub first_number : Walk → ℕ
first_number w = w.number.0 - w.done

unfoldable pub last_number : Walk → (many : ℕ) → ℕ
last_number w k = first_number w + k + 1

-- the pages that it changes, or the reply that refuses them, over the work pages v
unfoldable pub lacked : (l : List ℕ) → Walk → (v : List ℕ) → Changed
lacked l w v = compared (first_number w) (images_on l w) (worked (type_on l w) (record_on l w) v)

-- ---- before it begins

-- the records lacked, their bytes and their number
pub record Lacks (rest : Rest) (long many : ℕ) : Type 0 where
  pub recs : List Rec
  pub are : rest ≡ lacks recs
  pub bytes : sizes recs ≡ long
  pub count : length recs ≡ many

-- the reply, 0 where the unit can begin; then it lacks LGs of so many pages and its LE
pub record Needs (rest : Rest) (reply many : ℕ) : Type 0 where
  pub refused : (reply ≡ 0 → ⊥) → rest ≡ refuses reply
  pub lacked : reply ≡ 0 → Lacks rest (length_of image 1 * many + length_of end 0) (many + 1)
