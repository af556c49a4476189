-- Small facts of documents 01 and 02 that the definitions have, by computing: what is expected stands here in figures and bytes. An edit that denies one
-- must be refused, and costs the check of this small crate alone, where the same edit of code costs that of a large one. Assumes nothing.
use Rattle.std.specs.Prelude.{ℕ, Bool, true, false, not, List, [], ◌∷◌, ◌++◌, map, length, eqb}
use Rattle.std.proofs.Math.Option.{Option, some, none}
use Rattle.field.specs.Test.{both, pick, given, there}
use Rattle.field.specs.Bytes.{zeroes, same, le4}
use Rattle.page.specs.Page.{rows_of, joined, is_base, is_leaf}
use Rattle.page.specs.Change.{removed}
use Rattle.page.specs.Pages.{page, pages}
use Rattle.logs.specs.Record.{begin, modify, image, length_of, Begin, Image, LB, LO, LI, LG, LE, encode}
use Rattle.logs.specs.Log.{Open, largest_moved, opened_by, carries_ok, imaged}
use Rattle.logs.specs.Scan.{begun, shut}
use Rattle.logs.specs.Source.{source_at}
use Rattle.tree.specs.Tree.{Leaf}
use Rattle.tree.specs.Answer.{last_not_above, count_written}
use Rattle.tree.specs.Layout.{layout}
use Rattle.unit.specs.Choice.{group}
use Rattle.unit.specs.Next.{targets, change}
use Rattle.saving.specs.Save.{Changed, cannot, sheets, put_sheets, unite}
use Rattle.rows.specs.Rows.{four, two, recs, en, pg, leaf1, empty_page, empties, upper}

-- a base page of one entry, with the entry's second mark byte
unfoldable pub marked : (second : ℕ) → List ℕ
marked b = pg 98 1 0 ((101 ∷ b ∷ four 0) ++ two 8)

-- an entry's mark is tested, not only its key and page
unfoldable pub entry_mark : Bool
entry_mark = both (is_base (marked 110)) (not (is_base (marked 111)))

-- keys ascend strictly: a leaf with two equal keys is none
unfoldable pub keys_strict : Bool
keys_strict = both (is_leaf (pg 108 2 0 (recs (10 ∷ 20 ∷ [])))) (not (is_leaf (pg 108 2 0 (recs (20 ∷ 20 ∷ [])))))

-- a base page of two entries
unfoldable pub two_entries : List ℕ
two_entries = pg 98 2 0 (en 0 8 ++ en 50 9)

-- where an LM has removed the second, zeros stand behind the first
unfoldable pub tail_zero : Bool
tail_zero = given (removed 5 50 9 two_entries) false (λ p. same p (pg 98 1 5 (en 0 8 ++ zeroes 8)))

-- an LM that would leave its page no entry is none
unfoldable pub not_the_only : Bool
not_the_only = eqb (pick (there (removed 5 0 8 (pg 98 1 0 (en 0 8)))) 1 0) 0

-- an LM has 28 bytes
unfoldable pub modify_long : Bool
modify_long = eqb (length_of modify 0) 28

-- three records
unfoldable pub three : List (List ℕ)
three = rows_of 16 3 (recs (10 ∷ 20 ∷ 30 ∷ []))

-- the leftmost entry's key is 0, though the smallest record's is 10
unfoldable pub leftmost_zero : Bool
leftmost_zero = eqb (le4 (page 1 (layout 2 30 three)) 18) 0

-- of three records two are written into room for two
unfoldable pub counts_written : Bool
counts_written = eqb (count_written three (zeroes 47)) 2

-- a compact of pages 8 and 9 into 8
unfoldable pub packs : Begin
packs = record { unit = 1; type = 1; fill = 4; bases = 1 ∷ []; leaves = 8 ∷ 9 ∷ []; dest = 8; saved = [] }

-- LK after a compact is the largest key moved by all its LOs, not by the last: the latest stands first
unfoldable pub largest_of_all : Bool
largest_of_all =
    eqb (largest_moved 0 (LO 10 8 (rows_of 16 1 (recs (20 ∷ []))) ∷ LO 9 8 (rows_of 16 1 (recs (30 ∷ []))) ∷ [])) 30

-- an LE ends its unit, an LI does not
unfoldable pub end_ends : Bool
end_ends =
    let now : Option Open = some (record { start = packs; did = []; todo = [] }) in
    both (there (opened_by (LI 9 8 1 []) now)) (not (there (opened_by (LE 1 []) now)))

-- what a swap's second LI brings in stands behind LB: 44 bytes after 24, where the unit begins
unfoldable pub source_behind : Bool
source_behind = eqb (source_at (begun (shut true 24 1 0 false 0) 0) 3) 68

-- leaf pages 8 and 9 with two records each under base page 1
unfoldable pub leaf_on : (p : ℕ) → Leaf
leaf_on p = record { at = p; base = 1; count = 2; first = p }

-- a group may have as many records as the fill
unfoldable pub group_full : Bool
group_full = eqb (length (group 4 (leaf_on 8) (leaf_on 9 ∷ []))) 2

-- an LO changes its page, an LB changes none
unfoldable pub begin_changes_none : Bool
begin_changes_none = both (eqb (length (targets (LO 9 8 []))) 1) (eqb (length (targets (LB packs))) 0)

-- the last entry that isn't above the key may be equal to it
unfoldable pub equal_passes : Bool
equal_passes = eqb (given (last_not_above 50 none (rows_of 8 2 (en 0 8 ++ en 50 9))) 0 (λ p. p)) 9

-- ---- put and delete

-- a begin record with its record has 60 bytes, an LG 272
unfoldable pub saves_long : Bool
saves_long = both (eqb (length_of begin 1) 60) (eqb (length_of image 1) 272)

-- how many rows each changed page has, or the reply
unfoldable pub counts : Changed → List ℕ
counts (cannot reply) = reply ∷ []
counts (sheets xs) = map (λ x. length x.rows) xs

-- page 8 is full, under base page 1
unfoldable pub full_leaf : List (List ℕ)
full_leaf = pages (upper 1 0 (en 0 8) ++ (pg 108 15 0 (recs (1 ∷ 2 ∷ 3 ∷ 4 ∷ 5 ∷ 6 ∷ 7 ∷ 8 ∷ 9 ∷ 10 ∷ 11 ∷ 12 ∷ 13 ∷ 14 ∷ 15 ∷ [])) ++ empties 55))

-- of 16 records the lower 8 stay; the base page has two entries then
unfoldable pub splits_even : Bool
splits_even = same (counts (put_sheets (recs (16 ∷ [])) full_leaf)) (2 ∷ 8 ∷ 8 ∷ [])

-- the first entry's range joins the right, whose key becomes the first's; another's joins the left, whose key stays
unfoldable pub joins_both : Bool
joins_both =
    both (same (joined (unite 10 (rows_of 8 2 (en 0 8 ++ en 50 9)))) (en 0 9)) (same (joined (unite 50 (rows_of 8 2 (en 0 8 ++ en 50 9)))) (en 0 8))

-- page 8 with one record, as an image that bears this number
unfoldable pub image_with : (number : ℕ) → Image
image_with n = record { at = 8; bytes = leaf1 n 20 }

-- an LE with the number 5 changes a page whose number is lower, and no other; an LG changes none
unfoldable pub only_lower : Bool
only_lower =
    both (given (change 5 (LE 1 (image_with 5 ∷ [])) 8 (empty_page 4)) false (λ p. same p (leaf1 5 20)))
    (both (given (change 5 (LE 1 (image_with 5 ∷ [])) 8 (empty_page 5)) false (λ p. same p (empty_page 5))) (eqb (length (targets (LG (image_with 5)))) 0))

-- images bear LE's number, or the log's form is broken
unfoldable pub images_bear : Bool
images_bear =
    both (there (imaged 1 (image_with 5 ∷ []) (encode 5 (LE 1 [])))) (not (there (imaged 1 (image_with 4 ∷ []) (encode 5 (LE 1 [])))))

-- the record of a put may have a value, that of a delete has none
unfoldable pub delete_bare : Bool
delete_bare = both (carries_ok 4 (recs (20 ∷ []) ∷ [])) (not (carries_ok 5 (recs (20 ∷ []) ∷ [])))

unfoldable pub facts : List Bool
facts =
    entry_mark ∷ keys_strict ∷ tail_zero ∷ not_the_only ∷ modify_long ∷ leftmost_zero ∷ counts_written ∷ largest_of_all ∷ end_ends ∷ source_behind ∷ group_full
    ∷ begin_changes_none ∷ equal_passes ∷ saves_long ∷ splits_even ∷ joins_both ∷ only_lower ∷ images_bear ∷ delete_bare ∷ []
