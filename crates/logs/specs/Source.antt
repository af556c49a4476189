-- By numbers, where the LO of an LI to come stands and what it carried, and the record that stands at the walk's end: of a step, or of a put
-- or delete. Assumes nothing.
use Rattle.std.specs.Prelude.{ℕ, ◌+◌, List, [], drop, get_or, eqb}
use Rattle.field.specs.Test.{pick}
use Rattle.field.specs.Bytes.{le2, le4}
use Rattle.page.specs.Page.{rows_of}
use Rattle.logs.specs.Record.{Rec, LO, LI, LM, LG, LE, begin, image, length_of}
use Rattle.logs.specs.Plan.{Step, take_out, bring_in, point, close}
use Rattle.logs.specs.Log.{read_image}
use Rattle.logs.specs.Scan.{images_on}
use Rattle.logs.specs.declared.scan.Walk.{Walk}

-- where it stands: it is the record before, or the unit's first, behind LB
unfoldable pub source_at : Walk → (back : ℕ) → ℕ
source_at w back = pick (eqb back 1) w.last (w.begin + length_of begin 0)

-- how many records it carried
unfoldable pub source_rows : Walk → (back : ℕ) → ℕ
source_rows w back = pick (eqb back 1) w.rows w.first

-- those records, read off the log l
unfoldable pub sourced : (l : List ℕ) → Walk → (back : ℕ) → List (List ℕ)
sourced l w back = rows_of 16 (source_rows w back) (drop (source_at w back + 20) l)

-- the record of this step that stands at the walk's end in l
unfoldable pub record_at : (l : List ℕ) → Walk → Step → Rec
record_at l w (take_out org dest) =
    let m : List ℕ = drop w.at l in
    LO org dest (rows_of 16 (le2 m 16) (drop 20 m))
record_at l w (bring_in org dest back) = LI org dest back (sourced l w back)
record_at l w (point base old new other) = let m : List ℕ = drop w.at l in LM base old new (le4 m 20)
record_at l w (close unit) = LE unit []

-- the record of the open put or delete that stands there: an LG, or the LE of the images before it
unfoldable pub saved_at : (l : List ℕ) → Walk → Rec
saved_at l w =
    let m : List ℕ = drop w.at l in
    pick (eqb (get_or m 1 0) image.sign) (LG (read_image m)) (LE w.unit.0 (images_on l w))
