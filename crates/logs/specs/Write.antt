-- The bytes that a record of each kind begins with, and all bytes of an LI, by the numbers that the code has. Assumes nothing.
use Rattle.std.specs.Prelude.{ℕ, ◌-◌, Bool, List, [], ◌∷◌, ◌++◌, length}
use Rattle.std.proofs.Math.Option.{Option, some, none}
use Rattle.field.specs.Test.{pick}
use Rattle.field.specs.Bytes.{bytes2, bytes4}
use Rattle.logs.specs.Record.{Kind, begin, into, image, length_of, Check, Begin, Image, base_places, leaf_places, header, fields}

-- header and unit number: all of an LE, and how an LB begins; the record carries k records
unfoldable pub unit_head : Kind → (k n before unit : ℕ) → List ℕ
unit_head c k n before unit = header c (length_of c k) n before ++ bytes4 unit

-- header, three numbers of two bytes and zero: how an LO, an LI and an LM begin; the record carries k records
unfoldable pub paged : Kind → (k n a b c : ℕ) → List ℕ
paged d k n a b c = header d (length_of d k) n (n - 1) ++ (bytes2 a ++ (bytes2 b ++ (bytes2 c ++ bytes2 0)))

-- an LI of k records
unfoldable pub in_bytes : (n org dest back k : ℕ) → List ℕ
in_bytes n org dest back k = paged into 0 n org dest k ++ bytes4 (n - back)

-- a check record by its numbers
unfoldable pub lk_of : Bool → ℕ → Option ℕ
lk_of there key = pick there (some key) none

unfoldable pub check_of : (n unit : ℕ) → (there : Bool) → (key : ℕ) → Check
check_of n unit there key = record { number = n; unit = unit; lk = lk_of there key }

-- a begin record by its numbers and lists
unfoldable pub begin_of : (unit type fill : ℕ) → (bases leaves : List ℕ) → (dest : ℕ) → (saved : List (List ℕ)) → Begin
begin_of unit type fill bases leaves dest saved =
    record { unit = unit; type = type; fill = fill; bases = bases; leaves = leaves; dest = dest; saved = saved }

-- the begin record of a put (type 4) or delete (type 5) with this record: page fields zero
unfoldable pub save_of : (unit type : ℕ) → (r : List ℕ) → Begin
save_of u t r = begin_of u t 0 [] [] 0 (r ∷ [])

-- an LB that carries k records, without these
unfoldable pub start_of : (k n unit type fill : ℕ) → (bases leaves : List ℕ) → (dest : ℕ) → List ℕ
start_of k n unit type fill bases leaves dest =
    unit_head begin k n 0 unit
    ++ (type ∷ fill ∷ length bases ∷ length leaves ∷ (fields base_places bases ++ (fields leaf_places leaves ++ (bytes2 dest ++ bytes2 0))))

-- the image of page p
abbrev pub image_of : (p : ℕ) → (pg : List ℕ) → Image
image_of p pg = record { at = p; bytes = pg }

-- an LG without its image
unfoldable pub image_head : (n p : ℕ) → List ℕ
image_head n p = header image (length_of image 1) n (n - 1) ++ (bytes2 p ++ bytes2 0)
