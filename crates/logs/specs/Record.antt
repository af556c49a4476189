-- Document 01, "Log form", with LG and the longer begin record of document 02, no. 1: the record kinds and the bytes of each. A record's
-- log number is no part of it: it is the record's place in the log, and `encode` is told it. Assumes nothing.
use Rattle.std.specs.Prelude.{ℕ, zero, suc, ◌+◌, ◌-◌, ◌*◌, Bool, List, [], ◌∷◌, ◌++◌, length, eqb, leb}
use Rattle.std.proofs.Math.Option.{Option, some, none}
use Rattle.field.specs.Test.{pick}
use Rattle.field.specs.Bytes.{zeroes, bytes2, bytes4}
use Rattle.page.specs.Page.{joined}

-- ---- the table of record kinds: the mark's second letter (the first is always `L`), the fixed length, the bytes of each record or image carried

abbrev pub letter : ℕ
letter = 76

pub record Kind : Type 0 where
  pub sign : ℕ
  pub fixed : ℕ
  pub each : ℕ

abbrev pub kind : (sign fixed each : ℕ) → Kind
kind c n m = record { sign = c; fixed = n; each = m }

abbrev pub check : Kind
check = kind 67 24 0

abbrev pub begin : Kind
begin = kind 66 44 16

abbrev pub out : Kind
out = kind 79 20 16

abbrev pub into : Kind
into = kind 73 24 0

abbrev pub modify : Kind
modify = kind 77 28 0

abbrev pub image : Kind
image = kind 71 16 256

abbrev pub end : Kind
end = kind 69 16 0

-- the whole length of a record of this kind that carries k records
unfoldable pub length_of : Kind → (k : ℕ) → ℕ
length_of c k = c.fixed + c.each * k

-- ---- what the records say

-- the check record: its own log number, the last unit, LK
pub record Check : Type 0 where
  pub number : ℕ
  pub unit : ℕ
  pub lk : Option ℕ

-- a begin record; type 1 compact, 2 swap, 3 move, 4 put, 5 delete; the destination is 0 for a swap. A put or delete lists no page and carries
-- its record, the others carry none
pub record Begin : Type 0 where
  pub unit : ℕ
  pub type : ℕ
  pub fill : ℕ
  pub bases : List ℕ
  pub leaves : List ℕ
  pub dest : ℕ
  pub saved : List (List ℕ)

-- a put or a delete
unfoldable pub saves : Begin → Bool
saves g = leb 4 g.type

-- a whole page as an LG has it: the page's number and its bytes
pub record Image : Type 0 where
  pub at : ℕ
  pub bytes : List ℕ

-- a record after the check record. An LI stands for the records of its LO, which is `back` records before it; an LM whose new page is 0 removes;
-- an LE stands for the images of its unit's LGs, in number order: it is the LE that changes their pages
pub data Rec : Type 0 where
  LB : (g : Begin) → Rec
  LO : (org dest : ℕ) (rs : List (List ℕ)) → Rec
  LI : (org dest back : ℕ) (rs : List (List ℕ)) → Rec
  LM : (base old new key : ℕ) → Rec
  LG : (i : Image) → Rec
  LE : (unit : ℕ) (images : List Image) → Rec

unfoldable pub kind_of : Rec → Kind
kind_of (LB g) = begin
kind_of (LO org dest rs) = out
kind_of (LI org dest back rs) = into
kind_of (LM base old new key) = modify
kind_of (LG i) = image
kind_of (LE unit images) = end

-- the records that an LO or an LB carries, the image of an LG
unfoldable pub carried : Rec → List (List ℕ)
carried (LB g) = g.saved
carried (LO org dest rs) = rs
carried (LI org dest back rs) = []
carried (LM base old new key) = []
carried (LG i) = i.bytes ∷ []
carried (LE unit images) = []

-- the records that an LO takes out of its page
unfoldable pub outs : Rec → List (List ℕ)
outs (LB g) = []
outs (LO org dest rs) = rs
outs (LI org dest back rs) = []
outs (LM base old new key) = []
outs (LG i) = []
outs (LE unit images) = []

unfoldable pub size : Rec → ℕ
size r = length_of (kind_of r) (length (carried r))

-- ---- where the fields of a begin record stand: behind header and unit number, one behind the other

-- so many base pages and leaf pages have a place in it
abbrev pub base_places : ℕ
base_places = 2

abbrev pub leaf_places : ℕ
leaf_places = 8

abbrev pub type_at : ℕ
type_at = 16

abbrev pub fill_at : ℕ
fill_at = type_at + 1

abbrev pub base_count_at : ℕ
base_count_at = fill_at + 1

abbrev pub leaf_count_at : ℕ
leaf_count_at = base_count_at + 1

abbrev pub bases_at : ℕ
bases_at = leaf_count_at + 1

abbrev pub leaves_at : ℕ
leaves_at = bases_at + 2 * base_places

abbrev pub dest_at : ℕ
dest_at = leaves_at + 2 * leaf_places

abbrev pub zero_at : ℕ
zero_at = dest_at + 2

-- ---- the bytes

-- mark (2), whole length (2), log number (4), previous log number (4)
unfoldable pub header : Kind → (long n before : ℕ) → List ℕ
header c long n before = letter ∷ c.sign ∷ (bytes2 long ++ (bytes4 n ++ bytes4 before))

-- n fields of two bytes: the pages listed, then zeros
unfoldable pub fields : (n : ℕ) → List ℕ → List ℕ
fields zero ps = []
fields (suc n) [] = bytes2 0 ++ fields n []
fields (suc n) (p ∷ ps) = bytes2 p ++ fields n ps

-- LK present 1, zero 3, LK 4
unfoldable pub lk_bytes : Option ℕ → List ℕ
lk_bytes none = zeroes 8
lk_bytes (some k) = 1 ∷ 0 ∷ 0 ∷ 0 ∷ bytes4 k

unfoldable pub encode_check : Check → List ℕ
encode_check c = header check (length_of check 0) c.number 0 ++ (bytes4 c.unit ++ lk_bytes c.lk)

-- the new key of an LM: the old one unless it removes
unfoldable pub new_key : (new key : ℕ) → ℕ
new_key new key = pick (eqb new 0) 0 key

-- the body of a record with the log number n
unfoldable pub body : (n : ℕ) → Rec → List ℕ
body n (LB g) =
    bytes4 g.unit ++ (g.type ∷ g.fill ∷ length g.bases ∷ length g.leaves
    ∷ (fields base_places g.bases ++ (fields leaf_places g.leaves ++ (bytes2 g.dest ++ (bytes2 0 ++ joined g.saved)))))
body n (LO org dest rs) = bytes2 org ++ (bytes2 dest ++ (bytes2 (length rs) ++ (bytes2 0 ++ joined rs)))
body n (LI org dest back rs) = bytes2 org ++ (bytes2 dest ++ (bytes2 (length rs) ++ (bytes2 0 ++ bytes4 (n - back))))
body n (LM base old new key) = bytes2 base ++ (bytes2 old ++ (bytes2 new ++ (bytes2 0 ++ (bytes4 key ++ bytes4 (new_key new key)))))
body n (LG i) = bytes2 i.at ++ (bytes2 0 ++ i.bytes)
body n (LE unit images) = bytes4 unit

-- the previous log number: 0 for LB, otherwise one less than its own
unfoldable pub previous : (n : ℕ) → Rec → ℕ
previous n (LB g) = 0
previous n (LO org dest rs) = n - 1
previous n (LI org dest back rs) = n - 1
previous n (LM base old new key) = n - 1
previous n (LG i) = n - 1
previous n (LE unit images) = n - 1

unfoldable pub encode : (n : ℕ) → Rec → List ℕ
encode n r = header (kind_of r) (size r) n (previous n r) ++ body n r

-- the records rs, the first with the log number n
unfoldable pub encode_all : (n : ℕ) → List Rec → List ℕ
encode_all n [] = []
encode_all n (r ∷ rs) = encode n r ++ encode_all (n + 1) rs

-- how long they are together
unfoldable pub sizes : List Rec → ℕ
sizes [] = 0
sizes (r ∷ rs) = size r + sizes rs
