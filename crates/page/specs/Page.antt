-- Document 01, "Page form". A page is 256 bytes. Its rows are runs of its body's bytes, 8 bytes an entry and 16 a record, kept as
-- they stand: a page in form is the page made of its mark, number and rows, so a rule can speak of rows and no byte is lost.
-- Assumes nothing.
use Rattle.std.specs.Prelude.{ℕ, zero, suc, ◌+◌, ◌-◌, ◌*◌, Bool, true, List, [], ◌∷◌, ◌++◌, length, take, drop, get_or, eqb, leb}
use Rattle.field.specs.Test.{both, all, pick}
use Rattle.field.specs.Bytes.{part, zeroes, all_zero, le2, le4, bytes2, bytes4}

-- ---- rows

-- n rows of sz bytes each, from the front of l
unfoldable pub rows_of : (sz n : ℕ) → List ℕ → List (List ℕ)
rows_of sz zero l = []
rows_of sz (suc n) l = take sz l ∷ rows_of sz n (drop sz l)

-- the bytes of rows, one after the other
unfoldable pub joined : List (List ℕ) → List ℕ
joined [] = []
joined (r ∷ rs) = r ++ joined rs

-- a row is its mark (2), then its key (4); an entry then has the page it points to (2), a record its value (10)
unfoldable pub key_of : List ℕ → ℕ
key_of r = le4 r 2

unfoldable pub to_page : List ℕ → ℕ
to_page r = le2 r 6

unfoldable pub value_of : List ℕ → List ℕ
value_of r = part 6 10 r

-- an entry with this key to this page, mark `en`
unfoldable pub entry : (key p : ℕ) → List ℕ
entry key p = 101 ∷ 110 ∷ (bytes4 key ++ bytes2 p)

-- every row bears the mark a b, and the keys ascend strictly, the first being at least lo
unfoldable pub ascend : (a b lo : ℕ) → List (List ℕ) → Bool
ascend a b lo [] = true
ascend a b lo (r ∷ rs) =
    let rest = ascend a b (key_of r + 1) rs in
    both (eqb (get_or r 0 0) a) (both (eqb (get_or r 1 0) b) (both (leb lo (key_of r)) rest))

-- records: mark `rc`
abbrev pub ascend_records : (lo : ℕ) → List (List ℕ) → Bool
ascend_records lo rs = ascend 114 99 lo rs

-- every entry points into from .. to
unfoldable pub pointing : (from to : ℕ) → List (List ℕ) → Bool
pointing from to [] = true
pointing from to (r ∷ rs) =
    let rest = pointing from to rs in
    both (leb from (to_page r)) (both (leb (to_page r) to) rest)

-- ---- what stands in a page: bytes 0-1 mark, 2-3 entries, 4-7 log number of the last change, 8-15 zero, body from 16

-- the mark's second letter; the first is always `p`
unfoldable pub letter : List ℕ → ℕ
letter pg = get_or pg 1 0

unfoldable pub count : List ℕ → ℕ
count pg = le2 pg 2

unfoldable pub number : List ℕ → ℕ
number pg = le4 pg 4

-- the header's bytes that no rule uses yet
unfoldable pub spare : List ℕ → List ℕ
spare pg = part 8 8 pg

unfoldable pub rows : (sz : ℕ) → List ℕ → List (List ℕ)
rows sz pg = rows_of sz (count pg) (drop 16 pg)

abbrev pub entries : List ℕ → List (List ℕ)
entries pg = rows 8 pg

abbrev pub records : List ℕ → List (List ℕ)
records pg = rows 16 pg

-- the page with this letter, number, spare bytes and rows; unused body bytes are zero
unfoldable pub made : (c n : ℕ) → List ℕ → List (List ℕ) → List ℕ
made c n sp rs =
    112 ∷ c ∷ (bytes2 (length rs) ++ (bytes4 n ++ (sp ++ (joined rs ++ zeroes (240 - length (joined rs))))))

-- ---- the kinds of page

-- a kind: its letter, a row's size and mark, and how many rows it has at least and at most
pub record Kind : Type 0 where
  pub sign : ℕ
  pub size : ℕ
  pub first : ℕ
  pub second : ℕ
  pub least : ℕ
  pub most : ℕ

abbrev pub kind : (sign size first second least most : ℕ) → Kind
kind c z a b n m = record { sign = c; size = z; first = a; second = b; least = n; most = m }

-- `pr` and `pb` hold entries `en`, `pl` records `rc`, `pe` nothing
abbrev pub root : Kind
root = kind 114 8 101 110 0 30

abbrev pub base : Kind
base = kind 98 8 101 110 1 30

abbrev pub leaf : Kind
leaf = kind 108 16 114 99 1 15

abbrev pub empty : Kind
empty = kind 101 16 114 99 0 0

-- a page of this kind: its header, its rows' marks and order, zeros after them
unfoldable pub shaped : Kind → List ℕ → Bool
shaped k pg =
    all (eqb (length pg) 256 ∷ eqb (get_or pg 0 0) 112 ∷ eqb (letter pg) k.sign ∷ leb k.least (count pg) ∷ leb (count pg) k.most
    ∷ all_zero (spare pg) ∷ ascend k.first k.second 0 (rows k.size pg) ∷ all_zero (drop (16 + k.size * count pg) pg) ∷ [])

-- ---- where the kinds stand: page 0 is the root, base pages follow it, then leaf pages; and how many there are of each

abbrev pub first_base : ℕ
first_base = 1

abbrev pub last_base : ℕ
last_base = 7

abbrev pub base_pages : ℕ
base_pages = 7

abbrev pub first_leaf : ℕ
first_leaf = 8

abbrev pub last_leaf : ℕ
last_leaf = 63

abbrev pub leaf_pages : ℕ
leaf_pages = 56

-- every entry points to a base page, to a leaf page
abbrev pub to_bases : List (List ℕ) → Bool
to_bases es = pointing first_base last_base es

abbrev pub to_leaves : List (List ℕ) → Bool
to_leaves es = pointing first_leaf last_leaf es

-- ---- a page in form

-- the root points to base pages, a base page to leaf pages
unfoldable pub is_root : List ℕ → Bool
is_root pg = both (shaped root pg) (to_bases (entries pg))

unfoldable pub is_base : List ℕ → Bool
is_base pg = both (shaped base pg) (to_leaves (entries pg))

unfoldable pub is_leaf : List ℕ → Bool
is_leaf pg = shaped leaf pg

unfoldable pub is_empty : List ℕ → Bool
is_empty pg = shaped empty pg

-- page p is in form: of the kind that belongs there, and any but the root may be empty
unfoldable pub formed : (p : ℕ) → List ℕ → Bool
formed p pg = pick (eqb p 0) (is_root pg) (pick (is_empty pg) true (pick (leb p last_base) (is_base pg) (is_leaf pg)))
