-- Document 02, no. 1, for the tree: what the pages that a put or a delete changes must be, laid in place over those of a well-formed tree. Then
-- the tree is well formed again, with the record at its key or without the key; the changed pages are in form and stand in number order, the
-- key's leaf among them; every other page is as it was. Assumes nothing.
use Rattle.std.specs.Prelude.{ℕ, ◌+◌, ◌≤◌, ◌<◌, ◌≡◌, ◌⊎◌, ◌≢◌, true, List, [], ◌∷◌, length, get_or}
use Rattle.field.specs.Bytes.{Bytes, most4}
use Rattle.page.specs.Page.{Kind, leaf, last_leaf, key_of, formed}
use Rattle.page.specs.Pages.{page, put_page, pages}
use Rattle.tree.specs.Tree.{all_records, root_entries}
use Rattle.saving.specs.Save.{Sheet, drawn, sheets, with_record, without_key, leaf_for, put_sheets, delete_sheets}
use Rattle.tidy.specs.Tidy.{Tidy}

-- ---- pages laid in place

-- the sheets over the pages w, with the log number n
unfoldable pub laid : (n : ℕ) → List Sheet → (w : List ℕ) → List ℕ
laid n [] w = w
laid n (x ∷ xs) w = put_page x.at (drawn n x) (laid n xs w)

-- in number order, from page p on
abbrev pub Rising : (p : ℕ) → List Sheet → Type 0
Rising p [] = Unit {0}
Rising p (x ∷ xs) = (p ≤ x.at) × (x.at ≤ last_leaf) × Rising (x.at + 1) xs

-- each is in the form of its page
abbrev pub EachFormed : (n : ℕ) → List Sheet → Type 0
EachFormed n [] = Unit {0}
EachFormed n (x ∷ xs) = (formed x.at (drawn n x) ≡ true) × EachFormed n xs

-- each stands in its place in v
abbrev pub EachStands : (n : ℕ) (v : List ℕ) → List Sheet → Type 0
EachStands n v [] = Unit {0}
EachStands n v (x ∷ xs) = (page x.at v ≡ drawn n x) × EachStands n v xs

-- page p is none of theirs
abbrev pub Spares : (p : ℕ) → List Sheet → Type 0
Spares p [] = Unit {0}
Spares p (x ∷ xs) = (x.at ≢ p) × Spares p xs

-- one of them is for page p
abbrev pub Among : (p : ℕ) → List Sheet → Type 0
Among p [] = ⊥
Among p (x ∷ xs) = (x.at ≡ p) ⊎ Among p xs

-- the sheets xs, laid over the pages w, leave a well-formed tree of the records rs
pub record Saves (n : ℕ) (xs : List Sheet) (w : List ℕ) (rs : List (List ℕ)) : Type 0 where
  pub tidy : Tidy (laid n xs w)
  pub records : all_records (pages (laid n xs w)) ≡ rs
  pub some-page : 1 ≤ length xs
  pub rising : Rising 0 xs
  pub form : EachFormed n xs
  pub stand : EachStands n (laid n xs w) xs
  pub others : (p : ℕ) → p < 64 → Spares p xs → page p (laid n xs w) ≡ page p w

-- ---- put and delete

-- sz bytes that bear the mark a b
pub record Row (sz a b : ℕ) (r : List ℕ) : Type 0 where
  pub long : length r ≡ sz
  pub one : get_or r 0 0 ≡ a
  pub two : get_or r 1 0 ≡ b
  pub bytes : Bytes r

-- a row of pages of this kind
abbrev pub RowOf : Kind → List ℕ → Type 0
RowOf k r = Row k.size k.first k.second r

-- THE TREE HALF OF A PUT that is not refused
abbrev pub PutSaves : Type 0
PutSaves =
    (w : List ℕ) → Tidy w → (r : List ℕ) → RowOf leaf r → (n : ℕ) → n ≤ most4 → (xs : List Sheet) → put_sheets r (pages w) ≡ sheets xs
    → Saves n xs w (with_record r (all_records (pages w)))

-- THE TREE HALF OF A DELETE that is not refused
abbrev pub DeleteSaves : Type 0
DeleteSaves =
    (w : List ℕ) → Tidy w → (key n : ℕ) → n ≤ most4 → (xs : List Sheet) → delete_sheets key (pages w) ≡ sheets xs
    → Saves n xs w (without_key key (all_records (pages w)))

-- "the key's leaf always", where the tree has records
abbrev pub PutHolds : Type 0
PutHolds =
    (r : List ℕ) (ps : List (List ℕ)) (xs : List Sheet) → 1 ≤ length (root_entries ps) → put_sheets r ps ≡ sheets xs → Among (leaf_for (key_of r) ps) xs

abbrev pub DeleteHolds : Type 0
DeleteHolds = (key : ℕ) (ps : List (List ℕ)) (xs : List Sheet) → delete_sheets key ps ≡ sheets xs → Among (leaf_for key ps) xs
