-- Document 02, no. 1, "Saving and deleting setups": the pages that a put or a delete changes, as they will be, worked out from the 64 pages
-- ps of a well-formed tree. A page is given by its rows; its bytes bear the number that it is told. Assumes nothing.
use Rattle.std.specs.Prelude.{ℕ, ◌+◌, List, [], ◌∷◌, ◌++◌, length, take, drop, get_or, eqb, leb, ltb}
use Rattle.field.specs.Test.{both, pick, need, there}
use Rattle.field.specs.Bytes.{zeroes}
use Rattle.page.specs.Page.{root, base, leaf, empty, first_base, last_base, last_leaf, key_of, to_page, entry, spare, entries, records, made}
use Rattle.tree.specs.Tree.{under, root_entries, lower}
use Rattle.tree.specs.Answer.{record_with}
use Rattle.unit.specs.Choice.{lowest_empty}

-- ---- rows by key

-- the rows whose keys are below this one, and those whose keys are above it
unfoldable pub lesser : (key : ℕ) → List (List ℕ) → List (List ℕ)
lesser key [] = []
lesser key (r ∷ rs) = let rest = lesser key rs in pick (ltb (key_of r) key) (r ∷ rest) rest

unfoldable pub greater : (key : ℕ) → List (List ℕ) → List (List ℕ)
greater key [] = []
greater key (r ∷ rs) = let rest = greater key rs in pick (ltb key (key_of r)) (r ∷ rest) rest

-- "Put replaces or adds a record"
unfoldable pub with_record : (r : List ℕ) → List (List ℕ) → List (List ℕ)
with_record r rs = lesser (key_of r) rs ++ (r ∷ greater (key_of r) rs)

-- "delete removes one"
unfoldable pub without_key : (key : ℕ) → List (List ℕ) → List (List ℕ)
without_key key rs = lesser key rs ++ greater key rs

-- ---- the way down: the entry whose range has the key, those before it and those behind it

unfoldable pub before : (key : ℕ) → (es : List (List ℕ)) → List (List ℕ)
before key [] = []
before key (e ∷ es) = let rest = before key es in pick (lower key es) [] (e ∷ rest)

unfoldable pub through : (key : ℕ) → (es : List (List ℕ)) → List ℕ
through key [] = []
through key (e ∷ es) = let rest = through key es in pick (lower key es) e rest

unfoldable pub behind : (key : ℕ) → (es : List (List ℕ)) → List (List ℕ)
behind key [] = []
behind key (e ∷ es) = let rest = behind key es in pick (lower key es) es rest

-- ---- pages as they will be

-- a page's number, its mark's letter, its spare bytes and its rows
pub record Sheet : Type 0 where
  pub at : ℕ
  pub sign : ℕ
  pub spare : List ℕ
  pub rows : List (List ℕ)

abbrev pub sheet : (at sign : ℕ) (spare : List ℕ) (rows : List (List ℕ)) → Sheet
sheet p c sp rs = record { at = p; sign = c; spare = sp; rows = rs }

-- the page p of ps with other rows; a page that was empty, or that becomes empty
abbrev pub rewritten : (ps : List (List ℕ)) → (p sign : ℕ) (rows : List (List ℕ)) → Sheet
rewritten ps p c rs = sheet p c (spare (get_or ps p [])) rs

abbrev pub anew : (p sign : ℕ) (rows : List (List ℕ)) → Sheet
anew p c rs = sheet p c (zeroes 8) rs

-- its bytes with this log number
unfoldable pub drawn : (n : ℕ) → Sheet → List ℕ
drawn n x = made x.sign n x.spare x.rows

-- "in number order"
unfoldable pub insert : Sheet → List Sheet → List Sheet
insert x [] = x ∷ []
insert x (y ∷ ys) = let rest = insert x ys in pick (ltb x.at y.at) (x ∷ y ∷ ys) (y ∷ rest)

unfoldable pub in_order : List Sheet → List Sheet
in_order [] = []
in_order (x ∷ xs) = insert x (in_order xs)

-- the pages changed, or the reply that refuses the unit
pub data Changed : Type 0 where
  cannot : (reply : ℕ) → Changed
  sheets : (xs : List Sheet) → Changed

-- one past the last leaf page: no page
abbrev pub nowhere : ℕ
nowhere = last_leaf + 1

-- "the lowest empty leaf page"; nowhere if there is none
unfoldable pub free_leaf : (ps : List (List ℕ)) → ℕ
free_leaf ps = lowest_empty last_base nowhere 0 ps

-- ---- put

-- "A first record takes pages 1 and the lowest empty leaf page, keys 0"
unfoldable pub put_first : (r : List ℕ) (ps : List (List ℕ)) → Changed
put_first r ps =
    let p : ℕ = free_leaf ps in
    need (ltb p nowhere) (cannot 18)
    (sheets
    (rewritten ps 0 root.sign (entry 0 first_base ∷ []) ∷ anew first_base base.sign (entry 0 p ∷ []) ∷ anew p leaf.sign (r ∷ []) ∷ []))

-- "A full leaf splits: of 16 records the lower 8 stay, the rest go, under their smallest key, to the lowest empty leaf page": b is the base
-- page and p the leaf, es the entries of b, rs the 16 records
unfoldable pub split_leaf : (key b p : ℕ) (es rs ps : List (List ℕ)) → Changed
split_leaf key b p es rs ps =
    let q : ℕ = free_leaf ps in
    let wider : List (List ℕ) = before key es ++ (through key es ∷ entry (key_of (get_or rs 8 [])) q ∷ behind key es) in
    need (both (leb (length wider) base.most) (ltb q nowhere)) (cannot 18)
    (sheets (in_order (rewritten ps b base.sign wider ∷ rewritten ps p leaf.sign (take 8 rs) ∷ anew q leaf.sign (drop 8 rs) ∷ [])))

-- into the leaf p under the base page b
unfoldable pub put_into : (r : List ℕ) (b p : ℕ) (ps : List (List ℕ)) → Changed
put_into r b p ps =
    let rs : List (List ℕ) = with_record r (records (get_or ps p [])) in
    pick (leb (length rs) leaf.most) (sheets (rewritten ps p leaf.sign rs ∷ [])) (split_leaf (key_of r) b p (entries (get_or ps b [])) rs ps)

-- the base page and the leaf that a key belongs to, where the root has entries
unfoldable pub base_for : (key : ℕ) (ps : List (List ℕ)) → ℕ
base_for key ps = to_page (through key (root_entries ps))

unfoldable pub leaf_for : (key : ℕ) (ps : List (List ℕ)) → ℕ
leaf_for key ps = to_page (through key (entries (get_or ps (base_for key ps) [])))

unfoldable pub put_sheets : (r : List ℕ) → (ps : List (List ℕ)) → Changed
put_sheets r ps =
    pick (eqb (length (root_entries ps)) 0) (put_first r ps) (put_into r (base_for (key_of r) ps) (leaf_for (key_of r) ps) ps)

-- ---- delete

-- entries with the first one's key lowered
unfoldable pub lowered : (key : ℕ) → List (List ℕ) → List (List ℕ)
lowered key [] = []
lowered key (e ∷ es) = entry key (to_page e) ∷ es

-- "its range joins the left neighbour in its base page, else the right": entries without the one whose range has the key
unfoldable pub closed : (pre : List (List ℕ)) (e : List ℕ) (post : List (List ℕ)) → List (List ℕ)
closed [] e post = lowered (key_of e) post
closed (x ∷ pre) e post = (x ∷ pre) ++ post

unfoldable pub unite : (key : ℕ) → (es : List (List ℕ)) → List (List ℕ)
unite key es = closed (before key es) (through key es) (behind key es)

-- "joining the right lowers its keys as a well-formed tree asks": the first base page behind, where nothing stands before
unfoldable pub right_lowered : (pre : List (List ℕ)) (e : List ℕ) (post : List (List ℕ)) (ps : List (List ℕ)) → List Sheet
right_lowered [] e [] ps = []
right_lowered [] e (f ∷ post) ps = rewritten ps (to_page f) base.sign (lowered (key_of e) (entries (under ps f))) ∷ []
right_lowered (x ∷ pre) e post ps = []

-- "An emptied leaf becomes an empty page ..; an emptied base page likewise at the root": the leaf p has lost its only record
unfoldable pub empty_out : (key b p : ℕ) (ps : List (List ℕ)) → Changed
empty_out key b p ps =
    let rest : List (List ℕ) = unite key (entries (get_or ps b [])) in
    let top : List (List ℕ) = root_entries ps in
    pick (leb 1 (length rest)) (sheets (in_order (rewritten ps b base.sign rest ∷ anew p empty.sign [] ∷ [])))
    (sheets (in_order
    (rewritten ps 0 root.sign (unite key top) ∷ anew b empty.sign [] ∷ anew p empty.sign []
    ∷ right_lowered (before key top) (through key top) (behind key top) ps)))

-- out of the leaf p under the base page b
unfoldable pub delete_from : (key b p : ℕ) (ps : List (List ℕ)) → Changed
delete_from key b p ps =
    let rs : List (List ℕ) = records (get_or ps p []) in
    let rest : List (List ℕ) = without_key key rs in
    need (there (record_with key rs)) (cannot 15)
    (pick (leb 1 (length rest)) (sheets (rewritten ps p leaf.sign rest ∷ [])) (empty_out key b p ps))

unfoldable pub delete_sheets : (key : ℕ) → (ps : List (List ℕ)) → Changed
delete_sheets key ps =
    need (leb 1 (length (root_entries ps))) (cannot 15) (delete_from key (base_for key ps) (leaf_for key ps) ps)
