-- Document 01, "Choosing a unit", over the 64 pages ps of a well-formed tree. Assumes nothing.
use Rattle.std.specs.Prelude.{ℕ, zero, suc, ◌+◌, Bool, true, List, [], ◌∷◌, length, get_or, eqb, leb, ltb}
use Rattle.std.proofs.Math.Option.{Option, some, none}
use Rattle.field.specs.Test.{both, all, pick}
use Rattle.page.specs.Page.{last_base}
use Rattle.page.specs.Places.{empty_leaf, place}
use Rattle.logs.specs.Record.{Begin}
use Rattle.tree.specs.Tree.{Leaf, leaves_of}

-- ---- compact

-- "with fill F (0 means 12)"
unfoldable pub fill_of : (fill : ℕ) → ℕ
fill_of fill = pick (eqb fill 0) 12 fill

-- "C is a leaf whose smallest key exceeds LK (any leaf if LK is absent)"
unfoldable pub exceeds : (k : ℕ) → (lk : Option ℕ) → Bool
exceeds k none = true
exceeds k (some m) = ltb m k

-- "the next leaves under the same base page while the sum of records is at most F and leaves at most 8": the pages of those that join a group
-- under base page b that has `sum` records; n leaves more are allowed
unfoldable pub joining : (fill b sum n : ℕ) → (next : List Leaf) → List ℕ
joining fill b sum zero ls = []
joining fill b sum (suc n) [] = []
joining fill b sum (suc n) (l ∷ ls) =
    let rest = joining fill b (sum + l.count) n ls in
    pick (both (eqb l.base b) (leb (sum + l.count) fill)) (l.at ∷ rest) []

-- C's group, C always in
unfoldable pub group : (fill : ℕ) → (c : Leaf) → (next : List Leaf) → List ℕ
group fill c next = c.at ∷ joining fill c.base c.count 7 next

-- "the lowest empty page above L and below C's page; otherwise C's own page": pgs are the pages from page p on
unfoldable pub lowest_empty : (low c p : ℕ) → (pgs : List (List ℕ)) → ℕ
lowest_empty low c p [] = c
lowest_empty low c p (pg ∷ pgs) =
    let rest = lowest_empty low c (p + 1) pgs in
    pick (all (ltb low p ∷ ltb p c ∷ empty_leaf p pg ∷ [])) p rest

unfoldable pub compact_of : (unit fill : ℕ) → (c : Leaf) → (leaves : List ℕ) → (dest : ℕ) → Begin
compact_of u fill c leaves dest = record { unit = u; type = 1; fill = fill; bases = c.base ∷ []; leaves = leaves; dest = dest; saved = [] }

unfoldable pub larger : ℕ → ℕ → ℕ
larger a b = pick (leb a b) b a

-- "Take the first C in key order with a group of two or more." low is L, "the largest page number among all leaves before C, 7 if none"
unfoldable pub choose_compact : (unit fill low : ℕ) (lk : Option ℕ) (ps : List (List ℕ)) → (ls : List Leaf) → Option Begin
choose_compact u fill low lk ps [] = none
choose_compact u fill low lk ps (c ∷ next) =
    let leaves : List ℕ = group fill c next in
    let this : Option Begin = some (compact_of u fill c leaves (lowest_empty low c.at 0 ps)) in
    let later : Option Begin = choose_compact u fill (larger low c.at) lk ps next in
    pick (both (exceeds c.first lk) (leb 2 (length leaves))) this later

unfoldable pub compact_unit : (unit fill : ℕ) (lk : Option ℕ) → (ps : List (List ℕ)) → Option Begin
compact_unit u fill lk ps = choose_compact u (fill_of fill) last_base lk ps (leaves_of ps)

-- ---- order

-- the base page of the leaf on page p
unfoldable pub base_of : (p : ℕ) → List Leaf → ℕ
base_of p [] = 0
base_of p (l ∷ ls) = let rest = base_of p ls in pick (eqb l.at p) l.base rest

-- "base pages likewise, one if equal"
unfoldable pub one_or_two : (a b : ℕ) → List ℕ
one_or_two a b = pick (eqb a b) (a ∷ []) (a ∷ b ∷ [])

unfoldable pub move_of : (unit : ℕ) → (l : Leaf) → (dest : ℕ) → Begin
move_of u l dest = record { unit = u; type = 3; fill = 0; bases = l.base ∷ []; leaves = l.at ∷ []; dest = dest; saved = [] }

-- "swap, listing A, the wanted page, then B, the leaf's page"
unfoldable pub swap_of : (unit : ℕ) → (l : Leaf) → (a base_a : ℕ) → Begin
swap_of u l a base_a = record { unit = u; type = 2; fill = 0; bases = one_or_two base_a l.base; leaves = a ∷ l.at ∷ []; dest = 0; saved = [] }

-- "If its place is empty, move it there; otherwise swap"
unfoldable pub put_in_order : (unit wanted : ℕ) (ps : List (List ℕ)) (ls : List Leaf) → (l : Leaf) → Begin
put_in_order u wanted ps ls l = pick (empty_leaf wanted (get_or ps wanted [])) (move_of u l wanted) (swap_of u l wanted (base_of wanted ls))

-- "Take the first misplaced one": ls are all leaves, rest those from the i-th on
unfoldable pub choose_order : (unit : ℕ) (ps : List (List ℕ)) (ls : List Leaf) (i : ℕ) → (rest : List Leaf) → Option Begin
choose_order u ps ls i [] = none
choose_order u ps ls i (l ∷ rest) =
    let this : Option Begin = some (put_in_order u (place i) ps ls l) in
    let later : Option Begin = choose_order u ps ls (i + 1) rest in
    pick (eqb l.at (place i)) later this

unfoldable pub order_unit : (unit : ℕ) → (ps : List (List ℕ)) → Option Begin
order_unit u ps = let ls : List Leaf = leaves_of ps in choose_order u ps ls 0 ls
