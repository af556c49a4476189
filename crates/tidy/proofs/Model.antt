-- A tree as functions of the page number: what stands on each leaf page, and the entries of each base page as pairs of key and page. One
-- predicate, `Well`, says of both levels what document 01 says of a well-formed tree: `trail` lists the keys of entries and of what
-- is below them in order, and it ascends; a page is pointed to once if it holds something, else never. Assumes nothing.
use Prim.Native.Nat.{ℕ, suc, ◌+◌, ◌*◌, ◌≤◌}
use mathlib.Core.Path.{◌≡◌}
use mathlib.Core.Bool.{Bool, false, cond}
use mathlib.Core.List.{List, [], ◌∷◌, ◌++◌, map}
use mathlib.Core.Option.{Option, none, some}
use lib.Dec.{eqb}
use lib.ListN.{length}
use Rattle.page.specs.Page.{key_of}

-- an entry: its key, and the page that it points to
pub record Entry : Type 0 where
  pub key : ℕ
  pub page : ℕ

-- strictly ascending, from lo on
abbrev pub Ascends : ℕ → List ℕ → Type 0
Ascends lo [] = Unit {0}
Ascends lo (x ∷ xs) = (lo ≤ x) × Ascends (suc x) xs

-- how many entries point to page p
abbrev pub pointers : ℕ → List Entry → ℕ
pointers p [] = 0
pointers p (e ∷ es) = cond (eqb e.page p) 1 0 + pointers p es

-- 1 for a page that holds something, 0 for an empty one
abbrev pub full : {A : Type 0} → List A → ℕ
full [] = 0
full (x ∷ xs) = 1

module _ {Item : Type 0} (key : Item → ℕ) where
  -- the keys of a page's items, each doubled and one more; an entry's key is doubled alone. So an item may have its entry's key, and must
  -- be below the next entry's
  abbrev pub marks : List Item → List ℕ
  marks is = map (λ i. 2 * key i + 1) is

  -- the keys of entries, each with the marks of its page behind it
  abbrev pub trail : (ℕ → List Item) → List Entry → List ℕ
  trail f [] = []
  trail f (e ∷ es) = 2 * e.key ∷ (marks (f e.page) ++ trail f es)

  -- the trail ascends, and a page is pointed to once if it holds something, else never
  pub record Well (f : ℕ → List Item) (es : List Entry) : Type 0 where
    pub ascends : Ascends 0 (trail f es)
    pub pointed : (p : ℕ) → pointers p es ≡ full (f p)

-- what stands below entries, in order
abbrev pub beneath : {Item : Type 0} → (ℕ → List Item) → List Entry → List Item
beneath f [] = []
beneath f (e ∷ es) = f e.page ++ beneath f es

-- ---- the changes

-- f with another value at p
abbrev pub upd : {A : Type 0} → (ℕ → A) → ℕ → A → ℕ → A
upd f p a q = cond (eqb q p) a (f q)

-- what an LM makes of an entry: the one with its old key and page gets the new page
abbrev pub redirect : (k old new : ℕ) → Entry → Entry
redirect k old new e = record { key = e.key; page = cond (eqb e.key k) (cond (eqb e.page old) new e.page) e.page }

-- all entries but the one with this key and page
abbrev pub strip : (k old : ℕ) → List Entry → List Entry
strip k old [] = []
strip k old (e ∷ es) = cond (eqb e.key k) (cond (eqb e.page old) (strip k old es) (e ∷ strip k old es)) (e ∷ strip k old es)

-- is this the key to skip
abbrev pub skips : Option ℕ → ℕ → Bool
skips none k = false
skips (some j) k = eqb k j

-- the key of the lowest entry to the old page, but for the one to skip
abbrev pub lowest : Option ℕ → ℕ → List Entry → Option ℕ
lowest skip old [] = none
lowest skip old (e ∷ es) = cond (eqb e.page old) (cond (skips skip e.key) (lowest skip old es) (some e.key)) (lowest skip old es)

-- pages a and b for one another
abbrev pub exch : ℕ → ℕ → ℕ → ℕ
exch a b p = cond (eqb p a) b (cond (eqb p b) a p)

-- an entry with its page renamed
abbrev pub to : (ℕ → ℕ) → Entry → Entry
to f e = record { key = e.key; page = f e.page }

-- what stands on the pages once b's items are appended to a's
abbrev pub merged : {Item : Type 0} → ℕ → ℕ → (ℕ → List Item) → ℕ → List Item
merged a b f p = cond (eqb p a) (f a ++ f b) (cond (eqb p b) [] (f p))

-- ---- the tree

-- what stands on each page
pub record State : Type 0 where
  pub leaf : ℕ → List (List ℕ)
  pub base : ℕ → List Entry

-- made of its two functions
abbrev pub state : (ℕ → List (List ℕ)) → (ℕ → List Entry) → State
state l b = record { leaf = l; base = b }

-- an entry's key, as a function
abbrev pub entry_key : Entry → ℕ
entry_key e = e.key

-- the first key, 0 where there is none
abbrev pub first : List Entry → ℕ
first [] = 0
first (e ∷ es) = e.key

-- a base page's first key is its root entry's
abbrev pub Heads : (ℕ → List Entry) → List Entry → Type 0
Heads b [] = Unit {0}
Heads b (e ∷ es) = (first (b e.page) ≡ e.key) × Heads b es

-- all entries of base pages
abbrev pub level : List Entry → State → List Entry
level root s = beneath s.base root

-- all records
abbrev pub contents : List Entry → State → List (List ℕ)
contents root s = beneath s.leaf (level root s)

-- well formed: one condition at both levels
pub record Tree (root : List Entry) (s : State) : Type 0 where
  pub zero-first : first root ≡ 0
  pub heads : Heads s.base root
  pub upper : Well entry_key s.base root
  pub lower : Well key_of s.leaf (level root s)

-- the records below entries
abbrev pub weight : (ℕ → List (List ℕ)) → List Entry → ℕ
weight l [] = 0
weight l (e ∷ es) = length (l e.page) + weight l es

-- every entry has the property
abbrev pub All : (Entry → Type 0) → List Entry → Type 0
All P [] = Unit {0}
All P (e ∷ es) = P e × All P es
