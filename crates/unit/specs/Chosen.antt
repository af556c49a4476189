-- A chosen unit as the code holds it, and the walks over the leaves in key order as the code makes them, by root and base entries.
-- Assumes nothing.
use Rattle.std.specs.Prelude.{ℕ, suc, ◌+◌, ◌-◌, ◌≤◌, ◌<◌, ◌≡◌, Bool, true, false, List, [], ◌∷◌, take, drop, eqb, leb}
use Rattle.std.proofs.Math.Option.{Option, some, none}
use Rattle.field.specs.Test.{pick, when}
use Rattle.field.specs.Bytes.{zeroes}
use Rattle.page.specs.Page.{last_base, to_page, count}
use Rattle.page.specs.Places.{place}
use Rattle.field.specs.declared.PageNo.{PageNo}
use Rattle.logs.specs.Record.{Begin}
use Rattle.tree.specs.Tree.{Leaf, under}
use Rattle.unit.specs.Choice.{larger, put_in_order}
use Rattle.unit.specs.declared.choice.Choice.{Choice}
use Rattle.unit.specs.declared.order.Stray.{Stray}
use Rattle.unit.specs.declared.order.Stray.TheVariants.{Nowhere, At}

-- ---- a unit by value

abbrev pub page_no : ℕ → PageNo
page_no p = record { 0 = p }

-- the begin record of unit u, where a unit was found
unfoldable pub chosen : Choice → (unit : ℕ) → Option Begin
chosen r u =
    when r.found
    (record {
      unit = u;
      type = r.kind;
      fill = r.fill;
      bases = take r.base_count r.bases;
      leaves = take r.leaf_count r.leaves;
      dest = r.dest.0;
      saved = [];
    })

-- r is the unit that f gives, whatever its number; the array places beyond the counts are zero
pub record Picks (r : Choice) (f : ℕ → Option Begin) : Type 0 where
  pub unit : (u : ℕ) → chosen r u ≡ f u
  pub some-bases : r.base_count ≤ 2
  pub spare-bases : drop r.base_count r.bases ≡ zeroes (2 - r.base_count)
  pub some-leaves : r.leaf_count ≤ 8
  pub spare-leaves : drop r.leaf_count r.leaves ≡ zeroes (8 - r.leaf_count)

-- a leaf by its base page and its own: all that an order unit asks of it
abbrev pub leaf_of : (base p : ℕ) → Leaf
leaf_of b p = record { base = b; at = p; count = 0; first = 0 }

-- ---- the first misplaced leaf

-- of the leaves below the entries es of base page b; i is the first one's number in key order
unfoldable pub stray_in : (i b : ℕ) → (es : List (List ℕ)) → Stray
stray_in i b [] = Nowhere
stray_in i b (e ∷ es) = let later = stray_in (i + 1) b es in pick (eqb (to_page e) (place i)) later (At (page_no (place i)) (page_no b) (page_no (to_page e)))

-- of these leaves
unfoldable pub stray : (i : ℕ) → List Leaf → Stray
stray i [] = Nowhere
stray i (l ∷ ls) = let later = stray (i + 1) ls in pick (eqb l.at (place i)) later (At (page_no (place i)) (page_no l.base) (page_no l.at))

-- an entry points to page p
unfoldable pub points_to : (p : ℕ) → (es : List (List ℕ)) → Bool
points_to p [] = false
points_to p (e ∷ es) = let rest = points_to p es in pick (eqb (to_page e) p) true rest

-- the unit that puts a misplaced leaf in order
unfoldable pub in_order : (unit : ℕ) (ps : List (List ℕ)) (ls : List Leaf) → Stray → Option Begin
in_order u ps ls Nowhere = none
in_order u ps ls (At want b p) = some (put_in_order u want.0 ps ls (leaf_of b.0 p.0))

-- ---- a group of leaves under one base page

-- the pages that these entries point to
unfoldable pub to_pages : (es : List (List ℕ)) → List ℕ
to_pages [] = []
to_pages (e ∷ es) = to_page e ∷ to_pages es

-- how many of the leaves below these entries join a group that has `sum` records
unfoldable pub joins : (ps : List (List ℕ)) (fill sum : ℕ) → (es : List (List ℕ)) → ℕ
joins ps fill sum [] = 0
joins ps fill sum (e ∷ es) =
    let rest = joins ps fill (sum + count (under ps e)) es in
    pick (leb (sum + count (under ps e)) fill) (suc rest) 0

-- what may be L: a page, the last base page or a later one
abbrev pub Low : (low : ℕ) → Type 0
Low low = (last_base ≤ low) × (low < 64)

-- the largest of low and the pages that these entries point to
unfoldable pub top_of : (low : ℕ) → (es : List (List ℕ)) → ℕ
top_of low [] = low
top_of low (e ∷ es) = top_of (larger low (to_page e)) es
