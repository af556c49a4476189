-- The way down to a key as the code finds it: the places of two entries and of a record. Assumes nothing.
use Rattle.std.specs.Prelude.{ℕ, suc, ◌+◌, ◌*◌, ◌≤◌, ◌<◌, ◌≡◌, List, [], ◌∷◌, length, take, drop, ltb}
use Rattle.field.specs.Test.{pick, there}
use Rattle.page.specs.Page.{key_of, count, rows}
use Rattle.page.specs.Pages.{page, pages}
use Rattle.page.specs.Places.{Basic, Leafy}
use Rattle.tree.specs.Answer.{record_with}
use Rattle.saving.specs.Save.{lesser, greater, before, base_for, leaf_for}
use Rattle.saving.specs.declared.route.Route.{Route}

-- how many rows stand before the first whose key is not below this one
unfoldable pub leading : (key : ℕ) → List (List ℕ) → ℕ
leading key [] = 0
leading key (r ∷ rs) = let rest = leading key rs in pick (ltb (key_of r) key) (suc rest) 0

-- rows of sz bytes fit page p, and there is one at least
pub record Rowed (sz : ℕ) (w : List ℕ) (p : ℕ) : Type 0 where
  pub inside : p < 64
  pub fits : 16 + sz * count (page p w) ≤ 256
  pub full : 0 < count (page p w)

-- the records of page p with this key are those from the i-th to before the k-th: one, or none
pub record Stands (w : List ℕ) (p key i k : ℕ) : Type 0 where
  pub low : lesser key (rows 16 (page p w)) ≡ take i (rows 16 (page p w))
  pub high : greater key (rows 16 (page p w)) ≡ drop k (rows 16 (page p w))
  pub found : there (record_with key (rows 16 (page p w))) ≡ ltb i k
  pub order : i ≤ k
  pub lone : k ≤ i + 1
  pub inside : k ≤ count (page p w)

-- the way x leads to its key
pub record Leads (w : List ℕ) (x : Route) : Type 0 where
  pub base-is : x.base.0 ≡ base_for x.key (pages w)
  pub leaf-is : x.leaf.0 ≡ leaf_for x.key (pages w)
  pub basic : Basic x.base.0
  pub leafy : Leafy x.leaf.0
  pub root : Rowed 8 w 0
  pub base : Rowed 8 w x.base.0
  pub leaf : Rowed 16 w x.leaf.0
  pub over : x.over ≡ length (before x.key (rows 8 (page 0 w)))
  pub under : x.under ≡ length (before x.key (rows 8 (page x.base.0 w)))
  pub stands : Stands w x.leaf.0 x.key x.at x.past
