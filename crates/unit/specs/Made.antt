-- How the code finds an entry, and what it leaves of the pages: the answer of a change that may be refused, and one page of several that are
-- changed. Assumes nothing.
use Rattle.std.specs.Prelude.{ℕ, suc, ◌≡◌, Bool, List, [], ◌∷◌, leb}
use Rattle.std.proofs.Math.Option.{Option, some, none}
use Rattle.field.specs.Test.{pick, given, there}
use Rattle.page.specs.Page.{number}
use Rattle.page.specs.Change.{is_entry}
use Rattle.page.specs.Pages.{page, put_page}
use Rattle.logs.specs.Record.{Image}
use Rattle.logs.specs.Log.{listed}
use Rattle.unit.specs.declared.entry.Lowest.{Lowest}
use Rattle.unit.specs.declared.entry.Lowest.TheVariants.{Nothing, Key}

-- the key of the lowest entry, if there is one
unfoldable pub key_in : Lowest → Option ℕ
key_in Nothing = none
key_in (Key k) = some k

-- the place of the entry with this key to this page, the number of entries where there is none
unfoldable pub place_of : (key p : ℕ) → (es : List (List ℕ)) → ℕ
place_of key p [] = 0
place_of key p (e ∷ es) = let rest = place_of key p es in pick (is_entry key p e) 0 (suc rest)

-- r says whether there is an o, and v is it; where there is none, v is what was
pub record Did (o : Option (List ℕ)) (w : List ℕ) (r : Bool) (v : List ℕ) : Type 0 where
  pub said : r ≡ there o
  pub left : v ≡ given o w (λ x. x)

-- what becomes of page p where the pages ps are changed: what f makes of it where it is one of them, else it stays
unfoldable pub at_page : (ps : List ℕ) → (f : (p : ℕ) → List ℕ → Option (List ℕ)) → (p : ℕ) → List ℕ → Option (List ℕ)
at_page ps f p pg = pick (listed p ps) (f p pg) (some pg)

-- images laid over the pages w one after the other by an LE numbered n: each over its page where that one's number is lower
unfoldable pub ended : (n : ℕ) → List Image → (w : List ℕ) → List ℕ
ended n [] w = w
ended n (i ∷ is) w = ended n is (put_page i.at (pick (leb n (number (page i.at w))) (page i.at w) i.bytes) w)
