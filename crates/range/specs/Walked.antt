-- The records that a range reader gives, step by step, and what is promised of them: they are list's, in order. Assumes nothing.
use Rattle.std.specs.Prelude.{ℕ, zero, suc, ◌≡◌, List, [], ◌∷◌, ◌++◌, take, leb}
use Rattle.field.specs.Test.{pick}
use Rattle.field.specs.Bytes.{Bytes, bytes4, most4}
use Rattle.page.specs.Page.{key_of}
use Rattle.tree.specs.Answer.{in_bounds}
use Rattle.tree.specs.Reader.{Sound}
use Rattle.tree.specs.declared.walk.Place.{Place}
use Rattle.ranging.specs.declared.Step.{Step}
use Rattle.ranging.specs.Reading.{next_from, start_from}

-- the record that a step gives: mark `rc`, key (4), value (10)
unfoldable pub record_of : Step → List ℕ
record_of s = 114 ∷ 99 ∷ (bytes4 s.key ++ s.value)

-- the records that at most n steps give, from a position on, until a step gives none
unfoldable pub walked : (n : ℕ) (w : List ℕ) (at : Place) → List (List ℕ)
walked zero w at = []
walked (suc n) w at =
    let s : Step = next_from w at in
    let rest = walked n w s.next in
    pick s.found (record_of s ∷ rest) []

-- these records up to the first whose key is above high
unfoldable pub up_to : (high : ℕ) → List (List ℕ) → List (List ℕ)
up_to high [] = []
up_to high (r ∷ rs) = let rest = up_to high rs in pick (leb (key_of r) high) (r ∷ rest) []

-- ---- what is promised, of 64 pages of bytes that are in form and a well-formed tree (`Sound`)

-- n steps from a start at low give exactly the first n of list's records from low on
abbrev pub GivesList : Type 0
GivesList = (w : List ℕ) → Sound w → Bytes w → (low n : ℕ) → walked n w (start_from w low).at ≡ take n (in_bounds low most4 w)

-- there are at most 840 records, so that 840 steps give all of them
abbrev pub GivesAll : Type 0
GivesAll = (w : List ℕ) → Sound w → Bytes w → (low : ℕ) → walked 840 w (start_from w low).at ≡ in_bounds low most4 w

-- left off at the first key above high, n steps give exactly the first n of list's records from low to high
abbrev pub GivesRange : Type 0
GivesRange = (w : List ℕ) → Sound w → Bytes w → (low high n : ℕ) → up_to high (walked n w (start_from w low).at) ≡ take n (in_bounds low high w)

-- a reader of pages that are refused gives none
abbrev pub GivesNone : Type 0
GivesNone = (w : List ℕ) (low n : ℕ) → ((start_from w low).reply ≡ 0 → ⊥) → walked n w (start_from w low).at ≡ []
