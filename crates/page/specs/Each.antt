-- A property of each row. Assumes nothing.
use Rattle.std.specs.Prelude.{ℕ, ◌≡◌, List, [], ◌∷◌, length}

pub data Each (P : List ℕ → Type 0) : List (List ℕ) → Type 0 where
  nil : Each P []
  cons : {r : List ℕ} {rs : List (List ℕ)} → P r → Each P rs → Each P (r ∷ rs)

-- a row is sz bytes long
abbrev pub Long : ℕ → List ℕ → Type 0
Long sz r = length r ≡ sz
