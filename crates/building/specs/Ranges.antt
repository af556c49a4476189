-- Build's test 12 on numbers. Assumes nothing.
use Rattle.std.specs.Prelude.{ℕ, ◌%◌, Bool, [], ◌∷◌, eqb, leb}
use Rattle.field.specs.Test.{all}

-- leaf fill 1..15, base fill 1..30, the record bytes a multiple of 16
unfoldable pub in_range : (f g long : ℕ) → Bool
in_range f g long = all (leb 1 f ∷ leb f 15 ∷ leb 1 g ∷ leb g 30 ∷ eqb (long % 16) 0 ∷ [])
