-- The two halves of `shaped`, each tested by a function of its own: a page's header, and its body. Assumes nothing.
use Rattle.std.specs.Prelude.{ℕ, ◌+◌, ◌*◌, Bool, List, [], ◌∷◌, length, drop, get_or, eqb, leb}
use Rattle.field.specs.Test.{both, all}
use Rattle.field.specs.Bytes.{all_zero}
use Rattle.page.specs.Page.{ascend, letter, count, spare, rows}

-- 256 bytes, the mark, from least to most rows, zeros in the spare bytes
unfoldable pub head_shaped : (sign least most : ℕ) → List ℕ → Bool
head_shaped c least most pg =
    all (eqb (length pg) 256 ∷ eqb (get_or pg 0 0) 112 ∷ eqb (letter pg) c ∷ leb least (count pg) ∷ leb (count pg) most ∷ all_zero (spare pg) ∷ [])

-- rows of sz bytes with the mark a b in order, zeros after them
unfoldable pub body_shaped : (sz a b : ℕ) → List ℕ → Bool
body_shaped sz a b pg = both (ascend a b 0 (rows sz pg)) (all_zero (drop (16 + sz * count pg) pg))
