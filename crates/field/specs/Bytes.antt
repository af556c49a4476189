-- Bytes in a list: a part, a run written over it, zeros, and document 01's "Numbers are little-endian".
-- A list's elements are numbers; a law that needs them below 256 says so (`Bytes`). Assumes nothing.
use Rattle.std.specs.Prelude.{ℕ, ◌+◌, ◌*◌, ◌/◌, ◌%◌, ◌<◌, Bool, true, false, List, [], ◌∷◌, ◌++◌, length, take, drop, get_or, replicate, eqb}
use Rattle.field.specs.Test.{both}

-- n elements of l from the offset o
unfoldable pub part : (o n : ℕ) → List ℕ → List ℕ
part o n l = take n (drop o l)

-- l with bs written over it from the offset o
unfoldable pub put : (o : ℕ) → (bs l : List ℕ) → List ℕ
put o bs l = take o l ++ (bs ++ drop (o + length bs) l)

-- n zeros
unfoldable pub zeroes : ℕ → List ℕ
zeroes n = replicate n 0

-- every element is zero
unfoldable pub all_zero : List ℕ → Bool
all_zero [] = true
all_zero (x ∷ xs) = let rest = all_zero xs in both (eqb x 0) rest

-- two lists are the same
unfoldable pub same : List ℕ → List ℕ → Bool
same [] [] = true
same [] (y ∷ ys) = false
same (x ∷ xs) [] = false
same (x ∷ xs) (y ∷ ys) = let rest = same xs ys in both (eqb x y) rest

-- l begins with e
unfoldable pub starts : (e l : List ℕ) → Bool
starts e l = same e (take (length e) l)

-- every element is a byte
abbrev pub Bytes : List ℕ → Type 0
Bytes l = (i : ℕ) → get_or l i 0 < 256

-- the number in two bytes at an offset, and in four, the lower first
unfoldable pub le2 : List ℕ → ℕ → ℕ
le2 l i = get_or l i 0 + 256 * get_or l (i + 1) 0

unfoldable pub le4 : List ℕ → ℕ → ℕ
le4 l i = get_or l i 0 + 256 * get_or l (i + 1) 0 + 65536 * get_or l (i + 2) 0 + 16777216 * get_or l (i + 3) 0

-- the bytes of a number
unfoldable pub bytes2 : ℕ → List ℕ
bytes2 v = v % 256 ∷ v / 256 % 256 ∷ []

unfoldable pub bytes4 : ℕ → List ℕ
bytes4 v = v % 256 ∷ v / 256 % 256 ∷ v / 65536 % 256 ∷ v / 16777216 % 256 ∷ []

-- the largest number of four bytes: 4,294,967,295
abbrev pub most4 : ℕ
most4 = 4294967295
