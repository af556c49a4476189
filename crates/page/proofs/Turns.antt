-- One turn of a loop over rows that stand in a list, for any row size: the first row's test, then the rows behind it. Assumes nothing.
use Prim.Native.Nat.{ℕ, zero, suc, ◌+◌, ◌-◌, ◌*◌, ◌≤◌, ◌<◌}
use native.Mathlib.Nat.{add-zero, not-suc-le-zero}
use native.Mathlib.Numerals.{sub-one}
use native.Mathlib.Omega.{arith}
use mathlib.Core.Path.{◌≡◌, refl}
use mathlib.Core.List.{List, [], ◌∷◌}
use lib.ListN.{drop, get_or}
use lib.Seq.{drop-drop}
use lib.Dec.{eqb, leb}
use Rattle.field.specs.Test.{both}
use Rattle.field.specs.Bytes.{part, le2, le4}
use Rattle.field.proofs.Part.{get_or-part}
use Rattle.page.specs.Page.{rows_of, ascend, pointing}
use Rattle.page.proofs.Rows.{key_row, page-row}

-- the rows from an offset are the row there, and those from behind it
pub rows_next : (sz n at : ℕ) (l : List ℕ) → 0 < n → rows_of sz n (drop at l) ≡ part at sz l ∷ rows_of sz (n - 1) (drop (at + sz) l)
unfolding rows_of part
rows_next sz zero at l h = absurd (not-suc-le-zero h)
rows_next sz (suc n) at l h = rw (sub-one, drop-drop sz at l)

-- room for the rows behind a row
pub room_next : (sz n at k : ℕ) → 0 < n → at + sz * n ≤ k → at + sz + sz * (n - 1) ≤ k
room_next sz zero at k h r = absurd (not-suc-le-zero h)
room_next sz (suc n) at k h r = rw sub-one (omega arith)

pub ascend-next : (sz a b n lo at : ℕ) (l : List ℕ) → 0 < n → 8 ≤ sz
    → ascend a b lo (rows_of sz n (drop at l))
    ≡ both (eqb (get_or l at 0) a) (both (eqb (get_or l (at + 1) 0) b)
    (both (leb lo (le4 l (at + 2))) (ascend a b (le4 l (at + 2) + 1) (rows_of sz (n - 1) (drop (at + sz) l)))))
unfolding ascend
ascend-next sz a b n lo at l h k =
    rw
    (rows_next sz n at l h, get_or-part at sz l 0 (omega arith), get_or-part at sz l 1 (omega arith), key_row sz at l (omega arith), add-zero at)

pub pointing-next : (from to n at : ℕ) (l : List ℕ) → 0 < n
    → pointing from to (rows_of 8 n (drop at l))
    ≡ both (leb from (le2 l (at + 6))) (both (leb (le2 l (at + 6)) to) (pointing from to (rows_of 8 (n - 1) (drop (at + 8) l))))
unfolding pointing
pointing-next from to n at l h = rw (rows_next 8 n at l h, page-row 8 at l (omega arith))

-- no rows
pub no_rows : (sz n : ℕ) (l : List ℕ) → n ≤ 0 → rows_of sz n l ≡ []
unfolding rows_of
no_rows sz zero l h = refl
no_rows sz (suc n) l h = absurd (not-suc-le-zero h)
