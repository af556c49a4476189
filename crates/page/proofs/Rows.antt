-- Laws of rows over every row size: taking bytes apart into rows and joining them, one row by its place, and the marks, the order and
-- the pointers of rows that stand one after the other. Assumes nothing.
use Prim.Native.Nat.{ℕ, zero, suc, ◌+◌, ◌*◌, ◌≤◌, ◌<◌}
use native.Mathlib.Nat.{add_comm, zero-add, suc-add, mul-zero, mul-suc, not-suc-le-zero}
use native.Mathlib.Omega.{arith}
use mathlib.Core.Path.{◌≡◌, refl, sym, ap, ◌∙◌}
use mathlib.Core.List.{List, [], ◌∷◌, ◌++◌, append_assoc}
use lib.ListN.{length, take, drop, get_or, length-append, length-drop}
use lib.Seq.{take-add, drop-drop, length-take-le, take_at, drop_at, take-append-le, drop-append-le}
use Rattle.field.specs.Bytes.{part, Bytes, le2, le4}
use Rattle.field.proofs.Part.{part-part, part-drop}
use Rattle.field.proofs.Number.{le2-part, le4-part}
use Rattle.field.proofs.Byte.{bytes-nil, bytes-append, bytes_take, bytes_drop}
use Rattle.page.specs.Each.{Each, nil, cons, Long}
use Rattle.page.specs.Page.{rows_of, joined, key_of, to_page, value_of, count, rows}

-- ---- a property of each row

module _ {P : List ℕ → Type 0} where
  pub each_append : {a b : List (List ℕ)} → Each P a → Each P b → Each P (a ++ b)
  each_append nil q = q
  each_append (cons h p) q = cons h (each_append p q)

  pub each_take : {rs : List (List ℕ)} (n : ℕ) → Each P rs → Each P (take n rs)
  each_take zero p = nil
  each_take (suc n) nil = nil
  each_take (suc n) (cons h p) = cons h (each_take n p)

  pub each-drop : {rs : List (List ℕ)} (n : ℕ) → Each P rs → Each P (drop n rs)
  each-drop zero p = p
  each-drop (suc n) nil = nil
  each-drop (suc n) (cons h p) = each-drop n p

  pub each_at : {rs : List (List ℕ)} (i : ℕ) → Each P rs → i < length rs → P (get_or rs i [])
  each_at i nil h = absurd (not-suc-le-zero h)
  each_at zero (cons p ps) h = p
  each_at (suc i) (cons p ps) h = each_at i ps (omega arith)

  pub each_all : (rs : List (List ℕ)) → ((i : ℕ) → i < length rs → P (get_or rs i [])) → Each P rs
  each_all [] f = nil
  each_all (r ∷ rs) f = cons (f 0 (omega arith)) (each_all rs (λ i h. f (suc i) (omega arith)))

-- ---- rows of bytes, bytes of rows

pub length-rows_of : (sz n : ℕ) (l : List ℕ) → length (rows_of sz n l) ≡ n
unfolding rows_of
length-rows_of sz zero l = refl
length-rows_of sz (suc n) l = ap suc (length-rows_of sz n (drop sz l))

pub joined-rows_of : (sz n : ℕ) (l : List ℕ) → joined (rows_of sz n l) ≡ take (sz * n) l
unfolding rows_of joined
joined-rows_of sz zero l = rw (mul-zero sz)
joined-rows_of sz (suc n) l = rw (mul-suc sz n, add_comm (sz * n) sz, take-add sz (sz * n) l, joined-rows_of sz n (drop sz l))

pub joined-append : (a b : List (List ℕ)) → joined (a ++ b) ≡ joined a ++ joined b
unfolding joined
joined-append [] b = refl
joined-append (r ∷ rs) b = ap (λ (x : List ℕ). r ++ x) (joined-append rs b) ∙ sym (append_assoc r (joined rs) (joined b))

pub length-joined : (sz : ℕ) (rs : List (List ℕ)) → Each (Long sz) rs → length (joined rs) ≡ sz * length rs
unfolding joined
length-joined sz [] nil = sym (mul-zero sz)
length-joined sz (r ∷ rs) (cons h p) =
    rw (length-append r (joined rs), length-joined sz rs p, h, mul-suc sz (length rs)) (add_comm sz (sz * length rs))

-- rows that were joined are found again, whatever follows them
pub rows_of-joined : (sz : ℕ) (rs : List (List ℕ)) (l : List ℕ) → Each (Long sz) rs → rows_of sz (length rs) (joined rs ++ l) ≡ rs
unfolding rows_of joined
rows_of-joined sz [] l nil = refl
rows_of-joined sz (r ∷ rs) l (cons h p) =
    rw (append_assoc r (joined rs) l, take_at r (joined rs ++ l) sz h, drop_at r (joined rs ++ l) sz h, rows_of-joined sz rs l p)

-- n rows and k rows behind them
pub rows_of-add : (sz n k : ℕ) (l : List ℕ) → rows_of sz (n + k) l ≡ rows_of sz n l ++ rows_of sz k (drop (sz * n) l)
unfolding rows_of
rows_of-add sz zero k l = rw (zero-add k, mul-zero sz)
rows_of-add sz (suc n) k l =
    let e : sz + sz * n ≡ sz * suc n = omega (arith, mul-suc sz n) in
    rw (suc-add n k, rows_of-add sz n k (drop sz l), drop-drop (sz * n) sz l, e)

-- the rows of a list are those of its front
pub rows_of-front : (sz n : ℕ) (a l : List ℕ) → sz * n ≤ length a → rows_of sz n (a ++ l) ≡ rows_of sz n a
unfolding rows_of
rows_of-front sz zero a l h = refl
rows_of-front sz (suc n) a l h =
    let e : sz * suc n ≡ sz * n + sz = mul-suc sz n in
    let k : sz * n ≤ length (drop sz a) = simp length-drop (omega arith) in
    rw (take-append-le sz a l (omega arith), drop-append-le sz a l (omega arith), rows_of-front sz n (drop sz a) l k)

pub long-rows_of : (sz n : ℕ) (l : List ℕ) → sz * n ≤ length l → Each (Long sz) (rows_of sz n l)
unfolding rows_of
long-rows_of sz zero l h = nil
long-rows_of sz (suc n) l h =
    let e : sz * suc n ≡ sz * n + sz = mul-suc sz n in
    cons (length-take-le sz l (omega arith)) (long-rows_of sz n (drop sz l) (simp length-drop (omega arith)))

pub bytes-rows_of : (sz n : ℕ) (l : List ℕ) → Bytes l → Each Bytes (rows_of sz n l)
unfolding rows_of
bytes-rows_of sz zero l b = nil
bytes-rows_of sz (suc n) l b = cons (bytes_take sz l b) (bytes-rows_of sz n (drop sz l) (bytes_drop sz l b))

pub bytes-joined : (rs : List (List ℕ)) → Each Bytes rs → Bytes (joined rs)
unfolding joined
bytes-joined [] nil = bytes-nil
bytes-joined (r ∷ rs) (cons b p) = bytes-append r (joined rs) b (bytes-joined rs p)

-- a row by its place
pub get_or-rows_of : (sz n i : ℕ) (l : List ℕ) → i < n → get_or (rows_of sz n l) i [] ≡ part (sz * i) sz l
unfolding rows_of part
get_or-rows_of sz zero i l h = absurd (not-suc-le-zero h)
get_or-rows_of sz (suc n) zero l h = rw (mul-zero sz)
get_or-rows_of sz (suc n) (suc i) l h =
    let e : sz + sz * i ≡ sz * suc i = omega (arith, mul-suc sz i) in
    rw (get_or-rows_of sz n i (drop sz l) (omega arith), drop-drop (sz * i) sz l, e)

-- ---- a row where it stands in its list

pub key_row : (sz at : ℕ) (l : List ℕ) → 6 ≤ sz → key_of (part at sz l) ≡ le4 l (at + 2)
unfolding key_of
key_row sz at l h = le4-part at sz l 2 (omega arith)

pub page-row : (sz at : ℕ) (l : List ℕ) → 8 ≤ sz → to_page (part at sz l) ≡ le2 l (at + 6)
unfolding to_page
page-row sz at l h = le2-part at sz l 6 (omega arith)

pub length-rows : (sz : ℕ) (pg : List ℕ) → length (rows sz pg) ≡ count pg
unfolding rows
length-rows sz pg = length-rows_of sz (count pg) (drop 16 pg)

-- row i of a page, where it stands
pub get_or_rows : (sz i : ℕ) (pg : List ℕ) → i < count pg → get_or (rows sz pg) i [] ≡ part (16 + sz * i) sz pg
unfolding rows
get_or_rows sz i pg h = get_or-rows_of sz (count pg) i (drop 16 pg) h ∙ part-drop 16 (sz * i) sz pg

pub key-at : (sz i : ℕ) (pg : List ℕ) → 6 ≤ sz → i < count pg → le4 pg (16 + sz * i + 2) ≡ key_of (get_or (rows sz pg) i [])
key-at sz i pg h k = sym (ap key_of (get_or_rows sz i pg k) ∙ key_row sz (16 + sz * i) pg h)

pub page-at : (i : ℕ) (pg : List ℕ) → i < count pg → le2 pg (16 + 8 * i + 6) ≡ to_page (get_or (rows 8 pg) i [])
page-at i pg k = sym (ap to_page (get_or_rows 8 i pg k) ∙ page-row 8 (16 + 8 * i) pg (omega arith))

pub value-at : (i : ℕ) (pg : List ℕ) → i < count pg → 16 + 16 * i + 16 ≤ length pg → value_of (get_or (rows 16 pg) i []) ≡ part (16 + 16 * i + 6) 10 pg
unfolding value_of
value-at i pg h k = ap (part 6 10) (get_or_rows 16 i pg h) ∙ part-part 6 10 (16 + 16 * i) 16 pg (omega arith) k
