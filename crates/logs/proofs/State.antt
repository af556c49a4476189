-- What is known after records: the log's end and its last number, by the sizes and the count of the records; and the bytes of
-- records one after the other. Assumes nothing.
use Prim.Native.Nat.{ℕ, zero, suc, ◌+◌, ◌*◌, ◌≤◌}
use native.Mathlib.Nat.{add-zero}
use native.Mathlib.Omega.{arith}
use mathlib.Core.Path.{◌≡◌, refl, sym}
use mathlib.Core.List.{List, [], ◌∷◌, ◌++◌, append_assoc}
use lib.ListN.{length, take, length-append}
use Rattle.field.specs.Bytes.{Bytes}
use Rattle.field.proofs.Byte.{bytes-nil, bytes-append}
use Rattle.logs.specs.Record.{Rec, length_of, encode_check, encode, encode_all, sizes}
use Rattle.logs.specs.Log.{State, first, after, after_all, Log, at_end, encode_log}
use Rattle.logs.proofs.Record.{Sized, Narrow, size-least, length-encode_check, length-encode, bytes-encode_check, bytes-encode}

-- a property of each record
pub data Every (P : Rec → Type 0) : List Rec → Type 0 where
  nil : Every P []
  cons : {r : Rec} {rs : List Rec} → P r → Every P rs → Every P (r ∷ rs)

-- a property of records, and of those behind them
pub every_append : {P : Rec → Type 0} {a b : List Rec} → Every P a → Every P b → Every P (a ++ b)
every_append nil q = q
every_append (cons h p) q = cons h (every_append p q)

-- a property of the first of them
pub every_take : {P : Rec → Type 0} {a : List Rec} (m : ℕ) → Every P a → Every P (take m a)
every_take zero p = nil
every_take (suc m) nil = nil
every_take (suc m) (cons h p) = cons h (every_take m p)

-- ---- sizes

-- sizes add up
pub sizes-append : (a b : List Rec) → sizes (a ++ b) ≡ sizes a + sizes b
unfolding sizes
sizes-append [] b = omega arith
sizes-append (r ∷ rs) b = omega (arith, sizes-append rs b)

-- each record has at least 16 bytes
pub sizes-least : (rs : List Rec) → 16 * length rs ≤ sizes rs
unfolding sizes
sizes-least [] = omega arith
sizes-least (r ∷ rs) = omega (arith, size-least r, sizes-least rs)

-- ---- the state

-- records, then more of them
pub after_all-append : (s : State) (a b : List Rec) → after_all s (a ++ b) ≡ after_all (after_all s a) b
unfolding after_all
after_all-append s [] b = refl
after_all-append s (r ∷ rs) b = after_all-append (after s r) rs b

-- the end moves by the records' sizes
pub at-after_all : (s : State) (rs : List Rec) → (after_all s rs).at ≡ s.at + sizes rs
unfolding after_all after sizes
at-after_all s [] = sym (add-zero s.at)
at-after_all s (r ∷ rs) = omega (arith, at-after_all (after s r) rs)

-- the number moves by their count
pub number-after_all : (s : State) (rs : List Rec) → (after_all s rs).number ≡ s.number + length rs
unfolding after_all after
number-after_all s [] = sym (add-zero s.number)
number-after_all s (r ∷ rs) = omega (arith, number-after_all (after s r) rs)

-- ---- the bytes

-- the bytes of records, then of more
pub encode_all-append : (n : ℕ) (a b : List Rec) → encode_all n (a ++ b) ≡ encode_all n a ++ encode_all (n + length a) b
unfolding encode_all
encode_all-append n [] b = rw (add-zero n)
encode_all-append n (r ∷ rs) b =
    let e : n + 1 + length rs ≡ n + suc (length rs) = omega arith in
    rw (encode_all-append (n + 1) rs b, e) (sym (append_assoc (encode n r) (encode_all (n + 1) rs) (encode_all (n + suc (length rs)) b)))

-- the records have as many bytes as their sizes say
pub length-encode_all : (n : ℕ) {rs : List Rec} → Every Sized rs → length (encode_all n rs) ≡ sizes rs
unfolding encode_all sizes
length-encode_all n nil = refl
length-encode_all n (cons {r = r} {rs = rs} h p) =
    rw (length-append (encode n r) (encode_all (n + 1) rs), length-encode n r h, length-encode_all (n + 1) p)

-- the records are bytes
pub bytes-encode_all : (n : ℕ) {rs : List Rec} → Every Narrow rs → Bytes (encode_all n rs)
unfolding encode_all
bytes-encode_all n nil = bytes-nil
bytes-encode_all n (cons {r = r} {rs = rs} h p) = bytes-append (encode n r) (encode_all (n + 1) rs) (bytes-encode n r h) (bytes-encode_all (n + 1) p)

-- ---- the whole log

-- the end and the last number of a log
pub at-at_end : (g : Log) → (at_end g).at ≡ 24 + sizes g.recs
unfolding at_end first length_of
at-at_end g = at-after_all (first g.top) g.recs

-- its last number is the check record's and one for each record
pub number-at_end : (g : Log) → (at_end g).number ≡ g.top.number + length g.recs
unfolding at_end first
number-at_end g = number-after_all (first g.top) g.recs

-- the log's end is where its bytes end
pub length-encode_log : (g : Log) → Every Sized g.recs → length (encode_log g) ≡ (at_end g).at
unfolding encode_log
length-encode_log g h =
    rw (at-at_end g, length-append (encode_check g.top) (encode_all (g.top.number + 1) g.recs), length-encode_check g.top, length-encode_all (g.top.number + 1) h)

-- a log is of bytes
pub bytes-encode_log : (g : Log) → Every Narrow g.recs → Bytes (encode_log g)
unfolding encode_log
bytes-encode_log g h =
    bytes-append (encode_check g.top) (encode_all (g.top.number + 1) g.recs) (bytes-encode_check g.top) (bytes-encode_all (g.top.number + 1) h)
