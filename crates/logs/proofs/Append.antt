-- A log with a record more: its bytes are the log's bytes with the record written over the zeros at the log's end, and its state is
-- the one after that record. Assumes nothing.
use Prim.Native.Nat.{ℕ, ◌+◌, ◌-◌, ◌≤◌}
use native.Mathlib.Nat.{add-zero, zero-add}
use native.Mathlib.Omega.{arith}
use mathlib.Core.Path.{◌≡◌, sym, ap, ◌∙◌}
use mathlib.Core.List.{List, [], ◌∷◌, ◌++◌, append_assoc, append-nil}
use mathlib.Core.Option.{some}
use lib.ListN.{length}
use Rattle.field.specs.Bytes.{put, zeroes, Bytes}
use Rattle.field.proofs.Part.{length-put, put-past}
use Rattle.field.proofs.Zero.{drop-zeroes}
use Rattle.field.proofs.Byte.{bytes-put}
use Rattle.logs.specs.Record.{Rec, size, encode_check, encode, encode_all}
use Rattle.logs.specs.Log.{State, first, after, after_all, Log, read_log, at_end, encode_log}
use Rattle.logs.proofs.Record.{Sized, length-encode, bytes-encode}
use Rattle.logs.proofs.State.{Every, after_all-append, encode_all-append, number-at_end, length-encode_log}
use Rattle.logs.specs.Valid.{Fits, Valid, Good}
use Rattle.logs.proofs.Valid.{follows-sized, follows-narrow, valid-sized, valid-append}
use Rattle.logs.proofs.Read.{ReadLog, read_log-facts}
use Rattle.logs.proofs.Write.{read_log-encode}

-- the log with one record more
abbrev pub grown : Log → Rec → Log
grown g r = record { top = g.top; recs = g.recs ++ (r ∷ []) }

-- its state is the one after that record
pub at_end-grown : (g : Log) (r : Rec) → at_end (grown g r) ≡ after (at_end g) r
unfolding at_end after_all
at_end-grown g r = after_all-append (first g.top) g.recs (r ∷ [])

-- its bytes are the log's, then the record's
pub encode_log-grown : (g : Log) (r : Rec) → encode_log (grown g r) ≡ encode_log g ++ encode ((at_end g).number + 1) r
unfolding encode_log encode_all
encode_log-grown g r =
    let n : ℕ = g.top.number + 1 in
    let q : n + length g.recs ≡ (at_end g).number + 1 = omega (arith, number-at_end g) in
    rw (encode_all-append n g.recs (r ∷ []), q, append-nil (encode ((at_end g).number + 1) r))
    (sym (append_assoc (encode_check g.top) (encode_all n g.recs) (encode ((at_end g).number + 1) r)))

-- a write over the front of zeros
pub put-zeroes : (bs : List ℕ) (n : ℕ) → put 0 bs (zeroes n) ≡ bs ++ zeroes (n - length bs)
unfolding put
put-zeroes bs n = rw (zero-add (length bs), drop-zeroes (length bs) n)

-- the record is written over the zeros behind the log
pub put-grown : (g : Log) (r : Rec) (n : ℕ) → Every Sized g.recs → Sized r
    → put (at_end g).at (encode ((at_end g).number + 1) r) (encode_log g ++ zeroes (n - (at_end g).at))
    ≡ encode_log (grown g r) ++ zeroes (n - ((at_end g).at + size r))
put-grown g r n h k =
    let a : ℕ = (at_end g).at in
    let e : List ℕ = encode ((at_end g).number + 1) r in
    let q : n - a - size r ≡ n - (a + size r) = omega arith in
    ap (λ (i : ℕ). put i e (encode_log g ++ zeroes (n - a))) (sym (add-zero a))
    ∙ put-past (encode_log g) e (zeroes (n - a)) a 0 (length-encode_log g h)
    ∙ rw (put-zeroes e (n - a), length-encode ((at_end g).number + 1) r k, q, encode_log-grown g r) (sym (append_assoc (encode_log g) e (zeroes (n - (a + size r)))))

-- with a record that may come next it stays good
pub good-grown : (g : Log) (r : Rec) → Good g → Fits (at_end g) r → Good (grown g r)
unfolding at_end
good-grown g r h f = record { top = h.top; valid = valid-append (r ∷ []) h.valid (Valid.cons f Valid.nil) }

-- a record written at the end of a good log is read with the log
pub read_log-grown : (g : Log) (r : Rec) (n : ℕ) → Good g → Fits (at_end g) r
    → read_log (put (at_end g).at (encode ((at_end g).number + 1) r) (encode_log g ++ zeroes (n - (at_end g).at))) ≡ some (grown g r)
read_log-grown g r n h f =
    rw (put-grown g r n (valid-sized h.valid) (follows-sized f.follows)) (read_log-encode (grown g r) (n - ((at_end g).at + size r)) (good-grown g r h f))

-- the same of the bytes l that the log was read off: what they become, and what is read of that
pub put-read : (l : List ℕ) (g : Log) (r : Rec) → read_log l ≡ some g → Sized r
    → put (at_end g).at (encode ((at_end g).number + 1) r) l ≡ encode_log (grown g r) ++ zeroes (length l - ((at_end g).at + size r))
put-read l g r e h =
    let f : ReadLog l g = read_log-facts l g e in
    ap (put (at_end g).at (encode ((at_end g).number + 1) r)) f.whole ∙ put-grown g r (length l) f.sized h

-- a record that may come next, written at the end of a log that was read, is read with it
pub read_log-put : (l : List ℕ) (g : Log) (r : Rec) → Bytes l → read_log l ≡ some g → Fits (at_end g) r
    → read_log (put (at_end g).at (encode ((at_end g).number + 1) r) l) ≡ some (grown g r)
read_log-put l g r b e f =
    rw (put-read l g r e (follows-sized f.follows))
    (read_log-encode (grown g r) (length l - ((at_end g).at + size r)) (good-grown g r ((read_log-facts l g e).good b) f))

-- the bytes stay bytes
pub bytes-grown : (l : List ℕ) (s : State) (r : Rec) → Bytes l → Fits s r → Bytes (put s.at (encode (s.number + 1) r) l)
bytes-grown l s r b f =
    bytes-put s.at (encode (s.number + 1) r) l (bytes-encode (s.number + 1) r (follows-narrow f.follows)) b

-- and where there is room they stay as many
pub length-grown : (l : List ℕ) (s : State) (r : Rec) → Fits s r → s.at + size r ≤ length l → length (put s.at (encode (s.number + 1) r) l) ≡ length l
length-grown l s r f h =
    length-put s.at (encode (s.number + 1) r) l (omega (arith, length-encode (s.number + 1) r (follows-sized f.follows)))
