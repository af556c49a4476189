-- A log with only its first m records, which is what a cut leaves: it is good, its bytes are the front of the log's bytes, and it is read
-- with zeros behind it. And how the last forced record fares when the log is cut or grows. Assumes nothing.
use Prim.Native.Nat.{ℕ, ◌+◌, ◌≤◌}
use native.Mathlib.Omega.{arith}
use mathlib.Core.Path.{◌≡◌, sym, ap, ◌∙◌}
use mathlib.Core.List.{List, [], ◌∷◌, ◌++◌, append_assoc, append-nil}
use mathlib.Core.Option.{some, some-injective}
use lib.ListN.{length, take, drop, take-append-drop, length-take, length-append}
use lib.Seq.{take_at, take-take, take-append-le, take-length}
use Rattle.field.specs.Bytes.{zeroes}
use Rattle.logs.specs.Record.{Check, Rec, encode_check, encode_all, sizes}
use Rattle.logs.specs.Log.{Log, read_log, at_end, encode_log, last_forced}
use Rattle.logs.proofs.Record.{Sized}
use Rattle.logs.proofs.State.{Every, every_take, encode_all-append, at-at_end, number-at_end, length-encode_log}
use Rattle.logs.specs.Valid.{Valid, Small, Good}
use Rattle.logs.proofs.Valid.{valid-take, valid-sized}
use Rattle.logs.proofs.Append.{grown}
use Rattle.logs.proofs.Write.{read_log-encode}
use Rattle.logs.proofs.Ends.{Ends, sizes-take-most, last_forced-facts, last_forced-of, last_forced-take}

-- the log with its first m records
abbrev pub kept : ℕ → Log → Log
kept m g = record { top = g.top; recs = take m g.recs }

-- the log with its check record alone
abbrev pub bare : Check → Log
bare c = record { top = c; recs = [] }

-- ---- what a cut leaves

-- a cut leaves a good log
pub good-kept : (m : ℕ) (g : Log) → Good g → Good (kept m g)
good-kept m g h = record { top = h.top; valid = valid-take m h.valid }

-- the bytes of the whole are those of the front and what follows
pub encode_log-kept : (m : ℕ) (g : Log) → encode_log g ≡ encode_log (kept m g) ++ encode_all (g.top.number + 1 + length (take m g.recs)) (drop m g.recs)
unfolding encode_log
encode_log-kept m g =
    let n : ℕ = g.top.number + 1 in
    let a : List Rec = take m g.recs in
    let b : List Rec = drop m g.recs in
    ap (λ (x : List Rec). encode_check g.top ++ encode_all n x) (sym (take-append-drop m g.recs))
    ∙ rw (encode_all-append n a b) (sym (append_assoc (encode_check g.top) (encode_all n a) (encode_all (n + length a) b)))

-- whatever follows the log, its bytes up to the m-th record's end are those of the cut log
pub take-encode_log : (m : ℕ) (g : Log) (l : List ℕ) → Every Sized g.recs → take (at_end (kept m g)).at (encode_log g ++ l) ≡ encode_log (kept m g)
take-encode_log m g l h =
    let b : List ℕ = encode_all (g.top.number + 1 + length (take m g.recs)) (drop m g.recs) in
    rw (encode_log-kept m g, append_assoc (encode_log (kept m g)) b l)
    (take_at (encode_log (kept m g)) (b ++ l) (at_end (kept m g)).at (length-encode_log (kept m g) (every_take m h)))

-- a good log cut at a record's end is read as its first records
pub read_log-kept : (m k : ℕ) (g : Log) (l : List ℕ) → Good g → read_log (take (at_end (kept m g)).at (encode_log g ++ l) ++ zeroes k) ≡ some (kept m g)
read_log-kept m k g l h = rw (take-encode_log m g l (valid-sized h.valid)) (read_log-encode (kept m g) k (good-kept m g h))

-- the end of what a cut leaves is no further
pub at-kept : (m : ℕ) (g : Log) → (at_end (kept m g)).at ≤ (at_end g).at
at-kept m g = omega (arith, at-at_end g, at-at_end (kept m g), sizes-take-most m g.recs)

-- ---- a new log

-- a check record alone is a good log
pub good-bare : (c : Check) → Small c → Good (bare c)
good-bare c h = record { top = h; valid = Valid.nil }

-- a check record with zeros behind it is a log
pub read_log-bare : (c : Check) (k : ℕ) → Small c → read_log (encode_check c ++ zeroes k) ≡ some (bare c)
read_log-bare c k h =
    let e : encode_log (bare c) ≡ encode_check c = unfold encode_log encode_all in append-nil (encode_check c) in
    rw e at (read_log-encode (bare c) k (good-bare c h))

-- ---- two good logs of the same bytes are the same

-- the bytes say which log it is, whatever zeros follow
pub encode_log-one : (g h : Log) (j k : ℕ) → Good g → Good h → encode_log g ++ zeroes j ≡ encode_log h ++ zeroes k → g ≡ h
encode_log-one g h j k a b e = some-injective g h (sym (read_log-encode g j a) ∙ ap read_log e ∙ read_log-encode h k b)

-- ---- the last forced record

-- the end of the log is the last record's
pub last_forced-end : (g : Log) → last_forced (at_end g).at g ≡ some (at_end g).number
last_forced-end g =
    rw (at-at_end g, number-at_end g)
    (ap (λ (x : List Rec). last_forced (24 + sizes x) g) (sym (take-length g.recs)) ∙ last_forced-take g (length g.recs) (omega arith))

-- forced lies between the check record's end and the log's
pub last_forced-among : (f : ℕ) (g : Log) (v : ℕ) → last_forced f g ≡ some v
    → (24 ≤ f) × (f ≤ (at_end g).at) × (g.top.number ≤ v) × (v ≤ (at_end g).number)
last_forced-among f g v e =
    let w : Ends f 24 g.top.number g.recs v = last_forced-facts f g v e in
    let m = sizes-take-most w.count g.recs in
    let p = w.place in
    let q = w.number in
    let a = w.among in
    (omega arith, omega (arith, at-at_end g), omega arith, omega (arith, number-at_end g))

-- a cut that spares the forced records leaves the last of them
pub last_forced-kept : (m f : ℕ) (g : Log) (v : ℕ) → last_forced f g ≡ some v → v ≤ g.top.number + m → last_forced f (kept m g) ≡ some v
last_forced-kept m f g v e h =
    let w : Ends f 24 g.top.number g.recs v = last_forced-facts f g v e in
    let i : w.count ≤ m = omega (arith, w.number) in
    last_forced-of f (kept m g) v (record {
      count = w.count;
      among = simp length-take (omega (arith, w.among));
      place = w.place ∙ ap (λ (x : List Rec). 24 + sizes x) (sym (take-take w.count m g.recs i));
      number = w.number;
    })

-- a record more leaves it as it was
pub last_forced-grown : (f : ℕ) (g : Log) (r : Rec) (v : ℕ) → last_forced f g ≡ some v → last_forced f (grown g r) ≡ some v
last_forced-grown f g r v e =
    let w : Ends f 24 g.top.number g.recs v = last_forced-facts f g v e in
    last_forced-of f (grown g r) v (record {
      count = w.count;
      among = simp length-append (omega (arith, w.among));
      place = w.place ∙ ap (λ (x : List Rec). 24 + sizes x) (sym (take-append-le w.count g.recs (r ∷ []) w.among));
      number = w.number;
    })
