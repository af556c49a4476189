-- The bytes of a log of 8,192: its records, then zeros. How they are read, grow by a record, and are cut. Assumes nothing.
use Prim.Native.Nat.{ℕ, ◌+◌, ◌-◌, ◌≤◌}
use native.Mathlib.Omega.{arith}
use mathlib.Core.Path.{◌≡◌, ap, ◌∙◌}
use mathlib.Core.List.{List, [], ◌∷◌, ◌++◌}
use mathlib.Core.Option.{some}
use lib.ListN.{length, take, length-append}
use borrow.Author.Tests.{eq-eqb}
use Rattle.field.specs.Bytes.{Bytes, put, zeroes}
use Rattle.field.proofs.Test.{both-intro, bind-intro, when_true, there-some}
use Rattle.field.proofs.Zero.{length-zeroes}
use Rattle.field.proofs.Byte.{bytes-append, bytes-zeroes}
use Rattle.logs.specs.Record.{Check, Rec, size, encode, sizes}
use Rattle.logs.specs.Log.{State, opened_by, after, Log, read_log, encode_log, last_forced}
use Rattle.logs.proofs.State.{at-at_end, length-encode_log, bytes-encode_log}
use Rattle.logs.specs.Valid.{Fits, Good}
use Rattle.logs.proofs.Valid.{follows-sized, valid-sized, valid-narrow}
use Rattle.logs.proofs.Read.{read_log-facts}
use Rattle.logs.proofs.Write.{read_log-encode}
use Rattle.logs.proofs.Append.{at_end-grown, put-grown, good-grown}
use Rattle.logs.proofs.Ends.{last_forced-take}
use Rattle.logs.proofs.Cut.{take-encode_log}
use Rattle.store.specs.Calls.{Lent, known, log_length}
use Rattle.promise.specs.Parts.{log_of, state_of}

-- the log's bytes
unfoldable pub image : Check → List Rec → List ℕ
image c l = encode_log (log_of c l) ++ zeroes (log_length - (state_of c l).at)

-- a log in form that its 8,192 bytes hold
pub record Stored (c : Check) (l : List Rec) : Type 0 where
  pub good : Good (log_of c l)
  pub fits : (state_of c l).at ≤ log_length

pub read-image : (c : Check) (l : List Rec) → Good (log_of c l) → read_log (image c l) ≡ some (log_of c l)
unfolding image
read-image c l h = read_log-encode (log_of c l) (log_length - (state_of c l).at) h

pub length-image : (c : Check) (l : List Rec) → Stored c l → length (image c l) ≡ log_length
unfolding image
length-image c l h =
    let f : (state_of c l).at ≤ log_length = h.fits in
    rw (
      length-append (encode_log (log_of c l)) (zeroes (log_length - (state_of c l).at)),
      length-encode_log (log_of c l) (valid-sized h.good.valid),
      length-zeroes (log_length - (state_of c l).at),
    ) (omega arith)

pub bytes-image : (c : Check) (l : List Rec) → Good (log_of c l) → Bytes (image c l)
unfolding image
bytes-image c l h =
    bytes-append (encode_log (log_of c l)) (zeroes (log_length - (state_of c l).at)) (bytes-encode_log (log_of c l) (valid-narrow h.valid))
    (bytes-zeroes (log_length - (state_of c l).at))

-- what was read is the image of what was read
pub image-read : (b : List ℕ) (g : Log) → length b ≡ log_length → read_log b ≡ some g → b ≡ image g.top g.recs
unfolding image
image-read b g n e = (read_log-facts b g e).whole ∙ rw n

pub stored-read : (b : List ℕ) (g : Log) → length b ≡ log_length → Bytes b → read_log b ≡ some g → Stored g.top g.recs
stored-read b g n h e = let f = read_log-facts b g e in record { good = f.good h; fits = rw (← n) f.short }

-- one record more
pub put-image : (c : Check) (l : List Rec) (r : Rec) → Good (log_of c l) → Fits (state_of c l) r
    → put (state_of c l).at (encode ((state_of c l).number + 1) r) (image c l) ≡ image c (l ++ (r ∷ []))
unfolding image after
put-image c l r h f =
    put-grown (log_of c l) r log_length (valid-sized h.valid) (follows-sized f.follows)
    ∙ rw (at_end-grown (log_of c l) r)

pub at-grown : (c : Check) (l : List Rec) (r : Rec) → (state_of c (l ++ (r ∷ []))).at ≡ (state_of c l).at + size r
unfolding after
at-grown c l r = ap (λ (s : State). s.at) (at_end-grown (log_of c l) r)

pub opened-grown : (c : Check) (l : List Rec) (r : Rec) → (state_of c (l ++ (r ∷ []))).opened ≡ opened_by r (state_of c l).opened
unfolding after
opened-grown c l r = ap (λ (s : State). s.opened) (at_end-grown (log_of c l) r)

pub stored-grown : (c : Check) (l : List Rec) (r : Rec) → Stored c l → Fits (state_of c l) r → (state_of c l).at + size r ≤ log_length → Stored c (l ++ (r ∷ []))
stored-grown c l r h f room = record { good = good-grown (log_of c l) r h.good f; fits = rw (at-grown c l r) room }

-- cut after the m-th record
pub take-image : (c : Check) (l : List Rec) (m : ℕ) → Good (log_of c l)
    → take (24 + sizes (take m l)) (image c l) ++ zeroes (log_length - (24 + sizes (take m l))) ≡ image c (take m l)
unfolding image
take-image c l m h =
    let e : (state_of c (take m l)).at ≡ 24 + sizes (take m l) = at-at_end (log_of c (take m l)) in
    rw (← e, take-encode_log m (log_of c l) (zeroes (log_length - (state_of c l).at)) (valid-sized h.valid))

-- ---- what a call knows of it: used at its end, forced at the end of its m-th record

pub record Numbered (d : Lent) (c : Check) (l : List Rec) (m : ℕ) : Type 0 where
  pub used : d.used ≡ (state_of c l).at
  pub forced : d.forced ≡ 24 + sizes (take m l)
  pub among : m ≤ length l

pub forced-image : (d : Lent) (c : Check) (l : List Rec) (m : ℕ) → Numbered d c l m → last_forced d.forced (log_of c l) ≡ some (c.number + m)
forced-image d c l m n = rw n.forced (last_forced-take (log_of c l) m n.among)

pub known-image : (d : Lent) (c : Check) (l : List Rec) (m : ℕ) → d.log ≡ image c l → Good (log_of c l) → Numbered d c l m → known d ≡ some (log_of c l)
unfolding known
known-image d c l m e h n =
    let r : read_log d.log ≡ some (log_of c l) = rw e (read-image c l h) in
    bind-intro (read_log d.log) _ (log_of c l) r
    ∙ when_true _ (log_of c l)
    (both-intro _ _ (eq-eqb d.used (state_of c l).at n.used) (there-some _ (c.number + m) (forced-image d c l m n)))
