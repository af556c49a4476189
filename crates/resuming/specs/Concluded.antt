-- An open put or delete carried on by one record: the reply, or the first of the records that it lacks, appended with its page changes.
-- Assumes nothing.
use Rattle.std.specs.Prelude.{ℕ, ◌+◌, ◌*◌, List, [], ◌∷◌, length, drop, leb}
use Rattle.field.specs.Test.{need, given}
use Rattle.field.specs.Bytes.{put, most4}
use Rattle.logs.specs.Record.{image, end, length_of, Rec, sizes, encode}
use Rattle.logs.specs.Log.{read_begin}
use Rattle.logs.specs.Scan.{images_on}
use Rattle.logs.specs.declared.scan.Walk.{Walk}
use Rattle.unit.specs.Next.{apply}
use Rattle.saving.specs.Rest.{Rest, refuses, lacks, resumed}
use Rattle.resuming.specs.Lacking.{first_number}

-- the reply, the work pages and the log
pub record Outcome : Type 0 where
  pub reply : ℕ
  pub work : List ℕ
  pub log : List ℕ

abbrev pub outcome : (reply : ℕ) (work log : List ℕ) → Outcome
outcome r v l = record { reply = r; work = v; log = l }

-- the first of these records appended to the log l, which ends at the offset at with the number n, and applied to the pages v
unfoldable pub first_of : (at n : ℕ) → List Rec → (v l : List ℕ) → Outcome
first_of at n [] v l = outcome 0 v l
first_of at n (r ∷ rs) v l = given (apply (n + 1) r v) (outcome 5 v l) (λ v'. outcome 0 v' (put at (encode (n + 1) r) l))

-- tests 6 and 7 for all that is lacked, then its first record
unfoldable pub concluded : (at n : ℕ) → Rest → (v l : List ℕ) → Outcome
concluded at n (refuses reply) v l = outcome reply v l
concluded at n (lacks rs) v l =
    need (leb (at + sizes rs) 8192) (outcome 6 v l)
    (need (leb (n + length rs) most4) (outcome 7 v l)
    (first_of at n rs v l))

-- what the put or delete lacks that is open at the end of the log l
unfoldable pub rest_on : (l : List ℕ) → Walk → (v : List ℕ) → Rest
rest_on l w v = resumed (read_begin w.unit.0 (drop w.begin l)) (first_number w) (images_on l w) v

-- it carried on
unfoldable pub concluded_on : Walk → (v l : List ℕ) → Outcome
concluded_on w v l = concluded w.at w.number.0 (rest_on l w v) v l

-- tests 6 and 7 where k LGs and the LE are lacked: the reply, 0 where both hold
unfoldable pub tested : (at n k : ℕ) → ℕ
tested at n k = need (leb (at + (length_of image 1 * k + length_of end 0)) 8192) 6 (need (leb (n + (k + 1)) most4) 7 0)
