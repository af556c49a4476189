-- One step of find as the code makes it: the page below, or the reply where the way ends; and what find returns of an answer, its reply
-- and ten bytes. Assumes nothing.
use Rattle.std.specs.Prelude.{ℕ, Bool, not, List}
use Rattle.std.proofs.Math.Option.{none}
use Rattle.field.specs.Test.{both, need, given}
use Rattle.field.specs.Bytes.{zeroes}
use Rattle.page.specs.Page.{value_of, entries, records, is_empty, formed}
use Rattle.page.specs.Pages.{page}
use Rattle.tree.specs.Answer.{Found, missing, found, last_not_above, record_with}
use Rattle.tree.specs.declared.find.Way.{Way}
use Rattle.tree.specs.declared.find.Way.TheVariants.{Refused, To}

-- the page that the last entry not above the key points to
unfoldable pub last_to : (key : ℕ) → List (List ℕ) → Way
last_to key es = given (last_not_above key none es) (Refused 15) To

-- a page on the way: in form as page p, and not empty
unfoldable pub passable : (p : ℕ) → List ℕ → Bool
passable p pg = both (formed p pg) (not (is_empty pg))

-- from the page pg, as page p, root or base
unfoldable pub way_on : (key p : ℕ) → List ℕ → Way
way_on key p pg = need (passable p pg) (Refused 3) (last_to key (entries pg))

unfoldable pub way_down : (key p : ℕ) → List ℕ → Way
way_down key p w = way_on key p (page p w)

-- the value of the record with this key
unfoldable pub record_in : (key : ℕ) → List (List ℕ) → Found
record_in key rs = given (record_with key rs) (missing 15) (λ r. found (value_of r))

-- on the page pg, as leaf page p
unfoldable pub leaf_in : (key p : ℕ) → List ℕ → Found
leaf_in key p pg = need (passable p pg) (missing 3) (record_in key (records pg))

-- what find returns: the reply, 0 where the key is there, and the ten value bytes, zeros where it is not
unfoldable pub reply_of : Found → ℕ
reply_of (missing r) = r
reply_of (found v) = 0

unfoldable pub bytes_of : Found → List ℕ
bytes_of (missing r) = zeroes 10
bytes_of (found v) = v
