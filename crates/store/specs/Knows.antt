-- Test 2 on numbers: what one pass over the log has answered, and the bytes used. Assumes nothing.
use Rattle.std.specs.Prelude.{ℕ, Bool, eqb}
use Rattle.field.specs.Test.{both}
use Rattle.logs.specs.declared.scan.Scan.{Scan}

-- the log in form, used at its end, forced at a record's end
unfoldable pub knows : Scan → (used : ℕ) → Bool
knows s used = both s.walk.ok (both (eqb s.walk.at used) s.ends)
