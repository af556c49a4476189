-- What must be known of an LO, to go past it. Assumes nothing.
use Rattle.std.specs.Prelude.{ℕ, ◌+◌, ◌*◌, ◌≤◌, ◌≡◌, true, List, length, drop}
use Rattle.field.specs.Bytes.{le2}
use Rattle.page.specs.Page.{rows_of, ascend}

-- the bytes m at its front carry 1 to 15 records, which bear marks and ascend
pub record Carries (m : List ℕ) : Type 0 where
  pub room : 20 + 16 * le2 m 16 ≤ length m
  pub some : 1 ≤ le2 m 16
  pub few : le2 m 16 ≤ 15
  pub rising : ascend 114 99 0 (rows_of 16 (le2 m 16) (drop 20 m)) ≡ true
