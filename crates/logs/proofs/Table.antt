-- The code's table is that of the kinds: one computed law over the whole table; and what stands at each place of it. Assumes nothing.
use Prim.Native.Nat.{ℕ, zero, suc, ◌+◌, ◌*◌, ◌≤◌, ◌<◌}
use native.Mathlib.Nat.{not-suc-le-zero, le_trans, mul-le-mul_left, mul-le-mul_right}
use native.Mathlib.Omega.{arith}
use mathlib.Core.Path.{◌≡◌, refl}
use mathlib.Core.List.{List, [], ◌∷◌}
use lib.ListN.{length, get_or}
use Rattle.logs.specs.Record.{letter, Kind, check, length_of}
use Rattle.logs.specs.Table.{kinds, kind_at, tabled}

-- a kind's four places in a table of kinds
pub record Placed (ks : List Kind) (k : ℕ) : Type 0 where
  pub lead : get_or (tabled ks) (4 * k) 0 ≡ letter
  pub sign : get_or (tabled ks) (4 * k + 1) 0 ≡ (get_or ks k check).sign
  pub fixed : get_or (tabled ks) (4 * k + 2) 0 ≡ (get_or ks k check).fixed
  pub each : get_or (tabled ks) (4 * k + 3) 0 ≡ (get_or ks k check).each

placed : (ks : List Kind) (k : ℕ) → k < length ks → Placed ks k
unfolding tabled
placed [] k h = absurd (not-suc-le-zero h)
placed (c ∷ cs) zero h = record { lead = refl; sign = refl; fixed = refl; each = refl }
placed (c ∷ cs) (suc k) h =
    let p = placed cs k (omega arith) in
    let e0 : 4 * suc k ≡ suc (suc (suc (suc (4 * k)))) = omega arith in
    let e1 : 4 * suc k + 1 ≡ suc (suc (suc (suc (4 * k + 1)))) = omega arith in
    let e2 : 4 * suc k + 2 ≡ suc (suc (suc (suc (4 * k + 2)))) = omega arith in
    let e3 : 4 * suc k + 3 ≡ suc (suc (suc (suc (4 * k + 3)))) = omega arith in
    record { lead = rw e0 p.lead; sign = rw e1 p.sign; fixed = rw e2 p.fixed; each = rw e3 p.each }

-- the kind k of the table
pub table-row : (k : ℕ) → k < 7 → Placed kinds k
table-row k h = placed kinds k (unfold kinds in h)

-- no kind is longer than an LB, or carries more than a page
pub record Bounded (c : Kind) : Type 0 where
  pub fixed : c.fixed ≤ 44
  pub each : c.each ≤ 256

pub kind-bounded : (k : ℕ) → k < 7 → Bounded (kind_at k)
unfolding kind_at kinds
kind-bounded zero h = record { fixed = omega arith; each = omega arith }
kind-bounded (suc zero) h = record { fixed = omega arith; each = omega arith }
kind-bounded (suc (suc zero)) h = record { fixed = omega arith; each = omega arith }
kind-bounded (suc (suc (suc zero))) h = record { fixed = omega arith; each = omega arith }
kind-bounded (suc (suc (suc (suc zero)))) h = record { fixed = omega arith; each = omega arith }
kind-bounded (suc (suc (suc (suc (suc zero))))) h = record { fixed = omega arith; each = omega arith }
kind-bounded (suc (suc (suc (suc (suc (suc zero)))))) h = record { fixed = omega arith; each = omega arith }
kind-bounded (suc (suc (suc (suc (suc (suc (suc k))))))) h = absurd (omega arith)

-- its mark's letter is a byte
pub sign-byte : (k : ℕ) → k < 7 → (get_or kinds k check).sign ≤ 255
unfolding kinds
sign-byte zero h = omega arith
sign-byte (suc zero) h = omega arith
sign-byte (suc (suc zero)) h = omega arith
sign-byte (suc (suc (suc zero))) h = omega arith
sign-byte (suc (suc (suc (suc zero)))) h = omega arith
sign-byte (suc (suc (suc (suc (suc zero))))) h = omega arith
sign-byte (suc (suc (suc (suc (suc (suc zero)))))) h = omega arith
sign-byte (suc (suc (suc (suc (suc (suc (suc k))))))) h = absurd (omega arith)

-- the bytes of what a record carries are few
pub each-small : (k n e : ℕ) → k < 7 → n ≤ 15 → e ≡ get_or (tabled kinds) (4 * k + 3) 0 → e * n ≤ 3840
unfolding kind_at
each-small k n e h m q =
    let b : e ≤ 256 = omega (arith, q, (table-row k h).each, (kind-bounded k h).each) in
    le_trans (mul-le-mul_left e m) (le_trans (mul-le-mul_right 15 b) (omega arith))

pub length-is : (k n f e : ℕ) → k < 7 → f ≡ get_or (tabled kinds) (4 * k + 2) 0 → e ≡ get_or (tabled kinds) (4 * k + 3) 0 → f + e * n ≡ length_of (kind_at k) n
unfolding kind_at length_of
length-is k n f e h p q = rw (p, q, (table-row k h).fixed, (table-row k h).each)

pub fixed-small : (k f : ℕ) → k < 7 → f ≡ get_or (tabled kinds) (4 * k + 2) 0 → f ≤ 44
unfolding kind_at
fixed-small k f h p = omega (arith, p, (table-row k h).fixed, (kind-bounded k h).fixed)
