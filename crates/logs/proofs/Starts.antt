-- A list that begins with another: with one list and then another, with a part of itself, with zeros, with listed pages. Assumes nothing.
use Prim.Native.Nat.{ℕ, zero, suc, ◌+◌, ◌-◌, ◌*◌, ◌≤◌}
use native.Mathlib.Omega.{arith}
use mathlib.Core.Path.{◌≡◌, refl, sym, ap, ◌∙◌}
use mathlib.Core.Bool.{true}
use mathlib.Core.List.{List, [], ◌∷◌, ◌++◌}
use lib.ListN.{length, take, drop, length-append, length-drop}
use lib.Seq.{take-add, length-take-le}
use lib.Dec.{eqb}
use borrow.Author.Tests.{ne_eqb}
use Rattle.field.specs.Test.{both}
use Rattle.field.specs.Bytes.{part, zeroes, all_zero, same, starts, Bytes, le2, bytes2}
use Rattle.field.proofs.Test.{both_true, both-assoc}
use Rattle.field.proofs.Part.{split, length_part, part-drop}
use Rattle.field.proofs.Number.{bytes2-le2, length-bytes2}
use Rattle.field.proofs.Same.{same_refl}
use Rattle.field.proofs.Zero.{length-zeroes, zeroes-append}
use Rattle.field.proofs.Byte.{bytes_drop}
use Rattle.logs.specs.Record.{fields}
use Rattle.logs.specs.Log.{read_fields}

pub same-cat : (a b x y : List ℕ) → length a ≡ length x → same (a ++ b) (x ++ y) ≡ both (same a x) (same b y)
unfolding same both
same-cat [] b [] y e = refl
same-cat [] b (u ∷ x) y e = let z : ◌≡◌ {A = ℕ} 0 1 = absurd (omega (arith, e)) in absurd (omega arith)
same-cat (v ∷ a) b [] y e = absurd (omega (arith, e))
same-cat (v ∷ a) b (u ∷ x) y e = rw (same-cat a b x y (omega (arith, e))) (sym (both-assoc (eqb v u) (same a x) (same b y)))

-- a list that begins with a and then b
pub starts-cat : (a b m : List ℕ) (k : ℕ) → length a ≡ k → k ≤ length m → starts (a ++ b) m ≡ both (starts a m) (starts b (drop k m))
unfolding starts
starts-cat a b m k e h =
    rw (length-append a b, e, take-add k (length b) m)
    (same-cat a b (take k m) (take (length b) (drop k m)) (e ∙ sym (length-take-le k m h)))

-- every list begins with none
pub starts-nil : (m : List ℕ) → starts [] m ≡ true
unfolding starts same
starts-nil m = refl

-- a list begins with a part of itself, where the part stands
pub starts-part : (o n : ℕ) (m : List ℕ) → o + n ≤ length m → starts (part o n m) (drop o m) ≡ true
unfolding starts part
starts-part o n m h =
    let e : length (take n (drop o m)) ≡ n = unfold part in length_part o n m h in
    rw e (same_refl (take n (drop o m)))

eqb-turn : (x : ℕ) → eqb 0 x ≡ eqb x 0
eqb-turn x =
    split 0 x
    (λ h. ne_eqb 0 x (λ e. omega arith) ∙ sym (ne_eqb x 0 (λ e. omega arith)))
    (λ h. let z : x ≡ 0 = omega arith in rw z)

same-zeroes : (n : ℕ) (y : List ℕ) → length y ≡ n → same (zeroes n) y ≡ all_zero y
unfolding same all_zero zeroes
same-zeroes zero [] e = refl
same-zeroes zero (x ∷ y) e = absurd (omega (arith, e))
same-zeroes (suc n) [] e = absurd (omega (arith, e))
same-zeroes (suc n) (x ∷ y) e = rw (eqb-turn x, same-zeroes n y (omega (arith, e)))

-- a list begins with zeros
pub starts-zeroes : (n : ℕ) (m : List ℕ) → n ≤ length m → starts (zeroes n) m ≡ all_zero (take n m)
unfolding starts
starts-zeroes n m h = rw (length-zeroes n) (same-zeroes n (take n m) (length-take-le n m h))

-- unused fields are zeros
pub fields-nil : (k : ℕ) → fields k [] ≡ zeroes (2 * k)
unfolding fields bytes2
fields-nil zero = unfold zeroes in refl
fields-nil (suc k) =
    let e : 2 * suc k ≡ 2 + 2 * k = omega arith in
    rw (e, ← zeroes-append 2 (2 * k), fields-nil k) (unfold zeroes in refl)

-- pages read off a list stand there, where the fields behind them are zero
pub starts-fields : (k j : ℕ) (m : List ℕ) → Bytes m → j ≤ k → 2 * k ≤ length m → starts (fields k (read_fields j m)) m ≡ all_zero (part (2 * j) (2 * k - 2 * j) m)
unfolding read_fields fields
starts-fields k zero m b h r =
    let e : 2 * k - 2 * 0 ≡ 2 * k = omega arith in
    let q : all_zero (take (2 * k) m) ≡ all_zero (part (2 * 0) (2 * k) m) = unfold part in refl in
    rw (fields-nil k, e) (starts-zeroes (2 * k) m r ∙ q)
starts-fields zero (suc j) m b h r = absurd (omega arith)
starts-fields (suc k) (suc j) m b h r =
    let d : length (drop 2 m) ≡ length m - 2 = length-drop 2 m in
    let w : bytes2 (le2 m 0) ≡ part 0 2 m = bytes2-le2 m 0 b (omega arith) in
    let e : 2 * suc k - 2 * suc j ≡ 2 * k - 2 * j = omega arith in
    let f : 2 * suc j ≡ 2 + 2 * j = omega arith in
    starts-cat (bytes2 (le2 m 0)) _ m 2 (length-bytes2 (le2 m 0)) (omega arith)
    ∙ both_true _ _ (rw w (starts-part 0 2 m (omega arith)))
    ∙ starts-fields k j (drop 2 m) (bytes_drop 2 m b) (omega arith) (omega arith)
    ∙ ap all_zero (part-drop 2 (2 * j) (2 * k - 2 * j) m ∙ rw (e, f))
