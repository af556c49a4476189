-- Laws of runs of zeros, and of the loop that tests one. Assumes nothing.
use Prim.Native.Nat.{ℕ, zero, suc, ◌+◌, ◌-◌, ◌≤◌, ◌<◌}
use native.Mathlib.Nat.{sub-zero, suc-sub-suc, zero-sub}
use native.Mathlib.Numerals.{add-one}
use native.Mathlib.Omega.{arith}
use mathlib.Core.Path.{◌≡◌, refl, sym, ap, ap₂, ◌∙◌}
use mathlib.Core.Bool.{true}
use mathlib.Core.List.{List, [], ◌∷◌, ◌++◌}
use lib.ListN.{length, drop, get_or, set, length-replicate, get_or-replicate, replicate-append-replicate, drop_of_length-le}
use lib.Seq.{drop-cons, paste}
use lib.Dec.{eqb}
use lib.Bits.{bit_or, bit_and, or_add_and, and_le_l, and_le_r}
use borrow.Author.Tests.{eqb-true, eq-eqb, ne_eqb}
use Rattle.field.specs.Test.{both}
use Rattle.field.specs.Bytes.{put, zeroes, all_zero}
use Rattle.field.proofs.Part.{split, copy-none!, copy-more!, copy-all! }
use Rattle.field.proofs.Test.{both-1, both-2, both_end, both-assoc}

-- ---- n zeros

pub length-zeroes : (n : ℕ) → length (zeroes n) ≡ n
unfolding zeroes
length-zeroes n = length-replicate n 0

pub get_or-zeroes : (n j : ℕ) → j < n → get_or (zeroes n) j 0 ≡ 0
unfolding zeroes
get_or-zeroes n j h = get_or-replicate n j 0 0 h

pub zeroes-append : (n m : ℕ) → zeroes n ++ zeroes m ≡ zeroes (n + m)
unfolding zeroes
zeroes-append n m = replicate-append-replicate n m 0

pub drop-zeroes : (k n : ℕ) → drop k (zeroes n) ≡ zeroes (n - k)
unfolding zeroes
drop-zeroes zero n = rw (sub-zero n)
drop-zeroes (suc k) zero = rw (zero-sub (suc k))
drop-zeroes (suc k) (suc n) = rw (suc-sub-suc n k) (drop-zeroes k n)

-- ---- every element is zero

pub zero-list : (l : List ℕ) → all_zero l ≡ true → l ≡ zeroes (length l)
unfolding all_zero zeroes
zero-list [] e = refl
zero-list (x ∷ xs) e =
    ap₂ (λ (a : ℕ) (b : List ℕ). a ∷ b) (eqb-true x 0 (both-1 (eqb x 0) (all_zero xs) e)) (zero-list xs (both-2 (eqb x 0) (all_zero xs) e))

pub zeroes-of : (l : List ℕ) (n : ℕ) → all_zero l ≡ true → length l ≡ n → l ≡ zeroes n
zeroes-of l n e h = zero-list l e ∙ ap zeroes h

pub all-zeroes : (n : ℕ) → all_zero (zeroes n) ≡ true
unfolding all_zero zeroes both
all-zeroes zero = refl
all-zeroes (suc n) = all-zeroes n

-- ---- a loop that gathers all bytes in one, for `search`: its start, a turn, its end

-- two bytes put together are zero where both are
zero-sum : (a b o n : ℕ) → o + n ≡ a + b → n ≤ a → n ≤ b → eqb o 0 ≡ both (eqb a 0) (eqb b 0)
unfolding both
zero-sum a b o n e p q =
    split a 1
    (λ x. split b 1
    (λ y. rw (eq-eqb o 0 (omega arith), eq-eqb a 0 (omega arith), eq-eqb b 0 (omega arith)))
    (λ y. rw (ne_eqb o 0 (λ z. omega arith), eq-eqb a 0 (omega arith), ne_eqb b 0 (λ z. omega arith))))
    (λ x. rw (ne_eqb o 0 (λ z. omega arith), ne_eqb a 0 (λ z. omega arith)))

pub or-zero : (a b : ℕ) → eqb (bit_or a b) 0 ≡ both (eqb a 0) (eqb b 0)
or-zero a b = zero-sum a b (bit_or a b) (bit_and a b) (or_add_and a b) (and_le_l a b) (and_le_r a b)

pub seen-none! : (l : List ℕ) → all_zero l ≡ both (eqb 0 0) (all_zero (drop 0 l))
unfolding both
seen-none! l = refl

pub seen-more! : (l : List ℕ) (a i : ℕ) → all_zero l ≡ both (eqb a 0) (all_zero (drop i l)) → i < length l
    → all_zero l ≡ both (eqb (bit_or a (get_or l i 0)) 0) (all_zero (drop (i + 1) l))
unfolding all_zero
seen-more! l a i e h =
    e ∙ rw (drop-cons l i 0 h, add-one i, or-zero a (get_or l i 0)) (sym (both-assoc (eqb a 0) (eqb (get_or l i 0) 0) (all_zero (drop (suc i) l))))

pub seen-all! : (l : List ℕ) (a i : ℕ) → all_zero l ≡ both (eqb a 0) (all_zero (drop i l)) → length l ≤ i → eqb a 0 ≡ all_zero l
unfolding all_zero
seen-all! l a i e h = sym (e ∙ rw (drop_of_length-le l h) (both_end (eqb a 0)))

-- ---- a loop that writes n zeros over d from the offset at: its start, a turn, its end

pub clear-none! : (d : List ℕ) (at n : ℕ) → d ≡ paste d at (zeroes n) 0
clear-none! d at n = copy-none! d at (zeroes n)

pub clear-more! : (d : List ℕ) (at n i : ℕ) (s : List ℕ) → s ≡ paste d at (zeroes n) i → at + n ≤ length d → i < n
    → set s (at + i) 0 ≡ paste d at (zeroes n) (i + 1)
clear-more! d at n i s e h k =
    let lz : length (zeroes n) ≡ n = length-zeroes n in
    ap (set s (at + i)) (sym (get_or-zeroes n i k)) ∙ copy-more! d at (zeroes n) i s e (omega arith) (omega arith)

pub clear-all! : (d : List ℕ) (at n i : ℕ) (s : List ℕ) → s ≡ paste d at (zeroes n) i → i ≤ n → n ≤ i → s ≡ put at (zeroes n) d
clear-all! d at n i s e h k =
    let lz : length (zeroes n) ≡ n = length-zeroes n in
    copy-all! d at (zeroes n) i s e (omega arith) (omega arith)
