-- Laws of a run of zeros that is gathered eight bytes at a time, and in blocks: of bytes in one number, and of the two loops.
-- Assumes nothing.
use Prim.Native.Nat.{ℕ, ◌+◌, ◌-◌, ◌*◌, ◌≤◌, ◌<◌}
use native.Mathlib.Omega.{arith}
use mathlib.Core.Path.{◌≡◌, refl, sym, ap, ap₂, ◌∙◌}
use mathlib.Core.Bool.{Bool, true, false}
use mathlib.Core.List.{List, [], ◌∷◌, ◌++◌}
use lib.ListN.{length, take, drop, get_or, take-append-drop, length-drop}
use lib.Seq.{drop-cons, drop-drop, take_all}
use lib.Dec.{eqb}
use lib.Bits.{bit_or}
use borrow.Author.Tests.{eq-eqb, ne_eqb}
use Rattle.field.specs.Test.{both}
use Rattle.field.specs.Bytes.{part, all_zero, le2, le4}
use Rattle.field.proofs.Part.{split, part-add, drop-cut}
use Rattle.field.proofs.Test.{both-1, both-2, both_true, both_end, both-assoc}
use Rattle.field.proofs.Number.{le4-halves}
use Rattle.field.proofs.Zero.{or-zero}

-- ---- stretches of a run

pub zero-append : (a b : List ℕ) → all_zero (a ++ b) ≡ both (all_zero a) (all_zero b)
unfolding all_zero
zero-append [] b = sym (both_true true (all_zero b) refl)
zero-append (x ∷ xs) b = ap (both (eqb x 0)) (zero-append xs b) ∙ sym (both-assoc (eqb x 0) (all_zero xs) (all_zero b))

pub zero-cut : (o n m : ℕ) (l : List ℕ) → all_zero (part o (n + m) l) ≡ both (all_zero (part o n l)) (all_zero (part (o + n) m l))
zero-cut o n m l = ap all_zero (part-add o n m l) ∙ zero-append (part o n l) (part (o + n) m l)

pub zero-take : (n : ℕ) (l : List ℕ) → all_zero l ≡ true → all_zero (take n l) ≡ true
zero-take n l e = both-1 _ (all_zero (drop n l)) (sym (zero-append (take n l) (drop n l)) ∙ ap all_zero (take-append-drop n l) ∙ e)

pub zero-drop : (n : ℕ) (l : List ℕ) → all_zero l ≡ true → all_zero (drop n l) ≡ true
zero-drop n l e = both-2 (all_zero (take n l)) _ (sym (zero-append (take n l) (drop n l)) ∙ ap all_zero (take-append-drop n l) ∙ e)

pub zero-part : (o n : ℕ) (l : List ℕ) → all_zero l ≡ true → all_zero (part o n l) ≡ true
unfolding part
zero-part o n l e = zero-take n (drop o l) (zero-drop o l e)

-- ---- bytes in one number: it is zero where they all are

-- a number that is zero only where two others are
zero-two : (a b o : ℕ) → a ≤ o → b ≤ o → (a ≡ 0 → b ≡ 0 → o ≡ 0) → eqb o 0 ≡ both (eqb a 0) (eqb b 0)
unfolding both
zero-two a b o p q f =
    split a 1
    (λ x. split b 1
    (λ y. rw (eq-eqb o 0 (f (omega arith) (omega arith)), eq-eqb a 0 (omega arith), eq-eqb b 0 (omega arith)))
    (λ y. rw (ne_eqb o 0 (λ z. omega arith), eq-eqb a 0 (omega arith), ne_eqb b 0 (λ z. omega arith))))
    (λ x. rw (ne_eqb o 0 (λ z. omega arith), ne_eqb a 0 (λ z. omega arith)))

one : (l : List ℕ) (i : ℕ) → i < length l → eqb (get_or l i 0) 0 ≡ all_zero (part i 1 l)
unfolding part all_zero
one l i h = rw (drop-cons l i 0 h) (sym (both_end (eqb (get_or l i 0) 0)))

pub zero-pair : (l : List ℕ) (i : ℕ) → i + 2 ≤ length l → eqb (le2 l i) 0 ≡ all_zero (part i 2 l)
unfolding le2
zero-pair l i h =
    zero-two (get_or l i 0) (get_or l (i + 1) 0) (get_or l i 0 + 256 * get_or l (i + 1) 0) (omega arith) (omega arith) (λ p q. omega arith)
    ∙ ap₂ both (one l i (omega arith)) (one l (i + 1) (omega arith))
    ∙ sym (zero-cut i 1 1 l)

four : (l : List ℕ) (i : ℕ) → i + 4 ≤ length l → eqb (le4 l i) 0 ≡ all_zero (part i 4 l)
four l i h =
    rw (le4-halves l i)
    (zero-two (le2 l i) (le2 l (i + 2)) (le2 l i + 65536 * le2 l (i + 2)) (omega arith) (omega arith) (λ p q. omega arith)
    ∙ ap₂ both (zero-pair l i (omega arith)) (zero-pair l (i + 2) (omega arith))
    ∙ sym (zero-cut i 2 2 l))

eight : (l : List ℕ) (i : ℕ) → i + 8 ≤ length l → eqb (le4 l i + 4294967296 * le4 l (i + 4)) 0 ≡ all_zero (part i 8 l)
eight l i h =
    zero-two (le4 l i) (le4 l (i + 4)) (le4 l i + 4294967296 * le4 l (i + 4)) (omega arith) (omega arith) (λ p q. omega arith)
    ∙ ap₂ both (four l i (omega arith)) (four l (i + 4) (omega arith))
    ∙ sym (zero-cut i 4 4 l)

pub zero-eight! : (l : List ℕ) (i a b : ℕ) → a ≡ le4 l i → b ≡ le4 l (i + 4) → i + 8 ≤ length l → eqb (a + 4294967296 * b) 0 ≡ all_zero (part i 8 l)
zero-eight! l i a b p q h = rw (p, q) (eight l i h)

-- ---- a loop that gathers k times eight bytes, for `search`: its start, a turn, its end

pub block-none! : (l : List ℕ) (at : ℕ) → eqb 0 0 ≡ all_zero (part at (8 * 0) l)
unfolding part all_zero
block-none! l at = refl

pub block-more! : (l : List ℕ) (at a b k : ℕ) → eqb a 0 ≡ all_zero (part at (8 * k) l) → eqb b 0 ≡ all_zero (part (at + 8 * k) 8 l)
    → eqb (bit_or a b) 0 ≡ all_zero (part at (8 * (k + 1)) l)
block-more! l at a b k e f =
    let n : 8 * (k + 1) ≡ 8 * k + 8 = omega arith in
    or-zero a b ∙ ap₂ both e f ∙ sym (zero-cut at (8 * k) 8 l) ∙ ap (λ (m : ℕ). all_zero (part at m l)) (sym n)

pub block-all! : (l : List ℕ) (at a k : ℕ) → eqb a 0 ≡ all_zero (part at (8 * k) l) → k ≤ 128 → 128 ≤ k → eqb a 0 ≡ all_zero (part at 1024 l)
block-all! l at a k e h g =
    let n : 8 * k ≡ 1024 = omega arith in
    e ∙ ap (λ (m : ℕ). all_zero (part at m l)) n

-- ---- a loop over blocks, the last of which was gathered first: its start, a turn, its end

-- a test that follows from another changes nothing beside it
beside : (a b : Bool) → (b ≡ true → a ≡ true) → b ≡ both a b
unfolding both
beside true b f = refl
beside false true f = sym (f refl)
beside false false f = refl

follows : (a b : Bool) → (a ≡ true → b ≡ true) → both a b ≡ a
unfolding both
follows true b f = f refl
follows false b f = refl

module _ (l : List ℕ) (a last : ℕ) where
  pub long-none! : eqb a 0 ≡ all_zero (part last 1024 l) → all_zero l ≡ both (eqb a 0) (all_zero (drop 0 l))
  long-none! e = beside (eqb a 0) (all_zero l) (λ z. e ∙ zero-part last 1024 l z)

  module _ (at : ℕ) (i : all_zero l ≡ both (eqb a 0) (all_zero (drop at l))) where
    pub long-more! : (b : ℕ) → eqb b 0 ≡ all_zero (part at 1024 l) → all_zero l ≡ both (eqb (bit_or a b) 0) (all_zero (drop (at + 1024) l))
    long-more! b f =
        i ∙ ap (both (eqb a 0)) (ap all_zero (drop-cut at 1024 l) ∙ zero-append (part at 1024 l) (drop (at + 1024) l) ∙ ap (λ (z : Bool). both z (all_zero (drop (at + 1024) l))) (sym f))
        ∙ sym (both-assoc (eqb a 0) (eqb b 0) (all_zero (drop (at + 1024) l)))
        ∙ ap (λ (z : Bool). both z (all_zero (drop (at + 1024) l))) (sym (or-zero a b))

    -- where the last block is zero, so is what is left
    pub long-all! : (eqb a 0 ≡ true → all_zero (part last 1024 l) ≡ true) → last ≡ length l - 1024 → last ≤ at → eqb a 0 ≡ all_zero l
    unfolding part
    long-all! g e h =
        let n : last + (at - last) ≡ at = omega arith in
        let d : length (drop last l) ≤ 1024 = rw (length-drop last l) (omega arith) in
        let whole : take 1024 (drop last l) ≡ drop last l = take_all 1024 (drop last l) d in
        let left : eqb a 0 ≡ true → all_zero (drop at l) ≡ true =
        λ z. ap (λ (m : ℕ). all_zero (drop m l)) (sym n) ∙ ap all_zero (sym (drop-drop (at - last) last l)) ∙ zero-drop (at - last) (drop last l) (ap all_zero (sym whole) ∙ g z) in
        sym (i ∙ follows (eqb a 0) (all_zero (drop at l)) left)

  -- what holds where a number is zero holds where that number with another in it is
  pub long-keeps! : (b : ℕ) → (eqb a 0 ≡ true → all_zero (part last 1024 l) ≡ true) → eqb (bit_or a b) 0 ≡ true → all_zero (part last 1024 l) ≡ true
  long-keeps! b g z = g (both-1 (eqb a 0) (eqb b 0) (sym (or-zero a b) ∙ z))
