-- The loop that compares words of four bytes with those of a list, for `search`: its start, a turn, its ends. Assumes nothing.
use Prim.Native.Nat.{ℕ, ◌+◌, ◌-◌, ◌*◌, ◌/◌, ◌%◌, ◌≤◌, ◌<◌}
use native.Mathlib.Nat.{add-zero, sub-zero}
use native.Mathlib.Omega.{arith}
use mathlib.Core.Path.{◌≡◌, sym, ap, ◌∙◌}
use mathlib.Core.Bool.{Bool, true, false}
use mathlib.Core.List.{List}
use lib.ListN.{length, take, drop}
use lib.Seq.{length-take-le}
use Rattle.field.specs.Test.{both}
use Rattle.field.specs.Bytes.{part, same, starts, Bytes, le4, bytes4}
use Rattle.field.proofs.Test.{both_true, both_false}
use Rattle.field.proofs.Part.{part-add, length_part}
use Rattle.field.proofs.Number.{le4-same, bytes4-le4}
use Rattle.field.proofs.Same.{eq-same, ne_same}
use Rattle.logs.proofs.Starts.{same-cat}

-- what is left to compare from the i-th byte on
unfoldable pub left : (l : List ℕ) (at : ℕ) (b : List ℕ) (n i : ℕ) → Bool
left l at b n i = same (part i (n - i) b) (part (at + i) (n - i) l)

module _ (l : List ℕ) (at : ℕ) (b : List ℕ) (n : ℕ) (hb : n ≤ length b) (hl : at + n ≤ length l) where
  turn : (i : ℕ) → i + 4 ≤ n → left l at b n i ≡ both (same (part i 4 b) (part (at + i) 4 l)) (left l at b n (i + 4))
  unfolding left
  turn i h =
      let m : ℕ = n - (i + 4) in
      let e : n - i ≡ 4 + m = omega arith in
      let q : at + i + 4 ≡ at + (i + 4) = omega arith in
      rw (e, part-add i 4 m b, part-add (at + i) 4 m l, q)
      (same-cat (part i 4 b) (part (i + 4) m b) (part (at + i) 4 l) (part (at + (i + 4)) m l) (length_part i 4 b (omega arith) ∙ sym (length_part (at + i) 4 l (omega arith))))

  pub compare-none! : starts (take n b) (drop at l) ≡ left l at b n (4 * 0)
  unfolding left starts part
  compare-none! = rw (length-take-le n b hb, add-zero at, sub-zero n)

  module _ (k : ℕ) (e : starts (take n b) (drop at l) ≡ left l at b n (4 * k)) where
    module _ (h : k < n / 4) (x y : ℕ) (p : x ≡ le4 l (at + 4 * k)) (q : y ≡ le4 b (4 * k)) where
      pub compare-stop! : (x ≡ y → ⊥) → false ≡ starts (take n b) (drop at l)
      compare-stop! f =
          sym (e ∙ turn (4 * k) (omega arith)
          ∙ both_false _ _ (ne_same (part (4 * k) 4 b) (part (at + 4 * k) 4 l) (λ g. f (p ∙ le4-same l b (at + 4 * k) (4 * k) (sym g) ∙ sym q))))

    pub compare-all! : n % 4 ≡ 0 → n / 4 ≤ k → true ≡ starts (take n b) (drop at l)
    unfolding left same part
    compare-all! d h =
        let z : n - 4 * k ≡ 0 = omega arith in
        sym (e ∙ rw z)

-- words that agree have the same bytes
pub compare-more! : (l : List ℕ) (at : ℕ) (b : List ℕ) (n : ℕ) → Bytes l → Bytes b → n ≤ length b → at + n ≤ length l
    → (k : ℕ) → starts (take n b) (drop at l) ≡ left l at b n (4 * k) → k < n / 4
    → (x y : ℕ) → x ≡ le4 l (at + 4 * k) → y ≡ le4 b (4 * k) → x ≡ y → starts (take n b) (drop at l) ≡ left l at b n (4 * (k + 1))
compare-more! l at b n bl bb hb hl k e h x y p q f =
    let s : 4 * k + 4 ≡ 4 * (k + 1) = omega arith in
    let g : part (4 * k) 4 b ≡ part (at + 4 * k) 4 l =
    sym (bytes4-le4 b (4 * k) bb (omega arith)) ∙ ap bytes4 (sym q ∙ sym f ∙ p) ∙ bytes4-le4 l (at + 4 * k) bl (omega arith) in
    e ∙ turn l at b n hb hl (4 * k) (omega arith) ∙ both_true _ _ (eq-same _ _ g) ∙ ap (left l at b n) s
