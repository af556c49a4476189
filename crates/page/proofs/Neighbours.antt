-- Loops over rows that look at a row and the one behind it. What they rest on is said once over the size and the mark of a row; records have their
-- marks and keys tested one after the other, and of entries the page of one and the mark of the next are one number. Assumes nothing.
use Prim.Native.Nat.{ℕ, ◌+◌, ◌-◌, ◌*◌, ◌≤◌, ◌<◌}
use native.Mathlib.Omega.{arith}
use mathlib.Core.Path.{◌≡◌, refl, sym, ap, ap₂, ◌∙◌}
use mathlib.Core.Bool.{Bool, true, false, ◌&&◌}
use mathlib.Core.List.{List}
use lib.ListN.{drop, get_or}
use lib.Dec.{eqb, leb, ltb}
use borrow.Author.Tests.{eqb-true, leb-true, eq-eqb, le-leb, lt-leb, lt-ltb, le-ltb}
use Rattle.field.specs.Test.{both}
use Rattle.field.specs.Bytes.{Bytes, le2, le4}
use Rattle.field.proofs.Test.{both-1, both-2, both-intro, both_true, both_false, both_end, both-no, both-assoc}
use Rattle.field.proofs.Part.{split}
use Rattle.field.proofs.Number.{le2-small, le4-halves}
use Rattle.page.specs.Page.{rows_of, ascend, pointing}
use Rattle.page.proofs.Turns.{ascend-next, pointing-next, no_rows}

-- ---- a mark as one number

untrue : (t : Bool) → (t ≡ true → ⊥) → t ≡ false
untrue true f = absurd (f refl)
untrue false f = refl

module _ (l : List ℕ) (at a b : ℕ) where
  -- a row with another mark fails
  unmarked : (le2 l at ≡ a + 256 * b → ⊥) → (r : Bool) → both (eqb (get_or l at 0) a) (both (eqb (get_or l (at + 1) 0) b) r) ≡ false
  unfolding le2
  unmarked f r =
      untrue _ (λ e.
      let p : get_or l at 0 ≡ a = eqb-true (get_or l at 0) a (both-1 _ _ e) in
      let q : get_or l (at + 1) 0 ≡ b = eqb-true (get_or l (at + 1) 0) b (both-1 _ r (both-2 _ _ e)) in
      f (omega arith))

  -- a row with its mark is tested on
  marked : Bytes l → a < 256 → le2 l at ≡ a + 256 * b → (r : Bool) → both (eqb (get_or l at 0) a) (both (eqb (get_or l (at + 1) 0) b) r) ≡ r
  unfolding le2
  marked y h e r =
      let x₀ : get_or l at 0 < 256 = y at in
      both_true _ _ (eq-eqb (get_or l at 0) a (omega arith)) ∙ both_true _ _ (eq-eqb (get_or l (at + 1) 0) b (omega arith))

-- ---- rows of any size with the mark a b

-- the k rows behind the row at an offset ascend from its key on
unfoldable pub behind : (sz a b : ℕ) (l : List ℕ) (at k : ℕ) → Bool
behind sz a b l at k = ascend a b (le4 l (at + 2) + 1) (rows_of sz k (drop (at + sz) l))

module _ (sz a b : ℕ) (wide : 8 ≤ sz) (small : a < 256) (l : List ℕ) (at : ℕ) where
  rows_none : (n lo : ℕ) → n ≤ 0 → ascend a b lo (rows_of sz n (drop at l)) ≡ true
  rows_none n lo h = rw (no_rows sz n (drop at l) h) (unfold ascend in refl)

  behind-none : (k : ℕ) → k ≤ 0 → behind sz a b l at k ≡ true
  unfolding behind
  behind-none k h = rw (no_rows sz k (drop (at + sz) l) h) (unfold ascend in refl)

  -- the first of n rows: its mark, then those behind it
  module _ (n : ℕ) (some : 0 < n) where
    front : ascend a b 0 (rows_of sz n (drop at l)) ≡ both (eqb (get_or l at 0) a) (both (eqb (get_or l (at + 1) 0) b) (behind sz a b l at (n - 1)))
    unfolding behind
    front =
        let t : both (leb 0 (le4 l (at + 2))) (behind sz a b l at (n - 1)) ≡ behind sz a b l at (n - 1) =
        both_true _ _ (le-leb 0 (le4 l (at + 2)) (omega arith)) in
        ascend-next sz a b n 0 at l some wide ∙ ap (λ (r : Bool). both (eqb (get_or l at 0) a) (both (eqb (get_or l (at + 1) 0) b) r)) t

    front-bad : (le2 l at ≡ a + 256 * b → ⊥) → ascend a b 0 (rows_of sz n (drop at l)) ≡ false
    front-bad f = front ∙ unmarked l at a b f _

    front-good : Bytes l → le2 l at ≡ a + 256 * b → ascend a b 0 (rows_of sz n (drop at l)) ≡ behind sz a b l at (n - 1)
    front-good y f = front ∙ marked l at a b y small f _

  -- the row behind: its mark, the two keys, then those behind it
  module _ (k : ℕ) (some : 0 < k) where
    behind-next : behind sz a b l at k
        ≡ both (eqb (get_or l (at + sz) 0) a) (both (eqb (get_or l (at + sz + 1) 0) b)
        (both (leb (le4 l (at + 2) + 1) (le4 l (at + sz + 2))) (behind sz a b l (at + sz) (k - 1))))
    unfolding behind
    behind-next = ascend-next sz a b k (le4 l (at + 2) + 1) (at + sz) l some wide

    behind-bad : (le2 l (at + sz) ≡ a + 256 * b → ⊥) → behind sz a b l at k ≡ false
    behind-bad f = behind-next ∙ unmarked l (at + sz) a b f _

    behind-good : Bytes l → le2 l (at + sz) ≡ a + 256 * b
        → behind sz a b l at k ≡ both (leb (le4 l (at + 2) + 1) (le4 l (at + sz + 2))) (behind sz a b l (at + sz) (k - 1))
    behind-good y f = behind-next ∙ marked l (at + sz) a b y small f _

some-rows : (n : ℕ) → (n ≡ 0 → ⊥) → 0 < n
some-rows n f = split 0 n (λ g. g) (λ g. absurd (f (omega arith)))

-- ---- records

module _ (l : List ℕ) (start n : ℕ) where
  pub record-none! : n ≡ 0 → true ≡ ascend 114 99 0 (rows_of 16 n (drop start l))
  record-none! e = sym (rows_none 16 114 99 (omega arith) (omega arith) l start n 0 (omega arith))

  module _ (some : n ≡ 0 → ⊥) (m : ℕ) (q : m ≡ le2 l start) where
    pub record-bad! : (m ≡ 25458 → ⊥) → false ≡ ascend 114 99 0 (rows_of 16 n (drop start l))
    record-bad! f = sym (front-bad 16 114 99 (omega arith) (omega arith) l start n (some-rows n some) (λ e. f (q ∙ e)))

    pub record-first : Bytes l → m ≡ 25458 → ascend 114 99 0 (rows_of 16 n (drop start l)) ≡ behind 16 114 99 l (start + 16 * 0) (n - 1 - 0)
    record-first y f =
        let o : start + 16 * 0 ≡ start = omega arith in
        let d : n - 1 - 0 ≡ n - 1 = omega arith in
        rw (o, d) (front-good 16 114 99 (omega arith) (omega arith) l start n (some-rows n some) y (sym q ∙ f))

  module _ (i : ℕ) (e : ascend 114 99 0 (rows_of 16 n (drop start l)) ≡ behind 16 114 99 l (start + 16 * i) (n - 1 - i)) where
    pub record-end! : n - 1 ≤ i → true ≡ ascend 114 99 0 (rows_of 16 n (drop start l))
    record-end! h = sym (e ∙ behind-none 16 114 99 (omega arith) (omega arith) l (start + 16 * i) (n - 1 - i) (omega arith))

    module _ (h : i < n - 1) (m : ℕ) (q : m ≡ le2 l (start + 16 * i + 16)) where
      pub record-mark! : (m ≡ 25458 → ⊥) → false ≡ ascend 114 99 0 (rows_of 16 n (drop start l))
      record-mark! f = sym (e ∙ behind-bad 16 114 99 (omega arith) (omega arith) l (start + 16 * i) (n - 1 - i) (omega arith) (λ g. f (q ∙ g)))

      module _ (y : Bytes l) (f : m ≡ 25458) (j k : ℕ) (p : j ≡ le4 l (start + 16 * i + 18)) (r : k ≡ le4 l (start + 16 * i + 2)) where
        keys : ascend 114 99 0 (rows_of 16 n (drop start l)) ≡ both (leb (k + 1) j) (behind 16 114 99 l (start + 16 * (i + 1)) (n - 1 - (i + 1)))
        keys =
            let o : start + 16 * i + 16 + 2 ≡ start + 16 * i + 18 = omega arith in
            let v : start + 16 * (i + 1) ≡ start + 16 * i + 16 = omega arith in
            let d : n - 1 - (i + 1) ≡ n - 1 - i - 1 = omega arith in
            e ∙ behind-good 16 114 99 (omega arith) (omega arith) l (start + 16 * i) (n - 1 - i) (omega arith) y (sym q ∙ f) ∙ rw (o, ← p, ← r, v, d)

        pub record-low : j ≤ k → false ≡ ascend 114 99 0 (rows_of 16 n (drop start l))
        record-low g = sym (keys ∙ both_false _ _ (lt-leb (k + 1) j (omega arith)))

        pub record-more : k < j → ascend 114 99 0 (rows_of 16 n (drop start l)) ≡ behind 16 114 99 l (start + 16 * (i + 1)) (n - 1 - (i + 1))
        record-more g = keys ∙ both_true _ _ (le-leb (k + 1) j (omega arith))

-- ---- entries

-- entry i points into from .. to, as the k - i behind it do, and these ascend from its key on
unfoldable pub among : (from to : ℕ) (l : List ℕ) (k i : ℕ) → Bool
among from to l k i = both (pointing from to (rows_of 8 (k - i + 1) (drop (8 * i + 16) l))) (behind 8 101 110 l (8 * i + 16) (k - i))

-- ---- tests in another order

both-swap : (a b : Bool) → both a b ≡ both b a
unfolding both
both-swap true b = sym (both_end b)
both-swap false b = sym (both-no b)

-- tests by the code's own sign are those tests by `both`
and-three : (a b c : Bool) → ((a && b) && c) ≡ both a (both b c)
unfolding both
and-three false b c = refl
and-three true false c = refl
and-three true true c = refl

and-four : (a b c d : Bool) → (((a && b) && c) && d) ≡ both a (both (both b c) d)
unfolding both
and-four false b c d = refl
and-four true false c d = refl
and-four true true false d = refl
and-four true true true d = refl

shuffle : (a b p c d e q : Bool) → both (both a (both b p)) (both c (both d (both e q))) ≡ both (both (both (both a b) (both c d)) e) (both p q)
unfolding both
shuffle false b p c d e q = refl
shuffle true false p c d e q = refl
shuffle true true p false d e q = both-no p
shuffle true true p true false e q = both-no p
shuffle true true p true true false q = both-no p
shuffle true true p true true true q = refl

agree : (x y : Bool) → (x ≡ true → y ≡ true) → (y ≡ true → x ≡ true) → x ≡ y
agree true y f g = sym (f refl)
agree false true f g = g refl
agree false false f g = refl

-- a page and the next entry's mark, as one number, lie between two numbers where the page does and the mark is `en`
window : (from to p a b : ℕ) → p < 65536 → a < 256 → to < 65536
    → both (leb (1852112896 + from) (p + 65536 * (a + 256 * b))) (leb (p + 65536 * (a + 256 * b)) (1852112896 + to))
    ≡ both (both (leb from p) (leb p to)) (both (eqb a 101) (eqb b 110))
window from to p a b hp ha ht =
    agree _ _
    (λ e.
    let u : 1852112896 + from ≤ p + 65536 * (a + 256 * b) = leb-true _ _ (both-1 _ _ e) in
    let v : p + 65536 * (a + 256 * b) ≤ 1852112896 + to = leb-true _ _ (both-2 _ _ e) in
    both-intro _ _ (both-intro _ _ (le-leb from p (omega arith)) (le-leb p to (omega arith))) (both-intro _ _ (eq-eqb a 101 (omega arith)) (eq-eqb b 110 (omega arith))))
    (λ e.
    let u : from ≤ p = leb-true _ _ (both-1 _ _ (both-1 _ _ e)) in
    let v : p ≤ to = leb-true _ _ (both-2 _ _ (both-1 _ _ e)) in
    let x : a ≡ 101 = eqb-true _ _ (both-1 _ _ (both-2 _ _ e)) in
    let y : b ≡ 110 = eqb-true _ _ (both-2 _ _ (both-2 _ _ e)) in
    both-intro _ _
    (le-leb (1852112896 + from) (p + 65536 * (a + 256 * b)) (omega arith))
    (le-leb (p + 65536 * (a + 256 * b)) (1852112896 + to) (omega arith)))

before : (j k : ℕ) → leb (j + 1) k ≡ ltb j k
before j k =
    split j k
    (λ h. le-leb (j + 1) k (omega arith) ∙ sym (lt-ltb j k h))
    (λ h. lt-leb (j + 1) k (omega arith) ∙ sym (le-ltb j k h))

-- the last entry, which has none behind it
alone : (from to : ℕ) (l : List ℕ) (k : ℕ) → among from to l k k ≡ both (leb from (le2 l (8 * k + 22))) (leb (le2 l (8 * k + 22)) to)
unfolding among
alone from to l k =
    let d : k - k ≤ 0 = omega arith in
    let d' : k - k + 1 - 1 ≤ 0 = omega arith in
    let o : 8 * k + 16 + 6 ≡ 8 * k + 22 = omega arith in
    let none : behind 8 101 110 l (8 * k + 16) (k - k) ≡ true = behind-none 8 101 110 (omega arith) (omega arith) l (8 * k + 16) (k - k) d in
    let rest : pointing from to (rows_of 8 (k - k + 1 - 1) (drop (8 * k + 16 + 8) l)) ≡ true =
    rw (no_rows 8 (k - k + 1 - 1) (drop (8 * k + 16 + 8) l) d') (unfold pointing in refl) in
    ap₂ both (pointing-next from to (k - k + 1) (8 * k + 16) l (omega arith)) none
    ∙ both_end _
    ∙ rw (rest, o) (ap (both (leb from (le2 l (8 * k + 22)))) (both_end _))

module _ (from to : ℕ) (l : List ℕ) (n : ℕ) where
  pub entry-none! : n ≡ 0 → true ≡ both (ascend 101 110 0 (rows_of 8 n (drop 16 l))) (pointing from to (rows_of 8 n (drop 16 l)))
  unfolding both
  entry-none! e = let h : n ≤ 0 = omega arith in rw (no_rows 8 n (drop 16 l) h) (unfold ascend pointing in refl)

  module _ (some : n ≡ 0 → ⊥) (m : ℕ) (q : m ≡ le2 l 16) where
    pub entry-bad! : (m ≡ 28261 → ⊥) → false ≡ both (ascend 101 110 0 (rows_of 8 n (drop 16 l))) (pointing from to (rows_of 8 n (drop 16 l)))
    entry-bad! f = sym (both_false _ _ (front-bad 8 101 110 (omega arith) (omega arith) l 16 n (some-rows n some) (λ e. f (q ∙ e))))

    pub entry_first : Bytes l → m ≡ 28261
        → both (ascend 101 110 0 (rows_of 8 n (drop 16 l))) (pointing from to (rows_of 8 n (drop 16 l))) ≡ both true (among from to l (n - 1) 0)
    unfolding among
    entry_first y f =
        let d : n - 1 - 0 ≡ n - 1 = omega arith in
        let k : n - 1 + 1 ≡ n = omega (arith, some-rows n some) in
        let g : ascend 101 110 0 (rows_of 8 n (drop 16 l)) ≡ behind 8 101 110 l 16 (n - 1) =
        front-good 8 101 110 (omega arith) (omega arith) l 16 n (some-rows n some) y (sym q ∙ f) in
        both-swap _ _ ∙ ap (both (pointing from to (rows_of 8 n (drop 16 l)))) g ∙ sym (both_true true _ refl ∙ rw (d, k))

  module _ (ok : Bool) (i : ℕ)
      (e : both (ascend 101 110 0 (rows_of 8 n (drop 16 l))) (pointing from to (rows_of 8 n (drop 16 l))) ≡ both ok (among from to l (n - 1) i)) where
    module _ (h : i < n - 1) (y : Bytes l) (t : to < 65536) (x j k : ℕ) (q : x ≡ le4 l (8 * i + 22)) (r : j ≡ le4 l (8 * i + 18)) (s : k ≡ le4 l (8 * i + 26)) where
      -- the tests of one entry and the next, then those of the next and what is behind it
      next-two : among from to l (n - 1) i
          ≡ both (both (both (both (leb from (le2 l (8 * i + 22))) (leb (le2 l (8 * i + 22)) to)) (both (eqb (get_or l (8 * i + 24) 0) 101) (eqb (get_or l (8 * i + 24 + 1) 0) 110)))
          (leb (le4 l (8 * i + 18) + 1) (le4 l (8 * i + 26)))) (among from to l (n - 1) (i + 1))
      unfolding among
      next-two =
          let o : 8 * i + 16 + 6 ≡ 8 * i + 22 = omega arith in
          let p : 8 * i + 16 + 8 ≡ 8 * i + 24 = omega arith in
          let p' : 8 * (i + 1) + 16 ≡ 8 * i + 24 = omega arith in
          let u : n - 1 - i + 1 - 1 ≡ n - 1 - (i + 1) + 1 = omega arith in
          let v : 8 * i + 24 + 2 ≡ 8 * i + 26 = omega arith in
          let w : 8 * i + 16 + 2 ≡ 8 * i + 18 = omega arith in
          let d : n - 1 - i - 1 ≡ n - 1 - (i + 1) = omega arith in
          ap₂ both
          (pointing-next from to (n - 1 - i + 1) (8 * i + 16) l (omega arith))
          (behind-next 8 101 110 (omega arith) (omega arith) l (8 * i + 16) (n - 1 - i) (omega arith))
          ∙ rw (o, p, p', u, v, w, d) (shuffle _ _ _ _ _ _ _)

      one_number : x ≡ le2 l (8 * i + 22) + 65536 * (get_or l (8 * i + 24) 0 + 256 * get_or l (8 * i + 24 + 1) 0)
      unfolding le2
      one_number = let o : 8 * i + 22 + 2 ≡ 8 * i + 24 = omega arith in q ∙ le4-halves l (8 * i + 22) ∙ rw o

      pub entry_more : both (ascend 101 110 0 (rows_of 8 n (drop 16 l))) (pointing from to (rows_of 8 n (drop 16 l)))
          ≡ both (((ok && leb (1852112896 + from) x) && leb x (1852112896 + to)) && ltb j k) (among from to l (n - 1) (i + 1))
      entry_more =
          e ∙ ap (both ok) next-two
          ∙ sym (both-assoc ok _ (among from to l (n - 1) (i + 1)))
          ∙ ap (λ (g : Bool). both g (among from to l (n - 1) (i + 1)))
          (ap (both ok)
          (ap₂ both
          (sym (rw one_number (window from to (le2 l (8 * i + 22)) (get_or l (8 * i + 24) 0) (get_or l (8 * i + 24 + 1) 0) (le2-small l (8 * i + 22) y) (y (8 * i + 24)) t)))
          (rw (← r, ← s) (before j k)))
          ∙ sym (and-four ok (leb (1852112896 + from) x) (leb x (1852112896 + to)) (ltb j k)))

    pub entry-end : i ≤ n - 1 → n - 1 ≤ i → (p : ℕ) → p ≡ le2 l (8 * (n - 1) + 22)
        → ((ok && leb from p) && leb p to) ≡ both (ascend 101 110 0 (rows_of 8 n (drop 16 l))) (pointing from to (rows_of 8 n (drop 16 l)))
    entry-end h g p q =
        let k : i ≡ n - 1 = omega arith in
        let last : among from to l (n - 1) i ≡ both (leb from p) (leb p to) = rw (k, q) (alone from to l (n - 1)) in
        and-three ok (leb from p) (leb p to) ∙ sym (e ∙ ap (both ok) last)
