-- Records written one after the other while they fit: a run of them, then those behind. Assumes nothing.
use Prim.Native.Nat.{ℕ, zero, suc, ◌+◌, ◌-◌, ◌*◌, ◌/◌, ◌≤◌, ◌<◌}
use native.Mathlib.Nat.{sub-zero, zero-add, add-zero}
use native.Mathlib.Omega.{arith}
use mathlib.Core.Path.{◌≡◌, refl, sym, ap, ap₂, ◌∙◌}
use mathlib.Core.Bool.{Bool, true, false, not}
use mathlib.Core.List.{List, [], ◌∷◌, ◌++◌, append-nil}
use lib.ListN.{length, take, drop, length-append, length-take, length-drop, take-append-drop}
use lib.Seq.{take-append-le, take-append-add, take_all}
use lib.Dec.{leb, ltb}
use borrow.Author.Tests.{lt-ltb, le-ltb, le-leb, lt-leb, ltb-true, ltb-false, leb-true, not-false}
use Rattle.field.specs.Test.{both, pick}
use Rattle.field.specs.Bytes.{part, put, le4}
use Rattle.field.proofs.Test.{both-1, both-2, both_true, both_false, pick-either}
use Rattle.field.proofs.Part.{split, length_part, length-put, put_next, lent-part}
use Rattle.page.specs.Page.{rows_of, joined, key_of, count, rows}
use Rattle.page.specs.Each.{Each, nil, cons, Long}
use Rattle.page.proofs.Rows.{length-joined, length-rows_of, joined-rows_of, joined-append, long-rows_of}
use Rattle.page.proofs.Turns.{rows_next}
use Rattle.tree.specs.Answer.{between, room_for, written, count_written, more_remain}
use Rattle.tree.specs.Reader.{write_at, count_at, more_at, Ran}
use Rattle.tree.specs.Walk.{keys_within}
use Rattle.tree.proofs.Turn.{none_left}

-- ---- records in bounds

pick-append : (b : Bool) (r : List ℕ) (xs ys : List (List ℕ)) → pick b (r ∷ (xs ++ ys)) (xs ++ ys) ≡ pick b (r ∷ xs) xs ++ ys
unfolding pick
pick-append true r xs ys = refl
pick-append false r xs ys = refl

pub between-append : (low high : ℕ) (xs ys : List (List ℕ)) → between low high (xs ++ ys) ≡ between low high xs ++ between low high ys
unfolding between
between-append low high [] ys = refl
between-append low high (r ∷ rs) ys = rw (between-append low high rs ys) (pick-append (both (leb low (key_of r)) (leb (key_of r) high)) r (between low high rs) (between low high ys))

pub each-between : {P : List ℕ → Type 0} (low high : ℕ) (rs : List (List ℕ)) → Each P rs → Each P (between low high rs)
unfolding between
each-between low high [] nil = nil
each-between {P} low high (r ∷ rs) (cons h p) =
    pick-either (Each P) (both (leb low (key_of r)) (leb (key_of r) high)) (r ∷ between low high rs) (between low high rs) (cons h (each-between low high rs p)) (each-between low high rs p)

pub between-few : (low high : ℕ) (rs : List (List ℕ)) → length (between low high rs) ≤ length rs
unfolding between
between-few low high [] = omega arith
between-few low high (r ∷ rs) =
    let k : length (between low high rs) ≤ length rs = between-few low high rs in
    pick-either (λ (x : List (List ℕ)). length x ≤ suc (length rs)) (both (leb low (key_of r)) (leb (key_of r) high)) (r ∷ between low high rs) (between low high rs) (omega arith) (omega arith)

-- ---- a run that fits, and what is behind it

take_past : (n : ℕ) (xs ys : List (List ℕ)) → length xs ≤ n → take n (xs ++ ys) ≡ xs ++ take (n - length xs) ys
take_past n xs ys h = let e : n ≡ length xs + (n - length xs) = omega arith in ap (λ (k : ℕ). take k (xs ++ ys)) e ∙ take-append-add xs ys (n - length xs)

pub each_take : {P : List ℕ → Type 0} (n : ℕ) (rs : List (List ℕ)) → Each P rs → Each P (take n rs)
each_take zero rs p = nil
each_take (suc n) [] nil = nil
each_take (suc n) (r ∷ rs) (cons h p) = cons h (each_take n rs p)

take-nil : (n : ℕ) → take {A = List ℕ} n [] ≡ []
take-nil zero = refl
take-nil (suc n) = refl

-- what was still to be written of all, from n₀ records in out₀, is what is to be written of rest, from k records in out
pub record Same (every : List (List ℕ)) (out₀ : List ℕ) (n₀ : ℕ) (rest : List (List ℕ)) (out : List ℕ) (k : ℕ) : Type 0 where
  pub room : length out ≡ length out₀
  pub fits : k ≤ room_for out
  pub bytes : write_at n₀ every out₀ ≡ write_at k rest out
  pub count : count_at n₀ every out₀ ≡ count_at k rest out
  pub more : more_at n₀ every out₀ ≡ more_at k rest out

pub same_start : (every : List (List ℕ)) (out₀ : List ℕ) (n₀ : ℕ) → n₀ ≤ room_for out₀ → Same every out₀ n₀ every out₀ n₀
same_start every out₀ n₀ h = record { room = refl; fits = h; bytes = refl; count = refl; more = refl }

write_def : (n : ℕ) (rs : List (List ℕ)) (out : List ℕ) → write_at n rs out ≡ put (16 * n) (joined (take (room_for out - n) rs)) out
unfolding write_at
write_def n rs out = refl

count-def : (n : ℕ) (rs : List (List ℕ)) (out : List ℕ) → count_at n rs out ≡ n + length (take (room_for out - n) rs)
unfolding count_at
count-def n rs out = refl

more-def : (n : ℕ) (rs : List (List ℕ)) (out : List ℕ) → more_at n rs out ≡ ltb (room_for out - n) (length rs)
unfolding more_at
more-def n rs out = refl

-- records that fit lie within out
joined-fits : (rs : List (List ℕ)) (out : List ℕ) (k : ℕ) → Each (Long 16) rs → k ≤ room_for out → 16 * k + length (joined (take (room_for out - k) rs)) ≤ length out
unfolding room_for
joined-fits rs out k long fits =
    let t : List (List ℕ) = take (length out / 16 - k) rs in
    let j : length (joined t) ≡ 16 * length t = length-joined 16 t (each_take (length out / 16 - k) rs long) in
    omega (arith, length-take (length out / 16 - k) rs)

module _ (xs : List (List ℕ)) (out : List ℕ) (k : ℕ) (long : Each (Long 16) xs) (fits : k ≤ room_for out) where
  pub length-write : length (write_at k xs out) ≡ length out
  length-write = rw (write_def k xs out) (length-put (16 * k) (joined (take (room_for out - k) xs)) out (joined-fits xs out k long fits))

  room-write : room_for (write_at k xs out) ≡ room_for out
  unfolding room_for
  room-write = ap (λ (n : ℕ). n / 16) length-write

  module _ (few : length xs ≤ room_for out - k) where
    all-taken : take (room_for out - k) xs ≡ xs
    all-taken = take_all (room_for out - k) xs few

    count-run : count_at k xs out ≡ k + length xs
    count-run = rw (count-def k xs out, all-taken)

    module _ (ys : List (List ℕ)) where
      abbrev n : ℕ
      n = room_for out - (k + length xs)

      run-taken : take (room_for out - k) (xs ++ ys) ≡ xs ++ take (room_for out - (k + length xs)) ys
      run-taken =
          let z : room_for out - k - length xs ≡ room_for out - (k + length xs) = omega arith in
          rw (← z) (take_past (room_for out - k) xs ys few)

      run-bytes : Each (Long 16) ys → write_at k (xs ++ ys) out ≡ write_at (k + length xs) ys (write_at k xs out)
      run-bytes longy =
          let j : length (joined xs) ≡ 16 * length xs = length-joined 16 xs long in
          let z : 16 * k + length (joined xs) ≡ 16 * (k + length xs) = omega arith in
          let le : k + length xs ≤ room_for out = omega arith in
          let wr : write_at k xs out ≡ put (16 * k) (joined xs) out = rw (write_def k xs out, all-taken) in
          let lhs : write_at k (xs ++ ys) out ≡ put (16 * k) (joined xs ++ joined (take n ys)) out =
          rw (write_def k (xs ++ ys) out, run-taken, joined-append xs (take n ys)) in
          let mid : put (16 * k) (joined xs ++ joined (take n ys)) out ≡ put (16 * (k + length xs)) (joined (take n ys)) (put (16 * k) (joined xs) out) =
          sym (put_next (16 * k) (joined xs) (joined (take n ys)) out (omega (arith, joined-fits ys out (k + length xs) longy le)))
          ∙ ap (λ (i : ℕ). put i (joined (take n ys)) (put (16 * k) (joined xs) out)) z in
          let rhs : write_at (k + length xs) ys (write_at k xs out) ≡ put (16 * (k + length xs)) (joined (take n ys)) (put (16 * k) (joined xs) out) =
          write_def (k + length xs) ys (write_at k xs out)
          ∙ ap₂ (λ (r : ℕ) (o : List ℕ). put (16 * (k + length xs)) (joined (take (r - (k + length xs)) ys)) o) room-write wr in
          lhs ∙ mid ∙ sym rhs

      run-count : count_at k (xs ++ ys) out ≡ count_at (k + length xs) ys (write_at k xs out)
      run-count =
          rw (count-def k (xs ++ ys) out, run-taken, length-append xs (take n ys), count-def (k + length xs) ys (write_at k xs out), room-write) (omega arith)

      run_more : more_at k (xs ++ ys) out ≡ more_at (k + length xs) ys (write_at k xs out)
      run_more =
          rw (more-def k (xs ++ ys) out, more-def (k + length xs) ys (write_at k xs out), room-write, length-append xs ys)
          (split (room_for out - k) (length xs + length ys)
          (λ a. lt-ltb (room_for out - k) (length xs + length ys) a ∙ sym (lt-ltb n (length ys) (omega arith)))
          (λ a. le-ltb (room_for out - k) (length xs + length ys) a ∙ sym (le-ltb n (length ys) (omega arith))))

module _ (every : List (List ℕ)) (out₀ : List ℕ) (n₀ : ℕ) (xs ys : List (List ℕ)) (out : List ℕ) (k : ℕ) (s : Same every out₀ n₀ (xs ++ ys) out k)
    (long : Each (Long 16) xs) (out' : List ℕ) (k' : ℕ) (z : Bool) (r : Ran k xs out out' k' z) where
  pub same_more : Each (Long 16) ys → z ≡ false → Same every out₀ n₀ ys out' k'
  same_more longy h =
      let few : length xs ≤ room_for out - k = ltb-false (room_for out - k) (length xs) (sym (more-def k xs out) ∙ sym r.2 ∙ h) in
      let kk : k' ≡ k + length xs = r.1 ∙ count-run xs out k long s.fits few in
      record {
        room = rw r.0 (length-write xs out k long s.fits) ∙ s.room;
        fits = rw (kk, r.0, room-write xs out k long s.fits) (omega (arith, s.fits));
        bytes = s.bytes ∙ run-bytes xs out k long s.fits few ys longy ∙ rw (kk, r.0);
        count = s.count ∙ run-count xs out k long s.fits few ys ∙ rw (kk, r.0);
        more = s.more ∙ run_more xs out k long s.fits few ys ∙ rw (kk, r.0);
      }

  pub same_stop : z ≡ true → Ran n₀ every out₀ out' k' z
  same_stop h =
      let many : room_for out - k < length xs = ltb-true (room_for out - k) (length xs) (sym (more-def k xs out) ∙ sym r.2 ∙ h) in
      let t : take (room_for out - k) (xs ++ ys) ≡ take (room_for out - k) xs = take-append-le (room_for out - k) xs ys (omega arith) in
      let b : write_at k (xs ++ ys) out ≡ write_at k xs out = rw (write_def k (xs ++ ys) out, t, ← write_def k xs out) in
      let c : count_at k (xs ++ ys) out ≡ count_at k xs out = rw (count-def k (xs ++ ys) out, t, ← count-def k xs out) in
      let m : more_at k (xs ++ ys) out ≡ true =
      rw (more-def k (xs ++ ys) out, length-append xs ys) (lt-ltb (room_for out - k) (length xs + length ys) (omega arith)) in
      (r.0 ∙ sym (s.bytes ∙ b), r.1 ∙ sym (s.count ∙ c), h ∙ sym (s.more ∙ m))

-- nothing more to write
put-nil : (i : ℕ) (l : List ℕ) → put i [] l ≡ l
unfolding put
put-nil i l = rw (add-zero i) (take-append-drop i l)

pub ran-none : (n : ℕ) (out : List ℕ) → Ran n [] out out n false
ran-none n out = (
  sym (write_def n [] out ∙ rw (take-nil (room_for out - n)) (unfold joined in put-nil (16 * n) out)),
  sym (count-def n [] out ∙ rw (take-nil (room_for out - n)) (add-zero n)),
  sym (more-def n [] out ∙ le-ltb (room_for out - n) 0 (omega arith)),
)

pub same_end : (every : List (List ℕ)) (out₀ : List ℕ) (n₀ : ℕ) (out : List ℕ) (k : ℕ) → Same every out₀ n₀ [] out k → Ran n₀ every out₀ out k false
same_end every out₀ n₀ out k s = let r = ran-none k out in (r.0 ∙ sym s.bytes, r.1 ∙ sym s.count, r.2 ∙ sym s.more)

-- ---- one record

module _ (rc : List ℕ) (low high : ℕ) (out : List ℕ) (n key : ℕ) (e : key ≡ le4 rc 2) where
  one-is : between low high (rc ∷ []) ≡ pick (both (leb low key) (leb key high)) (rc ∷ []) []
  unfolding between key_of
  one-is = rw (← e)

  pub one-low : key < low → Ran n (between low high (rc ∷ [])) out out n false
  one-low h = rw (one-is, lt-leb low key h) (unfold both pick in ran-none n out)

  module _ (lo : low ≤ key) where
    pub one-high : high < key → Ran n (between low high (rc ∷ [])) out out n false
    one-high h = rw (one-is, le-leb low key lo, lt-leb key high h) (unfold both pick in ran-none n out)

    module _ (hi : key ≤ high) where
      kept-one : between low high (rc ∷ []) ≡ rc ∷ []
      kept-one = rw (one-is, le-leb low key lo, le-leb key high hi) (unfold both pick in refl)

      pub one-full : n ≤ room_for out → length out / 16 ≤ n → Ran n (between low high (rc ∷ [])) out out n true
      one-full fits h =
          let z : room_for out - n ≡ 0 = unfold room_for in omega arith in
          rw kept-one (
            sym (write_def n (rc ∷ []) out ∙ rw z (unfold joined in put-nil (16 * n) out)),
            sym (count-def n (rc ∷ []) out ∙ rw z (add-zero n)),
            sym (more-def n (rc ∷ []) out ∙ rw z (lt-ltb 0 1 (omega arith))),
          )

      pub one_written : n < length out / 16 → Ran n (between low high (rc ∷ [])) out (put (16 * n) rc out) (n + 1) false
      one_written h =
          let k : 1 ≤ room_for out - n = unfold room_for in omega arith in
          let t : take (room_for out - n) (rc ∷ []) ≡ rc ∷ [] = take_all (room_for out - n) (rc ∷ []) k in
          let j : joined (rc ∷ []) ≡ rc = unfold joined in append-nil rc in
          rw kept-one (
            sym (write_def n (rc ∷ []) out ∙ rw (t, j)),
            sym (count-def n (rc ∷ []) out ∙ rw t),
            sym (more-def n (rc ∷ []) out ∙ le-ltb (room_for out - n) 1 k),
          )

-- ---- the records of a page whose keys are all in bounds, in one run

pub all-between : (low high : ℕ) (rs : List (List ℕ)) → keys_within low (high + 1) rs ≡ true → between low high rs ≡ rs
unfolding keys_within between
all-between low high [] t = refl
all-between low high (r ∷ rs) t =
    let a : leb low (key_of r) ≡ true = both-1 _ _ t in
    let u : both (ltb (key_of r) (high + 1)) (keys_within low (high + 1) rs) ≡ true = both-2 _ _ t in
    let b : leb (key_of r) high ≡ true = le-leb (key_of r) high (omega (arith, ltb-true (key_of r) (high + 1) (both-1 _ _ u))) in
    rw (a, b, all-between low high rs (both-2 _ _ u)) (unfold both pick in refl)

room-def : (out : List ℕ) → room_for out ≡ length out / 16
unfolding room_for
room-def out = refl

rows-def : (pg : List ℕ) → rows 16 pg ≡ rows_of 16 (count pg) (drop 16 pg)
unfolding rows
rows-def pg = refl

pub whole-less! : (m room : ℕ) (x : Bool) → room < m → false ≡ both (leb m room) x
whole-less! m room x h = sym (both_false _ _ (lt-leb m room h))

pub whole-rest! : (m room : ℕ) (x z : Bool) → z ≡ x → m ≤ room → z ≡ both (leb m room) x
whole-rest! m room x z e h = e ∙ sym (both_true _ _ (le-leb m room h))

module _ (pg out : List ℕ) (m low high n : ℕ) (z : Bool) (f : m ≡ count pg)
    (e : z ≡ both (leb m (length out / 16 - n)) (keys_within low (high + 1) (rows 16 pg))) (h : not z ≡ false) (p : n ≤ room_for out) where
  told : both (leb m (length out / 16 - n)) (keys_within low (high + 1) (rows 16 pg)) ≡ true
  told = sym e ∙ not-false z h

  fits : m ≤ length out / 16 - n
  fits = leb-true m (length out / 16 - n) (both-1 _ _ told)

  pub run-room! : 16 * n + length (take (16 + 16 * m - 16) (drop 16 pg)) ≤ length out
  run-room! = omega (arith, fits, room-def out, length-take (16 + 16 * m - 16) (drop 16 pg))

  run_ran : Ran n (between low high (rows_of 16 m (drop 16 pg))) out (put (16 * n) (take (16 + 16 * m - 16) (drop 16 pg)) out) (n + m) false
  run_ran =
      let rs : List (List ℕ) = rows_of 16 m (drop 16 pg) in
      let w : keys_within low (high + 1) rs ≡ true = rw (f, ← rows-def pg) (both-2 _ _ told) in
      let l : length rs ≡ m = length-rows_of 16 m (drop 16 pg) in
      let few : length rs ≤ room_for out - n = rw (l, room-def out) fits in
      let t : take (room_for out - n) rs ≡ rs = take_all (room_for out - n) rs few in
      let i : 16 * m ≡ 16 + 16 * m - 16 = omega arith in
      let j : joined rs ≡ take (16 + 16 * m - 16) (drop 16 pg) = joined-rows_of 16 m (drop 16 pg) ∙ ap (λ (k : ℕ). take k (drop 16 pg)) i in
      rw (all-between low high rs w) (
        sym (write_def n rs out ∙ rw (t, j)),
        sym (count-def n rs out ∙ rw (t, l)),
        sym (more-def n rs out ∙ le-ltb (room_for out - n) (length rs) few),
      )

  pub page-bytes! : (out' : List ℕ) → out' ≡ put (16 * n) (take (16 + 16 * m - 16) (drop 16 pg)) out → out' ≡ write_at n (between low high (rows_of 16 m (drop 16 pg))) out
  page-bytes! out' g = g ∙ run_ran.0

  pub page-count! : n + m ≡ count_at n (between low high (rows_of 16 m (drop 16 pg))) out
  page-count! = run_ran.1

  pub page-more! : false ≡ more_at n (between low high (rows_of 16 m (drop 16 pg))) out
  page-more! = run_ran.2

-- ---- the definitions by these runs

pub written-run : (rs : List (List ℕ)) (out : List ℕ) → write_at 0 rs out ≡ written rs out
unfolding written
written-run rs out = write_def 0 rs out ∙ rw (sub-zero (room_for out))

pub count-run-all : (rs : List (List ℕ)) (out : List ℕ) → count_at 0 rs out ≡ count_written rs out
unfolding count_written
count-run-all rs out = count-def 0 rs out ∙ rw (sub-zero (room_for out), zero-add (length (take (room_for out) rs)))

pub more-run : (rs : List (List ℕ)) (out : List ℕ) → pick (more_at 0 rs out) 1 0 ≡ more_remain rs out
unfolding more_remain
more-run rs out = rw (more-def 0 rs out, sub-zero (room_for out))

pub count_small : (rs : List (List ℕ)) (out : List ℕ) (n : ℕ) → count_at n rs out ≤ n + length rs
count_small rs out n = rw (count-def n rs out) (omega (arith, length-take (room_for out - n) rs))

pub count-least : (rs : List (List ℕ)) (out : List ℕ) (n : ℕ) → n ≤ count_at n rs out
count-least rs out n = rw (count-def n rs out) (omega arith)

-- ---- the records of a page, one after the other

module _ (every : List (List ℕ)) (out₀ : List ℕ) (n₀ low high left at : ℕ) (pg out : List ℕ) (k : ℕ)
    (s : Same every out₀ n₀ (between low high (rows_of 16 left (drop at pg))) out k) (more : 0 < left) (fits : at + 16 * left ≤ length pg)
    (out' : List ℕ) (k' : ℕ) (z : Bool) (r : Ran k (between low high (take (at + 16 - at) (drop at pg) ∷ [])) out out' k' z) where
  here : List (List ℕ)
  here = between low high (part at 16 pg ∷ [])

  rest : List (List ℕ)
  rest = between low high (rows_of 16 (left - 1) (drop (at + 16) pg))

  apart : Same every out₀ n₀ (here ++ rest) out k
  unfolding here rest
  apart = rw (rows_next 16 left at pg more, between-append low high (part at 16 pg ∷ []) (rows_of 16 (left - 1) (drop (at + 16) pg))) at s

  ran : Ran k here out out' k' z
  unfolding here
  ran = rw (lent-part at 16 pg) at r

  long-here : Each (Long 16) here
  unfolding here
  long-here = each-between low high (part at 16 pg ∷ []) (cons (length_part at 16 pg (omega arith)) nil)

  long_rest : Each (Long 16) rest
  unfolding rest
  long_rest =
      each-between low high (rows_of 16 (left - 1) (drop (at + 16) pg))
      (long-rows_of 16 (left - 1) (drop (at + 16) pg) (rw (length-drop (at + 16) pg) (omega arith)))

  pub leaf-more : z ≡ false → Same every out₀ n₀ (between low high (rows_of 16 (left - 1) (drop (at + 16) pg))) out' k'
  unfolding rest
  leaf-more h = same_more every out₀ n₀ here rest out k apart long-here out' k' z ran long_rest h

  pub leaf-stop : z ≡ true → Ran n₀ every out₀ out' k' z
  leaf-stop h = same_stop every out₀ n₀ here rest out k apart long-here out' k' z ran h

  pub leaf-length : length out' ≡ length out₀
  leaf-length = rw ran.0 (length-write here out k long-here s.fits) ∙ s.room

pub leaf-end : (every : List (List ℕ)) (out₀ : List ℕ) (n₀ low high left at : ℕ) (pg out : List ℕ) (k : ℕ)
    → Same every out₀ n₀ (between low high (rows_of 16 left (drop at pg))) out k → left ≤ 0 → Ran n₀ every out₀ out k false
leaf-end every out₀ n₀ low high left at pg out k s h =
    same_end every out₀ n₀ out k (rw (none_left 16 left (drop at pg) h, (let z : between low high [] ≡ [] = unfold between in refl in z)) at s)
