-- The ways through the test of an LO, for `search`, and the largest key of its rows. Assumes nothing.
use Prim.Native.Nat.{ℕ, zero, suc, ◌+◌, ◌-◌, ◌*◌, ◌≤◌, ◌<◌}
use native.Mathlib.Nat.{not-suc-le-zero}
use native.Mathlib.Numerals.{sub-one}
use native.Mathlib.Omega.{arith}
use mathlib.Core.Path.{◌≡◌, refl, sym, ap, ◌∙◌}
use mathlib.Core.Bool.{Bool, true, false, not}
use mathlib.Core.List.{List, [], ◌∷◌, ◌++◌}
use lib.ListN.{length, take, drop}
use lib.Dec.{leb}
use borrow.Author.Tests.{le-leb, lt-leb, not-true, not-false}
use Rattle.field.specs.Test.{all, pick}
use Rattle.field.specs.Bytes.{part, put, starts, le2, le4, bytes2, bytes4, most4}
use Rattle.field.proofs.Test.{both_true, both_false, both_end, pick_true, pick-false}
use Rattle.field.proofs.Part.{split, part-drop}
use Rattle.page.specs.Page.{rows_of, joined, key_of, ascend, ascend_records}
use Rattle.page.proofs.Rows.{joined-rows_of, length-rows_of, key_row}
use Rattle.page.proofs.Order.{First, ascend-facts}
use Rattle.logs.specs.Record.{LO, length_of, kind_of, carried, size, header, encode}
use Rattle.logs.specs.Table.{kinds, kind_at}
use Rattle.logs.specs.Write.{paged}
use Rattle.logs.specs.Log.{largest}
use Rattle.logs.specs.Stand.{stands, stands_out}
use Rattle.logs.proofs.Puts.{encode-out}
use Rattle.logs.proofs.Fields.{all-fail}
use Rattle.logs.proofs.Starts.{starts-cat, starts-part}
use Rattle.logs.proofs.Stand.{put-front-is, both-none}

-- ---- the largest key of rows that ascend is that of the last

last_of : List ℕ → List (List ℕ) → List ℕ
last_of r [] = r
last_of r (s ∷ ss) = last_of s ss

-- a row's key is no larger than the last one's
last-low : (lo : ℕ) (r : List ℕ) (rs : List (List ℕ)) → ascend 114 99 lo (r ∷ rs) ≡ true → lo ≤ key_of (last_of r rs)
unfolding last_of
last-low lo r [] e = (ascend-facts 114 99 lo r [] e).low
last-low lo r (s ∷ ss) e =
    let f : First 114 99 lo r (s ∷ ss) = ascend-facts 114 99 lo r (s ∷ ss) e in
    let d : key_of r + 1 ≤ key_of (last_of s ss) = last-low (key_of r + 1) s ss f.after in
    omega (arith, f.low)

-- the larger of a number and a key, then of that and a later key
larger-twice : (m j k : ℕ) → j ≤ k → pick (leb (pick (leb m j) j m) k) k (pick (leb m j) j m) ≡ pick (leb m k) k m
larger-twice m j k h =
    split j m
    (λ g. rw (pick-false (leb m j) j m (lt-leb m j g)))
    (λ g. rw (pick_true (leb m j) j m (le-leb m j g)) (pick_true (leb j k) k j (le-leb j k h) ∙ sym (pick_true (leb m k) k m (le-leb m k (omega arith)))))

largest-last : (m lo : ℕ) (r : List ℕ) (rs : List (List ℕ)) → ascend 114 99 lo (r ∷ rs) ≡ true
    → largest m (r ∷ rs) ≡ pick (leb m (key_of (last_of r rs))) (key_of (last_of r rs)) m
unfolding largest last_of
largest-last m lo r [] e = refl
largest-last m lo r (s ∷ ss) e =
    let f : First 114 99 lo r (s ∷ ss) = ascend-facts 114 99 lo r (s ∷ ss) e in
    let d : key_of r + 1 ≤ key_of (last_of s ss) = last-low (key_of r + 1) s ss f.after in
    largest-last (pick (leb m (key_of r)) (key_of r) m) (key_of r + 1) s ss f.after ∙ larger-twice m (key_of r) (key_of (last_of s ss)) (omega arith)

-- where the last of n + 1 rows stands
last_row : (n : ℕ) (l : List ℕ) → last_of (take 16 l) (rows_of 16 n (drop 16 l)) ≡ part (16 * n) 16 l
unfolding rows_of last_of
last_row zero l = unfold part in refl
last_row (suc n) l =
    let e : 16 * suc n ≡ 16 + 16 * n = omega arith in
    last_row n (drop 16 l) ∙ part-drop 16 (16 * n) 16 l ∙ rw e

pub largest-key! : (m start n : ℕ) (l : List ℕ) → 1 ≤ n → ascend 114 99 0 (rows_of 16 n (drop start l)) ≡ true
    → (k v : ℕ) → k ≡ le4 l (start + 16 * (n - 1) + 2) → v ≡ pick (leb m k) k m → v ≡ largest m (rows_of 16 n (drop start l))
unfolding rows_of
largest-key! m start zero l h e k v p q = absurd (not-suc-le-zero h)
largest-key! m start (suc n) l h e k v p q =
    let at : key_of (last_of (take 16 (drop start l)) (rows_of 16 n (drop 16 (drop start l)))) ≡ k =
    ap key_of (last_row n (drop start l) ∙ part-drop start (16 * n) 16 l) ∙ key_row 16 (start + 16 * n) l (omega arith) ∙ sym (p ∙ rw sub-one) in
    q ∙ sym (largest-last m 0 (take 16 (drop start l)) (rows_of 16 n (drop 16 (drop start l))) e ∙ rw at)

-- ---- an LO

module _ (m : List ℕ) (n org dest : ℕ) where
  out_rows : List (List ℕ)
  out_rows = rows_of 16 (le2 m 16) (drop 20 m)

  out-size : size (LO org dest out_rows) ≡ 20 + 16 * le2 m 16
  unfolding size carried kind_of length_of out_rows
  out-size = rw (length-rows_of 16 (le2 m 16) (drop 20 m))

  out-fits : (k : ℕ) (rs : List (List ℕ)) → length rs ≡ k → 20 + 16 * k ≤ length m → leb (size (LO org dest rs)) (length m) ≡ true
  unfolding size carried kind_of length_of
  out-fits k rs e h = rw e (le-leb (20 + 16 * k) (length m) h)

  -- too few bytes
  out-room : length m < 20 + 16 * le2 m 16 → false ≡ stands_out n org dest m
  unfolding stands_out stands all out_rows
  out-room h =
      let e : leb (size (LO org dest (rows_of 16 (le2 m 16) (drop 20 m)))) (length m) ≡ false = rw out-size (lt-leb (20 + 16 * le2 m 16) (length m) h) in
      sym (both-none _ _ (both-none (leb n most4) _ (both_false _ _ e)))

  pub out-short! : (f : ℕ) → f ≡ length_of (kind_at 2) 0 → length m < f → false ≡ stands_out n org dest m
  unfolding length_of kind_at kinds
  out-short! f e h = out-room (omega arith)

  module _ (k : ℕ) (q : k ≡ le2 m 16) where
    pub out-few! : k < 1 → false ≡ stands_out n org dest m
    unfolding stands_out
    out-few! h = sym (both_false _ _ (sym (all-fail (leb 1 (le2 m 16) ∷ leb (le2 m 16) 15 ∷ ascend_records 0 (rows_of 16 (le2 m 16) (drop 20 m)) ∷ []) 0 (rw (← q) (lt-leb 1 k h)))))

    pub out-many! : 15 < k → false ≡ stands_out n org dest m
    unfolding stands_out
    out-many! h = sym (both_false _ _ (sym (all-fail (leb 1 (le2 m 16) ∷ leb (le2 m 16) 15 ∷ ascend_records 0 (rows_of 16 (le2 m 16) (drop 20 m)) ∷ []) 1 (rw (← q) (lt-leb k 15 h)))))

    pub out-long! : (g : ℕ) → g ≡ length_of (kind_at 2) k → length m < g → false ≡ stands_out n org dest m
    unfolding length_of kind_at kinds
    out-long! g e h = out-room (rw (← q) (omega arith))

    module _ (f : ℕ) (ef : f ≡ length_of (kind_at 2) 0) (z : Bool) (e₀ : z ≡ ascend 114 99 0 (rows_of 16 k (drop f m))) where
      twenty : f ≡ 20
      unfolding length_of kind_at kinds
      twenty = ef

      e : z ≡ ascend 114 99 0 (rows_of 16 k (drop 20 m))
      e = rw twenty at e₀

      pub out-rows! : not z ≡ true → false ≡ stands_out n org dest m
      unfolding stands_out
      out-rows! h =
          sym (both_false _ _ (sym (all-fail (leb 1 (le2 m 16) ∷ leb (le2 m 16) 15 ∷ ascend_records 0 (rows_of 16 (le2 m 16) (drop 20 m)) ∷ []) 2 (rw (← q) (sym e ∙ not-true z h)))))

      pub out-whole! : n ≤ most4 → 20 + 16 * k ≤ length m → not z ≡ false → 1 ≤ k → k ≤ 15 → (w : Bool) (b c : List ℕ) → w ≡ starts (take f b) (drop 0 m)
          → b ≡ put 0 (paged (kind_at 2) k n org dest k) c → w ≡ stands_out n org dest m
      unfolding stands_out stands all
      out-whole! h4 h3 g h1 h2 w b c i j =
          let rs : List (List ℕ) = rows_of 16 k (drop 20 m) in
          let p : List ℕ = paged (kind_at 2) k n org dest k in
          let lp : length p ≡ 20 = unfold paged header bytes2 bytes4 in refl in
          let lr : length rs ≡ k = length-rows_of 16 k (drop 20 m) in
          let jr : joined rs ≡ part 20 (16 * k) m = unfold part in joined-rows_of 16 k (drop 20 m) in
          let en : encode n (LO org dest rs) ≡ p ++ part 20 (16 * k) m = encode-out n org dest rs ∙ rw (lr, jr) in
          let st : starts (encode n (LO org dest rs)) m ≡ starts p m =
          ap (λ (x : List ℕ). starts x m) en ∙ starts-cat p (part 20 (16 * k) m) m 20 lp (omega arith) ∙ rw (starts-part 20 (16 * k) m h3) (both_end (starts p m)) in
          let sz : leb (size (LO org dest rs)) (length m) ≡ true = out-fits k rs lr h3 in
          let wi : w ≡ starts p m = i ∙ rw (twenty, j, put-front-is p c 20 lp) in
          rw (← q) (wi ∙ sym (both_true _ _ (both_true _ _ (le-leb 1 k h1) ∙ both_true _ _ (le-leb k 15 h2) ∙ both_true _ _ (sym e ∙ not-false z g))
          ∙ both_true _ _ (le-leb n most4 h4) ∙ both_true _ _ sz ∙ both_end _ ∙ st))
