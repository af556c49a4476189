-- The images of a put or delete in the log: the least page that may come next, and the ways through the tests of an LG and of the LE, for
-- `search`. Assumes nothing.
use Prim.Native.Nat.{ℕ, zero, suc, ◌+◌, ◌-◌, ◌*◌, ◌≤◌, ◌<◌}
use native.Mathlib.Nat.{not-suc-le-zero}
use native.Mathlib.Omega.{arith}
use mathlib.Core.Path.{◌≡◌, refl, sym, ap, ◌∙◌}
use mathlib.Core.Bool.{Bool, true, false, not}
use mathlib.Core.List.{List, [], ◌∷◌, ◌++◌}
use lib.ListN.{length, take, drop, get_or, length-drop}
use lib.Seq.{drop-drop}
use lib.Dec.{eqb, leb}
use borrow.Author.Tests.{eq-eqb, ne_eqb, le-leb, lt-leb, not-true, not-false}
use Rattle.field.specs.Test.{both, all, pick}
use Rattle.field.specs.Bytes.{part, put, starts, le2, le4, most4}
use borrow.Author.Rules.{part_to_end}
use Rattle.field.proofs.Test.{both_true, both_false, both_end, both-2, pick_true, pick-false, pick-either}
use Rattle.field.proofs.Number.{le2-drop, le4-part, le4-drop}
use Rattle.page.specs.Page.{last_leaf, number, formed}
use Rattle.logs.specs.Record.{begin, image, length_of, Image, LG, LE, kind_of, carried, size, body, previous, encode}
use Rattle.logs.specs.Table.{kinds, kind_at}
use Rattle.logs.specs.Write.{image_of, image_head}
use Rattle.logs.specs.Log.{past, all_bear, read_image, follows}
use Rattle.logs.specs.Stand.{stands, stands_image, stands_last}
use Rattle.logs.specs.Scan.{images_in, images_on, Saving, lost, went, ended, saved}
use Rattle.logs.specs.declared.scan.Walk.{Walk}
use Rattle.logs.proofs.Puts.{encode-image, length-image_head}
use Rattle.logs.proofs.Starts.{starts-cat, starts-part}
use Rattle.logs.proofs.Stand.{put-front-is, both-none}
use Rattle.logs.proofs.Signs.{drawn-room, close-room}
use Rattle.logs.proofs.Held.{images_in-more}

-- ---- the loop over images that must bear a number: a turn and its ends

bear-first : (n at k : ℕ) (m : List ℕ) → 0 < k
    → all_bear n (images_in k (drop at m)) ≡ both (eqb (le4 m (at + 16 + 4)) n) (all_bear n (images_in (k - 1) (drop (at + 272) m)))
unfolding images_in all_bear read_image number length_of
bear-first n at zero m h = absurd (not-suc-le-zero h)
bear-first n at (suc k) m h =
    let e : le4 (part 16 256 (drop at m)) 4 ≡ le4 m (at + 16 + 4) = le4-part 16 256 (drop at m) 4 (omega arith) ∙ le4-drop at 20 m ∙ ap (le4 m) (omega arith) in
    let d : drop 272 (drop at m) ≡ drop (at + 272) m = drop-drop 272 at m in
    let j : suc k - 1 ≡ k = omega arith in
    rw (e, d, j)

module _ (n k₀ : ℕ) (m : List ℕ) (at k : ℕ) (e : all_bear n (images_in k₀ m) ≡ all_bear n (images_in k (drop at m))) where
  pub bear-end! : k ≤ 0 → true ≡ all_bear n (images_in k₀ m)
  unfolding images_in all_bear
  bear-end! h = let z : k ≡ 0 = omega arith in sym (e ∙ rw z)

  module _ (h : 0 < k) (v : ℕ) (q : v ≡ le4 m (at + 16 + 4)) where
    pub bear-stop! : (v ≡ n → ⊥) → false ≡ all_bear n (images_in k₀ m)
    bear-stop! f = sym (e ∙ bear-first n at k m h ∙ both_false _ _ (rw (← q) (ne_eqb v n f)))

    pub bear-more! : v ≡ n → (long : ℕ) → long ≡ length_of (kind_at 6) 1 → all_bear n (images_in k₀ m) ≡ all_bear n (images_in (k - 1) (drop (at + long) m))
    unfolding length_of kind_at kinds
    bear-more! f long p = e ∙ bear-first n at k m h ∙ rw p (both_true _ _ (rw (← q) (eq-eqb v n f)))

-- ---- the least page that may come next

past-last : (p : ℕ) (is : List Image) (i : Image) → past p (is ++ i ∷ []) ≡ i.at + 1
unfolding past
past-last p [] i = refl
past-last p (j ∷ is) i = past-last (j.at + 1) is i

module _ (l : List ℕ) (w : Walk) where
  pub least-none : w.done ≡ 0 → 0 ≡ past 0 (images_on l w)
  unfolding images_on images_in past
  least-none h = rw h

  pub least-some : (w.done ≡ 0 → ⊥) → Saving l w → (long v : ℕ) → long ≡ length_of (kind_at 6) 1 → v ≡ le2 l (w.at - long + 12) → v + 1 ≡ past 0 (images_on l w)
  unfolding images_on length_of kind_at kinds read_image
  least-some h s long v q e =
      let k : ℕ = w.done - 1 in
      let dk : w.done ≡ suc k = omega arith in
      let b : List ℕ = drop 60 (drop w.begin l) in
      let o : le2 (drop (272 * k) b) 12 ≡ v =
      ap (λ (x : List ℕ). le2 x 12) (ap (drop (272 * k)) (drop-drop 60 w.begin l) ∙ drop-drop (272 * k) (w.begin + 60) l)
      ∙ le2-drop (w.begin + 60 + 272 * k) 12 l
      ∙ ap (le2 l) (omega (arith, s.laid, dk, q)) ∙ sym e in
      sym (ap (λ (x : ℕ). past 0 (images_in x b)) dk ∙ ap (past 0) (images_in-more k b) ∙ past-last 0 (images_in k b) (read_image (drop (272 * k) b)) ∙ rw o)

-- ---- an LG

module _ (n : ℕ) (m : List ℕ) (is : List Image) where
  pub image-short : (long : ℕ) → long ≡ length_of (kind_at 6) 1 → length m < long → false ≡ stands_image n is m
  unfolding stands_image stands all size carried kind_of kind_at kinds
  image-short long q h = sym (both-none _ _ (both-none (leb n most4) _ (both_false _ _ (rw (← q) (lt-leb long (length m) h)))))

  module _ (least p : ℕ) (pl : past 0 is ≡ least) (pp : p ≡ le2 m 12) where
    pub image-low : p < least → false ≡ stands_image n is m
    unfolding stands_image follows read_image all
    image-low h = sym (both_false _ _ (both_false _ _ (rw (pl, ← pp) (lt-leb least p h))))

    pub image-high : last_leaf < p → false ≡ stands_image n is m
    unfolding stands_image follows read_image all
    image-high h = sym (both_false _ _ (both-none _ _ (both_false _ _ (rw (← pp) (lt-leb p last_leaf h)))))

    module _ (from long : ℕ) (pf : from ≡ length_of (kind_at 6) 0) (pg : long ≡ length_of (kind_at 6) 1) (z : Bool) (ez : z ≡ formed p (take (long - from) (drop from m))) where
      form-is : z ≡ formed (le2 m 12) (part 16 256 m)
      unfolding length_of kind_at kinds part
      form-is = ez ∙ rw (pf, pg, pp)

      pub image-form : not z ≡ true → false ≡ stands_image n is m
      unfolding stands_image follows read_image all
      image-form h = sym (both_false _ _ (both-none _ _ (both-none _ _ (both_false _ _ (sym form-is ∙ not-true z h)))))

      pub image-rest : not z ≡ false → least ≤ p → p ≤ last_leaf → n ≤ most4 → long ≤ length m
          → (x : Bool) (b c : List ℕ) → x ≡ starts (take from b) (drop 0 m) → b ≡ put 0 (image_head n p) c → x ≡ stands_image n is m
      unfolding stands_image follows read_image all stands size carried kind_of length_of kind_at kinds
      image-rest h a d k r x b c ex eb =
          let room : 272 ≤ length m = omega (arith, pg) in
          let hd : x ≡ starts (image_head n p) m = ex ∙ rw (pf, eb, put-front-is (image_head n p) c 16 (length-image_head n p)) in
          let en : encode n (LG (image_of (le2 m 12) (part 16 256 m))) ≡ image_head n p ++ part 16 256 m = rw pp (encode-image n (le2 m 12) (part 16 256 m)) in
          let st : starts (encode n (LG (image_of (le2 m 12) (part 16 256 m)))) m ≡ starts (image_head n p) m =
          rw en (starts-cat (image_head n p) (part 16 256 m) m 16 (length-image_head n p) (omega arith) ∙ rw (starts-part 16 256 m (omega arith)) (both_end _)) in
          let f1 : leb (past 0 is) (le2 m 12) ≡ true = rw (pl, ← pp) (le-leb least p a) in
          let f2 : leb (le2 m 12) last_leaf ≡ true = rw (← pp) (le-leb p last_leaf d) in
          let f3 : formed (le2 m 12) (part 16 256 m) ≡ true = sym form-is ∙ not-false z h in
          hd ∙ sym (both_true _ _ (both_true _ _ f1 ∙ both_true _ _ f2 ∙ both_end _ ∙ f3)
          ∙ both_true _ _ (le-leb n most4 k) ∙ both_true _ _ (le-leb 272 (length m) room) ∙ both_end _ ∙ st)

-- it ends in the log
pub image-room : (n : ℕ) (is : List Image) (l : List ℕ) (at : ℕ) (z : Bool) → z ≡ stands_image n is (drop at l) → not z ≡ false → at + 272 ≤ length l
unfolding stands_image
image-room n is l at z e h =
    let r : 272 ≤ length (drop at l) = drawn-room n (read_image (drop at l)) (drop at l) (both-2 _ _ (sym e ∙ not-false z h)) in
    let d : length (drop at l) ≡ length l - at = length-drop at l in
    omega arith

-- ---- the LE

module _ (l : List ℕ) (w : Walk) (x : Walk) where
  -- the images, as the code lends them
  bear-is : (z : Bool) (n from : ℕ) → from ≡ w.begin + length_of (kind_at 1) 1 → z ≡ all_bear n (images_in w.done (take (length l - from) (drop from l)))
      → z ≡ all_bear n (images_on l w)
  unfolding images_on kind_at kinds
  bear-is z n from p e =
      let d : drop (length_of begin 1) (drop w.begin l) ≡ drop from l = drop-drop (length_of begin 1) w.begin l ∙ ap (λ (y : ℕ). drop y l) (sym p) in
      e ∙ rw (d, part_to_end)

  module _ (n : ℕ) where
    length-images : (k : ℕ) (m : List ℕ) → length (images_in k m) ≡ k
    unfolding images_in
    length-images zero m = refl
    length-images (suc k) m = ap suc (length-images k (drop (length_of image 1) m))

    many-images : length (images_on l w) ≡ w.done
    unfolding images_on
    many-images = length-images w.done _

    pub last_none : x ≡ lost → w.done ≡ 0 → x ≡ pick (stands_last n w.unit.0 (images_on l w) (drop w.at l)) (ended w false) lost
    unfolding stands_last
    last_none e h = e ∙ sym (pick-false _ _ _ (both_false _ _ (both_false _ _ (rw (many-images, h) (lt-leb 1 0 (omega arith))))))

    module _ (z : Bool) (from : ℕ) (pf : from ≡ w.begin + length_of (kind_at 1) 1) (e : z ≡ all_bear n (images_in w.done (take (length l - from) (drop from l)))) where
      pub last-other : x ≡ lost → not z ≡ true → x ≡ pick (stands_last n w.unit.0 (images_on l w) (drop w.at l)) (ended w false) lost
      unfolding stands_last
      last-other q h = q ∙ sym (pick-false _ _ _ (both_false _ _ (both-none _ _ (sym (bear-is z n from pf e) ∙ not-true z h))))

      -- an LE stands whatever its images
      last-is : (w.done ≡ 0 → ⊥) → not z ≡ false → stands_last n w.unit.0 (images_on l w) (drop w.at l) ≡ stands n (LE w.unit.0 []) (drop w.at l)
      unfolding stands_last stands size carried kind_of encode
      last-is f h =
          both_true _ _ (both_true _ _ (le-leb 1 (length (images_on l w)) (rw many-images (omega arith))) ∙ sym (bear-is z n from pf e) ∙ not-false z h) ∙ (unfold body previous in refl)

      module _ (f : w.done ≡ 0 → ⊥) (h : not z ≡ false) (y : Bool) (ey : y ≡ stands n (LE w.unit.0 []) (drop w.at l)) where
        pub last-lost : x ≡ lost → not y ≡ true → x ≡ pick (stands_last n w.unit.0 (images_on l w) (drop w.at l)) (ended w false) lost
        last-lost q g = q ∙ sym (pick-false _ _ _ (last-is f h ∙ sym ey ∙ not-true y g))

        pub last_on : x ≡ ended w false → not y ≡ false → x ≡ pick (stands_last n w.unit.0 (images_on l w) (drop w.at l)) (ended w false) lost
        last_on q g = q ∙ sym (pick_true _ _ _ (last-is f h ∙ sym ey ∙ not-false y g))

-- it ends in the log
pub last-room : (n u : ℕ) (l : List ℕ) (at : ℕ) (z : Bool) → z ≡ stands n (LE u []) (drop at l) → not z ≡ false → at + 16 ≤ length l
last-room n u l at z e h =
    let r : 16 ≤ length (drop at l) = close-room n u [] (drop at l) (sym e ∙ not-false z h) in
    let d : length (drop at l) ≡ length l - at = length-drop at l in
    omega arith

-- ---- either

module _ (w : Walk) (m : List ℕ) (is : List Image) (x : Walk) where
  pub save-short : x ≡ lost → length m < 16 → x ≡ saved w m is
  unfolding saved stands_image stands_last stands all size carried kind_of length_of
  save-short e h =
      let a : stands_image (w.number.0 + 1) is m ≡ false = unfold stands_image stands all size carried kind_of length_of in
      both-none _ _ (both-none (leb (w.number.0 + 1) most4) _ (both_false _ _ (lt-leb 272 (length m) (omega arith)))) in
      let b : stands_last (w.number.0 + 1) w.unit.0 is m ≡ false = unfold stands_last stands all size carried kind_of length_of in
      both-none _ _ (both-none (leb (w.number.0 + 1) most4) _ (both_false _ _ (lt-leb 16 (length m) h))) in
      e ∙ sym (pick-either (λ (y : Walk). y ≡ lost) (eqb (get_or m 1 0) 71) _ _ (pick-false _ _ _ a) (pick-false _ _ _ b))

  pub save-image : get_or m 1 0 ≡ 71 → x ≡ pick (stands_image (w.number.0 + 1) is m) (went w (length_of image 1) 0 0 w.moved) lost → x ≡ saved w m is
  unfolding saved
  save-image h e = e ∙ sym (pick_true _ _ _ (eq-eqb (get_or m 1 0) 71 h))

  pub save-last : (get_or m 1 0 ≡ 71 → ⊥) → x ≡ pick (stands_last (w.number.0 + 1) w.unit.0 is m) (ended w false) lost → x ≡ saved w m is
  unfolding saved
  save-last h e = e ∙ sym (pick-false _ _ _ (ne_eqb (get_or m 1 0) 71 h))
