-- The images logged, compared with those worked out: one image, the loop over them, and the tests before it. The laws that end in `!` are
-- for `search`. Assumes nothing.
use Prim.Native.Nat.{ℕ, zero, suc, ◌+◌, ◌-◌, ◌*◌, ◌≤◌, ◌<◌}
use native.Mathlib.Nat.{not-suc-le-zero}
use native.Mathlib.Numerals.{add-one}
use native.Mathlib.Omega.{arith}
use mathlib.Core.Path.{◌≡◌, refl, sym, ap, ap₂, ◌∙◌}
use mathlib.Core.Bool.{Bool, true, false, not}
use mathlib.Core.List.{List, [], ◌∷◌, ◌++◌, map, append-nil}
use lib.ListN.{length, take, drop, get_or, length-append, length-drop, length-map, drop_of_length-le}
use lib.Seq.{drop-drop}
use lib.Dec.{eqb}
use borrow.Author.Rules.{part_to_end}
use borrow.Author.Tests.{eq-eqb, ne_eqb, not-true, not-false}
use Rattle.field.specs.Test.{both, all}
use Rattle.field.specs.Bytes.{part, Bytes, same, le2}
use Rattle.field.proofs.Test.{both_true, both_false, both_end}
use Rattle.field.proofs.Same.{same-eq}
use Rattle.field.proofs.Number.{le4-small}
use Rattle.field.proofs.Part.{length_part, lent-part}
use Rattle.page.specs.Page.{number}
use Rattle.page.specs.Pages.{pages}
use Rattle.page.proofs.Made.{number-made}
use Rattle.logs.specs.Record.{image, length_of, Image}
use Rattle.logs.specs.Log.{read_image}
use Rattle.logs.specs.Valid.{Filed}
use Rattle.logs.specs.Scan.{images_in, images_on}
use Rattle.logs.specs.declared.scan.Walk.{Walk}
use Rattle.saving.specs.Save.{Sheet, drawn, Changed, sheets}
use Rattle.saving.specs.Draft.{sheet_of, Ready, draft_at, Plans}
use Rattle.saving.specs.Rest.{image_of, begins}
use Rattle.saving.specs.declared.draft.Draft.{Draft}
use Rattle.saving.specs.declared.plan.Plan.{Plan}
use Rattle.saving.proofs.Resumes.{begins-split}
use Rattle.saving.proofs.Told.{told-ready, told-count, told_at}
use Rattle.resuming.specs.Lacking.{drafted, Unfinished, record_on, last_number}
use Rattle.resuming.proofs.Stages.{length-drafted}

-- ---- one image

module _ (w r : List ℕ) (d : Draft) (n : ℕ) (m : List ℕ) where
  abbrev like : Bool
  like = both (eqb (le2 m 12) d.page.0) (same (part 16 256 m) (drawn n (sheet_of (pages w) r d)))

  pub page-other! : (p : ℕ) → p ≡ le2 m 12 → (p ≡ d.page.0 → ⊥) → false ≡ like
  page-other! p e f = sym (both_false _ _ (rw (← e) (ne_eqb p d.page.0 f)))

  pub page-same! : (p : ℕ) → p ≡ le2 m 12 → p ≡ d.page.0 → (pg : List ℕ) → pg ≡ drawn n (sheet_of (pages w) r d)
      → (z : Bool) → z ≡ same (take (16 + 256 - 16) (drop 16 m)) pg → z ≡ like
  unfolding part
  page-same! p e q pg ep z ez = ez ∙ sym (both_true _ _ (rw (← e) (eq-eqb p d.page.0 q)) ∙ rw (← ep))

-- ---- images one behind the other

by_tests : (a b c d : Bool) → (b ≡ true → c ≡ true) → all (a ∷ b ∷ c ∷ d ∷ []) ≡ both (both a b) d
unfolding all both
by_tests true true c d f = rw (f refl) (both_end d)
by_tests true false c d f = refl
by_tests false b c d f = refl

number-drawn : (n : ℕ) (s : Sheet) → n < 4294967296 → number (drawn n s) ≡ n
unfolding drawn
number-drawn n s h = number-made s.sign n s.spare s.rows h

-- an image that is drawn bears its number
first-image : (n : ℕ) → n < 4294967296 → (m : List ℕ) (k : ℕ) (s : Sheet) (js : List Image)
    → begins n (images_in (suc k) m) (image_of n s ∷ js) ≡ both (both (eqb (le2 m 12) s.at) (same (part 16 256 m) (drawn n s))) (begins n (images_in k (drop 272 m)) js)
unfolding begins images_in read_image image_of length_of
first-image n h m k s js =
    by_tests _ _ _ _ (λ e. eq-eqb (number (part 16 256 m)) n (rw (same-eq (part 16 256 m) (drawn n s) e) (number-drawn n s h)))

-- ---- the loop over them

pub images-start : (n : ℕ) (m : List ℕ) (js : List Image) (k : ℕ) → begins n (images_in k m) js ≡ begins n (images_in (k - 0) (drop 0 m)) (drop 0 js)
images-start n m js k = let z : k - 0 ≡ k = omega arith in rw z

module _ (n : ℕ) (m : List ℕ) (js : List Image) (k at i : ℕ) (e : begins n (images_in k m) js ≡ begins n (images_in (k - i) (drop at m)) (drop i js)) where
  pub images-end : k ≤ i → true ≡ begins n (images_in k m) js
  unfolding images_in begins
  images-end h = let z : k - i ≡ 0 = omega arith in sym (e ∙ rw z)

  module _ (small : n < 4294967296) (s : Sheet) (es : drop i js ≡ image_of n s ∷ drop (i + 1) js) (h : i < k) (z : Bool)
      (ez : z ≡ both (eqb (le2 (take (length m - at) (drop at m)) 12) s.at) (same (part 16 256 (take (length m - at) (drop at m))) (drawn n s))) where
    turn : begins n (images_in k m) js ≡ both z (begins n (images_in (k - (i + 1)) (drop (at + 272) m)) (drop (i + 1) js))
    turn =
        let j : ℕ = k - (i + 1) in
        let kj : k - i ≡ suc j = omega arith in
        let a : z ≡ both (eqb (le2 (drop at m) 12) s.at) (same (part 16 256 (drop at m)) (drawn n s)) = ez ∙ rw part_to_end in
        let d : drop 272 (drop at m) ≡ drop (at + 272) m = drop-drop 272 at m in
        e ∙ ap (λ (x : ℕ). begins n (images_in x (drop at m)) (drop i js)) kj
        ∙ ap (λ (x : List Image). begins n (images_in (suc j) (drop at m)) x) es
        ∙ first-image n small (drop at m) j s (drop (i + 1) js)
        ∙ ap₂ (λ (x : Bool) (y : List ℕ). both x (begins n (images_in j y) (drop (i + 1) js))) (sym a) d

    images-stop : not z ≡ true → false ≡ begins n (images_in k m) js
    images-stop t = sym (turn ∙ both_false _ _ (not-true z t))

    images-more : not z ≡ false → begins n (images_in k m) js ≡ begins n (images_in (k - (i + 1)) (drop (at + 272) m)) (drop (i + 1) js)
    images-more t = turn ∙ both_true _ _ (not-false z t)

drop-mapped : (f : Sheet → Image) (xs : List Sheet) (i : ℕ) (d : Sheet) → i < length xs → drop i (map f xs) ≡ f (get_or xs i d) ∷ drop (suc i) (map f xs)
drop-mapped f [] i d h = absurd (not-suc-le-zero h)
drop-mapped f (x ∷ xs) zero d h = refl
drop-mapped f (x ∷ xs) (suc i) d h = drop-mapped f xs i d (omega arith)

sheet-at : (ps : List (List ℕ)) (r : List ℕ) (d : Draft) → (sheet_of ps r d).at ≡ d.page.0
unfolding sheet_of
sheet-at ps r d = refl

-- the draft in place i stands for the i-th page that a plan lists, and can be drawn
module _ (w r : List ℕ) (x : Plan) (p : Plans w r x (sheets (drafted (pages w) r x))) where
  pub draft-next : (n i : ℕ) → i < x.count
      → drop i (map (image_of n) (drafted (pages w) r x)) ≡ image_of n (sheet_of (pages w) r (draft_at x i)) ∷ drop (i + 1) (map (image_of n) (drafted (pages w) r x))
  draft-next n i h =
      let xs : List Sheet = drafted (pages w) r x in
      let s : Sheet = sheet_of (pages w) r (draft_at x i) in
      let k : i < length xs = omega (arith, h, told-count w r x xs p) in
      rw add-one (drop-mapped (image_of n) xs i s k ∙ ap (λ (y : Sheet). image_of n y ∷ drop (suc i) (map (image_of n) xs)) (told_at w r x xs p i s h))

-- the loop's turn and its stop, by the draft that the code has
module _ (w r : List ℕ) (x : Plan) (p : Plans w r x (sheets (drafted (pages w) r x))) (n : ℕ) (small : n < 4294967296) (m : List ℕ) (k : ℕ) (few : k ≤ x.count) (at i : ℕ)
    (e : begins n (images_in k m) (map (image_of n) (drafted (pages w) r x)) ≡ begins n (images_in (k - i) (drop at m)) (drop i (map (image_of n) (drafted (pages w) r x))))
    (h : i < k) (d : Draft) (ed : d ≡ draft_at x i) (z : Bool)
    (ez : z ≡ both (eqb (le2 (take (length m - at) (drop at m)) 12) d.page.0) (same (part 16 256 (take (length m - at) (drop at m))) (drawn n (sheet_of (pages w) r d)))) where
  abbrev js : List Image
  js = map (image_of n) (drafted (pages w) r x)

  next : drop i js ≡ image_of n (sheet_of (pages w) r d) ∷ drop (i + 1) js
  next = rw ed (draft-next w r x p n i (omega arith))

  like_is : z ≡ both (eqb (le2 (take (length m - at) (drop at m)) 12) (sheet_of (pages w) r d).at) (same (part 16 256 (take (length m - at) (drop at m))) (drawn n (sheet_of (pages w) r d)))
  like_is = ez ∙ ap (λ (q : ℕ). both (eqb (le2 (take (length m - at) (drop at m)) 12) q) (same (part 16 256 (take (length m - at) (drop at m))) (drawn n (sheet_of (pages w) r d)))) (sym (sheet-at (pages w) r d))

  pub images-stopped : not z ≡ true → false ≡ begins n (images_in k m) js
  images-stopped t = images-stop n m js k at i e small (sheet_of (pages w) r d) next h z like_is t

  pub images-turned : not z ≡ false → begins n (images_in k m) js ≡ begins n (images_in (k - (i + 1)) (drop (at + 272) m)) (drop (i + 1) js)
  images-turned t = images-more n m js k at i e small (sheet_of (pages w) r d) next h z like_is t

pub draft-ready! : (w r : List ℕ) (x : Plan) (c : Changed) (i : ℕ) (d : Draft) → d ≡ draft_at x i → Plans w r x c → Ready w d
draft-ready! w r x c i d e p = rw e (told-ready w r x c p i)

-- the log has the next image
pub image-there! : (m : List ℕ) (at i k : ℕ) → at ≡ 272 * i → i < k → length_of image 1 * k ≤ length m → length_of image 1 ≤ length (take (length m - at) (drop at m))
unfolding length_of
image-there! m at i k e h q = rw (part_to_end, length-drop) (omega arith)

-- ---- the tests before it

all-third : (a b c d : Bool) → c ≡ false → all (a ∷ b ∷ c ∷ d ∷ []) ≡ false
unfolding all both
all-third true true c d e = rw e
all-third true false c d e = refl
all-third false b c d e = refl

all-fourth : (a b c d : Bool) → d ≡ false → all (a ∷ b ∷ c ∷ d ∷ []) ≡ false
unfolding all both
all-fourth true true true d e = rw e
all-fourth true true false d e = refl
all-fourth true false c d e = refl
all-fourth false b c d e = refl

-- more are logged than are worked out
begins-long : (n : ℕ) (is js : List Image) → length js < length is → begins n is js ≡ false
unfolding begins
begins-long n [] js h = absurd (not-suc-le-zero h)
begins-long n (i ∷ is) [] h = refl
begins-long n (i ∷ is) (j ∷ js) h = all-fourth _ _ _ _ (begins-long n is js (omega arith))

number_small : (l : List ℕ) → Bytes l → number l < 4294967296
unfolding number
number_small l b = le4-small l 4 b

-- no four bytes bear the number
begins-high : (n p : ℕ) (is js : List Image) → Filed p is → 0 < length is → 4294967295 < n → begins n is js ≡ false
unfolding begins
begins-high n p [] js f h k = absurd (not-suc-le-zero h)
begins-high n p (i ∷ is) [] f h k = refl
begins-high n p (i ∷ is) (j ∷ js) f h k = all-third _ _ _ _ (ne_eqb (number i.bytes) n (λ e. omega (arith, number_small i.bytes f.0.bytes)))

-- those logged are no more than those worked out, and where they are as many, the same
pub begins-few : (n : ℕ) (is js : List Image) → begins n is js ≡ true → length is ≤ length js
begins-few n is js e = omega (arith, ap length (begins-split n is js e), length-append is (drop (length is) js))

pub begins-all : (n : ℕ) (is js : List Image) → begins n is js ≡ true → length js ≤ length is → is ≡ js
begins-all n is js e h =
    sym (begins-split n is js e ∙ ap (λ (ks : List Image). is ++ ks) (drop_of_length-le js h) ∙ append-nil is)

length-images : (k : ℕ) (m : List ℕ) → length (images_in k m) ≡ k
unfolding images_in
length-images zero m = refl
length-images (suc k) m = ap suc (length-images k (drop (length_of image 1) m))

module _ (l : List ℕ) (w : Walk) where
  pub many-images : length (images_on l w) ≡ w.done
  unfolding images_on
  many-images = length-images w.done _

  -- record and images, as the code lends them
  pub record-lent : take (w.begin + 44 + 16 - (w.begin + 44)) (drop (w.begin + 44) l) ≡ record_on l w
  unfolding record_on
  record-lent = lent-part (w.begin + 44) 16 l

  pub images-lent : images_in w.done (take (length l - (w.begin + 44 + 16)) (drop (w.begin + 44 + 16) l)) ≡ images_on l w
  unfolding images_on length_of
  images-lent =
      let k : w.begin + 60 ≡ w.begin + 44 + 16 = omega arith in
      let d : drop 60 (drop w.begin l) ≡ drop (w.begin + 44 + 16) l = drop-drop 60 w.begin l ∙ ap (λ (y : ℕ). drop y l) k in
      rw (part_to_end, d)

  module _ (u : Unfinished l w) where
    pub record-long : length (take (w.begin + 44 + 16 - (w.begin + 44)) (drop (w.begin + 44) l)) ≡ 16
    unfolding length_of
    record-long = rw (lent-part (w.begin + 44) 16 l) (length_part (w.begin + 44) 16 l (omega (arith, u.laid, u.inside)))

    pub images-there : length_of image 1 * w.done ≤ length (take (length l - (w.begin + 44 + 16)) (drop (w.begin + 44 + 16) l))
    unfolding length_of
    images-there = rw (part_to_end, length-drop) (omega (arith, u.laid, u.inside))

  -- the plan over the record that the code lends
  pub record-given : (v : List ℕ) (x : Plan) → Unfinished l w → Plans v (record_on l w) x (sheets (drafted (pages v) (record_on l w) x))
      → let r : List ℕ = take (w.begin + 44 + 16 - (w.begin + 44)) (drop (w.begin + 44) l) in (length r ≡ 16) × Plans v r x (sheets (drafted (pages v) r x))
  record-given v x u p = (record-long u, rw record-lent p)

  module _ (v : List ℕ) (x : Plan) where
    abbrev agree : Bool
    agree = begins (last_number w x.count) (images_on l w) (map (image_of (last_number w x.count)) (drafted (pages v) (record_on l w) x))

    pub agree-none : w.done ≡ 0 → true ≡ agree
    unfolding images_on images_in begins
    agree-none h = rw h

    pub agree-few : x.count < w.done → Plans v (record_on l w) x (sheets (drafted (pages v) (record_on l w) x)) → false ≡ agree
    agree-few h p =
        let xs : List Sheet = drafted (pages v) (record_on l w) x in
        let js : List Image = map (image_of (last_number w x.count)) xs in
        let c : length js ≡ x.count = length-map xs (image_of (last_number w x.count)) ∙ length-drafted v (record_on l w) x _ p in
        let k : length js < length (images_on l w) = omega (arith, c, many-images) in
        sym (begins-long (last_number w x.count) (images_on l w) js k)

    module _ (last : ℕ) (el : last ≡ last_number w x.count) where
      pub agree-high : (w.done ≡ 0 → ⊥) → Filed 0 (images_on l w) → 4294967295 < last → false ≡ agree
      agree-high f q h =
          let k : 0 < length (images_on l w) = omega (arith, many-images) in
          let m : 4294967295 < last_number w x.count = omega (arith, el) in
          sym (begins-high (last_number w x.count) 0 (images_on l w) _ q k m)

      pub agree-all : (z : Bool)
          → z ≡ begins last (images_in w.done (take (length l - (w.begin + 44 + 16)) (drop (w.begin + 44 + 16) l)))
          (map (image_of last) (drafted (pages v) (take (w.begin + 44 + 16 - (w.begin + 44)) (drop (w.begin + 44) l)) x)) → z ≡ agree
      agree-all z e = e ∙ rw (el, images-lent, record-lent)
