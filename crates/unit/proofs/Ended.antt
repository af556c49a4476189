-- The images of an LE: their pages are pages of the 64, each once; the image of a page is in form and bears the LE's number; and what the LE
-- does, made or repeated, is its images laid one after the other. Assumes nothing.
use Prim.Native.Nat.{ℕ, zero, suc, ◌+◌, ◌-◌, ◌*◌, ◌≤◌, ◌<◌}
use native.Mathlib.Nat.{not-suc-le-zero}
use native.Mathlib.Omega.{arith}
use mathlib.Core.Path.{◌≡◌, refl, sym, ap, ◌∙◌}
use mathlib.Core.Logic.{⊎_elim}
use mathlib.Core.Bool.{Bool, true, false, false≢true}
use mathlib.Core.List.{List, [], ◌∷◌}
use mathlib.Core.Option.{some}
use lib.ListN.{length, take, drop}
use lib.Seq.{drop-drop}
use lib.Dec.{eqb, leb}
use borrow.Author.Tests.{eqb-true, eq-eqb, ne_eqb}
use Rattle.field.specs.Test.{pick, bind}
use Rattle.field.specs.Bytes.{part, put, Bytes, le2}
use Rattle.field.proofs.Test.{both-1, both-2, pick_true, pick-false, pick-either}
use Rattle.field.proofs.Number.{le2-drop}
use Rattle.page.specs.Page.{number, formed}
use Rattle.page.specs.Pages.{page, put_page}
use Rattle.page.proofs.Pages.{put_page-page}
use Rattle.logs.specs.Record.{length_of, Image, LE}
use Rattle.logs.specs.Table.{kinds, kind_at}
use Rattle.logs.specs.Log.{listed, all_bear, read_image}
use Rattle.logs.specs.Valid.{Lies, Filed}
use Rattle.logs.specs.Scan.{images_in}
use Rattle.unit.specs.Next.{places_of, image_at, targets, change, change_again, changed_at, apply, repeat}
use Rattle.unit.specs.Made.{ended}
use Rattle.unit.proofs.Pagewise.{listed-none, listed-cases, Once}

-- ---- the pages

away : (q p : ℕ) (is : List Image) → q < p → Filed p is → listed q (places_of is) ≡ false
unfolding places_of listed
away q p [] h f = refl
away q p (i ∷ is) h f = pick-false _ _ _ (ne_eqb q i.at (λ e. omega (arith, f.0.low))) ∙ away q (i.at + 1) is (omega (arith, f.0.low)) f.1

pub places-once : (p : ℕ) (is : List Image) → Filed p is → Once (places_of is)
unfolding places_of
places-once p [] f = tt
places-once p (i ∷ is) f = (omega (arith, f.0.high), away i.at (i.at + 1) is (omega arith) f.1, places-once (i.at + 1) is f.1)

-- ---- the image of a page

-- the image of page p, where there is one, with the number n
pub record Imaged (n p : ℕ) (pg : List ℕ) : Type 0 where
  pub form : formed p pg ≡ true
  pub stamp : number pg ≡ n
  pub whole : length pg ≡ 256
  pub bytes : Bytes pg

image-here : (n lo : ℕ) (i : Image) → Lies lo i → eqb (number i.bytes) n ≡ true → Imaged n i.at i.bytes
image-here n lo i f b = record { form = f.form; stamp = eqb-true _ _ b; whole = f.long; bytes = f.bytes }

image-by : (n lo p : ℕ) (i : Image) (is : List Image) (pg : List ℕ) → Lies lo i → eqb (number i.bytes) n ≡ true → listed p (i.at ∷ places_of is) ≡ true
    → (listed p (places_of is) ≡ true → Imaged n p (image_at p is pg)) → (z : Bool) → eqb i.at p ≡ z → Imaged n p (pick z i.bytes (image_at p is pg))
unfolding pick
image-by n lo p i is pg f b t rest true e = let q : i.at ≡ p = eqb-true i.at p e in rw (← q) (image-here n lo i f b)
image-by n lo p i is pg f b t rest false e =
    rest (⊎_elim (λ (q : p ≡ i.at). absurd (false≢true (sym e ∙ eq-eqb i.at p (sym q)))) (λ (q : listed p (places_of is) ≡ true). q) (listed-cases p i.at (places_of is) t))

pub image-at : (n lo p : ℕ) (is : List Image) (pg : List ℕ) → Filed lo is → all_bear n is ≡ true → listed p (places_of is) ≡ true → Imaged n p (image_at p is pg)
unfolding image_at all_bear places_of
image-at n lo p [] pg f b t = absurd (listed-none p t)
image-at n lo p (i ∷ is) pg f b t =
    image-by n lo p i is pg f.0 (both-1 _ _ b) t (λ k. image-at n (i.at + 1) p is pg f.1 (both-2 _ _ b) k) (eqb i.at p) refl

-- what an LE leaves of a page of bytes is one
bytes-at : (lo p : ℕ) (is : List Image) (pg : List ℕ) → Filed lo is → Bytes pg → Bytes (image_at p is pg)
unfolding image_at
bytes-at lo p [] pg f b = b
bytes-at lo p (i ∷ is) pg f b = pick-either Bytes (eqb i.at p) _ _ f.0.bytes (bytes-at (i.at + 1) p is pg f.1 b)

pub end-bytes : (n : ℕ) (is : List Image) (p : ℕ) (pg pg' : List ℕ) → Filed 0 is → Bytes pg → pick (leb n (number pg)) pg (image_at p is pg) ≡ pg' → Bytes pg'
end-bytes n is p pg pg' f b e = rw (← e) (pick-either Bytes (leb n (number pg)) _ _ b (bytes-at 0 p is pg f b))

-- ---- what it does: its images laid one after the other

-- each of these images is that of its page among all
abbrev Own : (js is : List Image) → Type 0
Own js [] = Unit {0}
Own js (i ∷ is) = ((pg : List ℕ) → image_at i.at js pg ≡ i.bytes) × Own js is

own_behind : (lo : ℕ) (j : Image) (js is : List Image) → j.at < lo → Filed lo is → Own js is → Own (j ∷ js) is
unfolding image_at
own_behind lo j js [] h f o = tt
own_behind lo j js (i ∷ is) h f o =
    ((λ pg. pick-false _ _ _ (ne_eqb j.at i.at (λ e. omega (arith, f.0.low))) ∙ o.0 pg), own_behind (i.at + 1) j js is (omega (arith, f.0.low)) f.1 o.1)

own-all : (lo : ℕ) (is : List Image) → Filed lo is → Own is is
unfolding image_at
own-all lo [] f = tt
own-all lo (i ∷ is) f =
    ((λ pg. pick_true _ _ _ (eq-eqb i.at i.at refl)), own_behind (i.at + 1) i is is (omega arith) f.1 (own-all (i.at + 1) is f.1))

pick-again : {A : Type 0} (t : Bool) (a b : A) → pick t (some a) (some (pick t a b)) ≡ some (pick t a b)
unfolding pick
pick-again true a b = refl
pick-again false a b = refl

laid_by : (u n : ℕ) (js is : List Image) (w : List ℕ) → Own js is → changed_at (places_of is) (change n (LE u js)) w ≡ some (ended n is w)
unfolding places_of changed_at change ended bind
laid_by u n js [] w o = refl
laid_by u n js (i ∷ is) w o = rw (o.0 (page i.at w)) (laid_by u n js is _ o.1)

laid-again : (u n : ℕ) (js is : List Image) (w : List ℕ) → Own js is → changed_at (places_of is) (change_again n (LE u js)) w ≡ some (ended n is w)
unfolding places_of changed_at change_again change ended bind
laid-again u n js [] w o = refl
laid-again u n js (i ∷ is) w o =
    rw (o.0 (page i.at w), pick-again (leb n (number (page i.at w))) (page i.at w) i.bytes) (laid-again u n js is _ o.1)

module _ (u n : ℕ) (is : List Image) (w : List ℕ) (f : Filed 0 is) where
  pub end-applies : apply n (LE u is) w ≡ some (ended n is w)
  unfolding apply targets
  end-applies = laid_by u n is is w (own-all 0 is f)

  pub end-repeats : repeat n (LE u is) w ≡ some (ended n is w)
  unfolding repeat targets
  end-repeats = laid-again u n is is w (own-all 0 is f)

-- ---- their pages are pages of the 64

abbrev pub Inside : List Image → Type 0
Inside [] = Unit {0}
Inside (i ∷ is) = (i.at < 64) × Inside is

pub filed-inside : (p : ℕ) (is : List Image) → Filed p is → Inside is
filed-inside p [] f = tt
filed-inside p (i ∷ is) f = (omega (arith, f.0.high), filed-inside (i.at + 1) is f.1)

module _ (m : List ℕ) (at : ℕ) where
  inside-parts : (k : ℕ) → 0 < k → Inside (images_in k (drop at m)) → (le2 (drop at m) 12 < 64) × Inside (images_in (k - 1) (drop 272 (drop at m)))
  unfolding images_in read_image length_of
  inside-parts zero h i = absurd (not-suc-le-zero h)
  inside-parts (suc k) h i = let e : suc k - 1 ≡ k = omega arith in rw e i

  module _ (k : ℕ) (h : 0 < k) (i : Inside (images_in k (drop at m))) where
    pub inside-page : (p : ℕ) → p ≡ le2 m (at + 12) → p < 64
    inside-page p e = rw (e, ← le2-drop at 12 m) (inside-parts k h i).0

    pub inside-rest : (long : ℕ) → long ≡ length_of (kind_at 6) 1 → Inside (images_in (k - 1) (drop (at + long) m))
    unfolding length_of kind_at kinds
    inside-rest long e = rw (e, ← drop-drop 272 at m) (inside-parts k h i).1

-- ---- one image, as the code lays it

module _ (n p : ℕ) (w im : List ℕ) (z : Bool) (e : z ≡ leb n (number (page p w))) where
  pub laid-old! : z ≡ true → length w ≡ 16384 → p < 64 → w ≡ put_page p (pick (leb n (number (page p w))) (page p w) im) w
  laid-old! t h k = sym (rw (pick_true _ (page p w) im (sym e ∙ t)) (put_page-page p w h k))

  pub laid-new! : z ≡ false → (v : List ℕ) → v ≡ put (256 * p) im w → v ≡ put_page p (pick (leb n (number (page p w))) (page p w) im) w
  unfolding put_page
  laid-new! t v q = q ∙ rw (pick-false (leb n (number (page p w))) (page p w) im (sym e ∙ t))

-- ---- the loop of the code over the images at the front of m: a turn and its end

module _ (n k₀ : ℕ) (m w₀ : List ℕ) (at k : ℕ) (w : List ℕ) (e : ended n (images_in k₀ m) w₀ ≡ ended n (images_in k (drop at m)) w) where
  pub end-over! : k ≤ 0 → w ≡ ended n (images_in k₀ m) w₀
  unfolding images_in ended
  end-over! h = let z : k ≡ 0 = omega arith in sym (e ∙ rw z)

  pub end_more : 0 < k → (long from p : ℕ) (w' : List ℕ) → long ≡ length_of (kind_at 6) 1 → from ≡ length_of (kind_at 6) 0 → p ≡ le2 m (at + 12)
      → w' ≡ put_page p (pick (leb n (number (page p w))) (page p w) (take (at + long - (at + from)) (drop (at + from) m))) w
      → ended n (images_in k₀ m) w₀ ≡ ended n (images_in (k - 1) (drop (at + long) m)) w'
  unfolding kind_at kinds length_of part
  end_more h long from p w' ql qf qp ew =
      let j : ℕ = k - 1 in
      let kj : k ≡ suc j = omega arith in
      let a : le2 (drop at m) 12 ≡ p = le2-drop at 12 m ∙ sym qp in
      let wide : 256 ≡ at + 272 - (at + 16) = omega arith in
      let b : part 16 256 (drop at m) ≡ take (at + long - (at + from)) (drop (at + from) m) =
      rw (ql, qf, drop-drop 16 at m) (ap (λ (x : ℕ). take x (drop (at + 16) m)) wide) in
      let d : drop 272 (drop at m) ≡ drop (at + long) m = drop-drop 272 at m ∙ rw ql in
      e ∙ ap (λ (x : ℕ). ended n (images_in x (drop at m)) w) kj ∙ first-laid j (drop at m) w ∙ rw (a, b, d, ← ew)
    where
      first-laid : (j : ℕ) (x w : List ℕ)
          → ended n (images_in (suc j) x) w ≡ ended n (images_in j (drop 272 x)) (put_page (le2 x 12) (pick (leb n (number (page (le2 x 12) w))) (page (le2 x 12) w) (part 16 256 x)) w)
      first-laid j x w = unfold images_in ended read_image length_of in refl
