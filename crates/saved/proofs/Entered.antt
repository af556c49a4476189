-- The records of a put or a delete may stand in the log: each image is of a later page than those before it and in form, and all bear LE's
-- number. Assumes nothing.
use Prim.Native.Nat.{ℕ, ◌+◌, ◌≤◌}
use native.Mathlib.Omega.{arith}
use mathlib.Core.Path.{◌≡◌, refl, sym, ap, ap₂, ◌∙◌}
use mathlib.Core.Bool.{true}
use mathlib.Core.List.{List, [], ◌∷◌, ◌++◌, map}
use borrow.Author.Tests.{eq-eqb, le-leb}
use lib.ListN.{length, length-map}
use Rattle.field.specs.Bytes.{Bytes, most4}
use Rattle.field.proofs.Test.{both-intro, all-intro, all_nil}
use Rattle.page.specs.Page.{last_leaf, formed}
use Rattle.page.proofs.Made.{number-made}
use Rattle.page.proofs.Pages.{bytes-page}
use Rattle.page.proofs.Region.{formed-whole}
use Rattle.logs.specs.Record.{Image}
use Rattle.logs.specs.Log.{past, all_bear, follows}
use Rattle.logs.specs.Valid.{logs-image, logs-end}
use Rattle.saving.specs.Rest.{image_of}
use Rattle.saving.specs.Save.{Sheet, drawn}
use Rattle.saved.specs.Saved.{laid, Rising, EachFormed, EachStands}
use Rattle.saved.specs.Units.{SaveEnters}

-- what is to be known of an image that follows others
record Next (lo : ℕ) (is : List Image) (k : Image) : Type 0 where
  later : past lo is ≤ k.at
  small : k.at ≤ last_leaf
  form : formed k.at k.bytes ≡ true
  bytes : Bytes k.bytes

nothing_left : {A : Type 0} (is : List Image) (k : Image) (ks : List Image) → [] ≡ is ++ k ∷ ks → A
nothing_left [] k ks e = absurd (let z : length {A = Image} [] ≡ length (k ∷ ks) = ap length e in omega arith)
nothing_left (i ∷ is) k ks e = absurd (let z : length {A = Image} [] ≡ length (i ∷ (is ++ k ∷ ks)) = ap length e in omega arith)

head-same : (a b : Image) (xs ys : List Image) → a ∷ xs ≡ b ∷ ys → a ≡ b
head-same a b xs ys e = cc

tail-same : (a b : Image) (xs ys : List Image) → a ∷ xs ≡ b ∷ ys → xs ≡ ys
tail-same a b xs ys e = cc

module _ (n : ℕ) (v : List ℕ) (whole : Bytes v) where
  at-image : (x : Sheet) → (image_of n x).at ≡ x.at
  unfolding image_of
  at-image x = refl

  bytes-image : (x : Sheet) → (image_of n x).bytes ≡ drawn n x
  unfolding image_of
  bytes-image x = refl

  next : (lo : ℕ) (xs : List Sheet) → Rising lo xs → EachFormed n xs → EachStands n v xs → (is : List Image) (k : Image) (ks : List Image)
      → map (image_of n) xs ≡ is ++ k ∷ ks → Next lo is k
  unfolding past
  next lo [] r f s is k ks e = nothing_left is k ks e
  next lo (x ∷ xs) r f s [] k ks e =
      let h : image_of n x ≡ k = head-same (image_of n x) k (map (image_of n) xs) ks e in
      let a : x.at ≡ k.at = sym (at-image x) ∙ ap (λ (i : Image). i.at) h in
      let c : drawn n x ≡ k.bytes = sym (bytes-image x) ∙ ap (λ (i : Image). i.bytes) h in
      record {
        later = omega (arith, r.0);
        small = omega (arith, r.1);
        form = ap₂ (λ (p : ℕ) (pg : List ℕ). formed p pg) (sym a) (sym c) ∙ f.0;
        bytes = rw c at (rw s.0 at (bytes-page x.at v whole));
      }
  next lo (x ∷ xs) r f s (i ∷ is) k ks e =
      let h : image_of n x ≡ i = head-same (image_of n x) i (map (image_of n) xs) (is ++ k ∷ ks) e in
      let a : x.at ≡ i.at = sym (at-image x) ∙ ap (λ (j : Image). j.at) h in
      let q : Next (x.at + 1) is k =
      next (x.at + 1) xs r.2 f.1 s.1 is k ks (tail-same (image_of n x) i (map (image_of n) xs) (is ++ k ∷ ks) e) in
      record { later = rw a at q.later; small = q.small; form = q.form; bytes = q.bytes }

all-bear : (n : ℕ) (xs : List Sheet) → n ≤ most4 → all_bear n (map (image_of n) xs) ≡ true
unfolding all_bear image_of drawn
all-bear n [] h = refl
all-bear n (x ∷ xs) h = both-intro _ _ (eq-eqb _ n (number-made x.sign n x.spare x.rows (omega arith))) (all-bear n xs h)

pub save-enters : SaveEnters
unfolding follows
save-enters unit n xs w rs h s =
    record {
      image = λ is k ks e.
          let q : Next 0 is k = next n (laid n xs w) s.tidy.bytes 0 xs s.rising s.form s.stand is k ks e in
          logs-image
          (all-intro _ _ (le-leb (past 0 is) k.at q.later)
          (all-intro _ _ (le-leb k.at last_leaf q.small) (all-intro _ _ q.form all_nil)))
          (formed-whole k.at k.bytes q.form) q.bytes;
      end = logs-end (omega (arith, length-map xs (image_of n), s.some-page));
      bears = all-bear n xs h;
    }
