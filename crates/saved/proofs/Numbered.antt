-- Sheets in number order: laid in place they give the same pages as in any order, each stands in its place, and every other page stays.
-- Assumes nothing.
use Prim.Native.Nat.{ℕ, ◌+◌, ◌≤◌, ◌<◌}
use native.Mathlib.Omega.{arith}
use mathlib.Core.Path.{◌≡◌, refl, sym, ap, ◌∙◌}
use mathlib.Core.Logic.{◌≢◌, ⊎_elim}
use mathlib.Core.List.{List, [], ◌∷◌}
use borrow.Author.Tests.{lt-ltb, le-ltb}
use lib.Dec.{ltb}
use lib.ListN.{length}
use Rattle.field.proofs.Test.{pick_true, pick-false, pick-either}
use Rattle.field.proofs.Part.{split}
use Rattle.page.specs.Pages.{page, put_page}
use Rattle.page.proofs.Pages.{length-put_page, page-put_page-same, page-put_page-other, pages-ext}
use Rattle.saving.specs.Save.{Sheet, drawn, insert, in_order}
use Rattle.tidy.specs.Tidy.{Sound}
use Rattle.tidy.proofs.Trail.{eq?}
use Rattle.tidy.proofs.Pages.{sound-page}
use Rattle.saved.specs.Saved.{laid, Rising, EachFormed, EachStands, Spares}

-- two pages put in either order
swap-put : (p q : ℕ) (a c v : List ℕ) → p < 64 → q < 64 → p ≢ q → length a ≡ 256 → length c ≡ 256 → length v ≡ 16384
    → put_page p a (put_page q c v) ≡ put_page q c (put_page p a v)
swap-put p q a c v hp hq d la lc lv =
    let lq : length (put_page q c v) ≡ 16384 = length-put_page q v lv hq c lc in
    let lp : length (put_page p a v) ≡ 16384 = length-put_page p v lv hp a la in
    pages-ext (put_page p a (put_page q c v)) (put_page q c (put_page p a v)) (length-put_page p (put_page q c v) lq hp a la)
    (length-put_page q (put_page p a v) lp hq c lc)
    (λ i h. ⊎_elim
    (λ (e : i ≡ p). rw e
    (page-put_page-same p (put_page q c v) lq hp a la
    ∙ sym (page-put_page-other q (put_page p a v) lp hq c lc p hp d ∙ page-put_page-same p v lv hp a la)))
    (λ (ne : i ≢ p). page-put_page-other p (put_page q c v) lq hp a la i h ne
    ∙ ⊎_elim
    (λ (e : i ≡ q). rw e (page-put_page-same q v lv hq c lc ∙ sym (page-put_page-same q (put_page p a v) lp hq c lc)))
    (λ (nq : i ≢ q). page-put_page-other q v lv hq c lc i h nq
    ∙ sym (page-put_page-other q (put_page p a v) lp hq c lc i h nq ∙ page-put_page-other p v lv hp a la i h ne))
    (eq? i q))
    (eq? i p))

-- ---- a page that none of them is for, and number order

spares-insert : (p : ℕ) (x : Sheet) (ys : List Sheet) → x.at ≢ p → Spares p ys → Spares p (insert x ys)
unfolding insert
spares-insert p x [] d s = (d, tt)
spares-insert p x (y ∷ ys) d s =
    pick-either (λ (l : List Sheet). Spares p l) (ltb x.at y.at) (x ∷ y ∷ ys) (y ∷ insert x ys) (d, s)
    (s.0, spares-insert p x ys d s.1)

spares-order : (p : ℕ) (xs : List Sheet) → Spares p xs → Spares p (in_order xs)
unfolding in_order
spares-order p [] s = tt
spares-order p (x ∷ xs) s = spares-insert p x (in_order xs) s.0 (spares-order p xs s.1)

rising-insert : (lo : ℕ) (x : Sheet) (ys : List Sheet) → lo ≤ x.at → x.at < 64 → Spares x.at ys → Rising lo ys → Rising lo (insert x ys)
unfolding insert
rising-insert lo x [] h k s r = (h, omega arith, tt)
rising-insert lo x (y ∷ ys) h k s r =
    split x.at y.at
    (λ (c : x.at < y.at).
    rw (pick_true (ltb x.at y.at) (x ∷ y ∷ ys) (y ∷ insert x ys) (lt-ltb x.at y.at c)) (h, omega arith, (omega arith, r.1, r.2)))
    (λ (c : y.at ≤ x.at).
    rw (pick-false (ltb x.at y.at) (x ∷ y ∷ ys) (y ∷ insert x ys) (le-ltb x.at y.at c))
    (r.0, r.1, rising-insert (y.at + 1) x ys (strict c s.0) k s.1 r.2))
  where
    strict : {a c : ℕ} → a ≤ c → a ≢ c → a + 1 ≤ c
    strict {a} {c} l d = split a c (λ h. omega arith) (λ h. absurd (d (omega arith)))

pub some-order : (x : Sheet) (xs : List Sheet) → 1 ≤ length (in_order (x ∷ xs))
unfolding in_order insert
some-order x xs = go (in_order xs)
  where
    go : (ys : List Sheet) → 1 ≤ length (insert x ys)
    go [] = omega arith
    go (y ∷ ys) =
        pick-either (λ (l : List Sheet). 1 ≤ length l) (ltb x.at y.at) (x ∷ y ∷ ys) (y ∷ insert x ys) (omega arith) (omega arith)

module _ (n : ℕ) where
  -- sheets that give pages of 256 bytes, each of another page
  abbrev pub Placed : List Sheet → Type 0
  Placed [] = Unit {0}
  Placed (x ∷ xs) = (x.at < 64) × (length (drawn n x) ≡ 256) × Spares x.at xs × Placed xs

  length-laid : (xs : List Sheet) (w : List ℕ) → Placed xs → length w ≡ 16384 → length (laid n xs w) ≡ 16384
  unfolding laid
  length-laid [] w p h = h
  length-laid (x ∷ xs) w p h = length-put_page x.at (laid n xs w) (length-laid xs w p.3 h) p.0 (drawn n x) p.1

  placed-insert : (x : Sheet) (ys : List Sheet) → Placed (x ∷ ys) → Placed (insert x ys)
  unfolding insert
  placed-insert x [] p = p
  placed-insert x (y ∷ ys) p =
      pick-either (λ (l : List Sheet). Placed l) (ltb x.at y.at) (x ∷ y ∷ ys) (y ∷ insert x ys) p (
        p.3.0,
        p.3.1,
        spares-insert y.at x ys (λ e. p.2.0 (sym e)) p.3.2,
        placed-insert x ys (p.0, p.1, p.2.1, p.3.3),
      )

  pub placed-order : (xs : List Sheet) → Placed xs → Placed (in_order xs)
  unfolding in_order
  placed-order [] p = tt
  placed-order (x ∷ xs) p = placed-insert x (in_order xs) (p.0, p.1, spares-order x.at xs p.2, placed-order xs p.3)

  pub rising-order : (xs : List Sheet) → Placed xs → Rising 0 (in_order xs)
  unfolding in_order
  rising-order [] p = tt
  rising-order (x ∷ xs) p = rising-insert 0 x (in_order xs) (omega arith) p.0 (spares-order x.at xs p.2) (rising-order xs p.3)

  -- ---- the pages then

  laid-insert : (x : Sheet) (ys : List Sheet) (w : List ℕ) → Placed (x ∷ ys) → length w ≡ 16384 → laid n (insert x ys) w ≡ laid n (x ∷ ys) w
  unfolding insert laid
  laid-insert x [] w p h = refl
  laid-insert x (y ∷ ys) w p h =
      pick-either (λ (l : List Sheet). laid n l w ≡ laid n (x ∷ y ∷ ys) w) (ltb x.at y.at) (x ∷ y ∷ ys) (y ∷ insert x ys) refl
      (ap (put_page y.at (drawn n y)) (laid-insert x ys w (p.0, p.1, p.2.1, p.3.3) h)
      ∙ swap-put y.at x.at (drawn n y) (drawn n x) (laid n ys w) p.3.0 p.0 p.2.0 p.3.1 p.1 (length-laid ys w p.3.3 h))

  pub laid-order : (xs : List Sheet) (w : List ℕ) → Placed xs → length w ≡ 16384 → laid n (in_order xs) w ≡ laid n xs w
  unfolding in_order laid
  laid-order [] w p h = refl
  laid-order (x ∷ xs) w p h =
      laid-insert x (in_order xs) w (p.0, p.1, spares-order x.at xs p.2, placed-order xs p.3) h
      ∙ ap (put_page x.at (drawn n x)) (laid-order xs w p.3 h)

  pub laid-other : (xs : List Sheet) (w : List ℕ) (p : ℕ) → Placed xs → length w ≡ 16384 → p < 64 → Spares p xs → page p (laid n xs w) ≡ page p w
  unfolding laid
  laid-other [] w p l h k s = refl
  laid-other (x ∷ xs) w p l h k s =
      page-put_page-other x.at (laid n xs w) (length-laid xs w l.3 h) l.0 (drawn n x) l.1 p k (λ e. s.0 (sym e))
      ∙ laid-other xs w p l.3 h k s.1

  stand-put : (p : ℕ) (a v : List ℕ) (xs : List Sheet) → p < 64 → length a ≡ 256 → length v ≡ 16384 → Spares p xs → Placed xs
      → EachStands n v xs → EachStands n (put_page p a v) xs
  stand-put p a v [] h la lv s l t = tt
  stand-put p a v (x ∷ xs) h la lv s l t =
      (page-put_page-other p v lv h a la x.at l.0 s.0 ∙ t.0, stand-put p a v xs h la lv s.1 l.3 t.1)

  pub laid-stand : (xs : List Sheet) (w : List ℕ) → Placed xs → length w ≡ 16384 → EachStands n (laid n xs w) xs
  unfolding laid
  laid-stand [] w l h = tt
  laid-stand (x ∷ xs) w l h =
      let v : List ℕ = laid n xs w in
      let lv : length v ≡ 16384 = length-laid xs w l.3 h in (
        page-put_page-same x.at v lv l.0 (drawn n x) l.1,
        stand-put x.at (drawn n x) v xs l.0 l.1 lv l.2 l.3 (laid-stand xs w l.3 h),
      )

  pub stand-form : (v : List ℕ) (xs : List Sheet) → Sound v → Placed xs → EachStands n v xs → EachFormed n xs
  stand-form v [] s l t = tt
  stand-form v (x ∷ xs) s l t = (rw t.0 at (sound-page x.at v s l.0), stand-form v xs s l.3 t.1)
