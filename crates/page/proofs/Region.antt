-- A page of each kind, and the kinds that may stand in a place: what a page in form there is, and what makes it in form. Assumes nothing.
use Prim.Native.Nat.{ℕ, ◌*◌, ◌≤◌}
use native.Mathlib.Nat.{mul-le-mul_left}
use native.Mathlib.Omega.{arith}
use mathlib.Core.Path.{◌≡◌, refl, sym, ◌∙◌}
use mathlib.Core.Logic.{◌⊎◌, ⊎_elim}
use mathlib.Core.Bool.{true}
use mathlib.Core.List.{List, []}
use lib.ListN.{length, drop, length-drop}
use borrow.Author.Tests.{ne_eqb, le-leb, lt-leb}
use Rattle.field.specs.Test.{pick}
use Rattle.field.proofs.Test.{both-1, both-2, pick-or, pick_second}
use Rattle.field.proofs.Part.{split}
use Rattle.page.specs.Page.{Kind, root, base, leaf, empty, rows_of, count, rows, entries, records, shaped, is_root, is_base, is_leaf, is_empty, formed}
use Rattle.page.specs.Page.{first_base, last_base, first_leaf, to_bases, to_leaves}
use Rattle.page.proofs.Made.{Shaped, shaped-facts, Fit, fit-root, fit-base, fit-leaf, Fill}
use Rattle.page.proofs.Rows.{length-rows_of, long-rows_of}

-- ---- page 0, a base page's place, a leaf page's place

pub formed-0 : (pg : List ℕ) → formed 0 pg ≡ is_root pg
unfolding formed pick
formed-0 pg = refl

module _ (p : ℕ) (pg : List ℕ) (low : first_base ≤ p) where
  pub formed-low : p ≤ last_base → formed p pg ≡ pick (is_empty pg) true (is_base pg)
  unfolding formed pick
  formed-low h = rw (ne_eqb p 0 (λ e. omega arith), le-leb p last_base h)

  pub formed-high : first_leaf ≤ p → formed p pg ≡ pick (is_empty pg) true (is_leaf pg)
  unfolding formed pick
  formed-high h = rw (ne_eqb p 0 (λ e. omega arith), lt-leb p last_base h)

-- ---- what a page in form is

pub base-place : (p : ℕ) (pg : List ℕ) → first_base ≤ p → p ≤ last_base → formed p pg ≡ true → (is_empty pg ≡ true) ⊎ (is_base pg ≡ true)
base-place p pg a b e = pick-or (is_empty pg) (is_base pg) (sym (formed-low p pg a b) ∙ e)

pub leaf-place : (p : ℕ) (pg : List ℕ) → first_leaf ≤ p → formed p pg ≡ true → (is_empty pg ≡ true) ⊎ (is_leaf pg ≡ true)
leaf-place p pg a e = pick-or (is_empty pg) (is_leaf pg) (sym (formed-high p pg (omega arith) a) ∙ e)

-- ---- what makes a page in form

pub empty-formed : (p : ℕ) (pg : List ℕ) → 1 ≤ p → is_empty pg ≡ true → formed p pg ≡ true
unfolding formed pick
empty-formed p pg a e = rw (ne_eqb p 0 (λ z. omega arith), e)

pub base-formed : (p : ℕ) (pg : List ℕ) → first_base ≤ p → p ≤ last_base → is_base pg ≡ true → formed p pg ≡ true
base-formed p pg a b e = formed-low p pg a b ∙ pick_second (is_empty pg) (is_base pg) e

pub leaf-formed : (p : ℕ) (pg : List ℕ) → first_leaf ≤ p → is_leaf pg ≡ true → formed p pg ≡ true
leaf-formed p pg a e = formed-high p pg (omega arith) a ∙ pick_second (is_empty pg) (is_leaf pg) e

-- ---- a page of a kind: its shape, its length, its rows

pub fill-of : (k : Kind) (pg : List ℕ) → Fit k → shaped k pg ≡ true → Fill k (rows k.size pg)
unfolding rows
fill-of k pg fit e =
    let f : Shaped k pg = shaped-facts k pg e in
    let n : length (rows_of k.size (count pg) (drop 16 pg)) ≡ count pg = length-rows_of k.size (count pg) (drop 16 pg) in
    let r : k.size * count pg ≤ length (drop 16 pg) =
    rw (length-drop 16 pg, f.whole) (omega (arith, mul-le-mul_left k.size f.room, fit.roomy)) in
    record { long = long-rows_of k.size (count pg) (drop 16 pg) r; order = f.order; enough = rw n f.enough; room = rw n f.room }

pub root-shaped : (pg : List ℕ) → is_root pg ≡ true → shaped root pg ≡ true
unfolding is_root
root-shaped pg e = both-1 _ _ e

pub root-pointing : (pg : List ℕ) → is_root pg ≡ true → to_bases (entries pg) ≡ true
unfolding is_root
root-pointing pg e = both-2 _ _ e

pub base-shaped : (pg : List ℕ) → is_base pg ≡ true → shaped base pg ≡ true
unfolding is_base
base-shaped pg e = both-1 _ _ e

pub base-pointing : (pg : List ℕ) → is_base pg ≡ true → to_leaves (entries pg) ≡ true
unfolding is_base
base-pointing pg e = both-2 _ _ e

pub leaf-shaped : (pg : List ℕ) → is_leaf pg ≡ true → shaped leaf pg ≡ true
unfolding is_leaf
leaf-shaped pg e = e

pub empty-shaped : (pg : List ℕ) → is_empty pg ≡ true → shaped empty pg ≡ true
unfolding is_empty
empty-shaped pg e = e

module _ (pg : List ℕ) where
  pub root-whole : is_root pg ≡ true → length pg ≡ 256
  root-whole e = (shaped-facts root pg (root-shaped pg e)).whole

  pub base-whole : is_base pg ≡ true → length pg ≡ 256
  base-whole e = (shaped-facts base pg (base-shaped pg e)).whole

  pub leaf-whole : is_leaf pg ≡ true → length pg ≡ 256
  leaf-whole e = (shaped-facts leaf pg (leaf-shaped pg e)).whole

  pub empty-whole : is_empty pg ≡ true → length pg ≡ 256
  empty-whole e = (shaped-facts empty pg (empty-shaped pg e)).whole

  pub root-fill : is_root pg ≡ true → Fill root (entries pg)
  root-fill e = fill-of root pg fit-root (root-shaped pg e)

  pub base-fill : is_base pg ≡ true → Fill base (entries pg)
  base-fill e = fill-of base pg fit-base (base-shaped pg e)

  pub leaf-fill : is_leaf pg ≡ true → Fill leaf (records pg)
  leaf-fill e = fill-of leaf pg fit-leaf (leaf-shaped pg e)

  -- an empty page has no rows of any size
  pub empty-none : (sz : ℕ) → is_empty pg ≡ true → rows sz pg ≡ []
  unfolding rows rows_of
  empty-none sz e =
      let z : count pg ≡ 0 = omega (arith, (shaped-facts empty pg (empty-shaped pg e)).room) in
      rw z

pub formed-whole : (p : ℕ) (pg : List ℕ) → formed p pg ≡ true → length pg ≡ 256
formed-whole p pg e =
    split p 1
    (λ h. let z : p ≡ 0 = omega arith in
    root-whole pg (sym (formed-0 pg) ∙ (rw z at e)))
    (λ h. split p first_leaf
    (λ k. ⊎_elim (λ f. empty-whole pg f) (λ f. base-whole pg f) (base-place p pg h (omega arith) e))
    (λ k. ⊎_elim (λ f. empty-whole pg f) (λ f. leaf-whole pg f) (leaf-place p pg k e)))
