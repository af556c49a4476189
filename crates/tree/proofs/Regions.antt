-- A page in form in its place: which kind it is, what its rows are like, and that its letter says whether it is empty. Assumes nothing.
use Prim.Native.Nat.{ℕ, ◌≤◌, ◌<◌}
use native.Mathlib.Omega.{arith}
use mathlib.Core.Path.{◌≡◌, refl}
use mathlib.Core.Bool.{Bool, true, false}
use mathlib.Core.List.{List, []}
use lib.ListN.{length}
use lib.Dec.{leb}
use borrow.Author.Tests.{eq-eqb, ne_eqb, le-leb, lt-leb}
use Rattle.field.specs.Test.{pick}
use Rattle.field.proofs.Test.{both-1, both-2}
use Rattle.field.proofs.Part.{split}
use Rattle.page.specs.Page.{Kind, root, base, leaf, empty, rows_of, ascend, pointing, letter, count, rows, entries, shaped}
use Rattle.page.specs.Page.{last_base, to_bases, to_leaves, is_root, is_base, is_leaf, is_empty, formed}
use Rattle.page.proofs.Made.{Shaped, shaped-facts}

-- a test is one or the other
pub decide {ℓ} : {X : Type ℓ} (b : Bool) → (b ≡ true → X) → (b ≡ false → X) → X
decide true f g = f refl
decide false f g = g refl

-- ---- the kinds that may stand in place p

pub data Formed (p : ℕ) (pg : List ℕ) : Type 0 where
  as-root : p ≡ 0 → is_root pg ≡ true → Formed p pg
  as-empty : 0 < p → is_empty pg ≡ true → Formed p pg
  as-base : 0 < p → p ≤ last_base → is_base pg ≡ true → Formed p pg
  as-leaf : last_base < p → is_leaf pg ≡ true → Formed p pg

pub formed-kind : (p : ℕ) (pg : List ℕ) → formed p pg ≡ true → Formed p pg
unfolding formed pick
formed-kind p pg e =
    split p 1
    (λ h. let z : p ≡ 0 = omega arith in as-root z (rw (eq-eqb p 0 z) at e))
    (λ h. let e1 : pick (is_empty pg) true (pick (leb p last_base) (is_base pg) (is_leaf pg)) ≡ true = rw (ne_eqb p 0 (λ z. omega arith)) at e in
    decide (is_empty pg) (λ t. as-empty h t)
    (λ t. let e2 : pick (leb p last_base) (is_base pg) (is_leaf pg) ≡ true = rw t at e1 in
    split last_base p
    (λ k. as-leaf k (rw (lt-leb p last_base k) at e2))
    (λ k. as-base h k (rw (le-leb p last_base k) at e2))))

-- ---- the rows of a page

-- a page's rows of sz bytes with the mark a b, at most this many, in order
pub record Ordered (sz a b most : ℕ) (pg : List ℕ) : Type 0 where
  pub whole : length pg ≡ 256
  pub room : count pg ≤ most
  pub order : ascend a b 0 (rows sz pg) ≡ true

pub rows_none : (sz : ℕ) (pg : List ℕ) → count pg ≡ 0 → rows sz pg ≡ []
unfolding rows rows_of
rows_none sz pg e = rw e

pub ordered_of : (k : Kind) (pg : List ℕ) → shaped k pg ≡ true → Ordered k.size k.first k.second k.most pg
ordered_of k pg e = let f : Shaped k pg = shaped-facts k pg e in record { whole = f.whole; room = f.room; order = f.order }

pub empty-none : (pg : List ℕ) → is_empty pg ≡ true → count pg ≡ 0
unfolding is_empty
empty-none pg e = omega (arith, (shaped-facts empty pg e).room)

-- an empty page has rows of any kind in order
pub ordered-empty : (sz a b most : ℕ) (pg : List ℕ) → is_empty pg ≡ true → Ordered sz a b most pg
ordered-empty sz a b most pg e =
    let z : count pg ≡ 0 = empty-none pg e in
    record {
      whole = unfold is_empty in (shaped-facts empty pg e).whole;
      room = omega arith;
      order = rw (rows_none sz pg z) (unfold ascend in refl);
    }

pub entries-ordered : (p : ℕ) (pg : List ℕ) → formed p pg ≡ true → p ≤ last_base → Ordered 8 101 110 30 pg
entries-ordered p pg e h = elim (formed-kind p pg e) [
  | as-root z t ↦ unfold is_root in ordered_of root pg (both-1 _ _ t)
  | as-empty z t ↦ ordered-empty 8 101 110 30 pg t
  | as-base z k t ↦ unfold is_base in ordered_of base pg (both-1 _ _ t)
  | as-leaf k t ↦ absurd (let x : ⊥ = omega arith in x)
]

pub records-ordered : (p : ℕ) (pg : List ℕ) → formed p pg ≡ true → last_base < p → Ordered 16 114 99 15 pg
records-ordered p pg e h = elim (formed-kind p pg e) [
  | as-root z t ↦ absurd (let x : ⊥ = omega arith in x)
  | as-empty z t ↦ ordered-empty 16 114 99 15 pg t
  | as-base z k t ↦ absurd (let x : ⊥ = omega arith in x)
  | as-leaf k t ↦ unfold is_leaf in ordered_of leaf pg t
]

-- ---- where the entries point

pub root-points : (pg : List ℕ) → formed 0 pg ≡ true → to_bases (entries pg) ≡ true
unfolding formed pick is_root
root-points pg e = both-2 _ _ e

pub base-points : (p : ℕ) (pg : List ℕ) → formed p pg ≡ true → 0 < p → p ≤ last_base → to_leaves (entries pg) ≡ true
base-points p pg e g h = elim (formed-kind p pg e) [
  | as-root z t ↦ absurd (let x : ⊥ = omega arith in x)
  | as-empty z t ↦ rw (rows_none 8 pg (empty-none pg t)) (unfold pointing in refl)
  | as-base z k t ↦ unfold is_base in both-2 _ _ t
  | as-leaf k t ↦ absurd (let x : ⊥ = omega arith in x)
]

-- ---- the letter of a page in form says whether it is empty

pub letter-empty : (p : ℕ) (pg : List ℕ) → formed p pg ≡ true → letter pg ≡ 101 → is_empty pg ≡ true
letter-empty p pg e l = elim (formed-kind p pg e) [
  | as-root z t ↦ absurd (let x : ⊥ = unfold is_root in omega (arith, (shaped-facts root pg (both-1 _ _ t)).lettered) in x)
  | as-empty z t ↦ t
  | as-base z k t ↦ absurd (let x : ⊥ = unfold is_base in omega (arith, (shaped-facts base pg (both-1 _ _ t)).lettered) in x)
  | as-leaf k t ↦ absurd (let x : ⊥ = unfold is_leaf in omega (arith, (shaped-facts leaf pg t).lettered) in x)
]

pub letter-full : (pg : List ℕ) → (letter pg ≡ 101 → ⊥) → is_empty pg ≡ false
unfolding is_empty
letter-full pg ne = decide (shaped empty pg) (λ t. absurd (ne (shaped-facts empty pg t).lettered)) (λ t. t)
