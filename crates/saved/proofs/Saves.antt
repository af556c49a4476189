-- What put and delete have in common over the bytes: the free leaf page, the sheets that a definition gives, and that sheets which show a
-- well-formed tree are what `Saves` asks for. Assumes nothing.
use Prim.Native.Nat.{ℕ, ◌+◌, ◌≤◌, ◌<◌}
use native.Mathlib.Omega.{arith}
use native.Mathlib.Nat.{zero-add}
use mathlib.Core.Path.{◌≡◌, refl, ap, ◌∙◌}
use mathlib.Core.Logic.{◌⊎◌, inl, inr}
use mathlib.Core.Bool.{Bool, true, false, false≢true}
use mathlib.Core.List.{List, [], ◌∷◌}
use lib.ListN.{length, get_or}
use Rattle.field.specs.Test.{need}
use Rattle.page.specs.Page.{last_base}
use Rattle.page.specs.Pages.{page, pages}
use Rattle.page.specs.Places.{Leafy, empty_leaf}
use Rattle.page.proofs.Places.{empty-leaf-in}
use Rattle.page.proofs.Pages.{get_or-pages}
use Rattle.unit.specs.Choice.{lowest_empty}
use Rattle.saving.specs.Save.{Sheet, in_order, Changed, cannot, sheets, nowhere, free_leaf}
use Rattle.tidy.specs.Tidy.{Tidy}
use Rattle.tidy.proofs.Model.{Entry, state, Tree, contents}
use Rattle.tidy.proofs.Pages.{leaf_of}
use Rattle.tidy.proofs.Chosen.{lowest-empty}
use Rattle.tidy.proofs.Known.{empty-place}
use Rattle.saved.specs.Saved.{laid, Rising, Saves}
use Rattle.saved.proofs.Numbered.{placed-order, laid-order, rising-order, some-order, laid-other, laid-stand, stand-form}
use Rattle.saved.proofs.Lay.{Lays, lays-tidy, lays-records}

-- ---- the free page

-- a leaf page without records
pub record Free (q : ℕ) (w : List ℕ) : Type 0 where
  pub leafy : Leafy q
  pub none : leaf_of w q ≡ []

pub free-leaf : (w : List ℕ) → Tidy w → free_leaf (pages w) < nowhere → Free (free_leaf (pages w)) w
unfolding free_leaf
free-leaf w tidy h = go (lowest_empty last_base nowhere 0 (pages w)) h (lowest-empty last_base nowhere 0 (pages w))
  where
    go : (v : ℕ) → v < nowhere
        → (v ≡ nowhere) ⊎ ((i : ℕ) × (i < length (pages w)) × (v ≡ 0 + i) × (0 + i < nowhere) × (empty_leaf (0 + i) (get_or (pages w) i []) ≡ true))
        → Free v w
    go v k (inl e) = absurd (omega arith)
    go v k (inr d) =
        let i : ℕ = d.0 in
        let e : v ≡ i = d.2 ∙ zero-add i in
        let blank : empty_leaf i (page i w) ≡ true = rw (zero-add i, get_or-pages i w (omega arith)) at d.4 in
        rw e (record { leafy = empty-leaf-in i (page i w) blank; none = empty-place w tidy i blank })

-- ---- the sheets that are given

pub given-one : (ys xs : List Sheet) → sheets ys ≡ sheets xs → ys ≡ xs
given-one ys xs e = cc

-- after a test
pub given-past : (t : Bool) (m : ℕ) (c : Changed) (xs : List Sheet) → need t (cannot m) c ≡ sheets xs → (t ≡ true) × (c ≡ sheets xs)
unfolding need
given-past true m c xs e = (refl, e)
given-past false m c xs e = absurd (never e)
  where
    flag : Changed → Bool
    flag (cannot r) = false
    flag (sheets zs) = true

    never : cannot m ≡ sheets xs → ⊥
    never e = false≢true (ap flag e)

-- ---- sheets that show a well-formed tree

module _ (n : ℕ) (w : List ℕ) (whole : length w ≡ 16384) (rs : List (List ℕ)) (top : List Entry) (l : ℕ → List (List ℕ)) (b : ℕ → List Entry)
    (t : Tree top (state l b)) (c : contents top (state l b) ≡ rs) where
  -- in number order
  pub saves-rising : (xs : List Sheet) → Rising 0 xs → 1 ≤ length xs → Lays n xs w top l b → Saves n xs w rs
  saves-rising xs r k s =
      record {
        tidy = lays-tidy n w s t;
        records = lays-records n w s ∙ c;
        some-page = k;
        rising = r;
        form = stand-form n (laid n xs w) xs s.shows.sound s.placed (laid-stand n xs w s.placed whole);
        stand = laid-stand n xs w s.placed whole;
        others = λ p h d. laid-other n xs w p s.placed whole h d;
      }

  -- put in number order
  pub saves-order : (x : Sheet) (xs : List Sheet) → Lays n (x ∷ xs) w top l b → Saves n (in_order (x ∷ xs)) w rs
  saves-order x xs s =
      let e : laid n (in_order (x ∷ xs)) w ≡ laid n (x ∷ xs) w = laid-order n (x ∷ xs) w s.placed whole in
      saves-rising (in_order (x ∷ xs)) (rising-order n (x ∷ xs) s.placed) (some-order x xs)
      (record { placed = placed-order n (x ∷ xs) s.placed; shows = rw e s.shows; root = rw e s.root })
