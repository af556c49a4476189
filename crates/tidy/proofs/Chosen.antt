-- What a chosen unit is: the group of a compact is a run of entries of one base page within the fill, its destination the first leaf or an
-- empty page; the leaf that order takes is misplaced. Assumes nothing.
use Prim.Native.Nat.{ℕ, zero, suc, ◌+◌, ◌≤◌, ◌<◌}
use native.Mathlib.Omega.{arith}
use native.Mathlib.Nat.{add-zero}
use mathlib.Core.Path.{◌≡◌, refl, sym, ap, ◌∙◌}
use mathlib.Core.Logic.{◌≢◌, ◌⊎◌, inl, inr, ⊎_elim}
use mathlib.Core.Bool.{Bool, true, false}
use mathlib.Core.List.{List, [], ◌∷◌, ◌++◌, map}
use mathlib.Core.Option.{Option, none, some, some-injective}
use borrow.Author.Tests.{eqb-false, ne_eqb, leb-true, ltb-true}
use lib.Dec.{eqb, leb, ltb}
use lib.ListN.{length, get_or}
use Rattle.field.specs.Test.{both, all, pick}
use Rattle.field.proofs.Test.{both-2, both_false, all_head, all_tail, pick-false}
use Rattle.page.specs.Places.{empty_leaf, place}
use Rattle.logs.specs.Record.{Begin}
use Rattle.tree.specs.Tree.{Leaf}
use Rattle.unit.specs.Choice.{exceeds, joining, group, lowest_empty, compact_of, larger, choose_compact, put_in_order, choose_order}
use Rattle.tidy.proofs.Model.{Entry, pointers, weight, State}
use Rattle.tidy.proofs.Trail.{miss}
use Rattle.tidy.proofs.Gather.{pages_of}
use Rattle.tidy.proofs.Leaves.{leaf_for, leaves_all}

-- nothing is no begin record
none-some : {g : Begin} → none ≡ some g → ⊥
none-some e = let z : ◌≡◌ {A = ℕ} 0 1 = cc in omega arith

-- ---- compact

-- the first C with a group of two or more, and L before it
pub record Compacted (u fill : ℕ) (ps : List (List ℕ)) (ls : List Leaf) (g : Begin) : Type 0 where
  pub before : List Leaf
  pub first : Leaf
  pub next : List Leaf
  pub all-leaves : ls ≡ before ++ first ∷ next
  pub low : ℕ
  pub two : 2 ≤ length (group fill first next)
  pub is : g ≡ compact_of u fill first (group fill first next) (lowest_empty low first.at 0 ps)

-- what begin compact chooses is such a C
pub compacted : (u fill low : ℕ) (lk : Option ℕ) (ps : List (List ℕ)) (ls : List Leaf) (g : Begin)
    → choose_compact u fill low lk ps ls ≡ some g → Compacted u fill ps ls g
unfolding choose_compact pick
compacted u fill low lk ps [] g e = absurd (none-some e)
compacted u fill low lk ps (c ∷ next) g e =
    go (both (exceeds c.first lk) (leb 2 (length (group fill c next)))) refl e
    (compacted u fill (larger low c.at) lk ps next g)
  where
    go : (t : Bool) → both (exceeds c.first lk) (leb 2 (length (group fill c next))) ≡ t
        → pick t (some (compact_of u fill c (group fill c next) (lowest_empty low c.at 0 ps))) (choose_compact u fill (larger low c.at) lk ps next) ≡ some g
        → (choose_compact u fill (larger low c.at) lk ps next ≡ some g → Compacted u fill ps next g) → Compacted u fill ps (c ∷ next) g
    go true q f rest =
        record {
          before = [];
          first = c;
          next = next;
          all-leaves = refl;
          low = low;
          two = leb-true 2 (length (group fill c next)) (both-2 _ _ q);
          is = sym (some-injective _ _ f);
        }
    go false q f rest =
        let r = rest f in
        record {
          before = c ∷ r.before;
          first = r.first;
          next = r.next;
          all-leaves = ap (λ (x : List Leaf). c ∷ x) r.all-leaves;
          low = r.low;
          two = r.two;
          is = r.is;
        }

-- the destination: C's own page, or an empty leaf page below it
pub lowest-empty : (low c p : ℕ) (pgs : List (List ℕ)) → (lowest_empty low c p pgs ≡ c)
    ⊎ ((i : ℕ) × (i < length pgs) × (lowest_empty low c p pgs ≡ p + i) × (p + i < c) × (empty_leaf (p + i) (get_or pgs i []) ≡ true))
unfolding lowest_empty pick
lowest-empty low c p [] = inl refl
lowest-empty low c p (pg ∷ pgs) = go (all (ltb low p ∷ ltb p c ∷ empty_leaf p pg ∷ [])) refl (lowest-empty low c (p + 1) pgs)
  where
    go : (t : Bool) → all (ltb low p ∷ ltb p c ∷ empty_leaf p pg ∷ []) ≡ t
        → (lowest_empty low c (p + 1) pgs ≡ c)
        ⊎ ((i : ℕ) × (i < length pgs) × (lowest_empty low c (p + 1) pgs ≡ p + 1 + i) × (p + 1 + i < c) × (empty_leaf (p + 1 + i) (get_or pgs i []) ≡ true))
        → (pick t p (lowest_empty low c (p + 1) pgs) ≡ c)
        ⊎ ((i : ℕ) × (i < suc (length pgs)) × (pick t p (lowest_empty low c (p + 1) pgs) ≡ p + i) × (p + i < c) × (empty_leaf (p + i) (get_or (pg ∷ pgs) i []) ≡ true))
    go true q r =
        let q1 = all_tail _ _ q in
        inr (
          0,
          omega arith,
          sym (add-zero p),
          omega (arith, ltb-true p c (all_head _ _ q1)),
          rw (add-zero p) (all_head _ _ (all_tail _ _ q1)),
        )
    go false q (inl e) = inl e
    go false q (inr r) =
        let n : p + 1 + r.0 ≡ p + suc r.0 = omega arith in
        inr (
          suc r.0,
          omega (arith, r.1),
          r.2 ∙ n,
          omega (arith, r.3),
          rw n at r.4,
        )

-- ---- the group

module _ (s : State) where
  -- no leaf below these root entries has the base page b
  abbrev Elsewhere : ℕ → List Leaf → Type 0
  Elsewhere b [] = Unit {0}
  Elsewhere b (l ∷ ls) = l.base ≢ b

  -- nor has one in a page in front
  page-elsewhere : (b c : ℕ) (es : List Entry) (ls : List Leaf) → c ≢ b → Elsewhere b ls → Elsewhere b (map (leaf_for s c) es ++ ls)
  page-elsewhere b c [] ls d h = h
  page-elsewhere b c (e ∷ es) ls d h = d

  -- where the root entries do not point to b
  pub elsewhere : (b : ℕ) (root : List Entry) → pointers b root ≡ 0 → Elsewhere b (leaves_all s root)
  elsewhere b [] h = tt
  elsewhere b (e ∷ es) h =
      page-elsewhere b e.page (s.base e.page) (leaves_all s es) (eqb-false e.page b (miss (eqb e.page b) _ h)) (elsewhere b es (omega arith))

  -- those that join are the first entries of those that follow in the base page b
  pub record Joins (fill sum n : ℕ) (zs : List Entry) (joined : List ℕ) : Type 0 where
    pub with : List Entry
    pub rest : List Entry
    pub cut : zs ≡ with ++ rest
    pub is : joined ≡ pages_of with
    pub few : length with ≤ n
    pub fits : (with ≡ []) ⊎ (sum + weight s.leaf with ≤ fill)

  -- none joins
  none-join : (fill sum n : ℕ) (zs : List Entry) (joined : List ℕ) → joined ≡ [] → Joins fill sum n zs joined
  none-join fill sum n zs joined e = record { with = []; rest = zs; cut = refl; is = e; few = omega arith; fits = inl refl }

  -- so it is with those that `joining` takes
  pub joins : (fill b sum n : ℕ) (zs : List Entry) (ls : List Leaf) → Elsewhere b ls
      → Joins fill sum n zs (joining fill b sum n (map (leaf_for s b) zs ++ ls))
  unfolding joining pick
  joins fill b sum zero zs ls h = none-join fill sum 0 zs _ refl
  joins fill b sum (suc n) [] [] h = none-join fill sum (suc n) [] _ refl
  joins fill b sum (suc n) [] (l ∷ ls) h =
      none-join fill sum (suc n) [] _ (pick-false _ _ [] (both_false (eqb l.base b) (leb (sum + l.count) fill) (ne_eqb l.base b h)))
  joins fill b sum (suc n) (z ∷ zs) ls h =
      go (both (eqb b b) (leb (sum + length (s.leaf z.page)) fill)) refl (joins fill b (sum + length (s.leaf z.page)) n zs ls h)
    where
      go : (t : Bool) → both (eqb b b) (leb (sum + length (s.leaf z.page)) fill) ≡ t
          → Joins fill (sum + length (s.leaf z.page)) n zs (joining fill b (sum + length (s.leaf z.page)) n (map (leaf_for s b) zs ++ ls))
          → Joins fill sum (suc n) (z ∷ zs)
          (pick t (z.page ∷ joining fill b (sum + length (s.leaf z.page)) n (map (leaf_for s b) zs ++ ls)) [])
      go false q r = none-join fill sum (suc n) (z ∷ zs) _ refl
      go true q r =
          let k : sum + length (s.leaf z.page) ≤ fill = leb-true (sum + length (s.leaf z.page)) fill (both-2 _ _ q) in
          record {
            with = z ∷ r.with;
            rest = r.rest;
            cut = ap (λ (x : List Entry). z ∷ x) r.cut;
            is = ap (λ (x : List ℕ). z.page ∷ x) r.is;
            few = omega (arith, r.few);
            fits = inr
                (⊎_elim
                (λ (e : r.with ≡ []). omega (arith, k, ap (weight s.leaf) e))
                (λ (f : sum + length (s.leaf z.page) + weight s.leaf r.with ≤ fill). omega arith)
                r.fits);
          }

-- ---- order

-- the first misplaced leaf, the i-th
pub record Ordered (u : ℕ) (ps : List (List ℕ)) (ls : List Leaf) (i : ℕ) (rest : List Leaf) (g : Begin) : Type 0 where
  pub before : List Leaf
  pub leaf : Leaf
  pub next : List Leaf
  pub all-leaves : rest ≡ before ++ leaf ∷ next
  pub misplaced : leaf.at ≢ place (i + length before)
  pub is : g ≡ put_in_order u (place (i + length before)) ps ls leaf

-- what begin order chooses is such a leaf
pub ordered : (u : ℕ) (ps : List (List ℕ)) (ls : List Leaf) (i : ℕ) (rest : List Leaf) (g : Begin) → choose_order u ps ls i rest ≡ some g
    → Ordered u ps ls i rest g
unfolding choose_order pick
ordered u ps ls i [] g e = absurd (none-some e)
ordered u ps ls i (l ∷ rest) g e = go (eqb l.at (place i)) refl e (ordered u ps ls (i + 1) rest g)
  where
    go : (t : Bool) → eqb l.at (place i) ≡ t → pick t (choose_order u ps ls (i + 1) rest) (some (put_in_order u (place i) ps ls l)) ≡ some g
        → (choose_order u ps ls (i + 1) rest ≡ some g → Ordered u ps ls (i + 1) rest g) → Ordered u ps ls i (l ∷ rest) g
    go false q f r =
        let k : i + 0 ≡ i = add-zero i in
        record {
          before = [];
          leaf = l;
          next = rest;
          all-leaves = refl;
          misplaced = rw k (eqb-false l.at (place i) q);
          is = rw k (sym (some-injective _ _ f));
        }
    go true q f r =
        let o = r f in
        let k : i + suc (length o.before) ≡ i + 1 + length o.before = omega arith in
        record {
          before = l ∷ o.before;
          leaf = o.leaf;
          next = o.next;
          all-leaves = ap (λ (x : List Leaf). l ∷ x) o.all-leaves;
          misplaced = rw k o.misplaced;
          is = rw k o.is;
        }
