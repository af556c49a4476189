-- The entries of a page as pairs of key and page: what the page changes, the search for an LM's key and the count of pointers do to rows, they
-- do to pairs. Assumes nothing.
use Prim.Native.Nat.{ℕ, suc, ◌+◌, ◌≤◌, ◌<◌}
use native.Mathlib.Omega.{arith}
use mathlib.Core.Path.{◌≡◌, refl, ap, ap₂}
use mathlib.Core.Bool.{Bool, true, false, not, cond}
use mathlib.Core.List.{List, [], ◌∷◌, map}
use mathlib.Core.Option.{Option, none, some, some-injective}
use borrow.Author.Tests.{eqb-true, leb-true}
use lib.Dec.{eqb}
use Rattle.field.specs.Test.{both, pick}
use Rattle.field.specs.Bytes.{put, bytes2}
use Rattle.field.proofs.Test.{both-1, both-2, pick_true, pick_second}
use Rattle.page.specs.Page.{key_of, to_page, ascend, pointing}
use Rattle.page.specs.Change.{is_entry, has, point_to, without}
use Rattle.page.specs.Each.{Each, Long}
use Rattle.page.proofs.Order.{First, ascend-facts, key-pointed, to-pointed, entry_here}
use Rattle.tree.specs.Tree as T
use Rattle.unit.specs.Next.{is_other, lowest_to}
use Rattle.tidy.proofs.Model.{Entry, Ascends, pointers, redirect, strip, skips, lowest, All}

-- an entry's row as a pair
abbrev pub ent : List ℕ → Entry
ent r = record { key = key_of r; page = to_page r }

-- rows as pairs
abbrev pub ents : List (List ℕ) → List Entry
ents rs = map ent rs

-- ---- one test or two

-- one test
pick-cond {ℓ} : {A : Type ℓ} (t : Bool) (x y : A) → pick t x y ≡ cond t x y
unfolding pick
pick-cond true x y = refl
pick-cond false x y = refl

-- two tests
pick-both {ℓ} : {A : Type ℓ} (t u : Bool) (x y : A) → pick (both t u) x y ≡ cond t (cond u x y) y
unfolding pick both
pick-both true true x y = refl
pick-both true false x y = refl
pick-both false u x y = refl

-- a test turned round
cond-not {ℓ} : {A : Type ℓ} (t : Bool) (x y : A) → cond (not t) x y ≡ cond t y x
cond-not true x y = refl
cond-not false x y = refl

-- ---- pointers, the lowest entry, the changes

-- pointers of rows are those of pairs
pub pointers-ents : (p : ℕ) (es : List (List ℕ)) → T.pointers p es ≡ pointers p (ents es)
unfolding T.pointers
pointers-ents p [] = refl
pointers-ents p (e ∷ es) = ap₂ (λ (a b : ℕ). a + b) (pick-cond (eqb (to_page e) p) 1 0) (pointers-ents p es)

-- an entry may be taken where it is not skipped
other-skips : (skip : Option ℕ) (k : ℕ) → is_other skip k ≡ not (skips skip k)
unfolding is_other
other-skips none k = refl
other-skips (some j) k = refl

-- the lowest entry
pub lowest-ents : (skip : Option ℕ) (p : ℕ) (es : List (List ℕ)) → lowest_to skip p es ≡ lowest skip p (ents es)
unfolding lowest_to
lowest-ents skip p [] = refl
lowest-ents skip p (e ∷ es) =
    rw (
      pick-both (eqb (to_page e) p) (is_other skip (key_of e)) (some (key_of e)) (lowest_to skip p es),
      other-skips skip (key_of e),
      cond-not (skips skip (key_of e)) (some (key_of e)) (lowest_to skip p es),
      lowest-ents skip p es,
    )

-- an LM's key is that of an entry
pub lowest-has : (skip : Option ℕ) (p k : ℕ) (es : List (List ℕ)) → lowest_to skip p es ≡ some k → has k p es ≡ true
unfolding lowest_to pick has
lowest-has skip p k [] e = let z : ◌≡◌ {A = ℕ} 0 1 = cc in absurd (omega arith)
lowest-has skip p k (r ∷ es) e = by-test (both (eqb (to_page r) p) (is_other skip (key_of r))) refl e (lowest-has skip p k es)
  where
    by-test : (t : Bool) → both (eqb (to_page r) p) (is_other skip (key_of r)) ≡ t → pick t (some (key_of r)) (lowest_to skip p es) ≡ some k
        → (lowest_to skip p es ≡ some k → has k p es ≡ true) → has k p (r ∷ es) ≡ true
    by-test true q f rest =
        let key : key_of r ≡ k = some-injective (key_of r) k f in
        pick_true (is_entry k p r) true (has k p es) (entry_here k p r key (eqb-true (to_page r) p (both-1 _ _ q)))
    by-test false q f rest = pick_second (is_entry k p r) (has k p es) (rest f)

-- an entry pointed elsewhere
pub redirect-ents : (k old new : ℕ) (es : List (List ℕ)) → new < 65536 → Each (Long 8) es → ents (point_to k old new es) ≡ map (redirect k old new) (ents es)
unfolding point_to is_entry
redirect-ents k old new [] h Each.nil = refl
redirect-ents k old new (e ∷ es) h (Each.cons l ls) =
    ap₂ (λ (x : Entry) (xs : List Entry). x ∷ xs) (one (eqb (key_of e) k) (eqb (to_page e) old)) (redirect-ents k old new es h ls)
  where
    one : (t u : Bool) → ent (pick (both t u) (put 6 (bytes2 new) e) e) ≡ record { key = key_of e; page = cond t (cond u new (to_page e)) (to_page e) }
    one true true = unfold pick both in (λ i. record { key = key-pointed new e l i; page = to-pointed new e l h i })
    one true false = unfold pick both in refl
    one false u = unfold pick both in refl

-- an entry removed
pub strip-ents : (k p : ℕ) (es : List (List ℕ)) → ents (without k p es) ≡ strip k p (ents es)
unfolding without is_entry
strip-ents k p [] = refl
strip-ents k p (e ∷ es) =
    rw (pick-both (eqb (key_of e) k) (eqb (to_page e) p) (without k p es) (e ∷ without k p es)) (go (eqb (key_of e) k) (eqb (to_page e) p) (strip-ents k p es))
  where
    go : (t u : Bool) → ents (without k p es) ≡ strip k p (ents es)
        → ents (cond t (cond u (without k p es) (e ∷ without k p es)) (e ∷ without k p es))
        ≡ cond t (cond u (strip k p (ents es)) (ent e ∷ strip k p (ents es))) (ent e ∷ strip k p (ents es))
    go true true r = r
    go true false r = ap (λ (x : List Entry). ent e ∷ x) r
    go false u r = ap (λ (x : List Entry). ent e ∷ x) r

-- ---- rows in order

-- rows in order have ascending keys
pub ascend-keys : (a b lo : ℕ) (rs : List (List ℕ)) → ascend a b lo rs ≡ true → Ascends lo (map key_of rs)
ascend-keys a b lo [] e = tt
ascend-keys a b lo (r ∷ rs) e =
    let f : First a b lo r rs = ascend-facts a b lo r rs e in
    let n : key_of r + 1 ≡ suc (key_of r) = omega arith in
    (f.low, rw n at (ascend-keys a b (key_of r + 1) rs f.after))

-- every entry points into the region
pub pointing-ents : (from to : ℕ) (es : List (List ℕ)) → pointing from to es ≡ true → All (λ e. (from ≤ e.page) × (e.page ≤ to)) (ents es)
unfolding pointing
pointing-ents from to [] e = tt
pointing-ents from to (r ∷ rs) e =
    let e1 = both-2 _ _ e in
    ((leb-true from (to_page r) (both-1 _ _ e), leb-true (to_page r) to (both-1 _ _ e1)), pointing-ents from to rs (both-2 _ _ e1))
