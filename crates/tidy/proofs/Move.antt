-- A move runs to its end, and leaves the tree with its two pages exchanged: the destination is empty. Assumes nothing.
use Prim.Native.Nat.{ℕ, ◌≤◌}
use native.Mathlib.Omega.{arith}
use mathlib.Core.Path.{◌≡◌, refl, sym, ap, ◌∙◌, subst, fun_ext}
use mathlib.Core.Logic.{◌≢◌, ⊎_elim}
use mathlib.Core.Bool.{Bool, true, false, cond}
use mathlib.Core.List.{List, [], ◌∷◌, ◌++◌, map}
use borrow.Author.Tests.{eq-eqb, ne_eqb}
use lib.Dec.{eqb}
use lib.ListN.{length}
use Rattle.logs.specs.Plan.{Step, move_plan, close}
use Rattle.tidy.proofs.Model.{Entry, full, upd, redirect, to, exch, State, state, Tree, All}
use Rattle.tidy.proofs.Trail.{eq?}
use Rattle.tidy.proofs.Rename.{exch-a, exch-other, exch-twice, renaming, renamed-tree, renamed-contents}
use Rattle.tidy.proofs.Run.{Always, Kept, close-on, pair-on, point-on}
use Rattle.tidy.proofs.Place.{all-zip, only, once, never, x-full, rises, first_key}

-- ---- entries by entries

-- two functions that agree on these entries
pub map-all : (P : Entry → Type 0) (f g : Entry → Entry) (es : List Entry) → ((e : Entry) → P e → f e ≡ g e) → All P es → map f es ≡ map g es
map-all P f g [] h a = refl
map-all P f g (e ∷ es) h a = λ i. h e a.0 i ∷ map-all P f g es h a.1 i

-- one that leaves these entries as they are
pub map-id : (P : Entry → Type 0) (f : Entry → Entry) (es : List Entry) → ((e : Entry) → P e → f e ≡ e) → All P es → map f es ≡ es
map-id P f [] h a = refl
map-id P f (e ∷ es) h a = λ i. h e a.0 i ∷ map-id P f es h a.1 i

-- what an LM does to one entry
pub redirect-hit : (k old new : ℕ) (e : Entry) → e.key ≡ k → e.page ≡ old → redirect k old new e ≡ record { key = e.key; page = new }
redirect-hit k old new e h g = rw (eq-eqb e.key k h, eq-eqb e.page old g)

-- another key
pub redirect-key : (k old new : ℕ) (e : Entry) → e.key ≢ k → redirect k old new e ≡ e
redirect-key k old new e h = rw (ne_eqb e.key k h)

-- another page
pub redirect-page : (k old new : ℕ) (e : Entry) → e.page ≢ old → redirect k old new e ≡ e
redirect-page k old new e h = go (eqb e.key k)
  where
    go : (t : Bool) → ◌≡◌ {A = Entry} (record { key = e.key; page = cond t (cond (eqb e.page old) new e.page) e.page }) e
    go true = rw (ne_eqb e.page old h)
    go false = refl

-- an entry renamed
pub to_at : (a b p : ℕ) (e : Entry) → exch a b e.page ≡ p → to (exch a b) e ≡ record { key = e.key; page = p }
to_at a b p e h = rw h

-- ---- the move of the leaf of x, which stands in the base page p, to the empty page b

module _ (root : List Entry) (s : State) (t : Tree root s) (x : Entry) (p : ℕ) (xs ys : List Entry) (x-in : s.base p ≡ xs ++ x ∷ ys)
    (b : ℕ) (none : s.leaf b ≡ []) (short : length (s.leaf x.page) ≤ 15) where
  -- the leaf's page
  abbrev a : ℕ
  a = x.page

  -- what stands on the leaf pages
  abbrev leaf : ℕ → List (List ℕ)
  leaf = s.leaf

  -- what the LM does
  abbrev r : Entry → Entry
  r = redirect x.key a b

  -- the leaf does not stand on the empty page
  pub apart : a ≢ b
  apart e = let z = ap (λ (q : ℕ). full (s.leaf q)) e ∙ ap full none in omega (arith, x-full root s t x p xs ys x-in)

  -- LO and LI exchange the two pages
  leaf-end : (i : ℕ) → upd (upd leaf a []) b (leaf a) i ≡ leaf (exch a b i)
  leaf-end i =
      ⊎_elim
      (λ (e : i ≡ a). rw (e, ne_eqb a b apart, eq-eqb a a refl, none))
      (λ (d : i ≢ a). ⊎_elim
      (λ (e : i ≡ b). rw (e, ne_eqb b a (λ k. apart (sym k)), eq-eqb b b refl))
      (λ (g : i ≢ b). rw (ne_eqb i a d, ne_eqb i b g))
      (eq? i b))
      (eq? i a)

  -- the LM renames each entry
  one : (e : Entry) → (e.page ≡ a → e.key ≡ x.key) × (e.page ≢ b) → r e ≡ to (exch a b) e
  one e h =
      ⊎_elim
      (λ (k : e.page ≡ a). redirect-hit x.key a b e (h.0 k) k ∙ sym (to_at a b b e (ap (exch a b) k ∙ exch-a a b)))
      (λ (d : e.page ≢ a). redirect-page x.key a b e d ∙ sym (to_at a b e.page e (exch-other a b e.page d h.1)))
      (eq? e.page a)

  -- so it does in every base page
  base-end : (i : ℕ) → upd s.base p (map r (s.base p)) i ≡ map (to (exch a b)) (s.base i)
  base-end i =
      ⊎_elim
      (λ (e : i ≡ p). rw (eq-eqb i p e) (ap (λ (j : ℕ). map r (s.base j)) (sym e)))
      (λ (d : i ≢ p). rw (ne_eqb i p d)
      (sym (map-id (λ e. e.page ≢ a) r (s.base i) (λ e h. redirect-page x.key a b e h) (only root s t x p xs ys x-in i d))))
      (eq? i p)
      ∙ map-all _ r (to (exch a b)) (s.base i) one
      (all-zip _ _ (s.base i) (once root s t x p xs ys x-in i) (never root s t x p xs ys x-in b none i))

  -- LO and LI in front of steps that find the leaf in its new place
  pub moved_on : (todo : List Step) (s' : State) → Always todo (state (λ i. leaf (exch a b i)) s.base) s'
      → Always (Step.take_out a b ∷ Step.bring_in a b 1 ∷ todo) s s'
  moved_on todo s' k =
      pair-on a b todo leaf s.base s' (leaf a) (x-full root s t x p xs ys x-in) (rw (ne_eqb b a (λ e. apart (sym e)), none)) short
      (rises root s t x p xs ys x-in)
      (subst (λ (l : ℕ → List (List ℕ)). Always todo (state l s.base) s') (sym (fun_ext leaf-end)) k)

  -- the LM in front of steps that find the entry pointing there; the leaves are those of any time between
  pub pointed-on : (todo : List Step) (l : ℕ → List (List ℕ)) (s' : State) → 1 ≤ b → Always todo (state l (λ q. map (to (exch a b)) (s.base q))) s'
      → Always (Step.point p a b false ∷ todo) (state l s.base) s'
  pointed-on todo l s' h k =
      point-on p a b x.key todo l s.base s' h (first_key root s t x p xs ys x-in)
      (subst (λ (m : ℕ → List Entry). Always todo (state l m) s') (sym (fun_ext base-end)) k)

  -- the whole unit
  pub move : (u : ℕ) → 1 ≤ b → Kept root (move_plan p a b ++ (close u ∷ [])) s
  unfolding move_plan
  move u h =
      let end : State = renaming (exch a b) (exch-twice a b) s in
      record {
        end = end;
        runs = moved_on (Step.point p a b false ∷ close u ∷ []) end (pointed-on (close u ∷ []) (λ i. leaf (exch a b i)) end h (close-on u end));
        well = renamed-tree (exch a b) (exch-twice a b) root s t;
        same = renamed-contents (exch a b) (exch-twice a b) root s;
      }
