-- Pages renamed by an exchange, and the entries with them: the tree stays well formed, with the same records. A move (to an empty page) and
-- a swap do no more than that. Assumes nothing.
use Prim.Native.Nat.{ℕ, ◌+◌}
use native.Mathlib.Decide.{ℕ_discrete}
use mathlib.Core.Path.{◌≡◌, refl, sym, ap, ap₂, ◌∙◌}
use mathlib.Core.Logic.{◌≢◌, ⊎_elim}
use mathlib.Core.Bool.{Bool, cond}
use mathlib.Core.List.{List, [], ◌∷◌, map, map-append}
use borrow.Author.Tests.{eq-eqb, ne_eqb}
use lib.Dec.{eqb}
use Rattle.page.specs.Page.{key_of}
use Rattle.tidy.proofs.Model.{Entry, pointers, full, marks, trail, Well, beneath, State, state, Tree, level, contents, Heads, first, entry_key, to, exch}
use Rattle.tidy.proofs.Trail.{eq?}

module _ (a b : ℕ) where
  -- a becomes b
  pub exch-a : exch a b a ≡ b
  exch-a = rw (eq-eqb a a refl)

  -- b becomes a
  pub exch-b : exch a b b ≡ a
  exch-b = ⊎_elim (λ (e : b ≡ a). rw (eq-eqb b a e) e) (λ d. rw (ne_eqb b a d, eq-eqb b b refl)) (eq? b a)

  -- any other page stays
  pub exch-other : (p : ℕ) → p ≢ a → p ≢ b → exch a b p ≡ p
  exch-other p d e = rw (ne_eqb p a d, ne_eqb p b e)

  -- twice is as it was
  pub exch-twice : (p : ℕ) → exch a b (exch a b p) ≡ p
  exch-twice p =
      ⊎_elim
      (λ (e : p ≡ a). ap (λ (q : ℕ). exch a b (exch a b q)) e ∙ ap (exch a b) exch-a ∙ exch-b ∙ sym e)
      (λ d. ⊎_elim
      (λ (e : p ≡ b). ap (λ (q : ℕ). exch a b (exch a b q)) e ∙ ap (exch a b) exch-b ∙ exch-a ∙ sym e)
      (λ e. ap (exch a b) (exch-other p d e) ∙ exch-other p d e)
      (eq? p b))
      (eq? p a)

-- ---- one level, by any renaming that is its own inverse

module _ {Item : Type 0} (key : Item → ℕ) (f : ℕ → ℕ) (twice : (p : ℕ) → f (f p) ≡ p) (l : ℕ → List Item) where
  -- the trail stays
  trail-to : (es : List Entry) → trail key (λ p. l (f p)) (map (to f) es) ≡ trail key l es
  trail-to [] = refl
  trail-to (e ∷ es) = rw (twice e.page, trail-to es)

  -- so does what stands below
  beneath-to : (es : List Entry) → beneath (λ p. l (f p)) (map (to f) es) ≡ beneath l es
  beneath-to [] = refl
  beneath-to (e ∷ es) = rw (twice e.page, beneath-to es)

  -- the pointers are those to the other page
  pointers-to : (p : ℕ) (es : List Entry) → pointers p (map (to f) es) ≡ pointers (f p) es
  pointers-to p [] = refl
  pointers-to p (e ∷ es) = ap₂ (λ (b : Bool) (n : ℕ). cond b 1 0 + n) same (pointers-to p es)
    where
      same : eqb (f e.page) p ≡ eqb e.page (f p)
      same = elim (ℕ_discrete e.page (f p)) [
        | yes h ↦ eq-eqb _ _ (ap f h ∙ twice p) ∙ sym (eq-eqb _ _ h)
        | no h ↦ ne_eqb _ _ (λ k. h (sym (twice e.page) ∙ ap f k)) ∙ sym (ne_eqb _ _ h)
      ]

  -- the level stays well formed
  renamed : (es : List Entry) → Well key l es → Well key (λ p. l (f p)) (map (to f) es)
  renamed es w = record { ascends = rw (trail-to es) w.ascends; pointed = λ p. pointers-to p es ∙ w.pointed (f p) }

-- ---- the whole tree

module _ (f : ℕ → ℕ) where
  -- the marks of entries stay
  marks-to : (es : List Entry) → marks entry_key (map (to f) es) ≡ marks entry_key es
  marks-to [] = refl
  marks-to (e ∷ es) = rw (marks-to es)

  -- a base page is full as before
  full-to : (es : List Entry) → full (map (to f) es) ≡ full es
  full-to [] = refl
  full-to (e ∷ es) = refl

  -- its first key stays
  first_to : (es : List Entry) → first (map (to f) es) ≡ first es
  first_to [] = refl
  first_to (e ∷ es) = refl

  module _ (base : ℕ → List Entry) where
    -- the upper trail stays
    trail-same : (root : List Entry) → trail entry_key (λ q. map (to f) (base q)) root ≡ trail entry_key base root
    trail-same [] = refl
    trail-same (e ∷ es) = rw (marks-to (base e.page), trail-same es)

    -- first keys stay
    heads-same : (root : List Entry) → Heads base root → Heads (λ q. map (to f) (base q)) root
    heads-same [] h = tt
    heads-same (e ∷ es) h = (first_to (base e.page) ∙ h.0, heads-same es h.1)

    -- all entries are renamed
    level-to : (root : List Entry) → beneath (λ q. map (to f) (base q)) root ≡ map (to f) (beneath base root)
    level-to [] = refl
    level-to (e ∷ es) = rw (level-to es) (sym (map-append (to f) (base e.page) (beneath base es)))

module _ (f : ℕ → ℕ) (twice : (p : ℕ) → f (f p) ≡ p) where
  -- the tree renamed
  abbrev pub renaming : State → State
  renaming s = state (λ p. s.leaf (f p)) (λ q. map (to f) (s.base q))

  -- leaf pages exchanged, and the entries with them
  pub renamed-tree : (root : List Entry) (s : State) → Tree root s → Tree root (renaming s)
  renamed-tree root s t =
      record {
        zero-first = t.zero-first;
        heads = heads-same f s.base root t.heads;
        upper = record {
          ascends = rw (trail-same f s.base root) t.upper.ascends;
          pointed = λ p. t.upper.pointed p ∙ sym (full-to f (s.base p));
        };
        lower = rw (level-to f s.base root) (renamed key_of f twice s.leaf (level root s) t.lower);
      }

  -- with the same records
  pub renamed-contents : (root : List Entry) (s : State) → contents root (renaming s) ≡ contents root s
  renamed-contents root s = rw (level-to f s.base root) (beneath-to key_of f twice s.leaf (level root s))
