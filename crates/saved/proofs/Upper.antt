-- The upper level follows from the lower: where each base page's first key is its root entry's and the keys of all base entries ascend, the
-- root's trail ascends. So a tree in which a base page gets other entries, or goes, is well formed once its lower level is. Assumes nothing.
use Prim.Native.Nat.{ℕ, suc, ◌+◌, ◌*◌, ◌≤◌}
use native.Mathlib.Omega.{arith}
use mathlib.Core.Path.{◌≡◌, refl, sym, ap, ◌∙◌}
use mathlib.Core.Logic.{◌≢◌}
use mathlib.Core.Bool.{cond}
use mathlib.Core.List.{List, [], ◌∷◌, ◌++◌, map, append_assoc}
use borrow.Author.Tests.{eqb-false}
use lib.Dec.{eqb}
use Rattle.page.specs.Page.{key_of}
use Rattle.tidy.proofs.Model.{Entry, Ascends, pointers, full, marks, trail, Well, beneath, upd, state, entry_key, first, Heads, Tree, All}
use Rattle.tidy.proofs.Trail.{back, full≤, miss, beneath-append, hit}
use Rattle.saved.proofs.Refill.{upd-at, upd-off, none_before, none-behind, refill-pointed, refill-beneath, gone-pointed, gone-beneath}

-- ---- the keys of a level ascend

module _ {Item : Type 0} (key : Item → ℕ) (f : ℕ → List Item) where
  -- an entry's number is even
  even : (m : ℕ) (es : List Entry) → Ascends (suc (2 * m)) (trail key f es) → Ascends (2 * suc m) (trail key f es)
  even m [] a = tt
  even m (e ∷ es) a = (omega (arith, a.0), a.1)

  pub keys-ascend : (lo : ℕ) (es : List Entry) → Ascends (2 * lo) (trail key f es) → Ascends lo (map entry_key es)
  keys-ascend lo [] a = tt
  keys-ascend lo (e ∷ es) a = (
    omega (arith, a.0),
    keys-ascend (suc e.key) es (even e.key es (back (suc (2 * e.key)) (marks key (f e.page)) (trail key f es) a.1)),
  )

-- ---- the root's trail

module _ (base : ℕ → List Entry) where
  -- every entry's page holds something
  abbrev pub Filled : List Entry → Type 0
  Filled es = All (λ e. full (base e.page) ≡ 1) es

  pub filled : (es : List Entry) → ((p : ℕ) → pointers p es ≤ full (base p)) → Filled es
  filled [] h = tt
  filled (e ∷ es) h =
      let a : cond (eqb e.page e.page) 1 0 + pointers e.page es ≤ full (base e.page) = h e.page in
      let b = rw (hit e) at a in
      (omega (arith, b, full≤ (base e.page)), filled es (λ p. omega (arith, h p)))

  -- a page's entries before the trail of later ones
  lift : (m : ℕ) (bs rest : List Entry) (t : List ℕ) → ((n : ℕ) → Ascends n (map entry_key rest) → Ascends (2 * n) t)
      → Ascends m (map entry_key (bs ++ rest)) → Ascends (2 * m) (marks entry_key bs ++ t)
  lift m [] rest t f a = f m a
  lift m (b ∷ bs) rest t f a =
      let r : Ascends (2 * suc b.key) (marks entry_key bs ++ t) = lift (suc b.key) bs rest t f a.1 in
      let e : 2 * suc b.key ≡ suc (2 * b.key + 1) = omega arith in
      (omega (arith, a.0), rw e at r)

  root-trail : (lo : ℕ) (es : List Entry) → Heads base es → Filled es → Ascends lo (map entry_key (beneath base es))
      → Ascends (2 * lo) (trail entry_key base es)
  root-trail lo [] h f a = tt
  root-trail lo (e ∷ es) h f a = go (λ n c. root-trail n es h.1 f.1 c) (base e.page) h.0 f.0 a
    where
      go : ((n : ℕ) → Ascends n (map entry_key (beneath base es)) → Ascends (2 * n) (trail entry_key base es)) → (bs : List Entry)
          → first bs ≡ e.key → full bs ≡ 1 → Ascends lo (map entry_key (bs ++ beneath base es))
          → Ascends (2 * lo) (2 * e.key ∷ (marks entry_key bs ++ trail entry_key base es))
      go later [] k u a = absurd (omega arith)
      go later (b ∷ bs) k u a =
          let r : Ascends (2 * suc b.key) (marks entry_key bs ++ trail entry_key base es) =
          lift (suc b.key) bs (beneath base es) (trail entry_key base es) later a.1 in
          let q : 2 * suc b.key ≡ suc (2 * b.key + 1) = omega arith in
          (omega (arith, a.0), (omega arith, rw q at r))

-- ---- a tree of its lower level

pub tree_of : (root : List Entry) (leaf : ℕ → List (List ℕ)) (base : ℕ → List Entry) → first root ≡ 0 → Heads base root
    → ((p : ℕ) → pointers p root ≡ full (base p)) → Well key_of leaf (beneath base root) → Tree root (state leaf base)
tree_of root leaf base z h u l =
    record {
      zero-first = z;
      heads = h;
      upper = record {
        ascends = root-trail base 0 root h (filled base root (λ p. omega (arith, u p))) (keys-ascend key_of leaf 0 (beneath base root) l.ascends);
        pointed = u;
      };
      lower = l;
    }

-- ---- first keys

-- of two lists of root entries
heads-append : (base : ℕ → List Entry) (xs ys : List Entry) → Heads base xs → Heads base ys → Heads base (xs ++ ys)
heads-append base [] ys h k = k
heads-append base (x ∷ xs) ys h k = (h.0, heads-append base xs ys h.1 k)

-- those before an entry, its own, those behind it
pub heads-parts : (base : ℕ → List Entry) (xs : List Entry) (e : Entry) (ys : List Entry) → Heads base (xs ++ e ∷ ys)
    → Heads base xs × (first (base e.page) ≡ e.key) × Heads base ys
heads-parts base [] e ys h = (tt, h.0, h.1)
heads-parts base (x ∷ xs) e ys h = let k = heads-parts base xs e ys h.1 in ((h.0, k.0), k.1, k.2)

-- of pages that agree but on page b
pub heads-but : (b : ℕ) (f g : ℕ → List Entry) → ((q : ℕ) → q ≢ b → g q ≡ f q) → (es : List Entry) → pointers b es ≡ 0 → Heads f es → Heads g es
heads-but b f g same [] h k = tt
heads-but b f g same (e ∷ es) h k =
    (ap first (same e.page (eqb-false e.page b (miss (eqb e.page b) _ h))) ∙ k.0, heads-but b f g same es (omega arith) k.1)

-- ---- the base page of a root entry in the midst

module _ (leaf : ℕ → List (List ℕ)) (base : ℕ → List Entry) (r1 : List Entry) (e : Entry) (r2 : List Entry)
    (t : Tree (r1 ++ e ∷ r2) (state leaf base)) where
  -- its first key
  pub own-head : first (base e.page) ≡ e.key
  own-head = (heads-parts base r1 e r2 t.heads).1

  -- first keys of the others, whatever stands on the page
  heads-off : (es : List Entry) → Heads (upd base e.page es) r1 × Heads (upd base e.page es) r2
  heads-off es =
      let h = heads-parts base r1 e r2 t.heads in (
        heads-but e.page base (upd base e.page es) (upd-off base e.page es) r1 (none_before entry_key base r1 e r2 t.upper) h.0,
        heads-but e.page base (upd base e.page es) (upd-off base e.page es) r2 (none-behind entry_key base r1 e r2 t.upper) h.2,
      )

  -- the page with other entries, the leaves otherwise
  pub tree_with : (es : List Entry) (leaf' : ℕ → List (List ℕ)) → full es ≡ 1 → first es ≡ e.key
      → Well key_of leaf' (beneath base r1 ++ (es ++ beneath base r2)) → Tree (r1 ++ e ∷ r2) (state leaf' (upd base e.page es))
  tree_with es leaf' f k w =
      tree_of (r1 ++ e ∷ r2) leaf' (upd base e.page es) t.zero-first
      (heads-append (upd base e.page es) r1 (e ∷ r2) (heads-off es).0 (ap first (upd-at base e.page es) ∙ k, (heads-off es).1))
      (refill-pointed entry_key base r1 e r2 t.upper es f)
      (rw (refill-beneath entry_key base r1 e r2 t.upper es) w)

  -- the page emptied and its entry gone
  pub tree-without : (leaf' : ℕ → List (List ℕ)) → first (r1 ++ r2) ≡ 0 → Well key_of leaf' (beneath base r1 ++ beneath base r2)
      → Tree (r1 ++ r2) (state leaf' (upd base e.page []))
  tree-without leaf' z w =
      tree_of (r1 ++ r2) leaf' (upd base e.page []) z (heads-append (upd base e.page []) r1 r2 (heads-off []).0 (heads-off []).1)
      (gone-pointed entry_key base r1 e r2 t.upper)
      (rw (gone-beneath entry_key base r1 e r2 t.upper) w)

-- ---- a base entry in the midst of all

-- the entries of all base pages before it, and those behind it
abbrev pub ahead : (base : ℕ → List Entry) (r1 b1 : List Entry) → List Entry
ahead base r1 b1 = beneath base r1 ++ b1

abbrev pub after : (base : ℕ → List Entry) (b2 r2 : List Entry) → List Entry
after base b2 r2 = b2 ++ beneath base r2

pub midst : (base : ℕ → List Entry) (r1 b1 xs b2 r2 : List Entry)
    → beneath base r1 ++ ((b1 ++ (xs ++ b2)) ++ beneath base r2) ≡ ahead base r1 b1 ++ (xs ++ after base b2 r2)
midst base r1 b1 xs b2 r2 =
    ap (λ (l : List Entry). beneath base r1 ++ l)
    (append_assoc b1 (xs ++ b2) (beneath base r2) ∙ ap (λ (l : List Entry). b1 ++ l) (append_assoc xs b2 (beneath base r2)))
    ∙ sym (append_assoc (beneath base r1) b1 (xs ++ after base b2 r2))

module _ (leaf : ℕ → List (List ℕ)) (base : ℕ → List Entry) (r1 : List Entry) (e : Entry) (r2 : List Entry)
    (t : Tree (r1 ++ e ∷ r2) (state leaf base)) (b1 : List Entry) (x : Entry) (b2 : List Entry) (is : base e.page ≡ b1 ++ x ∷ b2) where
  pub level-is : beneath base (r1 ++ e ∷ r2) ≡ ahead base r1 b1 ++ x ∷ after base b2 r2
  level-is =
      beneath-append base r1 (e ∷ r2) ∙ ap (λ (l : List Entry). beneath base r1 ++ (l ++ beneath base r2)) is ∙ midst base r1 b1 (x ∷ []) b2 r2

  pub lower-is : Well key_of leaf (ahead base r1 b1 ++ x ∷ after base b2 r2)
  lower-is = rw level-is at t.lower

  -- the page's first key, whatever follows x
  pub first-kept : (xs : List Entry) → first (b1 ++ x ∷ xs) ≡ e.key
  first-kept xs = same b1 ∙ ap first (sym is) ∙ own-head leaf base r1 e r2 t
    where
      same : (l : List Entry) → first (l ++ x ∷ xs) ≡ first (l ++ x ∷ b2)
      same [] = refl
      same (y ∷ l) = refl
