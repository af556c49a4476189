-- The leaves in key order, as the choice of a unit sees them, over the tree that the pages show: each stands where an entry of a base page is.
-- Assumes nothing.
use Prim.Native.Nat.{ℕ, ◌+◌, ◌≤◌}
use native.Mathlib.Omega.{arith}
use mathlib.Core.Path.{◌≡◌, refl, sym, ap, ap₂, ◌∙◌}
use mathlib.Core.Logic.{◌≢◌, ◌⊎◌, inl, inr}
use mathlib.Core.Bool.{true, cond}
use mathlib.Core.List.{List, [], ◌∷◌, ◌++◌, map, append_assoc}
use borrow.Author.Tests.{eq-eqb, ne_eqb}
use lib.Dec.{eqb}
use lib.ListN.{length, get_or, length-append, length-map}
use Rattle.field.proofs.Test.{pick_true, pick-false}
use Rattle.page.specs.Page.{key_of, to_page, entries, first_base, last_base, first_leaf, last_leaf, to_bases, to_leaves}
use Rattle.page.specs.Pages.{page, pages}
use Rattle.tree.specs.Tree.{under, Leaf, leaf_at, leaves_under, leaves_below, leaves_of}
use Rattle.unit.specs.Choice.{base_of}
use Rattle.tidy.specs.Tidy.{Sound}
use Rattle.tidy.proofs.Model.{Entry, pointers, beneath, State}
use Rattle.tidy.proofs.Trail.{eq?, pointers-append}
use Rattle.tidy.proofs.Entries.{ent, ents}
use Rattle.tidy.proofs.Pages.{root_of}
use Rattle.tidy.proofs.Tests.{Into, into}
use Rattle.tidy.proofs.Below.{root_is, root-into, under-page, base-into, base-under, leaf-under}
use Rattle.tidy.proofs.Formed.{state_of}

module _ (s : State) where
  -- the leaf of an entry in the base page b
  abbrev pub leaf_for : ℕ → Entry → Leaf
  leaf_for b x = record { base = b; at = x.page; count = length (s.leaf x.page); first = key_of (get_or (s.leaf x.page) 0 []) }

  -- all leaves below root entries
  abbrev pub leaves_all : List Entry → List Leaf
  leaves_all [] = []
  leaves_all (e ∷ es) = map (leaf_for e.page) (s.base e.page) ++ leaves_all es

  -- ---- where a leaf stands

  -- the leaf c has the entry `entry` in the base page of the root entry `top`, and `next` come after it
  pub record Spot (root : List Entry) (c : Leaf) (next : List Leaf) : Type 0 where
    pub left : List Entry
    pub top : Entry
    pub right : List Entry
    pub before : List Entry
    pub entry : Entry
    pub after : List Entry
    pub roots : root ≡ left ++ top ∷ right
    pub entries : s.base top.page ≡ before ++ entry ∷ after
    pub leaf : c ≡ leaf_for top.page entry
    pub others : next ≡ map (leaf_for top.page) after ++ leaves_all right

  -- in the first base page, or below the other root entries
  in-page : (e : Entry) (es xs zs : List Entry) (before : List Leaf) (c : Leaf) (next : List Leaf) → s.base e.page ≡ xs ++ zs
      → map (leaf_for e.page) zs ++ leaves_all es ≡ before ++ c ∷ next
      → Spot (e ∷ es) c next ⊎ ((b : List Leaf) × (leaves_all es ≡ b ++ c ∷ next))
  in-page e es xs [] before c next h q = inr (before, q)
  in-page e es xs (z ∷ zs) [] c next h q =
      inl (record {
        left = [];
        top = e;
        right = es;
        before = xs;
        entry = z;
        after = zs;
        roots = refl;
        entries = h;
        leaf = cc;
        others = cc;
      })
  in-page e es xs (z ∷ zs) (b ∷ bs) c next h q =
      in-page e es (xs ++ z ∷ []) zs bs c next (h ∙ sym (append_assoc xs (z ∷ []) zs)) (cc)

  -- one root entry more in front
  deeper : (e : Entry) {es : List Entry} {c : Leaf} {next : List Leaf} → Spot es c next → Spot (e ∷ es) c next
  deeper e p =
      record {
        left = e ∷ p.left;
        top = p.top;
        right = p.right;
        before = p.before;
        entry = p.entry;
        after = p.after;
        roots = ap (λ (l : List Entry). e ∷ l) p.roots;
        entries = p.entries;
        leaf = p.leaf;
        others = p.others;
      }

  -- there is no leaf in an empty list
  nil-cons : (b : List Leaf) (c : Leaf) (next : List Leaf) → [] ≡ b ++ c ∷ next → ⊥
  nil-cons b c next e = let z = ap length e ∙ length-append b (c ∷ next) in omega arith

  -- each leaf has its place
  pub spot : (root : List Entry) (before : List Leaf) (c : Leaf) (next : List Leaf) → leaves_all root ≡ before ++ c ∷ next → Spot root c next
  spot [] before c next q = absurd (nil-cons before c next q)
  spot (e ∷ es) before c next q =
      go (spot es) (in-page e es [] (s.base e.page) before c next refl q)
    where
      go : ((b : List Leaf) (c : Leaf) (next : List Leaf) → leaves_all es ≡ b ++ c ∷ next → Spot es c next)
          → Spot (e ∷ es) c next ⊎ ((b : List Leaf) × (leaves_all es ≡ b ++ c ∷ next)) → Spot (e ∷ es) c next
      go rest (inl p) = p
      go rest (inr p) = deeper e (rest p.0 c next p.1)

  -- ---- leaves and entries are as many, and point alike

  -- there are as many leaves as entries
  pub length-leaves : (root : List Entry) → length (leaves_all root) ≡ length (beneath s.base root)
  length-leaves [] = refl
  length-leaves (e ∷ es) =
      rw (
        length-append (map (leaf_for e.page) (s.base e.page)) (leaves_all es),
        length-map (s.base e.page) (leaf_for e.page),
        length-append (s.base e.page) (beneath s.base es),
        length-leaves es,
      )

  -- how many leaves stand on page p
  abbrev standing : ℕ → List Leaf → ℕ
  standing p [] = 0
  standing p (l ∷ ls) = cond (eqb l.at p) 1 0 + standing p ls

  -- in two lists
  standing-append : (p : ℕ) (a b : List Leaf) → standing p (a ++ b) ≡ standing p a + standing p b
  standing-append p [] b = omega arith
  standing-append p (l ∷ a) b = omega (arith, standing-append p a b)

  -- in one base page
  standing-page : (p b : ℕ) (es : List Entry) → standing p (map (leaf_for b) es) ≡ pointers p es
  standing-page p b [] = refl
  standing-page p b (e ∷ es) = ap (λ (n : ℕ). cond (eqb e.page p) 1 0 + n) (standing-page p b es)

  -- in the tree
  pub standing-all : (p : ℕ) (root : List Entry) → standing p (leaves_all root) ≡ pointers p (beneath s.base root)
  standing-all p [] = refl
  standing-all p (e ∷ es) =
      standing-append p (map (leaf_for e.page) (s.base e.page)) (leaves_all es)
      ∙ ap₂ (λ (a b : ℕ). a + b) (standing-page p e.page (s.base e.page)) (standing-all p es)
      ∙ sym (pointers-append p (s.base e.page) (beneath s.base es))

  -- a leaf on page p, if there is one, and its base page
  pub record Standing (p : ℕ) (ls : List Leaf) : Type 0 where
    pub before : List Leaf
    pub leaf : Leaf
    pub after : List Leaf
    pub all-leaves : ls ≡ before ++ leaf ∷ after
    pub on : leaf.at ≡ p
    pub under-base : base_of p ls ≡ leaf.base

  -- one that is counted is there
  pub stands : (p : ℕ) (ls : List Leaf) → 1 ≤ standing p ls → Standing p ls
  unfolding base_of
  stands p [] h = absurd (omega arith)
  stands p (l ∷ ls) h = go (stands p ls) (eq? l.at p)
    where
      go : (1 ≤ standing p ls → Standing p ls) → (l.at ≡ p) ⊎ (l.at ≢ p) → Standing p (l ∷ ls)
      go rest (inl e) =
          record {
            before = [];
            leaf = l;
            after = ls;
            all-leaves = refl;
            on = e;
            under-base = pick_true (eqb l.at p) l.base (base_of p ls) (eq-eqb l.at p e);
          }
      go rest (inr d) =
          let r = rest (omega (arith, rw (ne_eqb l.at p d) at h)) in
          record {
            before = l ∷ r.before;
            leaf = r.leaf;
            after = r.after;
            all-leaves = ap (λ (x : List Leaf). l ∷ x) r.all-leaves;
            on = r.on;
            under-base = pick-false (eqb l.at p) l.base (base_of p ls) (ne_eqb l.at p d) ∙ r.under-base;
          }

-- ---- the leaves that the choice sees are these

module _ (w : List ℕ) (sound : Sound w) where
  -- one leaf
  one-leaf : (b : ℕ) (e : List ℕ) → first_leaf ≤ to_page e → to_page e ≤ last_leaf → leaf_at (pages w) b e ≡ leaf_for (state_of w) b (ent e)
  unfolding leaf_at
  one-leaf b e h k =
      ap (λ (rs : List (List ℕ)). record { base = b; at = to_page e; count = length rs; first = key_of (get_or rs 0 []) }) (sym (leaf-under w sound e h k))

  -- those of a base page
  page-leaves : (b : ℕ) (es : List (List ℕ)) → to_leaves es ≡ true → leaves_under (pages w) b es ≡ map (leaf_for (state_of w) b) (ents es)
  unfolding leaves_under
  page-leaves b [] h = refl
  page-leaves b (e ∷ es) h =
      let i : Into first_leaf last_leaf e es = into first_leaf last_leaf e es h in
      ap₂ (λ (x : Leaf) (xs : List Leaf). x ∷ xs) (one-leaf b e i.low i.high) (page-leaves b es i.rest)

  -- those below root entries
  below-leaves : (es : List (List ℕ)) → to_bases es ≡ true → leaves_below (pages w) es ≡ leaves_all (state_of w) (ents es)
  unfolding leaves_below
  below-leaves [] h = refl
  below-leaves (e ∷ es) h =
      let i : Into first_base last_base e es = into first_base last_base e es h in
      let q : to_leaves (entries (under (pages w) e)) ≡ true = rw (under-page w sound e (omega (arith, i.high))) (base-into w sound (to_page e) i.low i.high) in
      ap₂ (λ (x y : List Leaf). x ++ y)
      (page-leaves (to_page e) (entries (under (pages w) e)) q ∙ ap (map (leaf_for (state_of w) (to_page e))) (sym (base-under w sound e i.low i.high)))
      (below-leaves es i.rest)

  -- all of them
  pub leaves_of_lem : leaves_of (pages w) ≡ leaves_all (state_of w) (root_of w)
  unfolding leaves_of
  leaves_of_lem = ap (leaves_below (pages w)) (root_is w sound) ∙ below-leaves (entries (page 0 w)) (root-into w sound)
