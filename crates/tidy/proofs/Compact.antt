-- A compact unit in place, and to a new place, runs to its end and keeps the tree. The new place is a renaming first. Assumes nothing.
use Prim.Native.Nat.{ℕ, ◌+◌, ◌*◌, ◌≤◌}
use native.Mathlib.Omega.{arith}
use mathlib.Core.Path.{◌≡◌, refl, sym, ap, ◌∙◌, subst}
use mathlib.Core.Logic.{◌≢◌, ⊎_elim}
use mathlib.Core.Bool.{false}
use mathlib.Core.List.{List, [], ◌∷◌, ◌++◌, map, append_assoc, map-append}
use borrow.Author.Tests.{eq-eqb, ne_eqb}
use lib.ListN.{length}
use Rattle.field.specs.Test.{pick}
use Rattle.logs.specs.Plan.{Step, take_out, bring_in, point, close, gather, removals, others, replacing, compact_plan}
use Rattle.tidy.proofs.Model.{Entry, pointers, full, marks, trail, Well, beneath, upd, to, exch, State, state, Tree, level, contents, Heads, first, entry_key, weight}
use Rattle.tidy.proofs.Trail.{eq?, drop-many, pointers-append, hit, full≤, full-mid, beneath-append, beneath-but, trail-append, trail-but}
use Rattle.tidy.proofs.Rename.{exch-a, exch-other, exch-twice, renaming, renamed-tree, renamed-contents}
use Rattle.tidy.proofs.Run.{Always, Kept, close-on}
use Rattle.tidy.proofs.Place.{none-points, all-zip, all-front, all_back, x-alone, never}
use Rattle.tidy.proofs.Move.{map-id, to_at, moved_on, pointed-on}
use Rattle.tidy.proofs.Swap.{map-mid}
use Rattle.tidy.proofs.Gather.{pages_of, gathers, removes}

-- ---- the two plans, written out

-- in place no LM points elsewhere
pub plan-in-place : (q c : ℕ) (ps : List ℕ) (zs : List Step) → compact_plan q c (c ∷ ps) ++ zs ≡ gather c ps ++ (removals q ps ++ zs)
unfolding compact_plan replacing others gather pick
plan-in-place q c ps zs = rw (eq-eqb c c refl) (append_assoc (gather c ps) (removals q ps) zs)

-- to a new place the first leaf goes too
pub plan_new : (q c b : ℕ) (ps : List ℕ) (zs : List Step) → c ≢ b
    → compact_plan q b (c ∷ ps) ++ zs ≡ take_out c b ∷ bring_in c b 1 ∷ (gather b ps ++ (point q c b false ∷ (removals q ps ++ zs)))
unfolding compact_plan replacing others gather pick
plan_new q c b ps zs d = rw (ne_eqb c b d, append_assoc (gather b ps) (point q c b false ∷ removals q ps) zs)

-- ---- what a base page with fewer entries keeps

-- first keys stay where each page's first key does
heads-but : (f g : ℕ → List Entry) (es : List Entry) → ((e : Entry) → first (f e.page) ≡ first (g e.page)) → Heads g es → Heads f es
heads-but f g [] s h = tt
heads-but f g (e ∷ es) s h = (s e ∙ h.0, heads-but f g es s h.1)

-- the first key, whatever follows x
first-mid : (xs : List Entry) (x : Entry) (ys zs : List Entry) → first (xs ++ x ∷ ys) ≡ first (xs ++ x ∷ zs)
first-mid [] x ys zs = refl
first-mid (e ∷ xs) x ys zs = refl

-- ---- the base page of the root entry e has x, then the entries ds of the leaves that join x's

module _ (r₁ : List Entry) (e : Entry) (r₂ : List Entry) (xs : List Entry) (x : Entry) (ds ys : List Entry) (s : State)
    (tree : Tree (r₁ ++ e ∷ r₂) s) (here : s.base e.page ≡ xs ++ x ∷ (ds ++ ys)) where
  -- the root points to the base page once
  alone : (pointers e.page r₁ ≡ 0) × (pointers e.page r₂ ≡ 0)
  alone =
      let u = tree.upper.pointed e.page in (
        omega (arith, u, hit e, full≤ (s.base e.page), pointers-append e.page r₁ (e ∷ r₂)),
        omega (arith, u, hit e, full≤ (s.base e.page), pointers-append e.page r₁ (e ∷ r₂)),
      )

  -- the entries in front of x
  pre : List Entry
  pre = beneath s.base r₁ ++ xs

  -- the entries behind those that join
  post : List Entry
  post = ys ++ beneath s.base r₂

  -- all entries, with the page's own in the middle
  spread : (ds : List Entry) (base : ℕ → List Entry) → ((q : ℕ) → q ≢ e.page → base q ≡ s.base q) → base e.page ≡ xs ++ x ∷ (ds ++ ys)
      → beneath base (r₁ ++ e ∷ r₂) ≡ pre ++ x ∷ (ds ++ post)
  unfolding pre post
  spread ds base o h =
      rw (
        beneath-append base r₁ (e ∷ r₂),
        h,
        beneath-but e.page base s.base o r₁ alone.0,
        beneath-but e.page base s.base o r₂ alone.1,
      )
      (simp append_assoc)

  -- no page is pointed to twice from here
  once : (p : ℕ) → pointers p (s.base e.page) ≤ 1
  once p =
      let f = tree.lower.pointed p in
      let a = rw (beneath-append s.base r₁ (e ∷ r₂)) at f in
      omega (
        arith,
        a,
        full≤ (s.leaf p),
        pointers-append p (beneath s.base r₁) (s.base e.page ++ beneath s.base r₂),
        pointers-append p (s.base e.page) (beneath s.base r₂),
      )

  -- a page with x is full
  full-same : (us vs : List Entry) → full (xs ++ x ∷ us) ≡ full (xs ++ x ∷ vs)
  full-same us vs = omega (arith, full-mid xs x us, full-mid xs x vs, full≤ (xs ++ x ∷ us), full≤ (xs ++ x ∷ vs))

  -- the upper trail, with the page's own marks in the middle
  laid : (zs : List Entry) (base : ℕ → List Entry) → ((q : ℕ) → q ≢ e.page → base q ≡ s.base q) → base e.page ≡ xs ++ x ∷ (zs ++ ys)
      → trail entry_key base (r₁ ++ e ∷ r₂)
      ≡ (trail entry_key s.base r₁ ++ (2 * e.key ∷ marks entry_key (xs ++ x ∷ [])))
      ++ (marks entry_key zs ++ (marks entry_key ys ++ trail entry_key s.base r₂))
  laid zs base o h =
      rw (
        trail-append entry_key base r₁ (e ∷ r₂),
        h,
        trail-but entry_key s.base e.page base o r₁ alone.0,
        trail-but entry_key s.base e.page base o r₂ alone.1,
      )
      (simp (map-append (λ i. 2 * entry_key i + 1), append_assoc))

  -- the base pages after the unit
  abbrev end-base : ℕ → List Entry
  end-base = upd s.base e.page (xs ++ x ∷ ys)

  -- other base pages stay
  elsewhere : (q : ℕ) → q ≢ e.page → end-base q ≡ s.base q
  elsewhere q d = rw (ne_eqb q e.page d)

  -- this one has lost the entries of ds
  there : end-base e.page ≡ xs ++ x ∷ ys
  there = rw (eq-eqb e.page e.page refl)

  -- first keys stay
  heads-kept : Heads end-base (r₁ ++ e ∷ r₂)
  heads-kept =
      heads-but end-base s.base (r₁ ++ e ∷ r₂)
      (λ d. ⊎_elim
      (λ (k : d.page ≡ e.page). ap (λ (q : ℕ). first (end-base q)) k
      ∙ ap first there
      ∙ first-mid xs x ys (ds ++ ys)
      ∙ sym (ap first here)
      ∙ sym (ap (λ (q : ℕ). first (s.base q)) k))
      (λ k. ap first (elsewhere d.page k))
      (eq? d.page e.page))
      tree.heads

  -- the upper level stays well formed
  upper-kept : Well entry_key end-base (r₁ ++ e ∷ r₂)
  upper-kept =
      record {
        ascends = rw (laid [] end-base elsewhere there)
            (drop-many 0 (trail entry_key s.base r₁ ++ (2 * e.key ∷ marks entry_key (xs ++ x ∷ []))) (marks entry_key ds)
            (marks entry_key ys ++ trail entry_key s.base r₂)
            (rw (laid ds s.base (λ q n. refl) here) at tree.upper.ascends));
        pointed = λ p. tree.upper.pointed p
            ∙ ⊎_elim
            (λ (k : p ≡ e.page). ap (λ (q : ℕ). full (s.base q)) k
            ∙ ap full here
            ∙ full-same (ds ++ ys) ys
            ∙ sym (ap full there)
            ∙ sym (ap (λ (q : ℕ). full (end-base q)) k))
            (λ k. ap full (sym (elsewhere p k)))
            (eq? p e.page);
      }

  -- the two halves, whatever comes between them, and the tree after both
  pub record Compacts : Type 0 where
    pub end-leaf : ℕ → List (List ℕ)
    pub gathering : (todo : List Step) (b : ℕ → List Entry) (s' : State) → Always todo (state end-leaf b) s'
        → Always (gather x.page (pages_of ds) ++ todo) (state s.leaf b) s'
    pub removing : (todo : List Step) (l : ℕ → List (List ℕ)) (s' : State) → Always todo (state l end-base) s'
        → Always (removals e.page (pages_of ds) ++ todo) (state l s.base) s'
    pub well : Tree (r₁ ++ e ∷ r₂) (state end-leaf end-base)
    pub same : contents (r₁ ++ e ∷ r₂) (state end-leaf end-base) ≡ contents (r₁ ++ e ∷ r₂) s

  -- on a well-formed tree, within the fill
  pub compacts : weight s.leaf (x ∷ ds) ≤ 15 → Compacts
  compacts fits =
      let all : level (r₁ ++ e ∷ r₂) s ≡ pre ++ x ∷ (ds ++ post) = spread ds s.base (λ q n. refl) here in
      let g = gathers pre x post ds s.leaf (rw all at tree.lower) fits in
      let now : level (r₁ ++ e ∷ r₂) (state g.end end-base) ≡ pre ++ x ∷ post = spread [] end-base elsewhere there in
      record {
        end-leaf = g.end;
        gathering = g.runs;
        removing = λ todo l s' k. removes e.page xs x ys l todo s' ds s.base here once k;
        well = record { zero-first = tree.zero-first; heads = heads-kept; upper = upper-kept; lower = rw now g.well };
        same = rw (now, all) g.same;
      }

  -- the unit in place
  pub compact : (u : ℕ) → weight s.leaf (x ∷ ds) ≤ 15
      → Kept (r₁ ++ e ∷ r₂) (compact_plan e.page x.page (x.page ∷ pages_of ds) ++ (close u ∷ [])) s
  compact u fits =
      let c = compacts fits in
      let end : State = state c.end-leaf end-base in
      let last : List Step = removals e.page (pages_of ds) ++ (close u ∷ []) in
      record {
        end = end;
        runs = rw (plan-in-place e.page x.page (pages_of ds) (close u ∷ []))
            (c.gathering last s.base end (c.removing (close u ∷ []) c.end-leaf end (close-on u end)));
        well = c.well;
        same = c.same;
      }

-- ---- the same, to the empty page b: the first leaf moves, the others follow it

-- renamed leaves weigh the same
weight-to : (f : ℕ → ℕ) (twice : (p : ℕ) → f (f p) ≡ p) (l : ℕ → List (List ℕ)) (es : List Entry) → weight (λ p. l (f p)) (map (to f) es) ≡ weight l es
weight-to f twice l [] = refl
weight-to f twice l (e ∷ es) = rw (twice e.page, weight-to f twice l es)

module _ (r₁ : List Entry) (e : Entry) (r₂ : List Entry) (xs : List Entry) (x : Entry) (ds ys : List Entry) (s : State)
    (tree : Tree (r₁ ++ e ∷ r₂) s) (here : s.base e.page ≡ xs ++ x ∷ (ds ++ ys)) (b : ℕ) (none : s.leaf b ≡ []) where
  -- the root's entries
  abbrev root : List Entry
  root = r₁ ++ e ∷ r₂

  -- the renaming
  abbrev τ : ℕ → ℕ
  τ = exch x.page b

  -- the tree with the first leaf in its new place
  abbrev s₁ : State
  s₁ = renaming τ (exch-twice x.page b) s

  -- its entries in the base page
  here₁ : s₁.base e.page ≡ map (to τ) xs ++ to τ x ∷ (map (to τ) ds ++ map (to τ) ys)
  here₁ = ap (map (to τ)) here ∙ map-mid (to τ) xs x (ds ++ ys) ∙ ap (λ (l : List Entry). map (to τ) xs ++ to τ x ∷ l) (map-append (to τ) ds ys)

  -- the other listed leaves stay where they are
  stay : map (to τ) ds ≡ ds
  stay =
      map-id (λ d. (d.page ≢ x.page) × (d.page ≢ b)) (to τ) ds
      (λ d h. to_at x.page b d.page d (exch-other x.page b d.page h.0 h.1))
      (all-zip _ _ ds
      (all-front (λ d. d.page ≢ x.page) ds ys (none-points x.page (ds ++ ys) (x-alone root s tree x e.page xs (ds ++ ys) here).1))
      (all-front (λ d. d.page ≢ b) ds ys
      (all_back (λ d. d.page ≢ b) xs (x ∷ (ds ++ ys)) (rw here at (never root s tree x e.page xs (ds ++ ys) here b none e.page))).1))

  -- the unit to a new place
  pub compact-new : (u : ℕ) → x.page ≢ b → 1 ≤ b → weight s.leaf (x ∷ ds) ≤ 15
      → Kept root (compact_plan e.page b (x.page ∷ pages_of ds) ++ (close u ∷ [])) s
  compact-new u apart some-page fits =
      let short : length (s.leaf x.page) ≤ 15 = omega arith in
      let c = compacts r₁ e r₂ (map (to τ) xs) (to τ x) (map (to τ) ds) (map (to τ) ys) s₁ (renamed-tree τ (exch-twice x.page b) root s tree) here₁
      (rw (weight-to τ (exch-twice x.page b) s.leaf (x ∷ ds)) fits) in
      let end : State = state c.end-leaf (upd s₁.base e.page (map (to τ) xs ++ to τ x ∷ map (to τ) ys)) in
      let removals' : List Step = removals e.page (pages_of ds) ++ (close u ∷ []) in
      let lms : List Step = point e.page x.page b false ∷ removals' in
      let third : Always removals' (state c.end-leaf s₁.base) end =
      subst (λ (zs : List Entry). Always (removals e.page (pages_of zs) ++ (close u ∷ [])) (state c.end-leaf s₁.base) end) stay
      (c.removing (close u ∷ []) c.end-leaf end (close-on u end)) in
      let second : Always lms (state c.end-leaf s.base) end =
      pointed-on root s tree x e.page xs (ds ++ ys) here b none short removals' c.end-leaf end some-page third in
      let first-half : Always (gather b (pages_of ds) ++ lms) (state s₁.leaf s.base) end =
      subst (λ (zs : List Entry). Always (gather b (pages_of zs) ++ lms) (state s₁.leaf s.base) end) stay
      (subst (λ (q : ℕ). Always (gather q (pages_of (map (to τ) ds)) ++ lms) (state s₁.leaf s.base) end) (exch-a x.page b)
      (c.gathering lms s.base end second)) in
      record {
        end = end;
        runs = subst (λ (zs : List Step). Always zs s end) (sym (plan_new e.page x.page b (pages_of ds) (close u ∷ []) apart))
            (moved_on root s tree x e.page xs (ds ++ ys) here b none short (gather b (pages_of ds) ++ lms) end first-half);
        well = c.well;
        same = c.same ∙ renamed-contents τ (exch-twice x.page b) root s;
      }
