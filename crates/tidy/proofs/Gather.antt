-- The two halves of a compact unit over a tree: leaves gathered into the one before them, and their entries removed from their base page.
-- Assumes nothing.
use Prim.Native.Nat.{ℕ, ◌+◌, ◌≤◌}
use native.Mathlib.Omega.{arith}
use mathlib.Core.Path.{◌≡◌, refl, sym, ap, ◌∙◌, subst, fun_ext}
use mathlib.Core.Logic.{◌≢◌, ⊎_elim}
use mathlib.Core.Bool.{Bool, true, false, cond}
use mathlib.Core.List.{List, [], ◌∷◌, ◌++◌, map, append_assoc}
use borrow.Author.Tests.{eqb-false, eq-eqb, ne_eqb}
use lib.Dec.{eqb}
use lib.ListN.{length, length-append}
use Rattle.field.specs.Test.{pick}
use Rattle.page.specs.Page.{key_of}
use Rattle.logs.specs.Plan.{Step, take_out, bring_in, gather, removals}
use Rattle.tidy.proofs.Model.{Entry, Ascends, pointers, full, Well, beneath, merged, upd, strip, State, state, weight}
use Rattle.tidy.proofs.Trail.{eq?, pointers-append, hit, miss, page-ascends}
use Rattle.tidy.proofs.Merge.{a-once, b-once, merged-well, merged-beneath}
use Rattle.tidy.proofs.Run.{Always, pair-on, remove-on}
use Rattle.tidy.proofs.Place.{found_first}

-- the pages of entries
abbrev pub pages_of : List Entry → List ℕ
pages_of es = map (λ (e : Entry). e.page) es

-- leaves below entries to other pages weigh the same
weight-other : (l : ℕ → List (List ℕ)) (a b : ℕ) (es : List Entry) → pointers a es ≡ 0 → pointers b es ≡ 0 → weight (merged a b l) es ≡ weight l es
weight-other l a b [] h k = refl
weight-other l a b (e ∷ es) h k =
    rw (miss (eqb e.page a) _ h, miss (eqb e.page b) _ k, weight-other l a b es (omega arith) (omega arith))

-- ---- the leaves of ds gathered into that of x

module _ (pre : List Entry) (x : Entry) (post : List Entry) where
  -- the steps run to their end, whatever follows them
  pub record Gathers (l : ℕ → List (List ℕ)) (ds : List Entry) : Type 0 where
    pub end : ℕ → List (List ℕ)
    pub runs : (todo : List Step) (b : ℕ → List Entry) (s' : State) → Always todo (state end b) s'
        → Always (gather x.page (pages_of ds) ++ todo) (state l b) s'
    pub well : Well key_of end (pre ++ x ∷ post)
    pub same : beneath end (pre ++ x ∷ post) ≡ beneath l (pre ++ x ∷ (ds ++ post))

  -- neighbours merged one after the other
  pub gathers : (ds : List Entry) (l : ℕ → List (List ℕ)) → Well key_of l (pre ++ x ∷ (ds ++ post)) → weight l (x ∷ ds) ≤ 15 → Gathers l ds
  unfolding gather pick
  gathers [] l w h = record { end = l; runs = λ todo b s' k. k; well = w; same = refl }
  gathers (d ∷ ds) l w h =
      let (a₁, a₂, a≢d) = a-once key_of l pre x d (ds ++ post) w in
      let (b₁, b₂) = b-once key_of l pre x d (ds ++ post) w in
      let m : Well key_of (merged x.page d.page l) (pre ++ x ∷ (ds ++ post)) = merged-well key_of l pre x d (ds ++ post) w in
      let g = gathers ds (merged x.page d.page l) m (room a≢d a₂ b₂) in
      record {
        end = g.end;
        runs = λ todo b s' k. rw (ne_eqb d.page x.page (λ e. a≢d (sym e))) (put_in a≢d m (gather x.page (pages_of ds) ++ todo) b s' (g.runs todo b s' k));
        well = g.well;
        same = g.same ∙ merged-beneath key_of l pre x d (ds ++ post) w;
      }
    where
      room : x.page ≢ d.page → pointers x.page (ds ++ post) ≡ 0 → pointers d.page (ds ++ post) ≡ 0
          → weight (merged x.page d.page l) (x ∷ ds) ≤ 15
      room n p q =
          rw (
            eq-eqb x.page x.page refl,
            weight-other l x.page d.page ds (omega (arith, pointers-append x.page ds post)) (omega (arith, pointers-append d.page ds post)),
            length-append (l x.page) (l d.page),
          )
          (omega arith)

      d-full : 1 ≤ full (l d.page)
      d-full = omega (arith, pointers-append d.page pre (x ∷ d ∷ (ds ++ post)), w.pointed d.page, hit d)

      put_in : x.page ≢ d.page → Well key_of (merged x.page d.page l) (pre ++ x ∷ (ds ++ post)) → (todo : List Step) (b : ℕ → List Entry) (s' : State)
          → Always todo (state (merged x.page d.page l) b) s' → Always (take_out d.page x.page ∷ bring_in d.page x.page 1 ∷ todo) (state l b) s'
      put_in n m todo b s' k =
          let asc : Ascends 0 (map key_of (l x.page ++ l d.page)) =
          rw (eq-eqb x.page x.page refl) at (page-ascends key_of (merged x.page d.page l) pre x (ds ++ post) m) in
          pair-on d.page x.page todo l b s' (l x.page ++ l d.page) d-full (rw (ne_eqb x.page d.page n))
          (rw (length-append (l x.page) (l d.page)) (omega arith)) asc k

-- ---- their entries removed

-- an entry that no other one points like is all that goes
strip-none : (k p : ℕ) (es : List Entry) → pointers p es ≡ 0 → strip k p es ≡ es
strip-none k p [] h = refl
strip-none k p (e ∷ es) h =
    rw (ne_eqb e.page p (eqb-false e.page p (miss (eqb e.page p) _ h)), strip-none k p es (omega arith)) (go (eqb e.key k))
  where
    go : (t : Bool) → ◌≡◌ {A = List Entry} (cond t (e ∷ es) (e ∷ es)) (e ∷ es)
    go true = refl
    go false = refl

-- the same where it stands in the middle
strip-at : (xs : List Entry) (d : Entry) (ys : List Entry) → pointers d.page xs ≡ 0 → pointers d.page ys ≡ 0
    → strip d.key d.page (xs ++ d ∷ ys) ≡ xs ++ ys
strip-at [] d ys h k = rw (eq-eqb d.key d.key refl, eq-eqb d.page d.page refl) (strip-none d.key d.page ys k)
strip-at (e ∷ xs) d ys h k =
    rw (ne_eqb e.page d.page (eqb-false e.page d.page (miss (eqb e.page d.page) _ h)), strip-at xs d ys (omega arith) k)
    (go (eqb e.key d.key))
  where
    go : (t : Bool) → ◌≡◌ {A = List Entry} (cond t (e ∷ (xs ++ ys)) (e ∷ (xs ++ ys))) (e ∷ (xs ++ ys))
    go true = refl
    go false = refl

module _ {A : Type 0} (f : ℕ → A) (b : ℕ) where
  -- written with what stands there
  pub upd_same : (v : A) → f b ≡ v → upd f b v ≡ f
  upd_same v e = fun_ext (λ q. ⊎_elim (λ (k : q ≡ b). rw (eq-eqb q b k, k) (sym e)) (λ (d : q ≢ b). rw (ne_eqb q b d)) (eq? q b))

  -- written twice
  pub upd-twice : (u v : A) → upd (upd f b u) b v ≡ upd f b v
  upd-twice u v = fun_ext (λ q. ⊎_elim (λ (k : q ≡ b). rw (eq-eqb q b k)) (λ (d : q ≢ b). rw (ne_eqb q b d)) (eq? q b))

module _ (b : ℕ) (xs : List Entry) (x : Entry) (ys : List Entry) (l : ℕ → List (List ℕ)) (todo : List Step) (s' : State) where
  -- one LM for each of ds
  pub removes : (ds : List Entry) (base : ℕ → List Entry) → base b ≡ xs ++ x ∷ (ds ++ ys) → ((p : ℕ) → pointers p (base b) ≤ 1)
      → Always todo (state l (upd base b (xs ++ x ∷ ys))) s' → Always (removals b (pages_of ds) ++ todo) (state l base) s'
  unfolding removals
  removes [] base e u k = subst (λ (m : ℕ → List Entry). Always todo (state l m) s') (upd_same base b (xs ++ x ∷ ys) e) k
  removes (d ∷ ds) base e u k =
      let f : base b ≡ (xs ++ x ∷ []) ++ d ∷ (ds ++ ys) = e ∙ sym (append_assoc xs (x ∷ []) (d ∷ (ds ++ ys))) in
      let g : (xs ++ x ∷ []) ++ (ds ++ ys) ≡ xs ++ x ∷ (ds ++ ys) = append_assoc xs (x ∷ []) (ds ++ ys) in
      let o : pointers d.page (xs ++ x ∷ []) + (1 + pointers d.page (ds ++ ys)) ≤ 1 =
      omega (arith, pointers-append d.page (xs ++ x ∷ []) (d ∷ (ds ++ ys)), rw f at (u d.page), hit d) in
      let z : strip d.key d.page (base b) ≡ xs ++ x ∷ (ds ++ ys) =
      ap (strip d.key d.page) f ∙ strip-at (xs ++ x ∷ []) d (ds ++ ys) (omega arith) (omega arith) ∙ g in
      let next : ℕ → List Entry = upd base b (strip d.key d.page (base b)) in
      let n : next b ≡ xs ++ x ∷ (ds ++ ys) = rw (eq-eqb b b refl) z in
      let once : (p : ℕ) → pointers p (next b) ≤ 1 =
      λ p. rw n (omega (arith, pointers-append p xs (x ∷ d ∷ (ds ++ ys)), pointers-append p xs (x ∷ (ds ++ ys)), rw e at (u p))) in
      let two : 2 ≤ length (base b) = rw (f, length-append (xs ++ x ∷ []) (d ∷ (ds ++ ys)), length-append xs (x ∷ [])) (omega arith) in
      remove-on b d.page d.key (removals b (pages_of ds) ++ todo) l base s' (rw f (found_first (xs ++ x ∷ []) d (ds ++ ys) (omega arith))) two
      (removes ds next n once
      (subst (λ (m : ℕ → List Entry). Always todo (state l m) s') (sym (upd-twice base b (strip d.key d.page (base b)) (xs ++ x ∷ ys))) k))
