-- A swap runs to its end, and leaves the tree with its two pages exchanged, under one base page or two. Assumes nothing.
use Prim.Native.Nat.{ℕ, ◌≤◌}
use mathlib.Core.Path.{◌≡◌, refl, sym, ap, ◌∙◌, subst, fun_ext}
use mathlib.Core.Logic.{◌≢◌, ⊎_elim}
use mathlib.Core.Bool.{true, false}
use mathlib.Core.List.{List, [], ◌∷◌, ◌++◌, map}
use mathlib.Core.Option.{Option, some}
use borrow.Author.Tests.{eq-eqb, ne_eqb}
use lib.Dec.{eqb}
use lib.ListN.{length}
use Rattle.field.specs.Test.{pick}
use Rattle.logs.specs.Record.{Rec, LO, LI, LM, LE, carried, outs}
use Rattle.logs.specs.Plan.{Step, swap_plan, close}
use Rattle.logs.specs.Log.{taken}
use Rattle.unit.specs.Next.{skipped, key_before}
use Rattle.tidy.proofs.Model.{Entry, full, upd, redirect, lowest, skips, to, exch, State, state, Tree, All}
use Rattle.tidy.proofs.Trail.{eq?}
use Rattle.tidy.proofs.Rename.{exch-a, exch-b, exch-other, exch-twice, renaming, renamed-tree, renamed-contents}
use Rattle.tidy.proofs.Run.{Run, takes, brings, points, Always, Kept}
use Rattle.tidy.proofs.Place.{none-points, all-zip, found, only, once, x-full, x-alone, rises, mem, first_key, same_key}
use Rattle.tidy.proofs.Move.{map-all, map-id, redirect-hit, redirect-key, redirect-page, to_at}

-- one function after the other
map-map : (f g : Entry → Entry) (es : List Entry) → map f (map g es) ≡ map (λ e. f (g e)) es
map-map f g [] = refl
map-map f g (e ∷ es) = rw (map-map f g es)

-- a list with an entry in the middle
pub map-mid : (f : Entry → Entry) (xs : List Entry) (e : Entry) (ys : List Entry) → map f (xs ++ e ∷ ys) ≡ map f xs ++ f e ∷ map f ys
map-mid f [] e ys = refl
map-mid f (x ∷ xs) e ys = rw (map-mid f xs e ys)

-- a property of the entries that a function gives
all-mapped : (f : Entry → Entry) (P Q : Entry → Type 0) (es : List Entry) → ((e : Entry) → P e → Q (f e)) → All P es → All Q (map f es)
all-mapped f P Q [] g a = tt
all-mapped f P Q (e ∷ es) g a = (g e a.0, all-mapped f P Q es g a.1)

-- ---- what a well-formed tree says of two entries x and y, in the base pages p and q

-- their pages and keys differ, and no other entry points there
pub record Places (base : ℕ → List Entry) (x y : Entry) (p q : ℕ) : Type 0 where
  pub pages : x.page ≢ y.page
  pub keys : x.key ≢ y.key
  pub once : (i : ℕ) → All (λ e. (e.page ≡ x.page → e.key ≡ x.key) × (e.page ≡ y.page → e.key ≡ y.key)) (base i)
  pub only_x : (i : ℕ) → i ≢ p → All (λ e. e.page ≢ x.page) (base i)
  pub only-y : (i : ℕ) → i ≢ q → All (λ e. e.page ≢ y.page) (base i)

-- the two LM records of a swap exchange the two pages in every base page
module _ (base : ℕ → List Entry) (x y : Entry) (p q : ℕ) (c : Places base x y p q) where
  -- what the first LM does
  abbrev r₁ : Entry → Entry
  r₁ = redirect y.key y.page x.page

  -- what the second LM does
  abbrev r₂ : Entry → Entry
  r₂ = redirect x.key x.page y.page

  -- the base pages after the first LM
  abbrev base₁ : ℕ → List Entry
  base₁ = upd base q (map r₁ (base q))

  -- and after the second
  abbrev base₂ : ℕ → List Entry
  base₂ = upd base₁ p (map r₂ (base₁ p))

  -- the first LM in every base page
  base₁-at : (i : ℕ) → base₁ i ≡ map r₁ (base i)
  base₁-at i =
      ⊎_elim
      (λ (e : i ≡ q). rw (eq-eqb i q e) (ap (λ (j : ℕ). map r₁ (base j)) (sym e)))
      (λ (d : i ≢ q). rw (ne_eqb i q d)
      (sym (map-id (λ e. e.page ≢ y.page) r₁ (base i) (λ e h. redirect-page y.key y.page x.page e h) (c.only-y i d))))
      (eq? i q)

  -- not x's entry: the second LM leaves what the first made of it
  kept : (e : Entry) → (e.page ≢ x.page) × ((e.page ≡ x.page → e.key ≡ x.key) × (e.page ≡ y.page → e.key ≡ y.key)) → r₂ (r₁ e) ≡ r₁ e
  kept e h =
      ⊎_elim
      (λ (k : e.page ≡ y.page). redirect-key x.key x.page y.page (r₁ e) (λ m. c.keys (sym m ∙ h.1.1 k)))
      (λ (d : e.page ≢ y.page). ap r₂ (redirect-page y.key y.page x.page e d)
      ∙ redirect-page x.key x.page y.page e h.0
      ∙ sym (redirect-page y.key y.page x.page e d))
      (eq? e.page y.page)

  -- the second LM in every base page
  base₂-at : (i : ℕ) → base₂ i ≡ map r₂ (base₁ i)
  base₂-at i =
      ⊎_elim
      (λ (e : i ≡ p). rw (eq-eqb i p e) (ap (λ (j : ℕ). map r₂ (base₁ j)) (sym e)))
      (λ (d : i ≢ p). rw (ne_eqb i p d)
      (base₁-at i
      ∙ sym (map-all _ (λ e. r₂ (r₁ e)) r₁ (base i) kept (all-zip _ _ (base i) (c.only_x i d) (c.once i)))
      ∙ sym (map-map r₂ r₁ (base i))
      ∙ ap (map r₂) (sym (base₁-at i))))
      (eq? i p)

  -- the two LMs rename each entry
  both-lm : (e : Entry) → (e.page ≡ x.page → e.key ≡ x.key) × (e.page ≡ y.page → e.key ≡ y.key) → r₂ (r₁ e) ≡ to (exch x.page y.page) e
  both-lm e h =
      ⊎_elim
      (λ (k : e.page ≡ x.page). ap r₂ (redirect-page y.key y.page x.page e (λ m. c.pages (sym k ∙ m)))
      ∙ redirect-hit x.key x.page y.page e (h.0 k) k
      ∙ sym (to_at x.page y.page y.page e (ap (exch x.page y.page) k ∙ exch-a x.page y.page)))
      (λ (d : e.page ≢ x.page). ⊎_elim
      (λ (k : e.page ≡ y.page). kept e (d, h)
      ∙ redirect-hit y.key y.page x.page e (h.1 k) k
      ∙ sym (to_at x.page y.page x.page e (ap (exch x.page y.page) k ∙ exch-b x.page y.page)))
      (λ (g : e.page ≢ y.page). kept e (d, h)
      ∙ redirect-page y.key y.page x.page e g
      ∙ sym (to_at x.page y.page e.page e (exch-other x.page y.page e.page d g)))
      (eq? e.page y.page))
      (eq? e.page x.page)

  -- so they do in every base page
  exchanged : (i : ℕ) → base₂ i ≡ map (to (exch x.page y.page)) (base i)
  exchanged i =
      base₂-at i
      ∙ ap (map r₂) (base₁-at i)
      ∙ map-map r₂ r₁ (base i)
      ∙ map-all _ (λ e. r₂ (r₁ e)) (to (exch x.page y.page)) (base i) both-lm (c.once i)

-- ---- the swap of x's leaf and y's

module _ (root : List Entry) (s : State) (t : Tree root s) (x y : Entry) (p q : ℕ) (xs ys us vs : List Entry)
    (x-in : s.base p ≡ xs ++ x ∷ ys) (y-in : s.base q ≡ us ++ y ∷ vs) (apart : x.page ≢ y.page)
    (short-x : length (s.leaf x.page) ≤ 15) (short-y : length (s.leaf y.page) ≤ 15) where
  -- A's page
  abbrev a : ℕ
  a = x.page

  -- B's page
  abbrev b : ℕ
  b = y.page

  -- what stands on the leaf pages
  abbrev leaf : ℕ → List (List ℕ)
  leaf = s.leaf

  -- the two entries
  c : Places s.base x y p q
  c =
      record {
        pages = apart;
        keys = λ k. apart (ap (λ (e : Entry). e.page) (same_key root s t x y (mem root s t x p xs ys x-in) (mem root s t y q us vs y-in) k));
        once = λ i. all-zip _ _ (s.base i) (once root s t x p xs ys x-in i) (once root s t y q us vs y-in i);
        only_x = only root s t x p xs ys x-in;
        only-y = only root s t y q us vs y-in;
      }

  -- the base pages after the first LM
  abbrev m : ℕ → List Entry
  m = base₁ s.base x y p q c

  -- what the first LM does
  abbrev r : Entry → Entry
  r = r₁ s.base x y p q c

  -- what points to x's page after the first LM, and did not, is y's entry
  taken-over : (e : Entry) → e.page ≢ x.page → (redirect y.key y.page x.page e).page ≡ x.page → eqb e.key y.key ≡ true
  taken-over e d k =
      ⊎_elim
      (λ (h : e.key ≡ y.key). eq-eqb e.key y.key h)
      (λ (h : e.key ≢ y.key). absurd (d (rw (ne_eqb e.key y.key h) at k)))
      (eq? e.key y.key)

  -- the second LM finds x's entry, skipping the one just changed
  second_key : lowest (some y.key) a (m p) ≡ some x.key
  second_key =
      ap (lowest (some y.key) a)
      (base₁-at s.base x y p q c p
      ∙ ap (map r) x-in
      ∙ map-mid r xs x ys
      ∙ ap (λ (e : Entry). map r xs ++ e ∷ map r ys) (redirect-page y.key y.page x.page x c.pages))
      ∙ found (some y.key) (map r xs) x (map r ys)
      (all-mapped r (λ e. e.page ≢ x.page) (λ e. e.page ≡ x.page → skips (some y.key) e.key ≡ true) xs taken-over
      (none-points x.page xs (x-alone root s t x p xs ys x-in).0))
      (ne_eqb x.key y.key c.keys)

  -- under two base pages nothing needs to be skipped
  find-second : (did : List Rec) → key_before did ≡ some y.key → lowest (skipped (eqb p q) did) a (m p) ≡ some x.key
  unfolding skipped pick
  find-second did before =
      ⊎_elim
      (λ (e : p ≡ q). let k : skipped (eqb p q) did ≡ some y.key = rw (eq-eqb p q e) before in
      ap (λ (o : Option ℕ). lowest o a (m p)) k ∙ second_key)
      (λ (d : p ≢ q). rw (ne_eqb p q d) (first_key root s t x p xs ys x-in))
      (eq? p q)

  -- the pages differ
  ab : eqb a b ≡ false
  ab = ne_eqb a b apart

  -- and the other way round
  ba : eqb b a ≡ false
  ba = ne_eqb b a (λ e. apart (sym e))

  -- the leaves after both LOs
  abbrev l₂ : ℕ → List (List ℕ)
  l₂ = upd (upd leaf a []) b []

  -- and after the first LI
  abbrev l₃ : ℕ → List (List ℕ)
  l₃ = upd l₂ a (l₂ a ++ leaf b)

  -- what the first LI leaves in A
  in-a : l₂ a ++ leaf b ≡ leaf b
  in-a = rw (ab, eq-eqb a a refl)

  -- what the second LI leaves in B
  in_b : l₃ b ++ leaf a ≡ leaf a
  in_b = rw (ba, eq-eqb b b refl)

  -- the four steps exchange the two pages
  leaf-end : (i : ℕ) → upd l₃ b (l₃ b ++ leaf a) i ≡ leaf (exch a b i)
  leaf-end i =
      rw (in_b, in-a)
      (⊎_elim
      (λ (e : i ≡ a). rw (e, ab, eq-eqb a a refl))
      (λ (d : i ≢ a). ⊎_elim
      (λ (e : i ≡ b). rw (e, ba, eq-eqb b b refl))
      (λ (g : i ≢ b). rw (ne_eqb i a d, ne_eqb i b g))
      (eq? i b))
      (eq? i a))

  -- the tree with the two pages exchanged
  abbrev end : State
  end = renaming (exch a b) (exch-twice a b) s

  -- the six steps, then LE
  swapped : (u : ℕ) → 1 ≤ a → 1 ≤ b → Always (swap_plan p q a b ++ (close u ∷ [])) s end
  unfolding swap_plan taken carried outs key_before skipped pick
  swapped u ha hb did =
      let fa : 1 ≤ full (leaf a) = x-full root s t x p xs ys x-in in
      let fb : 1 ≤ full (leaf b) = x-full root s t y q us vs y-in in
      let eb : leaf b ≡ upd leaf a [] b = rw ba in
      let d₂ : List Rec = LO b a (leaf b) ∷ LO a b (leaf a) ∷ did in
      let d₄ : List Rec = LI a b 3 (leaf a) ∷ LI b a 1 (leaf b) ∷ d₂ in
      let d₅ : List Rec = LM q b a y.key ∷ d₄ in
      let d₆ : List Rec = LM p a b x.key ∷ d₅ in
      let last : Run d₆ (close u ∷ []) (state (upd l₃ b (l₃ b ++ leaf a)) (base₂ s.base x y p q c)) end (LE u [] ∷ []) =
      subst (λ (z : State). Run d₆ (close u ∷ []) z end (LE u [] ∷ []))
      (λ i. state (sym (fun_ext leaf-end) i) (sym (fun_ext (exchanged s.base x y p q c)) i)) (Run.closes Run.done) in
      let fifth = points {did = d₄} {q = q} {old = b} {new = a} {other = false} y.key ha (first_key root s t y q us vs y-in)
      (points {did = d₅} {q = p} {old = a} {new = b} {other = eqb p q} x.key hb (find-second d₅ refl) last) in
      let third = brings {did = d₂} {p = b} {d = a} {back = 1} {l = l₂} {b = s.base} (leaf b) refl fb (rw in-a short-y) (rw in-a (rises root s t y q us vs y-in))
      (brings {p = a} {d = b} {back = 3} {l = l₃} {b = s.base} (leaf a) refl fa (rw in_b short-x) (rw in_b (rises root s t x p xs ys x-in)) fifth) in
      (_, takes {did = did} {p = a} {d = b} {l = leaf} {b = s.base} fa (takes-eq third))
    where
      takes-eq : {did : List Rec} {todo : List Step} {rs : List Rec} → Run (LO b a (leaf b) ∷ did) todo (state l₂ s.base) end rs
          → Run did (Step.take_out b a ∷ todo) (state (upd leaf a []) s.base) end (LO b a (leaf b) ∷ rs)
      takes-eq {did} {todo} {rs} k =
          let e : upd leaf a [] b ≡ leaf b = rw ba in
          subst (λ (v : List (List ℕ)). Run did (Step.take_out b a ∷ todo) (state (upd leaf a []) s.base) end (LO b a v ∷ rs)) e
          (takes (rw e (x-full root s t y q us vs y-in)) (subst (λ (v : List (List ℕ)). Run (LO b a v ∷ did) todo (state l₂ s.base) end rs) (sym e) k))

  -- the whole unit
  pub swap : (u : ℕ) → 1 ≤ a → 1 ≤ b → Kept root (swap_plan p q a b ++ (close u ∷ [])) s
  swap u ha hb =
      record {
        end = end;
        runs = swapped u ha hb;
        well = renamed-tree (exch a b) (exch-twice a b) root s t;
        same = renamed-contents (exch a b) (exch-twice a b) root s;
      }
