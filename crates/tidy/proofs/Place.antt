-- What a well-formed tree says of an entry in a base page: no other entry points to its page, its leaf holds records in order, no other entry
-- has its key, and the LM finds it. Assumes nothing.
use Prim.Native.Nat.{ℕ, suc, ◌+◌, ◌*◌, ◌≤◌}
use native.Mathlib.Omega.{arith}
use mathlib.Core.Path.{◌≡◌, refl, sym, ap, ◌∙◌}
use mathlib.Core.Logic.{◌≢◌, ◌⊎◌, inl, inr, ⊎_elim}
use mathlib.Core.Bool.{true, false}
use mathlib.Core.List.{List, [], ◌∷◌, ◌++◌, map}
use mathlib.Core.Option.{Option, none, some}
use borrow.Author.Tests.{eqb-false, eq-eqb, ne_eqb}
use lib.Dec.{eqb}
use Rattle.page.specs.Page.{key_of}
use Rattle.tidy.proofs.Model.{Entry, Ascends, pointers, full, marks, trail, beneath, lowest, skips, State, Tree, level, entry_key, All}
use Rattle.tidy.proofs.Trail.{eq?, back, pointers-append, hit, miss, full≤, nothing, page-ascends}

-- ---- entries in a list

-- the entry e is in the list
pub data Mem (e : Entry) : List Entry → Type 0 where
  here : {es : List Entry} → Mem e (e ∷ es)
  there : {f : Entry} {es : List Entry} → Mem e es → Mem e (f ∷ es)

-- in the middle
pub mem-mid : (xs : List Entry) (e : Entry) (ys : List Entry) → Mem e (xs ++ e ∷ ys)
mem-mid [] e ys = here
mem-mid (x ∷ xs) e ys = there (mem-mid xs e ys)

-- in the first of two lists
mem-left : (e : Entry) (xs ys : List Entry) → Mem e xs → Mem e (xs ++ ys)
mem-left e [] ys m = elim m [ ]
mem-left e (x ∷ xs) ys here = here
mem-left e (x ∷ xs) ys (there m) = there (mem-left e xs ys m)

-- in the second
mem-right : (e : Entry) (xs ys : List Entry) → Mem e ys → Mem e (xs ++ ys)
mem-right e [] ys m = m
mem-right e (x ∷ xs) ys m = there (mem-right e xs ys m)

-- a list with an entry is full
mem-full : {e : Entry} {es : List Entry} → Mem e es → 1 ≤ full es
mem-full here = omega arith
mem-full (there m) = omega arith

-- it is the first or a later one
mem-cons : {e f : Entry} {es : List Entry} → Mem e (f ∷ es) → (e ≡ f) ⊎ Mem e es
mem-cons here = inl refl
mem-cons (there m) = inr m

-- the list in front and behind
pub mem-split : {e : Entry} {es : List Entry} → Mem e es → (xs ys : List Entry) × (es ≡ xs ++ e ∷ ys)
mem-split {e} (here {es = es}) = ([], es, refl)
mem-split {e} (there {f = f} m) = let (xs, ys, p) = mem-split m in (f ∷ xs, ys, ap (λ (l : List Entry). f ∷ l) p)

-- an entry of a base page is one of all entries
mem-all : (base : ℕ → List Entry) (e : Entry) (p : ℕ) (root : List Entry) → 1 ≤ pointers p root → Mem e (base p) → Mem e (beneath base root)
mem-all base e p [] h m = absurd (omega arith)
mem-all base e p (r ∷ rs) h m =
    ⊎_elim
    (λ (k : r.page ≡ p). mem-left e (base r.page) (beneath base rs) (rw k m))
    (λ (d : r.page ≢ p). mem-right e (base r.page) (beneath base rs) (mem-all base e p rs (omega (arith, rw (ne_eqb r.page p d) at h)) m))
    (eq? r.page p)

-- ---- a property of each entry

-- where no pointer is counted, none points there
pub none-points : (a : ℕ) (es : List Entry) → pointers a es ≡ 0 → All (λ e. e.page ≢ a) es
none-points a [] h = tt
none-points a (e ∷ es) h = (eqb-false e.page a (miss (eqb e.page a) _ h), none-points a es (omega arith))

-- a weaker property
pub all_map : (P Q : Entry → Type 0) (es : List Entry) → ((e : Entry) → P e → Q e) → All P es → All Q es
all_map P Q [] f a = tt
all_map P Q (e ∷ es) f a = (f e a.0, all_map P Q es f a.1)

-- of two lists
pub all_join : (P : Entry → Type 0) (xs ys : List Entry) → All P xs → All P ys → All P (xs ++ ys)
all_join P [] ys a b = b
all_join P (x ∷ xs) ys a b = (a.0, all_join P xs ys a.1 b)

-- of the first of two lists
pub all-front : (P : Entry → Type 0) (xs ys : List Entry) → All P (xs ++ ys) → All P xs
all-front P [] ys a = tt
all-front P (x ∷ xs) ys a = (a.0, all-front P xs ys a.1)

-- of the second
pub all_back : (P : Entry → Type 0) (xs ys : List Entry) → All P (xs ++ ys) → All P ys
all_back P [] ys a = a
all_back P (x ∷ xs) ys a = all_back P xs ys a.1

-- two properties
pub all-zip : (P Q : Entry → Type 0) (es : List Entry) → All P es → All Q es → All (λ e. P e × Q e) es
all-zip P Q [] a b = tt
all-zip P Q (e ∷ es) a b = ((a.0, b.0), all-zip P Q es a.1 b.1)

-- ---- the entries of a base page are among all entries; those of two base pages are apart

module _ (base : ℕ → List Entry) (c : ℕ) where
  -- pointers from one base page
  pub part_of : (root : List Entry) (i : ℕ) → 1 ≤ pointers i root → pointers c (base i) ≤ pointers c (beneath base root)
  part_of [] i h = absurd (omega arith)
  part_of (e ∷ es) i h =
      let s = pointers-append c (base e.page) (beneath base es) in
      ⊎_elim
      (λ (k : e.page ≡ i). omega (arith, s, ap (λ (j : ℕ). pointers c (base j)) k))
      (λ (d : e.page ≢ i). omega (arith, s, part_of es i (omega (arith, rw (ne_eqb e.page i d) at h))))
      (eq? e.page i)

  -- pointers from two base pages
  apart : (root : List Entry) (i j : ℕ) → i ≢ j → 1 ≤ pointers i root → 1 ≤ pointers j root
      → pointers c (base i) + pointers c (base j) ≤ pointers c (beneath base root)
  apart [] i j n h g = absurd (omega arith)
  apart (e ∷ es) i j n h g =
      let s = pointers-append c (base e.page) (beneath base es) in
      ⊎_elim
      (λ (k : e.page ≡ i). omega
      (arith, s, ap (λ (m : ℕ). pointers c (base m)) k, part_of es j (omega (arith, rw (ne_eqb e.page j (λ m. n (sym k ∙ m))) at g))))
      (λ (d : e.page ≢ i). ⊎_elim
      (λ (k : e.page ≡ j). omega (arith, s, ap (λ (m : ℕ). pointers c (base m)) k, part_of es i (omega (arith, rw (ne_eqb e.page i d) at h))))
      (λ (f : e.page ≢ j). omega
      (arith, s, apart es i j n (omega (arith, rw (ne_eqb e.page i d) at h)) (omega (arith, rw (ne_eqb e.page j f) at g))))
      (eq? e.page j))
      (eq? e.page i)

-- ---- keys do not repeat

module _ (leaf : ℕ → List (List ℕ)) where
  -- the trail behind an entry
  rest : (lo : ℕ) (f : Entry) (es : List Entry) → Ascends lo (trail key_of leaf (f ∷ es)) → Ascends (suc (2 * f.key)) (trail key_of leaf es)
  rest lo f es a = back (suc (2 * f.key)) (marks key_of (leaf f.page)) (trail key_of leaf es) a.1

  -- no key is below the least
  above : (lo : ℕ) (es : List Entry) → Ascends lo (trail key_of leaf es) → (e : Entry) → Mem e es → lo ≤ 2 * e.key
  above lo [] a e m = elim m [ ]
  above lo (f ∷ es) a e here = a.0
  above lo (f ∷ es) a e (there m) = omega (arith, a.0, above (suc (2 * f.key)) es (rest lo f es a) e m)

  -- two entries with the same key are the same
  key-once : (lo : ℕ) (es : List Entry) → Ascends lo (trail key_of leaf es) → (e f : Entry) → Mem e es → Mem f es → e.key ≡ f.key → e ≡ f
  key-once lo [] a e f m n k = absurd (omega (arith, mem-full m))
  key-once lo (g ∷ es) a e f m n k =
      ⊎_elim
      (λ (p : e ≡ g). ⊎_elim
      (λ (q : f ≡ g). p ∙ sym q)
      (λ (n : Mem f es). absurd (omega (arith, above (suc (2 * g.key)) es (rest lo g es a) f n, ap entry_key p)))
      (mem-cons n))
      (λ (m : Mem e es). ⊎_elim
      (λ (q : f ≡ g). absurd (omega (arith, above (suc (2 * g.key)) es (rest lo g es a) e m, ap entry_key q)))
      (λ (n : Mem f es). key-once (suc (2 * g.key)) es (rest lo g es a) e f m n k)
      (mem-cons n))
      (mem-cons m)

-- the LM finds the entry where every earlier one that points alike is skipped
pub found : (skip : Option ℕ) (xs : List Entry) (x : Entry) (ys : List Entry) → All (λ e. e.page ≡ x.page → skips skip e.key ≡ true) xs
    → skips skip x.key ≡ false → lowest skip x.page (xs ++ x ∷ ys) ≡ some x.key
found skip [] x ys a h = rw (eq-eqb x.page x.page refl, h)
found skip (e ∷ xs) x ys a h =
    ⊎_elim
    (λ (k : e.page ≡ x.page). rw (eq-eqb e.page x.page k, a.0 k) (found skip xs x ys a.1 h))
    (λ (d : e.page ≢ x.page). rw (ne_eqb e.page x.page d) (found skip xs x ys a.1 h))
    (eq? e.page x.page)

-- where no earlier one points alike
pub found_first : (xs : List Entry) (x : Entry) (ys : List Entry) → pointers x.page xs ≡ 0 → lowest none x.page (xs ++ x ∷ ys) ≡ some x.key
found_first xs x ys h =
    found none xs x ys
    (all_map (λ e. e.page ≢ x.page) (λ e. e.page ≡ x.page → skips none e.key ≡ true) xs (λ e d k. absurd (d k)) (none-points x.page xs h))
    refl

-- ---- a tree with the entry x in its base page p

module _ (root : List Entry) (s : State) (t : Tree root s) (x : Entry) (p : ℕ) (xs ys : List Entry) (x-in : s.base p ≡ xs ++ x ∷ ys) where
  -- no page is pointed to twice
  at_most : (c : ℕ) → pointers c (level root s) ≤ 1
  at_most c = omega (arith, t.lower.pointed c, full≤ (s.leaf c))

  -- x points to its page
  in-x : pointers x.page (s.base p) ≡ pointers x.page xs + (1 + pointers x.page ys)
  in-x = ap (pointers x.page) x-in ∙ pointers-append x.page xs (x ∷ ys) ∙ omega (arith, hit x)

  -- the root points to p
  pub p-in : 1 ≤ pointers p root
  p-in =
      ⊎_elim
      (λ (e : pointers p root ≡ 0). absurd (omega (arith, in-x, ap (pointers x.page) (nothing (s.base p) (sym (t.upper.pointed p) ∙ e)))))
      (λ (d : pointers p root ≢ 0). omega arith)
      (eq? (pointers p root) 0)

  -- x's leaf holds something
  pub x-full : 1 ≤ full (s.leaf x.page)
  x-full = omega (arith, t.lower.pointed x.page, part_of s.base x.page root p p-in, in-x)

  -- no other entry points to x's page
  pub x-alone : (pointers x.page xs ≡ 0) × (pointers x.page ys ≡ 0)
  x-alone = (
    omega (arith, in-x, part_of s.base x.page root p p-in, at_most x.page),
    omega (arith, in-x, part_of s.base x.page root p p-in, at_most x.page),
  )

  -- nor does one in another base page
  pub only : (i : ℕ) → i ≢ p → All (λ e. e.page ≢ x.page) (s.base i)
  only i d =
      ⊎_elim
      (λ (e : pointers i root ≡ 0). rw (nothing (s.base i) (sym (t.upper.pointed i) ∙ e)) tt)
      (λ (k : pointers i root ≢ 0). none-points x.page (s.base i)
      (omega (arith, apart s.base x.page root i p d (omega arith) p-in, at_most x.page, in-x)))
      (eq? (pointers i root) 0)

  -- an entry to x's page has x's key
  pub once : (i : ℕ) → All (λ e. e.page ≡ x.page → e.key ≡ x.key) (s.base i)
  once i =
      ⊎_elim
      (λ (e : i ≡ p). rw (e, x-in)
      (all_join (λ e. e.page ≡ x.page → e.key ≡ x.key) xs (x ∷ ys) (apart_from xs x-alone.0) (λ k. refl, apart_from ys x-alone.1)))
      (λ (d : i ≢ p). all_map (λ e. e.page ≢ x.page) (λ e. e.page ≡ x.page → e.key ≡ x.key) (s.base i) (λ e h k. absurd (h k)) (only i d))
      (eq? i p)
    where
      apart_from : (es : List Entry) → pointers x.page es ≡ 0 → All (λ e. e.page ≡ x.page → e.key ≡ x.key) es
      apart_from es h =
          all_map (λ e. e.page ≢ x.page) (λ e. e.page ≡ x.page → e.key ≡ x.key) es (λ e h k. absurd (h k)) (none-points x.page es h)

  -- nothing points to an empty page
  pub never : (b : ℕ) → s.leaf b ≡ [] → (i : ℕ) → All (λ e. e.page ≢ b) (s.base i)
  never b h i =
      ⊎_elim
      (λ (e : pointers i root ≡ 0). rw (nothing (s.base i) (sym (t.upper.pointed i) ∙ e)) tt)
      (λ (k : pointers i root ≢ 0). none-points b (s.base i) (omega (arith, part_of s.base b root i (omega arith), t.lower.pointed b, ap full h)))
      (eq? (pointers i root) 0)

  -- x is one of all entries
  pub mem : Mem x (level root s)
  mem = mem-all s.base x p root p-in (rw x-in (mem-mid xs x ys))

  -- x's leaf has its records in order
  pub rises : Ascends 0 (map key_of (s.leaf x.page))
  rises = let (us, vs, e) = mem-split mem in page-ascends key_of s.leaf us x vs (rw e at t.lower)

  -- the LM finds x
  pub first_key : lowest none x.page (s.base p) ≡ some x.key
  first_key = rw x-in (found_first xs x ys x-alone.0)

-- entries of a tree with the same key are the same
pub same_key : (root : List Entry) (s : State) → Tree root s → (x y : Entry) → Mem x (level root s) → Mem y (level root s) → x.key ≡ y.key → x ≡ y
same_key root s t x y m n k = key-once s.leaf 0 (level root s) t.lower.ascends x y m n k
