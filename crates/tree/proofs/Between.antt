-- Keys between two numbers: a page's first and last key tell of all; a level of entries across pages is kept where each page is, with
-- the next page's first key behind its last entry. Assumes nothing.
use Prim.Native.Nat.{ℕ, zero, suc, ◌+◌, ◌-◌, ◌*◌, ◌≤◌, ◌<◌}
use native.Mathlib.Nat.{mul-suc, mul-le-mul_left, not-suc-le-zero}
use native.Mathlib.Omega.{arith}
use mathlib.Core.Path.{◌≡◌, refl, sym, ap₂, ◌∙◌}
use mathlib.Core.Bool.{Bool, true, false, not}
use mathlib.Core.List.{List, [], ◌∷◌, ◌++◌}
use lib.ListN.{length, take, drop, get_or, get_or-eq_default}
use lib.Dec.{eqb, ltb}
use borrow.Author.Tests.{eq-eqb, ne_eqb, eqb-true, le-leb, lt-leb, lt-ltb, le-ltb, not-true, not-false}
use Rattle.field.specs.Test.{both}
use Rattle.field.specs.Bytes.{Bytes, le2, le4}
use Rattle.field.proofs.Test.{both-1, both-2, both_true, both_false, both-assoc, both-intro}
use Rattle.field.proofs.Part.{split}
use Rattle.field.proofs.Number.{le4-small}
use Rattle.field.proofs.Byte.{bytes-nil}
use Rattle.page.specs.Page.{rows_of, key_of, to_page, count, rows}
use Rattle.page.specs.Pages.{page, pages}
use Rattle.page.specs.Each.{Each, nil, cons}
use Rattle.page.proofs.Rows.{key_row, each_at, length-rows}
use Rattle.page.proofs.Kept.{bytes-rows}
use Rattle.page.proofs.Turns.{rows_next}
use Rattle.page.proofs.Order.{key-less}
use Rattle.page.proofs.Pages.{lent-page}
use Rattle.tree.specs.Tree.{under, below, lower, keys_between, keys_kept, headed}
use Rattle.tree.specs.Walk.{Ascending, Spot, bound, keys_within, kept_to, level_to}
use Rattle.tree.proofs.Turn.{none_left, under-page, first-page}

-- a test that fails at its end
both-never : (a b : Bool) → both a (both b false) ≡ false
unfolding both
both-never true true = refl
both-never true false = refl
both-never false b = refl

both-last : (a b : Bool) → both a (both false b) ≡ false
unfolding both
both-last true b = refl
both-last false b = refl

-- ---- one page: its first and last key tell of all

module _ (lo hi : ℕ) where
  within_all : (rs : List (List ℕ)) → ((i : ℕ) → i < length rs → (lo ≤ key_of (get_or rs i [])) × (key_of (get_or rs i []) < hi)) → keys_within lo hi rs ≡ true
  unfolding keys_within
  within_all [] f = refl
  within_all (r ∷ rs) f =
      let h = f 0 (omega arith) in
      both-intro _ _ (le-leb lo (key_of r) h.0)
      (both-intro _ _ (lt-ltb (key_of r) hi h.1) (within_all rs (λ i k. f (suc i) (omega arith))))

  within_low : (i : ℕ) (rs : List (List ℕ)) → i < length rs → key_of (get_or rs i []) < lo → keys_within lo hi rs ≡ false
  unfolding keys_within
  within_low i [] h k = absurd (not-suc-le-zero h)
  within_low zero (r ∷ rs) h k = both_false _ _ (lt-leb lo (key_of r) k)
  within_low (suc i) (r ∷ rs) h k = rw (within_low i rs (omega arith) k) (both-never _ _)

  within-high : (i : ℕ) (rs : List (List ℕ)) → i < length rs → hi ≤ key_of (get_or rs i []) → keys_within lo hi rs ≡ false
  unfolding keys_within
  within-high i [] h k = absurd (not-suc-le-zero h)
  within-high zero (r ∷ rs) h k = rw (le-ltb (key_of r) hi k) (both-last _ _)
  within-high (suc i) (r ∷ rs) h k = rw (within-high i rs (omega arith) k) (both-never _ _)

-- n rows of sz bytes fit: so does row i
pub row_fits : (sz n i k : ℕ) → i < n → 16 + sz * n ≤ k → 16 + sz * i + sz ≤ k
row_fits sz n i k h f =
    let g : suc i ≤ n = omega arith in
    omega (arith, mul-le-mul_left sz g, mul-suc sz i)

module _ (lo hi sz : ℕ) (pg : List ℕ) (asc : Ascending (rows sz pg)) (full : 0 < count pg) (k : ℕ) (f : k ≡ key_of (get_or (rows sz pg) 0 [])) where
  no_less : (i j : ℕ) → i ≤ j → j < length (rows sz pg) → key_of (get_or (rows sz pg) i []) ≤ key_of (get_or (rows sz pg) j [])
  no_less i j h g =
      split i j
      (λ a. let x : key_of (get_or (rows sz pg) i []) < key_of (get_or (rows sz pg) j []) = key-less asc.one asc.two 0 i j (rows sz pg) asc.order a g in omega arith)
      (λ a. let z : i ≡ j = omega arith in rw z (omega arith))

  pub within-first! : k < lo → false ≡ keys_within lo hi (rows sz pg)
  within-first! h = sym (within_low lo hi 0 (rows sz pg) (omega (arith, length-rows sz pg)) (omega arith))

  pub within-last! : (m c : ℕ) → lo ≤ k → c ≡ count pg → m ≡ key_of (get_or (rows sz pg) (c - 1) []) → ltb m hi ≡ keys_within lo hi (rows sz pg)
  within-last! m c h ec em =
      let i : ℕ = c - 1 in
      let ei : i ≡ count pg - 1 = omega arith in
      let n : length (rows sz pg) ≡ count pg = length-rows sz pg in
      split m hi
      (λ a. lt-ltb m hi a
      ∙ sym
      (within_all lo hi (rows sz pg)
      (λ j g. (
        let lowest : key_of (get_or (rows sz pg) 0 []) ≤ key_of (get_or (rows sz pg) j []) = no_less 0 j (omega arith) g in omega arith,
        let highest : key_of (get_or (rows sz pg) j []) ≤ key_of (get_or (rows sz pg) i []) = no_less j i (omega arith) (omega arith) in omega arith,
      ))))
      (λ a. le-ltb m hi a ∙ sym (within-high lo hi i (rows sz pg) (omega arith) (omega arith)))

-- ---- the upper end for an entry

pub bound-none! : (hi n at : ℕ) (l : List ℕ) → n ≡ 0 → hi ≡ bound hi (rows_of 8 n (drop at l))
bound-none! hi n at l h = sym (rw (none_left 8 n (drop at l) (omega arith)) (unfold bound in refl))

pub bound-next! : (hi n at : ℕ) (l : List ℕ) (k : ℕ) → k ≡ le4 l (at + 2) → (n ≡ 0 → ⊥) → k ≡ bound hi (rows_of 8 n (drop at l))
bound-next! hi n at l k f h =
    let more : 0 < n = split 0 n (λ a. a) (λ a. absurd (h (omega arith))) in
    sym (rw (rows_next 8 n at l more) (unfold bound in key_row 8 at l (omega arith)) ∙ sym f)

-- ---- a page of entries, one after the other

module _ (sz : ℕ) (w : List ℕ) (hi n at : ℕ) (l : List ℕ) (n₀ : ℕ) (e : kept_to sz (pages w) hi (rows_of 8 n₀ (drop 16 l)) ≡ kept_to sz (pages w) hi (rows_of 8 n (drop at l))) where
  pub kept-end! : n ≤ 0 → true ≡ kept_to sz (pages w) hi (rows_of 8 n₀ (drop 16 l))
  kept-end! h = sym (e ∙ rw (none_left 8 n (drop at l) h) (unfold kept_to in refl))

  module _ (more : 0 < n) (q : ℕ) (f : q ≡ le2 l (at + 6)) (small : q < 64) (lo end : ℕ) (g : lo ≡ le4 l (at + 2))
      (u : end ≡ bound hi (rows_of 8 (n - 1) (drop (at + 8) l))) (z : Bool)
      (v : z ≡ keys_within lo end (rows sz (take (256 * q + 256 - 256 * q) (drop (256 * q) w)))) where
    turn : kept_to sz (pages w) hi (rows_of 8 n₀ (drop 16 l)) ≡ both z (kept_to sz (pages w) hi (rows_of 8 (n - 1) (drop (at + 8) l)))
    unfolding kept_to
    turn = e ∙ rw (rows_next 8 n at l more, under-page w n at l q f small, key_row 8 at l (omega arith), ← g, ← u, ← lent-page q w, ← v)

    pub kept-stop : not z ≡ true → false ≡ kept_to sz (pages w) hi (rows_of 8 n₀ (drop 16 l))
    kept-stop h = sym (turn ∙ both_false _ _ (not-true z h))

    pub kept_more : not z ≡ false → kept_to sz (pages w) hi (rows_of 8 n₀ (drop 16 l)) ≡ kept_to sz (pages w) hi (rows_of 8 (n - 1) (drop (at + 8) l))
    kept_more h = turn ∙ both_true _ _ (not-false z h)

-- ---- the base pages below the root's entries, one after the other

module _ (w : List ℕ) (hi n at : ℕ) (l : List ℕ) (n₀ : ℕ) (e : level_to (pages w) hi (rows_of 8 n₀ (drop 16 l)) ≡ level_to (pages w) hi (rows_of 8 n (drop at l))) where
  pub level-end! : n ≤ 0 → true ≡ level_to (pages w) hi (rows_of 8 n₀ (drop 16 l))
  level-end! h = sym (e ∙ rw (none_left 8 n (drop at l) h) (unfold level_to in refl))

  module _ (more : 0 < n) (q : ℕ) (f : q ≡ le2 l (at + 6)) (small : q < 64) (m end : ℕ) (g : m ≡ count (page q w))
      (u : end ≡ bound hi (rows_of 8 (n - 1) (drop (at + 8) l))) (z : Bool)
      (v : z ≡ kept_to 16 (pages w) end (rows_of 8 m (drop 16 (take (256 * q + 256 - 256 * q) (drop (256 * q) w))))) where
    onward : level_to (pages w) hi (rows_of 8 n₀ (drop 16 l)) ≡ both z (level_to (pages w) hi (rows_of 8 (n - 1) (drop (at + 8) l)))
    unfolding level_to rows
    onward = e ∙ rw (rows_next 8 n at l more, under-page w n at l q f small, ← u, ← g, ← lent-page q w, ← v)

    pub level-stop : not z ≡ true → false ≡ level_to (pages w) hi (rows_of 8 n₀ (drop 16 l))
    level-stop h = sym (onward ∙ both_false _ _ (not-true z h))

    pub level-more : not z ≡ false → level_to (pages w) hi (rows_of 8 n₀ (drop 16 l)) ≡ level_to (pages w) hi (rows_of 8 (n - 1) (drop (at + 8) l))
    level-more h = onward ∙ both_true _ _ (not-false z h)

-- ---- the first key of each base page is its entry's

module _ (w : List ℕ) (n at : ℕ) (l : List ℕ) (n₀ : ℕ) (e : headed (pages w) (rows_of 8 n₀ (drop 16 l)) ≡ headed (pages w) (rows_of 8 n (drop at l))) where
  pub head-end! : n ≤ 0 → true ≡ headed (pages w) (rows_of 8 n₀ (drop 16 l))
  head-end! h = sym (e ∙ rw (none_left 8 n (drop at l) h) (unfold headed in refl))

  module _ (more : 0 < n) (q : ℕ) (f : q ≡ le2 l (at + 6)) (s : Spot 8 w q) (a b : ℕ) (g : a ≡ le4 w (256 * q + 18)) (h : b ≡ le4 l (at + 2)) where
    compared : headed (pages w) (rows_of 8 n₀ (drop 16 l)) ≡ both (eqb a b) (headed (pages w) (rows_of 8 (n - 1) (drop (at + 8) l)))
    unfolding headed
    compared =
        e ∙ rw (rows_next 8 n at l more, under-page w n at l q f s.inside, key_row 8 at l (omega arith), ← first-page 8 q w (omega arith) s.full, ← g, ← h)

    pub head-stop : (a ≡ b → ⊥) → false ≡ headed (pages w) (rows_of 8 n₀ (drop 16 l))
    head-stop k = sym (compared ∙ both_false _ _ (ne_eqb a b k))

    pub head_more : a ≡ b → headed (pages w) (rows_of 8 n₀ (drop 16 l)) ≡ headed (pages w) (rows_of 8 (n - 1) (drop (at + 8) l))
    head_more k = compared ∙ both_true _ _ (eq-eqb a b k)

-- ---- the definitions by these bounds

-- keys of byte pages are below the top
abbrev pub top : ℕ
top = 4294967296

pub key-small : (r : List ℕ) → Bytes r → key_of r < top
unfolding key_of
key-small r b = le4-small r 2 b

lower-bound : (k : ℕ) (next : List (List ℕ)) → k < top → lower k next ≡ ltb k (bound top next)
unfolding lower bound
lower-bound k [] h = sym (lt-ltb k top h)
lower-bound k (e ∷ es) h = refl

between-within : (lo : ℕ) (next rs : List (List ℕ)) → Each Bytes rs → keys_between lo next rs ≡ keys_within lo (bound top next) rs
unfolding keys_between keys_within
between-within lo next [] nil = refl
between-within lo next (r ∷ rs) (cons b p) = rw (lower-bound (key_of r) next (key-small r b), between-within lo next rs p)

bytes-under : (ps : List (List ℕ)) (e : List ℕ) → Each Bytes ps → Bytes (under ps e)
unfolding under
bytes-under ps e p =
    split (to_page e) (length ps)
    (λ h. each_at (to_page e) p h)
    (λ h. rw (get_or-eq_default ps [] h) bytes-nil)

pub kept-to : (sz : ℕ) (ps es : List (List ℕ)) → Each Bytes ps → keys_kept sz ps es ≡ kept_to sz ps top es
unfolding keys_kept kept_to
kept-to sz ps [] p = refl
kept-to sz ps (e ∷ es) p =
    ap₂ both (between-within (key_of e) es (rows sz (under ps e)) (bytes-rows sz (under ps e) (bytes-under ps e p))) (kept-to sz ps es p)

bound-append : (hi : ℕ) (xs ys : List (List ℕ)) → bound hi (xs ++ ys) ≡ bound (bound hi ys) xs
unfolding bound
bound-append hi [] ys = refl
bound-append hi (e ∷ es) ys = refl

pub kept_append : (sz : ℕ) (ps : List (List ℕ)) (hi : ℕ) (xs ys : List (List ℕ)) → kept_to sz ps hi (xs ++ ys) ≡ both (kept_to sz ps (bound hi ys) xs) (kept_to sz ps hi ys)
unfolding kept_to
kept_append sz ps hi [] ys = sym (both_true _ _ refl)
kept_append sz ps hi (e ∷ es) ys = rw (kept_append sz ps hi es ys, bound-append hi es ys) (sym (both-assoc _ _ _))

bound-first : (hi : ℕ) (xs ys : List (List ℕ)) → 0 < length xs → bound hi (xs ++ ys) ≡ key_of (get_or xs 0 [])
unfolding bound
bound-first hi [] ys h = absurd (not-suc-le-zero h)
bound-first hi (e ∷ es) ys h = refl

-- the entry next to a base page's last is the first of the next base page, whose key is the next root entry's
bound-below : (hi : ℕ) (ps es : List (List ℕ)) → headed ps es ≡ true → Each (λ e. 0 < count (under ps e)) es → bound hi (below 8 ps es) ≡ bound hi es
unfolding bound below headed
bound-below hi ps [] t nil = refl
bound-below hi ps (e ∷ es) t (cons h p) =
    bound-first hi (rows 8 (under ps e)) (below 8 ps es) (omega (arith, length-rows 8 (under ps e))) ∙ eqb-true _ _ (both-1 _ _ t)

pub level-to : (hi : ℕ) (ps es : List (List ℕ)) → headed ps es ≡ true → Each (λ e. 0 < count (under ps e)) es → kept_to 16 ps hi (below 8 ps es) ≡ level_to ps hi es
unfolding below level_to headed
level-to hi ps [] t nil = unfold kept_to in refl
level-to hi ps (e ∷ es) t (cons h p) =
    let t1 : headed ps es ≡ true = both-2 _ _ t in
    kept_append 16 ps hi (rows 8 (under ps e)) (below 8 ps es)
    ∙ rw (bound-below hi ps es t1 p, level-to hi ps es t1 p)
