-- The entry that an LM takes, found by a walk over the entries; the laws that end in `!` are for `search`. Assumes nothing.
use Prim.Native.Nat.{ℕ, suc, ◌+◌, ◌-◌, ◌≤◌, ◌<◌}
use native.Mathlib.Nat.{add-zero, not-suc-le-zero}
use native.Mathlib.Omega.{arith}
use mathlib.Core.Path.{◌≡◌, refl, sym, ap, ◌∙◌}
use mathlib.Core.Bool.{Bool, true, false, not, false≢true}
use mathlib.Core.List.{List, [], ◌∷◌}
use mathlib.Core.Option.{Option, some}
use lib.ListN.{length, drop, get_or}
use lib.Dec.{eqb}
use borrow.Author.Tests.{eq-eqb, ne_eqb, not-true, not-false}
use Rattle.field.specs.Test.{both, pick, when}
use Rattle.field.specs.Bytes.{le2, le4}
use Rattle.field.proofs.Test.{both_true, both_false, pick_true, pick-false}
use Rattle.page.specs.Page.{rows_of, key_of, to_page}
use Rattle.page.specs.Change.{is_entry, has}
use Rattle.page.proofs.Rows.{key_row, page-row}
use Rattle.page.proofs.Turns.{rows_next}
use Rattle.page.proofs.Order.{entry-facts}
use Rattle.tree.proofs.Regions.{decide}
use Rattle.tree.proofs.Turn.{none_left}
use Rattle.unit.specs.Next.{is_other, lowest_to}
use Rattle.unit.specs.Made.{key_in, place_of}
use Rattle.unit.specs.declared.entry.Lowest.TheVariants.{Nothing, Key}

-- ---- may an entry be taken

module _ (q k p : ℕ) (skip : Bool) (s : ℕ) where
  pub take-other! : (q ≡ p → ⊥) → false ≡ both (eqb q p) (is_other (when skip s) k)
  take-other! h = sym (both_false _ _ (ne_eqb q p h))

  pub take-any! : not skip ≡ true → q ≡ p → true ≡ both (eqb q p) (is_other (when skip s) k)
  unfolding is_other when both
  take-any! g h = rw (not-true skip g, eq-eqb q p h)

  pub take-but! : not skip ≡ false → q ≡ p → not (eqb k s) ≡ both (eqb q p) (is_other (when skip s) k)
  unfolding is_other when both
  take-but! g h = rw (not-false skip g, eq-eqb q p h)

-- ---- the lowest entry

module _ (s : Option ℕ) (p n₀ at₀ n at : ℕ) (l : List ℕ) (e : lowest_to s p (rows_of 8 n₀ (drop at₀ l)) ≡ lowest_to s p (rows_of 8 n (drop at l))) where
  pub lowest-end! : n ≤ 0 → key_in Nothing ≡ lowest_to s p (rows_of 8 n₀ (drop at₀ l))
  unfolding key_in lowest_to
  lowest-end! h = sym (e ∙ rw (none_left 8 n (drop at l) h))

  module _ (q k : ℕ) (z : Bool) (g : z ≡ both (eqb q p) (is_other s k)) (f : q ≡ le2 l (at + 6)) (h : k ≡ le4 l (at + 2)) (more : 0 < n) where
    turn : lowest_to s p (rows_of 8 n₀ (drop at₀ l)) ≡ pick z (some k) (lowest_to s p (rows_of 8 (n - 1) (drop (at + 8) l)))
    unfolding lowest_to
    turn = e ∙ rw (rows_next 8 n at l more, page-row 8 at l (omega arith), key_row 8 at l (omega arith), g, f, h)

    pub lowest-stop! : z ≡ true → key_in (Key k) ≡ lowest_to s p (rows_of 8 n₀ (drop at₀ l))
    unfolding key_in
    lowest-stop! t = sym (turn ∙ pick_true z _ _ t)

    pub lowest-more! : z ≡ false → lowest_to s p (rows_of 8 n₀ (drop at₀ l)) ≡ lowest_to s p (rows_of 8 (n - 1) (drop (at + 8) l))
    lowest-more! t = turn ∙ pick-false z _ _ t

-- ---- the entry with a key and a page

pub entry-no! : (q k key p : ℕ) → (k ≡ key → ⊥) → false ≡ both (eqb k key) (eqb q p)
entry-no! q k key p h = sym (both_false _ _ (ne_eqb k key h))

pub entry-page! : (q k key p : ℕ) → k ≡ key → eqb q p ≡ both (eqb k key) (eqb q p)
entry-page! q k key p h = sym (both_true _ _ (eq-eqb k key h))

module _ (key p n left at : ℕ) (l : List ℕ) (e : place_of key p (rows_of 8 n (drop 16 l)) ≡ n - left + place_of key p (rows_of 8 left (drop at l))) where
  pub place-end! : left ≤ 0 → n ≡ place_of key p (rows_of 8 n (drop 16 l))
  unfolding place_of
  place-end! h =
      let z : n - left + 0 ≡ n = omega arith in
      sym (e ∙ rw (none_left 8 left (drop at l) h) z)

  module _ (q k : ℕ) (z : Bool) (g : z ≡ both (eqb k key) (eqb q p)) (f : q ≡ le2 l (at + 6)) (h : k ≡ le4 l (at + 2)) (more : 0 < left) where
    look : place_of key p (rows_of 8 n (drop 16 l)) ≡ n - left + pick z 0 (suc (place_of key p (rows_of 8 (left - 1) (drop (at + 8) l))))
    unfolding place_of is_entry
    look = e ∙ rw (rows_next 8 left at l more, page-row 8 at l (omega arith), key_row 8 at l (omega arith), g, f, h)

    pub place-stop! : z ≡ true → n - left ≡ place_of key p (rows_of 8 n (drop 16 l))
    unfolding pick
    place-stop! t = sym (look ∙ rw t (add-zero (n - left)))

    pub place-more! : z ≡ false → left ≤ n → place_of key p (rows_of 8 n (drop 16 l)) ≡ n - (left - 1) + place_of key p (rows_of 8 (left - 1) (drop (at + 8) l))
    unfolding pick
    place-more! t fits = look ∙ rw t (omega arith)

-- ---- what the place says

pub place-facts : (key p : ℕ) (es : List (List ℕ)) → place_of key p es < length es → (key_of (get_or es (place_of key p es) []) ≡ key) × (to_page (get_or es (place_of key p es) []) ≡ p)
unfolding place_of
place-facts key p [] h = absurd (not-suc-le-zero h)
place-facts key p (e ∷ es) h =
    decide (is_entry key p e)
    (λ t. let z : pick (is_entry key p e) 0 (suc (place_of key p es)) ≡ 0 = pick_true (is_entry key p e) 0 _ t in rw z (entry-facts key p e t))
    (λ t. let z : pick (is_entry key p e) 0 (suc (place_of key p es)) ≡ suc (place_of key p es) = pick-false (is_entry key p e) 0 _ t in
    rw z (place-facts key p es (omega arith)))

pub place_none : (key p : ℕ) (es : List (List ℕ)) → place_of key p es ≡ length es → has key p es ≡ false
unfolding place_of has
place_none key p [] e = refl
place_none key p (x ∷ es) e =
    decide (is_entry key p x)
    (λ t. absurd (let z : pick (is_entry key p x) 0 (suc (place_of key p es)) ≡ 0 = pick_true (is_entry key p x) 0 _ t in let y : ⊥ = omega arith in y))
    (λ t. let z : pick (is_entry key p x) 0 (suc (place_of key p es)) ≡ suc (place_of key p es) = pick-false (is_entry key p x) 0 _ t in
    pick-false (is_entry key p x) true (has key p es) t ∙ place_none key p es (omega arith))

pub place-has : (key p : ℕ) (es : List (List ℕ)) → (place_of key p es ≡ length es → ⊥) → has key p es ≡ true
unfolding place_of has
place-has key p [] h = absurd (h refl)
place-has key p (x ∷ es) h =
    decide (is_entry key p x)
    (λ t. pick_true (is_entry key p x) true (has key p es) t)
    (λ t. let z : pick (is_entry key p x) 0 (suc (place_of key p es)) ≡ suc (place_of key p es) = pick-false (is_entry key p x) 0 _ t in
    pick-false (is_entry key p x) true (has key p es) t ∙ place-has key p es (λ q. h (z ∙ ap suc q)))

pub place_inside : (key p : ℕ) (es : List (List ℕ)) → has key p es ≡ true → place_of key p es < length es
unfolding place_of has
place_inside key p [] h = absurd (false≢true h)
place_inside key p (x ∷ es) h =
    decide (is_entry key p x)
    (λ t. let z : pick (is_entry key p x) 0 (suc (place_of key p es)) ≡ 0 = pick_true (is_entry key p x) 0 _ t in omega arith)
    (λ t. let z : pick (is_entry key p x) 0 (suc (place_of key p es)) ≡ suc (place_of key p es) = pick-false (is_entry key p x) 0 _ t in
    omega (arith, place_inside key p es (sym (pick-false (is_entry key p x) true (has key p es) t) ∙ h)))
