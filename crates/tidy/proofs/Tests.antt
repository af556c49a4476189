-- The tests of a well-formed tree taken apart: entries that point into a region, pages that hold something, pages that are pointed to once,
-- first keys. Assumes nothing.
use Prim.Native.Nat.{ℕ, zero, suc, ◌+◌, ◌≤◌, ◌<◌}
use native.Mathlib.Omega.{arith}
use native.Mathlib.Nat.{add-zero}
use mathlib.Core.Path.{◌≡◌, refl, sym, ap, ◌∙◌}
use mathlib.Core.Logic.{◌≢◌, ◌⊎◌, ⊎_elim}
use mathlib.Core.Bool.{Bool, true, false}
use mathlib.Core.List.{List, [], ◌∷◌, ◌++◌}
use borrow.Author.Tests.{eqb-true, eq-eqb, ne_eqb, leb-true}
use lib.ListN.{length, get_or}
use Rattle.field.specs.Test.{pick}
use Rattle.field.specs.Bytes.{le4}
use Rattle.field.proofs.Test.{both-1, both-2, both-intro, pick_true, pick-false}
use Rattle.page.specs.Page.{empty, key_of, to_page, count, rows, pointing, is_empty}
use Rattle.page.proofs.Made.{shaped-facts}
use Rattle.page.proofs.Rows.{length-rows}
use Rattle.tree.specs.Tree.{pointed_once, starts_at_zero}
use Rattle.tree.specs.Tree as T
use Rattle.tidy.proofs.Model.{pointers, full, first}
use Rattle.tidy.proofs.Entries.{ents}
use Rattle.tidy.proofs.Pages.{rows_empty}

-- ---- entries that point into a region

-- what the test says of the first entry, and of the others
pub record Into (from to : ℕ) (e : List ℕ) (es : List (List ℕ)) : Type 0 where
  pub low : from ≤ to_page e
  pub high : to_page e ≤ to
  pub rest : pointing from to es ≡ true

-- the test taken apart
pub into : (from to : ℕ) (e : List ℕ) (es : List (List ℕ)) → pointing from to (e ∷ es) ≡ true → Into from to e es
unfolding pointing
into from to e es h =
    let h1 = both-2 _ _ h in
    record { low = leb-true from (to_page e) (both-1 _ _ h); high = leb-true (to_page e) to (both-1 _ _ h1); rest = both-2 _ _ h1 }

-- entries of two lists
pub pointing-append : (from to : ℕ) (a b : List (List ℕ)) → pointing from to a ≡ true → pointing from to b ≡ true → pointing from to (a ++ b) ≡ true
unfolding pointing
pointing-append from to [] b h k = k
pointing-append from to (e ∷ a) b h k =
    let h1 = both-2 _ _ h in
    both-intro _ _ (both-1 _ _ h) (both-intro _ _ (both-1 _ _ h1) (pointing-append from to a b (both-2 _ _ h1) k))

-- no page outside the region is pointed to
pub outside : (from to p : ℕ) (es : List (List ℕ)) → pointing from to es ≡ true → (p < from) ⊎ (to < p) → pointers p (ents es) ≡ 0
outside from to p [] h s = refl
outside from to p (e ∷ es) h s =
    let i : Into from to e es = into from to e es h in
    let ne : to_page e ≢ p = λ q. ⊎_elim (λ (k : p < from). omega (arith, i.low)) (λ (k : to < p). omega (arith, i.high)) s in
    rw (ne_eqb (to_page e) p ne) (omega (arith, outside from to p es i.rest s))

-- ---- pages that hold something

-- a page with rows is not empty
never_both : (pg : List ℕ) → 1 ≤ count pg → is_empty pg ≡ false
unfolding is_empty
never_both pg h = by-test (is_empty pg) refl
  where
    by-test : (t : Bool) → is_empty pg ≡ t → t ≡ false
    by-test true e = absurd (omega (arith, (shaped-facts empty pg e).room))
    by-test false e = refl

-- a list that has something is full
pub full-length : {A : Type 0} (xs : List A) → 1 ≤ length xs → full xs ≡ 1
full-length [] h = absurd (omega arith)
full-length (x ∷ xs) h = refl

-- rows and pairs are full alike
pub full-ents : (es : List (List ℕ)) → full (ents es) ≡ full es
full-ents [] = refl
full-ents (e ∷ es) = refl

-- rows of a page that is empty, or has some
pub full-rows : (sz : ℕ) (pg : List ℕ) → (is_empty pg ≡ true) ⊎ (1 ≤ length (rows sz pg)) → full (rows sz pg) ≡ pick (is_empty pg) 0 1
full-rows sz pg s =
    ⊎_elim
    (λ (e : is_empty pg ≡ true). ap full (rows_empty sz pg e) ∙ sym (pick_true (is_empty pg) 0 1 e))
    (λ (h : 1 ≤ length (rows sz pg)). full-length (rows sz pg) h
    ∙ sym (pick-false (is_empty pg) 0 1 (never_both pg (omega (arith, length-rows sz pg)))))
    s

-- ---- "every non-empty page is pointed to exactly once, an empty page never", page by page

-- what the test says of page i of those given
pub once-at : (es : List (List ℕ)) (p i : ℕ) (pgs : List (List ℕ)) → pointed_once es p pgs ≡ true → i < length pgs
    → T.pointers (p + i) es ≡ pick (is_empty (get_or pgs i [])) 0 1
unfolding pointed_once
once-at es p i [] e h = absurd (omega arith)
once-at es p zero (pg ∷ pgs) e h = rw (add-zero p) (eqb-true _ _ (both-1 _ _ e))
once-at es p (suc i) (pg ∷ pgs) e h =
    let q : p + suc i ≡ p + 1 + i = omega arith in
    rw q (once-at es (p + 1) i pgs (both-2 _ _ e) (omega arith))

-- and back
pub once-all : (es : List (List ℕ)) (p : ℕ) (pgs : List (List ℕ)) → ((i : ℕ) → i < length pgs → T.pointers (p + i) es ≡ pick (is_empty (get_or pgs i [])) 0 1)
    → pointed_once es p pgs ≡ true
unfolding pointed_once
once-all es p [] f = refl
once-all es p (pg ∷ pgs) f =
    both-intro _ _ (eq-eqb _ _ (rw (add-zero p) at (f 0 (omega arith))))
    (once-all es (p + 1) pgs
    (λ i h. let q : p + 1 + i ≡ p + suc i = omega arith in
    rw q (f (suc i) (omega arith))))

-- ---- the first keys

-- the key of the first entry
pub first-ents : (es : List (List ℕ)) → first (ents es) ≡ key_of (get_or es 0 [])
unfolding key_of le4
first-ents [] = refl
first-ents (e ∷ es) = refl

-- "the first root entry has key 0"
pub zero-to : (es : List (List ℕ)) → starts_at_zero es ≡ true → first (ents es) ≡ 0
unfolding starts_at_zero
zero-to [] e = refl
zero-to (r ∷ es) e = eqb-true (key_of r) 0 e

-- and back
pub zero_of : (es : List (List ℕ)) → first (ents es) ≡ 0 → starts_at_zero es ≡ true
unfolding starts_at_zero
zero_of [] e = refl
zero_of (r ∷ es) e = eq-eqb (key_of r) 0 e
