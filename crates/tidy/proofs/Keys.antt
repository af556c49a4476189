-- "each key below an entry is at least that entry's key and less than the next one's": the test `keys_kept` holds just where the trail of keys
-- ascends, once over the row size. Assumes nothing.
use Prim.Native.Nat.{ℕ, suc, ◌+◌, ◌*◌, ◌≤◌}
use native.Mathlib.Omega.{arith}
use mathlib.Core.Path.{◌≡◌, refl}
use mathlib.Core.Bool.{true}
use mathlib.Core.List.{List, [], ◌∷◌, ◌++◌, map}
use borrow.Author.Tests.{leb-true, ltb-true, le-leb, lt-ltb}
use lib.Dec.{ltb}
use Rattle.field.proofs.Test.{both-1, both-2, both-intro}
use Rattle.page.specs.Page.{key_of, rows}
use Rattle.page.specs.Each.{Each}
use Rattle.tree.specs.Tree.{under, below, lower, keys_between, keys_kept}
use Rattle.tidy.proofs.Model.{Ascends, marks}
use Rattle.tidy.proofs.Trail.{bound, back, double}
use Rattle.tidy.proofs.Trail as Trail

module _ (sz : ℕ) (ps : List (List ℕ)) where
  -- the rows below an entry
  abbrev pub rows_under : List ℕ → List (List ℕ)
  rows_under e = rows sz (under ps e)

  -- the trail, over rows
  abbrev pub row_trail : List (List ℕ) → List ℕ
  row_trail [] = []
  row_trail (e ∷ es) = 2 * key_of e ∷ (marks key_of (rows_under e) ++ row_trail es)

  -- ---- from the test

  -- behind a key that is lower than the next entry's
  raise : (lo m : ℕ) (es : List (List ℕ)) → lower m es ≡ true → Ascends lo (row_trail es) → Ascends (suc (2 * m + 1)) (row_trail es)
  raise lo m [] e a = tt
  raise lo m (r ∷ es) e a = (omega (arith, ltb-true m (key_of r) (unfold-lower e)), a.1)
    where
      unfold-lower : lower m (r ∷ es) ≡ true → ltb m (key_of r) ≡ true
      unfold-lower q = unfold lower in q

  -- a page's marks in front of the trail of later entries
  join : (lo k : ℕ) (rs es : List (List ℕ)) → Ascends lo (marks key_of rs) → keys_between k es rs ≡ true → Ascends lo (row_trail es)
      → Ascends lo (marks key_of rs ++ row_trail es)
  unfolding keys_between
  join lo k [] es a e t = t
  join lo k (r ∷ rs) es a e t =
      let e1 = both-2 _ _ e in
      (a.0, join (suc (2 * key_of r + 1)) k rs es a.1 (both-2 _ _ e1) (raise lo (key_of r) es (both-1 _ _ e1) t))

  -- a page's keys start no lower than its entry's
  from_first : (k : ℕ) (rs es : List (List ℕ)) → keys_between k es rs ≡ true → Ascends 0 (map key_of rs) → Ascends k (map key_of rs)
  unfolding keys_between
  from_first k [] es e a = tt
  from_first k (r ∷ rs) es e a = (leb-true k (key_of r) (both-1 _ _ e), a.1)

  -- keys of entries that ascend, pages whose keys ascend, and the test
  pub kept-trail : (lo : ℕ) (es : List (List ℕ)) → Ascends lo (map key_of es) → Each (λ e. Ascends 0 (map key_of (rows_under e))) es → keys_kept sz ps es ≡ true
      → Ascends (2 * lo) (row_trail es)
  unfolding keys_kept
  kept-trail lo [] a p e = tt
  kept-trail lo (r ∷ es) a (Each.cons q p) e =
      let rest : Ascends (2 * suc (key_of r)) (row_trail es) = kept-trail (suc (key_of r)) es a.1 p (both-2 _ _ e) in
      let own : Ascends (key_of r) (map key_of (rows_under r)) = from_first (key_of r) (rows_under r) es (both-1 _ _ e) q in (
        omega (arith, a.0),
        join (suc (2 * key_of r)) (key_of r) (rows_under r) es (double key_of (key_of r) (rows_under r) own) (both-1 _ _ e)
            (Trail.lower {lo = 2 * suc (key_of r)} {lo' = suc (2 * key_of r)} (row_trail es) (omega arith) rest),
      )

  -- ---- to the test

  -- a key is lower than the next entry's
  next-above : (lo m : ℕ) (rs es : List (List ℕ)) → suc (2 * m + 1) ≤ lo → Ascends lo (marks key_of rs ++ row_trail es) → lower m es ≡ true
  unfolding lower
  next-above lo m rs [] h a = refl
  next-above lo m rs (e ∷ es) h a = lt-ltb m (key_of e) (omega (arith, bound lo (marks key_of rs) (2 * key_of e) _ a))

  -- the keys of a page lie between
  between : (lo k : ℕ) (rs es : List (List ℕ)) → suc (2 * k) ≤ lo → Ascends lo (marks key_of rs ++ row_trail es) → keys_between k es rs ≡ true
  unfolding keys_between
  between lo k [] es h a = refl
  between lo k (r ∷ rs) es h a =
      both-intro _ _ (le-leb k (key_of r) (omega (arith, a.0)))
      (both-intro _ _ (next-above (suc (2 * key_of r + 1)) (key_of r) rs es (omega arith) a.1)
      (between (suc (2 * key_of r + 1)) k rs es (omega (arith, a.0)) a.1))

  -- a trail that ascends passes the test
  pub trail-kept : (lo : ℕ) (es : List (List ℕ)) → Ascends lo (row_trail es) → keys_kept sz ps es ≡ true
  unfolding keys_kept
  trail-kept lo [] a = refl
  trail-kept lo (e ∷ es) a =
      both-intro _ _ (between (suc (2 * key_of e)) (key_of e) (rows_under e) es (omega arith) a.1)
      (trail-kept (suc (2 * key_of e)) es (back (suc (2 * key_of e)) (marks key_of (rows_under e)) (row_trail es) a.1))

  -- ---- the keys of all rows below ascend

  -- marks taken back to keys
  thin : (lo : ℕ) (rs : List (List ℕ)) (t : List ℕ) (us : List (List ℕ)) → ((m : ℕ) → Ascends (2 * m) t → Ascends m (map key_of us))
      → Ascends (2 * lo) (marks key_of rs ++ t) → Ascends lo (map key_of (rs ++ us))
  thin lo [] t us f a = f lo a
  thin lo (r ∷ rs) t us f a = (
    omega (arith, a.0),
    thin (suc (key_of r)) rs t us f (Trail.lower {lo = suc (2 * key_of r + 1)} {lo' = 2 * suc (key_of r)} (marks key_of rs ++ t) (omega arith) a.1),
  )

  -- of a whole level
  pub below-ascends : (lo : ℕ) (es : List (List ℕ)) → Ascends (2 * lo) (row_trail es) → Ascends lo (map key_of (below sz ps es))
  unfolding below
  below-ascends lo [] a = tt
  below-ascends lo (e ∷ es) a =
      thin lo (rows_under e) (row_trail es) (below sz ps es) (λ m b. below-ascends m es b)
      (Trail.lower {lo = suc (2 * key_of e)} {lo' = 2 * lo} (marks key_of (rows_under e) ++ row_trail es) (omega (arith, a.0)) a.1)
