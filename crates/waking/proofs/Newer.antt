-- The pages' numbers against the log's last, one page after the other: those from page p on. Assumes nothing.
use Prim.Native.Nat.{ℕ, ◌+◌, ◌-◌, ◌*◌, ◌≤◌, ◌<◌}
use native.Mathlib.Omega.{arith}
use mathlib.Core.Path.{◌≡◌, refl, sym, ◌∙◌}
use mathlib.Core.Bool.{true, false}
use mathlib.Core.List.{List}
use lib.ListN.{drop}
use lib.Dec.{leb}
use borrow.Author.Tests.{le-leb, lt-leb}
use Rattle.field.specs.Test.{both}
use Rattle.field.specs.Bytes.{le4}
use Rattle.field.proofs.Test.{both_true, both_false}
use Rattle.field.proofs.Number.{le4-part}
use Rattle.page.specs.Page.{rows_of, number}
use Rattle.page.specs.Pages.{page, pages}
use Rattle.page.proofs.Turns.{rows_next}
use Rattle.store.specs.Calls.{none_newer}

pub newer-start : (last : ℕ) (w : List ℕ) → none_newer last (pages w) ≡ none_newer last (rows_of 256 (64 - 0) (drop (256 * 0) w))
unfolding pages
newer-start last w = refl

newer-next : (last p : ℕ) (w : List ℕ) → p < 64
    → none_newer last (rows_of 256 (64 - p) (drop (256 * p) w))
    ≡ both (leb (number (page p w)) last) (none_newer last (rows_of 256 (64 - (p + 1)) (drop (256 * (p + 1)) w)))
unfolding none_newer page
newer-next last p w h =
    let n : 64 - p - 1 ≡ 64 - (p + 1) = omega arith in
    let o : 256 * p + 256 ≡ 256 * (p + 1) = omega arith in
    rw (rows_next 256 (64 - p) (256 * p) w (omega arith), n, o)

-- the number of page p where it stands in all pages
number_at : (p : ℕ) (w : List ℕ) → number (page p w) ≡ le4 w (256 * p + 4)
unfolding number page
number_at p w = le4-part (256 * p) 256 w 4 (omega arith)

module _ (last p : ℕ) (w : List ℕ) (e : none_newer last (pages w) ≡ none_newer last (rows_of 256 (64 - p) (drop (256 * p) w))) where
  pub newer-end! : p ≤ 64 → 64 ≤ p → true ≡ none_newer last (pages w)
  unfolding none_newer rows_of
  newer-end! h k = let q : p ≡ 64 = omega arith in sym (e ∙ rw q)

  module _ (n : ℕ) (f : n ≡ le4 w (256 * p + 4)) (h : p < 64) where
    here : number (page p w) ≡ n
    here = number_at p w ∙ sym f

    pub newer-stop! : last < n → false ≡ none_newer last (pages w)
    newer-stop! g = sym (e ∙ newer-next last p w h ∙ both_false _ _ (rw here (lt-leb n last g)))

    pub newer-more! : n ≤ last → none_newer last (pages w) ≡ none_newer last (rows_of 256 (64 - (p + 1)) (drop (256 * (p + 1)) w))
    newer-more! g = e ∙ newer-next last p w h ∙ both_true _ _ (rw here (le-leb n last g))
