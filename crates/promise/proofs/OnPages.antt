-- The page laws of the generic half, of the store's pages and records: each is one of the laws that say what a record does to pages, page by
-- page. Assumes nothing.
use Prim.Native.Nat.{ℕ}
use mathlib.Core.Path.{◌≡◌, refl, sym, ◌∙◌}
use mathlib.Core.Logic.{◌⊎◌, inl, inr}
use mathlib.Core.Bool.{Bool, true, false, cond}
use mathlib.Core.List.{List}
use mathlib.Core.Option.{Option, some}
use lib.Dec.{leb}
use Rattle.field.specs.Test.{pick}
use Rattle.page.specs.Page.{number}
use Rattle.page.specs.Pages.{page}
use Rattle.page.proofs.Pages.{bytes-page, bytes-put_page, length-page, length-put_page, page-put_page-same, page-put_page-other, pages-ext}
use Rattle.logs.specs.Record.{Rec}
use Rattle.logs.specs.Log.{listed}
use Rattle.unit.specs.Next.{targets, change, change_again}
use Rattle.unit.specs.Made.{at_page}
use Rattle.unit.proofs.Pagewise.{at_listed, at_other, at_again}
use Rattle.unit.proofs.Changed.{apply-bytes, repeat-bytes}
use Rattle.unit.proofs.Kept.{leaves, apply-pages, repeat-pages, repeats-pages}
use Rattle.unit.proofs.Kept as Unit
use Rattle.replay.specs.Store.{again}
use Rattle.replay.specs.Laws.{Stands, Touches, Passes, PageLaws}
use Rattle.promise.specs.Parts.{store, asked}
use Rattle.promise.proofs.Standing.{last-stands}

-- a record that stands in a log in form, with the number that it has there
standing : (n : ℕ) (r : Rec) → Stands store asked n r → Unit.Stands n r
standing n r s = rw s.numbered (last-stands s.top s.before r s.shape.0)

-- a record repeated, on any page
again-is : (n : ℕ) (r : Rec) (p : ℕ) (pg : List ℕ) → again store n r p pg ≡ at_page (targets r) (change_again n r) p pg
unfolding again
again-is n r p pg = as-pick (leb n (number pg)) (some pg) (at_page (targets r) (change n r) p pg) ∙ sym (at_again n r p pg)
  where
    as-pick : (b : Bool) (x y : Option (List ℕ)) → cond b x y ≡ pick b x y
    as-pick true x y = unfold pick in refl
    as-pick false x y = unfold pick in refl

-- a page that it changes it stamps and keeps in form; any other stays, whatever stands there
concerns : (n : ℕ) (r : Rec) (p : ℕ) → Stands store asked n r → Touches store asked p n r ⊎ Passes store asked p n r
concerns n r p s = by-list (listed p (targets r)) refl
  where
    by-list : (b : Bool) → listed p (targets r) ≡ b → Touches store asked p n r ⊎ Passes store asked p n r
    by-list true i =
        inl (record {
          stamped = λ pg pg' f k e. (leaves n r (standing n r s) p pg pg' i k (sym (at_listed (targets r) (change n r) p pg i) ∙ e)).stamp;
          formed = λ pg pg' f k e. (leaves n r (standing n r s) p pg pg' i k (sym (at_listed (targets r) (change n r) p pg i) ∙ e)).form;
        })
    by-list false i = inr (λ pg f. at_other (targets r) (change n r) p pg i)

pub page-laws : PageLaws store asked
page-laws =
    record {
      same-pages = λ v w sv sw f. pages-ext v w sv.0 sw.0 f;
      copy-sized = λ v w p sv sw h.
          (length-put_page p w sw.0 h (page p v) (length-page p v sv.0 h), bytes-put_page p (page p v) w (bytes-page p v sv.1) sw.1);
      copy-same = λ v w p sv sw h. page-put_page-same p w sw.0 h (page p v) (length-page p v sv.0 h);
      copy-other = λ v w p q sv sw h k ne. page-put_page-other p w sw.0 h (page p v) (length-page p v sv.0 h) q k ne;
      concerns = λ n r p s h. concerns n r p s;
      applied = λ n r v w s fv e.
          let k : Unit.Stands n r = standing n r s in
          let x = apply-pages n r k v fv.sized.0 w e in
          ((x.whole, apply-bytes n r v w k.rows fv.sized.1 e), x.each);
      repeated = λ n r v w s fv e.
          let k : Unit.Stands n r = standing n r s in
          let x = repeat-pages n r k v fv.sized.0 w e in
          ((x.whole, repeat-bytes n r v w k.rows fv.sized.1 e), λ p h. again-is n r p (page p v) ∙ x.each p h);
      repeat-accepted = λ n r v s fv g.
          repeats-pages n r (standing n r s) v fv.sized.0 (λ p h. ((g p h).0, sym (again-is n r p (page p v)) ∙ (g p h).1));
    }
