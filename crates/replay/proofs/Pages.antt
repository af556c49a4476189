-- All pages: a record applied, page by page; and where the log repeated gives a page at each number it gives the pages. Assumes nothing.
use Prim.Native.Nat.{ℕ, ◌<◌}
use mathlib.Core.Path.{◌≡◌, sym, ap, ◌∙◌}
use mathlib.Core.List.{List}
use mathlib.Core.Option.{some, bind, some-injective}
use Rattle.replay.specs.Store.{run, Format, Meaning, Formed}
use Rattle.replay.specs.Laws.{Each, none, also, Stands, PageLaws}
use Rattle.replay.proofs.Runs.{Runs, run-nil, run-cons}
use Rattle.replay.proofs.Page.{AgainAt, changed-form}

module _ (F : Format) (M : Meaning F) where
  open F use {Pages, Rec, many, at, stamp, apply, repeat}
  open M use {Sized}

  -- each of the records, the first numbered n, ends a log of good form
  abbrev pub Stood : (n : ℕ) → List Rec → Type 0
  Stood = Each (Stands F M)

  module _ (P : PageLaws F M) where
    -- a record applied to lower pages leaves pages in form
    pub applied-formed : (n : ℕ) (r : Rec) (v w : Pages) → Stands F M n r → Formed F M v → ((p : ℕ) → p < many → stamp (at v p) < n)
        → apply n r v ≡ some w → Formed F M w
    applied-formed n r v w s f k e =
        let (z, h) = P.applied n r v w s f e in
        record { sized = z; form = λ p i. changed-form F M P p n r (at v p) (at w p) s i (f.form p i) (k p i) (h p i) }

    -- a log repeated at each page is repeated over all pages
    pub repeat-all : {n : ℕ} {rs : List Rec} (v w : Pages) → Stood n rs → Formed F M v → Sized w
        → ((p : ℕ) → p < many → Runs (AgainAt F M p) n rs (at v p) (at w p)) → run repeat n rs v ≡ some w
    unfolding run bind
    repeat-all v w none f z h = ap some (P.same-pages v w f.sized z (λ p i. run-nil (h p i)))
    repeat-all v w (also {n = n} {r = r} s k) f y h =
        let (u, q) = P.repeat-accepted n r v s f (λ p i. let (z, d, t) = run-cons (h p i) in (z, d.made)) in
        let (z, g) = P.repeated n r v u s f q in
        let same : (p : ℕ) (i : p < many) → (run-cons (h p i)).0 ≡ at u p =
        λ p i. some-injective (run-cons (h p i)).0 (at u p) (sym (run-cons (h p i)).1.made ∙ g p i) in
        rw q (repeat-all u w k (record { sized = z; form = λ p i. rw (same p i) at (run-cons (h p i)).1.form }) y
        (λ p i. rw (same p i) at (run-cons (h p i)).2))
