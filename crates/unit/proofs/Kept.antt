-- What a record of a log in form does to the pages, made or repeated: each changes by itself, and 64 pages in form stay in form. So they do
-- under all of a log's records repeated. Assumes nothing.
use Prim.Native.Nat.{ℕ, ◌+◌, ◌≤◌, ◌<◌}
use native.Mathlib.Omega.{arith}
use mathlib.Core.Path.{◌≡◌, refl, sym, subst, ◌∙◌}
use mathlib.Core.Logic.{◌⊎◌, ⊎_elim}
use mathlib.Core.Bool.{true}
use mathlib.Core.List.{List, ◌∷◌}
use mathlib.Core.Option.{Option, some, some-injective}
use lib.ListN.{length}
use lib.Dec.{leb}
use borrow.Author.Tests.{leb-true}
use Rattle.field.specs.Bytes.{most4}
use Rattle.field.proofs.Test.{bind-some}
use Rattle.page.specs.Page.{number, formed}
use Rattle.page.specs.Pages.{page}
use Rattle.page.proofs.Pages.{length-page, formed-page, formed-pages}
use Rattle.logs.specs.Record.{Rec}
use Rattle.logs.specs.Plan.{Step}
use Rattle.logs.specs.Log.{Open, State, first, after, after_all, listed, Log}
use Rattle.logs.specs.Valid.{Does, does-out, does-in, does-point, does-close, logs-image, logs-end, Follows, begins, goes, logs, Bears, Fits, Valid, nil, cons, Good}
use Rattle.logs.proofs.Sound.{Sound, Waits, Awaits, waits-open, awaits-moved, sound-first, sound-after}
use Rattle.tree.specs.Walk.{InForm}
use Rattle.unit.specs.Next.{targets, change, change_again, apply, repeat, repeat_all}
use Rattle.unit.specs.Made.{at_page}
use Rattle.unit.proofs.Places.{RecKeeps, OpenKeeps, follows-keeps, open-keeps}
use Rattle.unit.proofs.Pagewise.{Once, once-small, at_listed, at-cases, Makes, Pagewise, changed-pages, changes-pages, again-cases}
use Rattle.unit.proofs.Changed.{RowsOf, Leaves, change-cases, targets-once}

-- ---- a record

-- what a record numbered n keeps to
pub record Stands (n : ℕ) (r : Rec) : Type 0 where
  pub small : n ≤ most4
  pub keeps : RecKeeps r
  pub rows : RowsOf r
  pub bears : Bears n r

-- pages that are changed page by page stay in form where each of these is left in form
pagewise-form : (f : (p : ℕ) → List ℕ → Option (List ℕ)) (ps w w' : List ℕ) → Pagewise f ps w w'
    → ((p : ℕ) (pg' : List ℕ) → p < 64 → listed p ps ≡ true → f p (page p w) ≡ some pg' → formed p pg' ≡ true) → InForm w → InForm w'
pagewise-form f ps w w' x left h =
    record {
      whole = x.whole;
      forms = formed-pages w' (λ p k.
          ⊎_elim (λ (i : page p w' ≡ page p w). rw i (formed-page p w h.forms k))
          (λ (i : (listed p ps ≡ true) × (f p (page p w) ≡ some (page p w'))). left p (page p w') k i.0 i.1)
          (at-cases ps f p (page p w) (page p w') (x.each p k)));
    }

module _ (n : ℕ) (r : Rec) (s : Stands n r) where
  -- what it leaves of a page that it changes
  cases : (p : ℕ) (pg pg' : List ℕ) → listed p (targets r) ≡ true → change n r p pg ≡ some pg' → ((leb n (number pg) ≡ true) × (pg' ≡ pg)) ⊎ Leaves n p pg'
  cases p pg pg' i e = change-cases n p r pg pg' s.keeps s.rows s.bears (omega (arith, s.small)) i e

  -- of one whose number is lower
  pub leaves : (p : ℕ) (pg pg' : List ℕ) → listed p (targets r) ≡ true → number pg < n → change n r p pg ≡ some pg' → Leaves n p pg'
  leaves p pg pg' i low e =
      ⊎_elim (λ (z : (leb n (number pg) ≡ true) × (pg' ≡ pg)). absurd (omega (arith, leb-true n (number pg) z.0, low))) (λ (z : Leaves n p pg'). z) (cases p pg pg' i e)

  -- a page of 256 bytes, and one in form, stays one
  stays-whole : (p : ℕ) (pg pg' : List ℕ) → listed p (targets r) ≡ true → length pg ≡ 256 → change n r p pg ≡ some pg' → length pg' ≡ 256
  stays-whole p pg pg' i h e =
      ⊎_elim (λ (z : (leb n (number pg) ≡ true) × (pg' ≡ pg)). rw z.1 h) (λ (z : Leaves n p pg'). z.whole) (cases p pg pg' i e)

  stays-form : (p : ℕ) (pg pg' : List ℕ) → listed p (targets r) ≡ true → formed p pg ≡ true → change n r p pg ≡ some pg' → formed p pg' ≡ true
  stays-form p pg pg' i h e =
      ⊎_elim (λ (z : (leb n (number pg) ≡ true) × (pg' ≡ pg)). rw z.1 h) (λ (z : Leaves n p pg'). z.form) (cases p pg pg' i e)

  once : Once (targets r)
  once = targets-once r s.keeps

  -- what it does to the pages, made and repeated: each by itself
  module _ (w : List ℕ) (whole : length w ≡ 16384) where
    again-makes : Makes (change_again n r) (targets r) w
    again-makes p pg i e =
        ⊎_elim (λ (q : pg ≡ page p w). rw q (length-page p w whole (once-small (targets r) p once i)))
        (λ (q : change n r p (page p w) ≡ some pg). stays-whole p (page p w) pg i (length-page p w whole (once-small (targets r) p once i)) q)
        (again-cases n r p (page p w) pg e)

    pub apply-pages : (w' : List ℕ) → apply n r w ≡ some w' → Pagewise (change n r) (targets r) w w'
    unfolding apply
    apply-pages w' e = changed-pages (change n r) (targets r) once w w' whole
        (λ p pg i q. stays-whole p (page p w) pg i (length-page p w whole (once-small (targets r) p once i)) q) e

    pub repeat-pages : (w' : List ℕ) → repeat n r w ≡ some w' → Pagewise (change_again n r) (targets r) w w'
    unfolding repeat
    repeat-pages w' e = changed-pages (change_again n r) (targets r) once w w' whole again-makes e

    -- it can be repeated where it can on each page
    pub repeats-pages : ((p : ℕ) → p < 64 → (pg : List ℕ) × (at_page (targets r) (change_again n r) p (page p w) ≡ some pg))
        → (w' : List ℕ) × (repeat n r w ≡ some w')
    unfolding repeat
    repeats-pages g =
        changes-pages (change_again n r) (targets r) once w whole again-makes
        (λ p i. let x = g p (once-small (targets r) p once i) in (x.0, sym (at_listed (targets r) (change_again n r) p (page p w) i) ∙ x.1))

  -- pages in form stay in form
  pub apply-form : (w w' : List ℕ) → InForm w → apply n r w ≡ some w' → InForm w'
  apply-form w w' h e =
      pagewise-form (change n r) (targets r) w w' (apply-pages w h.whole w' e) (λ p pg' k i q. stays-form p (page p w) pg' i (formed-page p w h.forms k) q) h

  pub repeat-form : (w w' : List ℕ) → InForm w → repeat n r w ≡ some w' → InForm w'
  repeat-form w w' h e =
      pagewise-form (change_again n r) (targets r) w w' (repeat-pages w h.whole w' e)
      (λ p pg' k i q.
      ⊎_elim (λ (z : pg' ≡ page p w). rw z (formed-page p w h.forms k)) (λ (z : change n r p (page p w) ≡ some pg'). stays-form p (page p w) pg' i (formed-page p w h.forms k) z)
      (again-cases n r p (page p w) pg' q)) h

-- ---- the records of a log in form

does-rows : {u : ℕ} {o : Open} {x : Step} {xs : List Step} {r : Rec} → Awaits u o → o.todo ≡ x ∷ xs → Does o.did x r → RowsOf r
does-rows a e (does-out m) = tt
does-rows a e (does-in q) = rw q (awaits-moved a e)
does-rows a e (does-point h) = tt
does-rows a e does-close = tt

follows-rows : {u : ℕ} {o : Option Open} {r : Rec} → Waits u o → OpenKeeps o → Follows u o r → RowsOf r
follows-rows w k (begins e ok l b) = tt
follows-rows w k (goes v e d) = does-rows (waits-open w v) e d
follows-rows w k (logs v (logs-image f l b)) = tt
follows-rows w k (logs v (logs-end h)) = k.1

-- the record that may come next
pub fits-stands : {s : State} {r : Rec} → Sound s → OpenKeeps s.opened → Fits s r → Stands (s.number + 1) r
fits-stands h k f = record { small = f.room; keeps = follows-keeps f.follows k; rows = follows-rows h.waits k f.follows; bears = f.bears }

repeats-form : {s : State} {rs : List Rec} (n : ℕ) (w w' : List ℕ) → n ≡ s.number + 1 → Sound s → OpenKeeps s.opened → Valid s rs → InForm w
    → repeat_all n rs w ≡ some w' → InForm w'
unfolding repeat_all after after_all
repeats-form n w w' q h k nil f e = subst InForm (some-injective w w' e) f
repeats-form {s} n w w' q h k (cons {r = r} {rs = rs} fit v) f e =
    let x = bind-some (repeat n r w) (repeat_all (n + 1) rs) w' e in
    let st : Stands n r = rw q (fits-stands h k fit) in
    repeats-form (n + 1) x.from w' (rw q) (sound-after h fit) (open-keeps (cons fit nil) k) v (repeat-form n r st w x.from f x.was) x.gives

pub log-form : (g : Log) (w w' : List ℕ) → Good g → InForm w → repeat_all (g.top.number + 1) g.recs w ≡ some w' → InForm w'
unfolding first
log-form g w w' h f e = repeats-form (g.top.number + 1) w w' refl (sound-first g.top h.top) tt h.valid f e
