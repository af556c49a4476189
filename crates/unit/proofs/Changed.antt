-- What a record leaves of a page that it changes: a page of 256 bytes, in form where the record stands in a log in form, stamped with
-- the record's number. Assumes nothing.
use Prim.Native.Nat.{ℕ, ◌≤◌, ◌<◌}
use native.Mathlib.Omega.{arith}
use mathlib.Core.Path.{◌≡◌, refl, sym, ◌∙◌}
use mathlib.Core.Logic.{◌⊎◌, inl, inr, ⊎_elim}
use mathlib.Core.Bool.{Bool, true, false}
use mathlib.Core.List.{List, []}
use mathlib.Core.Option.{some, some-injective}
use lib.ListN.{length}
use lib.Dec.{eqb, leb}
use borrow.Author.Tests.{eq-eqb, ne_eqb}
use Rattle.field.specs.Test.{pick}
use Rattle.field.specs.Bytes.{Bytes}
use Rattle.field.proofs.Test.{pick_true, pick-false}
use Rattle.page.specs.Page.{number, base, leaf, empty, first_leaf, is_base, is_leaf, is_empty, formed}
use Rattle.page.specs.Places.{Leafy, Basic}
use Rattle.page.specs.Change.{redirected, removed}
use Rattle.page.proofs.Kept.{Changed, emptied-kept, appended-kept, redirected-kept, removed-kept, bytes-emptied, bytes-appended, bytes-redirected, bytes-removed}
use Rattle.page.proofs.Region.{empty-formed, base-formed, leaf-formed}
use Rattle.logs.specs.Record.{Image, Rec, LB, LO, LI, LM, LG, LE}
use Rattle.logs.specs.Log.{listed, all_bear}
use Rattle.logs.specs.Valid.{Moved, Bears, Filed}
use Rattle.unit.specs.Next.{places_of, image_at, targets, change, change_again, apply, repeat}
use Rattle.unit.proofs.Places.{RecKeeps}
use Rattle.unit.proofs.Pagewise.{listed-none, listed-one, Once, once-one, changed-bytes, again-cases}
use Rattle.unit.proofs.Ended.{image-at, places-once, end-bytes}

-- the rows of an LI are those that an LO took out; the images of an LE are of ascending pages
abbrev pub RowsOf : Rec → Type 0
RowsOf (LB g) = Unit {0}
RowsOf (LO org dest rs) = Unit {0}
RowsOf (LI org dest back rs) = Moved rs
RowsOf (LM base old new key) = Unit {0}
RowsOf (LG i) = Unit {0}
RowsOf (LE unit images) = Filed 0 images

-- ---- one record

pub record Leaves (n p : ℕ) (pg : List ℕ) : Type 0 where
  pub form : formed p pg ≡ true
  pub stamp : number pg ≡ n
  pub whole : length pg ≡ 256

empty_left : (n p : ℕ) (pg : List ℕ) → 1 ≤ p → Changed empty n [] pg → Leaves n p pg
unfolding is_empty
empty_left n p pg h c = record { form = empty-formed p pg h c.form; stamp = c.stamped; whole = c.whole }

leaf-left : (n p : ℕ) (rs : List (List ℕ)) (pg : List ℕ) → first_leaf ≤ p → Changed leaf n rs pg → Leaves n p pg
unfolding is_leaf
leaf-left n p rs pg h c = record { form = leaf-formed p pg h c.form; stamp = c.stamped; whole = c.whole }

base-left : (n p : ℕ) (es : List (List ℕ)) (pg : List ℕ) → Basic p → Changed base n es pg × (is_base pg ≡ true) → Leaves n p pg
base-left n p es pg h c = record { form = base-formed p pg h.0 h.1 c.1; stamp = c.0.stamped; whole = c.0.whole }

-- an LM, by whether it removes
modify-left : (n b key old new : ℕ) (pg pg' : List ℕ) → Basic b → (new ≡ 0) ⊎ Leafy new → n < 4294967296
    → pick (eqb new 0) (removed n key old pg) (redirected n key old new pg) ≡ some pg' → Leaves n b pg'
modify-left n b key old new pg pg' h to small e =
    ⊎_elim
    (λ (z : new ≡ 0). base-left n b _ pg' h
    (removed-kept n key old pg pg' (sym (pick_true (eqb new 0) (removed n key old pg) (redirected n key old new pg) (eq-eqb new 0 z)) ∙ e) small))
    (λ (l : Leafy new). base-left n b _ pg' h
    (redirected-kept n key old new pg pg'
    (sym (pick-false (eqb new 0) (removed n key old pg) (redirected n key old new pg) (ne_eqb new 0 (λ z. omega (arith, l.0)))) ∙ e) small l.0 l.1))
    to

-- an LE, by whether the page's number is lower
end-left : (n p : ℕ) (images : List Image) (pg pg' : List ℕ) → Filed 0 images → all_bear n images ≡ true → listed p (places_of images) ≡ true
    → pick (leb n (number pg)) pg (image_at p images pg) ≡ pg' → ((leb n (number pg) ≡ true) × (pg' ≡ pg)) ⊎ Leaves n p pg'
end-left n p images pg pg' k bears t e = by_number (leb n (number pg)) refl e
  where
    by_number : (z : Bool) → leb n (number pg) ≡ z → pick z pg (image_at p images pg) ≡ pg' → ((leb n (number pg) ≡ true) × (pg' ≡ pg)) ⊎ Leaves n p pg'
    by_number true h c = inl (h, sym (unfold pick in c))
    by_number false h c =
        let f = image-at n 0 p images pg k bears t in
        let q : image_at p images pg ≡ pg' = unfold pick in c in
        inr (rw (← q) (record { form = f.form; stamp = f.stamp; whole = f.whole }))

-- a page that a record changes: an LE leaves it as it is where its number is not lower
pub change-cases : (n p : ℕ) (r : Rec) (pg pg' : List ℕ) → RecKeeps r → RowsOf r → Bears n r → n < 4294967296 → listed p (targets r) ≡ true
    → change n r p pg ≡ some pg' → ((leb n (number pg) ≡ true) × (pg' ≡ pg)) ⊎ Leaves n p pg'
unfolding targets change
change-cases n p (LB g) pg pg' k rows bears small t e = absurd (listed-none p t)
change-cases n p (LO org dest rs) pg pg' k rows bears small t e =
    inr (rw (listed-one p org t) (empty_left n org pg' (omega (arith, k.0)) (emptied-kept n rs pg pg' e small)))
change-cases n p (LI org dest back rs) pg pg' k rows bears small t e =
    inr (rw (listed-one p dest t) (leaf-left n dest _ pg' k.0 (appended-kept n rs pg pg' e small rows.long rows.some-rows)))
change-cases n p (LM b old new key) pg pg' k rows bears small t e =
    inr (rw (listed-one p b t) (modify-left n b key old new pg pg' k.0 k.1 small e))
change-cases n p (LG i) pg pg' k rows bears small t e = absurd (listed-none p t)
change-cases n p (LE unit images) pg pg' k rows bears small t e = end-left n p images pg pg' k bears t (some-injective _ pg' e)

-- the pages that a record changes are pages of the 64, each once
pub targets-once : (r : Rec) → RecKeeps r → Once (targets r)
unfolding targets
targets-once (LB g) k = tt
targets-once (LO org dest rs) k = once-one org (omega (arith, k.1))
targets-once (LI org dest back rs) k = once-one dest (omega (arith, k.1))
targets-once (LM b old new key) k = once-one b (omega (arith, k.0.1))
targets-once (LG i) k = tt
targets-once (LE unit images) k = places-once 0 images k

-- an LM, by whether it removes
modify-bytes : (b : Bool) (n key old new : ℕ) (pg pg' : List ℕ) → Bytes pg → pick b (removed n key old pg) (redirected n key old new pg) ≡ some pg' → Bytes pg'
unfolding pick
modify-bytes true n key old new pg pg' h e = bytes-removed n key old pg pg' e h
modify-bytes false n key old new pg pg' h e = bytes-redirected n key old new pg pg' e h

-- a page of bytes stays one
pub change-bytes : (n : ℕ) (r : Rec) (p : ℕ) (pg pg' : List ℕ) → RowsOf r → Bytes pg → change n r p pg ≡ some pg' → Bytes pg'
unfolding change
change-bytes n (LB g) p pg pg' rows h e = let q : pg ≡ pg' = cc in rw (← q) h
change-bytes n (LO org dest rs) p pg pg' rows h e = bytes-emptied n rs pg pg' e h
change-bytes n (LI org dest back rs) p pg pg' rows h e = bytes-appended n rs pg pg' e h rows.bytes
change-bytes n (LM b old new key) p pg pg' rows h e = modify-bytes (eqb new 0) n key old new pg pg' h e
change-bytes n (LG i) p pg pg' rows h e = let q : pg ≡ pg' = cc in rw (← q) h
change-bytes n (LE unit images) p pg pg' rows h e = end-bytes n images p pg pg' rows h (some-injective _ pg' e)

-- and so do all pages
pub apply-bytes : (n : ℕ) (r : Rec) (w w' : List ℕ) → RowsOf r → Bytes w → apply n r w ≡ some w' → Bytes w'
unfolding apply
apply-bytes n r w w' rows b e = changed-bytes (change n r) (targets r) w w' (λ p pg pg' h q. change-bytes n r p pg pg' rows h q) b e

pub repeat-bytes : (n : ℕ) (r : Rec) (w w' : List ℕ) → RowsOf r → Bytes w → repeat n r w ≡ some w' → Bytes w'
unfolding repeat
repeat-bytes n r w w' rows b e =
    changed-bytes (change_again n r) (targets r) w w'
    (λ p pg pg' h q.
    ⊎_elim (λ (i : pg' ≡ pg). rw i h) (λ (i : change n r p pg ≡ some pg'). change-bytes n r p pg pg' rows h i) (again-cases n r p pg pg' q)) b e
