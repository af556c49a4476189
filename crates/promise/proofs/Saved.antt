-- The records that a log's begun puts and deletes make of others: record by record, and of one begin record. Assumes nothing.
use Prim.Native.Nat.{ℕ, ◌≤◌}
use native.Mathlib.Omega.{arith}
use mathlib.Core.Path.{◌≡◌, refl, ap, ◌∙◌}
use mathlib.Core.Bool.{Bool, true, false}
use mathlib.Core.List.{List, [], ◌∷◌, ◌++◌}
use mathlib.Core.Option.{some}
use lib.ListN.{get_or}
use lib.Dec.{eqb}
use borrow.Author.Tests.{eq-eqb, ne_eqb, eqb-false, leb-true, leb-false}
use Rattle.field.specs.Test.{pick}
use Rattle.field.proofs.Test.{pick_true, pick-false}
use Rattle.page.specs.Page.{key_of}
use Rattle.logs.specs.Record.{Begin, saves, Rec, LB, LO, LI, LM, LG, LE}
use Rattle.logs.specs.Log.{Open, begin_ok}
use Rattle.logs.specs.Valid.{does-out, does-in, does-point, does-close, logs-image, logs-end, Follows, goes, logs}
use Rattle.logs.proofs.Begin.{begin_ok-limits}
use Rattle.saving.specs.Save.{with_record, without_key}
use Rattle.promise.specs.Promise.{saved_one, saved_by}

pub saved-append : (l m : List Rec) (rs : List (List ℕ)) → saved_by (l ++ m) rs ≡ saved_by m (saved_by l rs)
unfolding saved_by
saved-append [] m rs = refl
saved-append (LB g ∷ l) m rs = saved-append l m (saved_one g rs)
saved-append (LO org dest ls ∷ l) m rs = saved-append l m rs
saved-append (LI org dest back ls ∷ l) m rs = saved-append l m rs
saved-append (LM base old new key ∷ l) m rs = saved-append l m rs
saved-append (LG i ∷ l) m rs = saved-append l m rs
saved-append (LE unit images ∷ l) m rs = saved-append l m rs

-- a begin record more
pub saved-begun : (l : List Rec) (g : Begin) (rs : List (List ℕ)) → saved_by (l ++ (LB g ∷ [])) rs ≡ saved_one g (saved_by l rs)
saved-begun l g rs = saved-append l (LB g ∷ []) rs ∙ unfold saved_by in refl

-- a record of an open unit
follows-saved : {u : ℕ} {o : Open} {r : Rec} (rs : List (List ℕ)) → Follows u (some o) r → saved_by (r ∷ []) rs ≡ rs
unfolding saved_by
follows-saved rs (goes v e (does-out m)) = refl
follows-saved rs (goes v e (does-in q)) = refl
follows-saved rs (goes v e (does-point h)) = refl
follows-saved rs (goes v e does-close) = refl
follows-saved rs (logs v (logs-image f l b)) = refl
follows-saved rs (logs v (logs-end h)) = refl

pub saved-more : {u : ℕ} {o : Open} {r : Rec} (l : List Rec) (rs : List (List ℕ)) → Follows u (some o) r → saved_by (l ++ (r ∷ [])) rs ≡ saved_by l rs
saved-more {r = r} l rs h = saved-append l (r ∷ []) rs ∙ follows-saved (saved_by l rs) h

-- ---- one begin record

type-least : (g : Begin) → saves g ≡ true → 4 ≤ g.type
unfolding saves
type-least g e = leb-true 4 g.type e

-- of a unit that tidies: none
pub saved-tidies : (g : Begin) (rs : List (List ℕ)) → saves g ≡ false → saved_one g rs ≡ rs
unfolding saved_one saves
saved-tidies g rs e =
    let h = leb-false 4 g.type e in
    pick-false _ _ _ (ne_eqb g.type 4 (λ q. omega (arith, h, q))) ∙ pick-false _ _ _ (ne_eqb g.type 5 (λ q. omega (arith, h, q)))

-- of a put its record at its key, of a delete the key no more
pub saved-saves : (g : Begin) (rs : List (List ℕ)) → begin_ok g ≡ true → saves g ≡ true
    → saved_one g rs ≡ pick (eqb g.type 4) (with_record (get_or g.saved 0 []) rs) (without_key (key_of (get_or g.saved 0 [])) rs)
unfolding saved_one
saved-saves g rs ok v = by-type (eqb g.type 4) refl
  where
    by-type : (t : Bool) → eqb g.type 4 ≡ t
        → pick (eqb g.type 4) (with_record (get_or g.saved 0 []) rs) (pick (eqb g.type 5) (without_key (key_of (get_or g.saved 0 [])) rs) rs)
        ≡ pick (eqb g.type 4) (with_record (get_or g.saved 0 []) rs) (without_key (key_of (get_or g.saved 0 [])) rs)
    by-type true e = pick_true _ _ _ e ∙ rw (pick_true (eqb g.type 4) (with_record (get_or g.saved 0 []) rs) (without_key (key_of (get_or g.saved 0 [])) rs) e)
    by-type false e =
        let five : g.type ≡ 5 = omega (arith, type-least g v, (begin_ok-limits g ok).type, eqb-false g.type 4 e) in
        ap (pick (eqb g.type 4) (with_record (get_or g.saved 0 []) rs)) (pick_true _ _ _ (eq-eqb g.type 5 five))
