-- A record repeated: nothing where its page has its stamp or a later one, else what the record does. Assumes nothing.
use Prim.Native.Nat.{ℕ, ◌+◌, ◌*◌, ◌<◌}
use native.Mathlib.Omega.{arith}
use mathlib.Core.Path.{◌≡◌, refl, sym, ap, ◌∙◌}
use mathlib.Core.Bool.{Bool, true, false}
use mathlib.Core.List.{List, [], ◌∷◌}
use mathlib.Core.Option.{some}
use lib.ListN.{length}
use lib.Dec.{leb}
use Rattle.field.specs.Bytes.{le4}
use Rattle.field.proofs.Test.{bind-intro}
use Rattle.field.proofs.Number.{le4-part}
use Rattle.page.specs.Page.{number}
use Rattle.page.specs.Pages.{page}
use Rattle.page.proofs.Pages.{put_page-page}
use Rattle.logs.specs.Record.{Rec, LO, LI, LM}
use Rattle.unit.specs.Next.{targets, change_again, apply, repeat}
use Rattle.unit.specs.Made.{Did}
use Rattle.unit.proofs.Pagewise.{again-old, again-new, apply-one, repeat-one}
use Rattle.unit.proofs.Applied.{did-some}

-- the number of page p where it stands in all pages
pub stamp-page! : (w : List ℕ) (p n k : ℕ) → k ≡ le4 w (256 * p + 4) → leb n k ≡ leb n (number (page p w))
unfolding number page
stamp-page! w p n k e = rw (e, le4-part (256 * p) 256 w 4 (omega arith))

module _ (r : Rec) (p : ℕ) (t : targets r ≡ p ∷ []) (n : ℕ) (w : List ℕ) (z : Bool) (e : z ≡ leb n (number (page p w))) where
  pub did-old : length w ≡ 16384 → p < 64 → z ≡ true → Did (repeat n r w) w true w
  did-old whole small h =
      let q : change_again n r p (page p w) ≡ some (page p w) = again-old n r p (page p w) (sym e ∙ h) in
      did-some _ w w w (repeat-one n p r w t ∙ bind-intro _ _ (page p w) q ∙ ap some (put_page-page p w whole small)) refl

  pub did-new : z ≡ false → (b : Bool) (v : List ℕ) → Did (apply n r w) w b v → Did (repeat n r w) w b v
  did-new h b v d = rw (repeat-one n p r w t, again-new n r p (page p w) (sym e ∙ h), ← (apply-one n p r w t)) d

-- the page that each changes
pub out-target : (org dest : ℕ) (rs : List (List ℕ)) → targets (LO org dest rs) ≡ org ∷ []
unfolding targets
out-target org dest rs = refl

pub in-target : (org dest back : ℕ) (rs : List (List ℕ)) → targets (LI org dest back rs) ≡ dest ∷ []
unfolding targets
in-target org dest back rs = refl

pub modify-target : (base old new key : ℕ) → targets (LM base old new key) ≡ base ∷ []
unfolding targets
modify-target base old new key = refl
