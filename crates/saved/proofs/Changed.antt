-- Sheets laid in place are what changing their pages one after the other gives, by any change that makes of each page what stands there then.
-- Assumes nothing.
use Prim.Native.Nat.{ℕ, ◌+◌, ◌<◌}
use native.Mathlib.Omega.{arith}
use mathlib.Core.Path.{◌≡◌, refl, sym, ap, ◌∙◌}
use mathlib.Core.Logic.{◌≢◌}
use mathlib.Core.Bool.{Bool, true, false, false≢true}
use mathlib.Core.List.{List, [], ◌∷◌, map}
use mathlib.Core.Option.{Option, some, some-injective}
use borrow.Author.Tests.{eq-eqb, ne_eqb}
use lib.Dec.{eqb}
use lib.ListN.{length}
use Rattle.field.proofs.Test.{pick_true, pick-false}
use Rattle.page.specs.Pages.{page}
use Rattle.page.proofs.Pages.{length-page, pages-ext}
use Rattle.logs.specs.Log.{listed}
use Rattle.unit.specs.Next.{changed_at}
use Rattle.unit.proofs.Pagewise.{Once, once-small, Makes, Pagewise, changed-pages, changes-pages, at_listed, at_other}
use Rattle.saving.specs.Save.{Sheet}
use Rattle.saved.specs.Saved.{laid, Rising, Spares, Saves}

-- the pages that sheets are for
abbrev pub places_of : List Sheet → List ℕ
places_of xs = map (λ x. x.at) xs

-- ---- in number order they are of the 64, each once

away : (q p : ℕ) (xs : List Sheet) → q < p → Rising p xs → listed q (places_of xs) ≡ false
unfolding listed
away q p [] h r = refl
away q p (x ∷ xs) h r =
    pick-false (eqb q x.at) true (listed q (places_of xs)) (ne_eqb q x.at (λ e. omega (arith, r.0)))
    ∙ away q (x.at + 1) xs (omega (arith, r.0)) r.2

pub rising-once : (p : ℕ) (xs : List Sheet) → Rising p xs → Once (places_of xs)
rising-once p [] r = tt
rising-once p (x ∷ xs) r = (omega (arith, r.1), away x.at (x.at + 1) xs (omega arith) r.2, rising-once (x.at + 1) xs r.2)

spares-not : (p : ℕ) (xs : List Sheet) → listed p (places_of xs) ≡ false → Spares p xs
unfolding listed
spares-not p [] e = tt
spares-not p (x ∷ xs) e =
    let d : p ≢ x.at = λ c. false≢true (sym e ∙ pick_true (eqb p x.at) true (listed p (places_of xs)) (eq-eqb p x.at c)) in
    (λ c. d (sym c), spares-not p xs (sym (pick-false (eqb p x.at) true (listed p (places_of xs)) (ne_eqb p x.at d)) ∙ e))

-- ---- the pages then

module _ (n : ℕ) (xs : List Sheet) (w : List ℕ) (rs : List (List ℕ)) (whole : length w ≡ 16384) (s : Saves n xs w rs)
    (f : (p : ℕ) → List ℕ → Option (List ℕ)) (makes : (p : ℕ) → listed p (places_of xs) ≡ true → f p (page p w) ≡ some (page p (laid n xs w))) where
  once : Once (places_of xs)
  once = rising-once 0 xs s.rising

  long : Makes f (places_of xs) w
  long p pg i e =
      let c : pg ≡ page p (laid n xs w) = some-injective pg (page p (laid n xs w)) (sym e ∙ makes p i) in
      rw c (length-page p (laid n xs w) s.tidy.whole (once-small (places_of xs) p once i))

  pub changed-laid : changed_at (places_of xs) f w ≡ some (laid n xs w)
  changed-laid =
      let c = changes-pages f (places_of xs) once w whole long (λ p i. (page p (laid n xs w), makes p i)) in
      let d : Pagewise f (places_of xs) w c.0 = changed-pages f (places_of xs) once w c.0 whole long c.1 in
      c.1 ∙ ap some (pages-ext c.0 (laid n xs w) d.whole s.tidy.whole (λ p h. same c.0 d p h (listed p (places_of xs)) refl))
    where
      same : (v : List ℕ) → Pagewise f (places_of xs) w v → (p : ℕ) → p < 64 → (t : Bool) → listed p (places_of xs) ≡ t → page p v ≡ page p (laid n xs w)
      same v d p h true i =
          some-injective (page p v) (page p (laid n xs w)) (sym (d.each p h) ∙ at_listed (places_of xs) f p (page p w) i ∙ makes p i)
      same v d p h false i =
          some-injective (page p v) (page p w) (sym (d.each p h) ∙ at_other (places_of xs) f p (page p w) i)
          ∙ sym (s.others p h (spares-not p xs i))
