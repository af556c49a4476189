-- Runs without cuts keep form and numbers, what they left is left alone by their own log, and their open unit can always be finished.
-- Assumes nothing.
use Prim.Native.Nat.{ℕ, ◌+◌, ◌≤◌, ◌<◌}
use mathlib.Core.Path.{◌≡◌, refl, sym, ap, ◌∙◌}
use mathlib.Core.List.{List, [], ◌∷◌, ◌++◌}
use mathlib.Core.Logic.{◌⊎◌, inl, inr, ⊎_elim}
use mathlib.Core.Option.{some, some-injective}
use native.Mathlib.Omega.{arith}
use lib.ListN.{length-append}
use Rattle.replay.specs.Store.{Format, last, Meaning, Formed, Settled, Uncut}
use Rattle.replay.specs.Laws.{none, Stands, Touches, Passes, PageLaws, Able, closed, UnitLaws}
use Rattle.replay.proofs.Each.{each_snoc}
use Rattle.replay.proofs.Page.{Quiet, quiet-top}
use Rattle.replay.proofs.Pages.{Stood, applied-formed}
use Rattle.replay.proofs.Able.{able-shape, able-fine, able-step}

module _ (F : Format) (M : Meaning F) where
  open F use {Pages, Rec, Check, many, at, stamp, num}

  -- pages in form with numbers of the log, no record of which concerns a page with a lower number; an open unit that can be finished
  pub record Sound (o : Pages) (c : Check) (w : Pages) (l : List Rec) : Type 0 where
    pub formed : Formed F M w
    pub able : Able F M o c w l
    pub low : (p : ℕ) → p < many → stamp (at w p) ≤ last F c l
    pub quiet : (p : ℕ) → p < many → Quiet F M p (stamp (at w p)) (num c + 1) l
    pub stood : Stood F M (num c + 1) l

module _ (F : Format) (M : Meaning F) (P : PageLaws F M) (U : UnitLaws F M) where
  open F use {Pages, Rec, Check, many, at, stamp, change, apply, num, left}

  -- between two units the run is settled
  pub sound-settled : {o w : Pages} {c : Check} {l : List Rec} → Sound F M o c w l → left c w l ≡ 0 → Settled F M o w c l
  sound-settled s z =
      record {
        formed = s.formed;
        shape = able-shape F M s.able;
        low = λ p i. omega (arith, s.low p i);
        fine = able-fine F M s.able z;
        complete = z;
      }

  -- the record after l stands
  pub stands-next : {o w : Pages} {c : Check} (l : List Rec) (r : Rec) → Able F M o c w (l ++ (r ∷ [])) → Stands F M (last F c l + 1) r
  stands-next {c = c} l r a = record { top = c; before = l; numbered = refl; shape = able-shape F M a }

  -- a page after one record more: stamped, or as it was
  pub one_more : {o w : Pages} {c : Check} {l : List Rec} (r : Rec) (w' : Pages) → Sound F M o c w l → Stands F M (last F c l + 1) r
      → apply (last F c l + 1) r w ≡ some w' → (p : ℕ) → p < many
      → (stamp (at w' p) ≡ last F c l + 1) ⊎ ((at w' p ≡ at w p) × Passes F M p (last F c l + 1) r)
  one_more {w = w} {c = c} {l = l} r w' s t e p i =
      let d : change (last F c l + 1) r p (at w p) ≡ some (at w' p) = (P.applied (last F c l + 1) r w w' t s.formed e).1 p i in
      ⊎_elim
      (λ (h : Touches F M p (last F c l + 1) r). inl (h.stamped (at w p) (at w' p) (s.formed.form p i) (omega (arith, s.low p i)) d))
      (λ (h : Passes F M p (last F c l + 1) r).
      inr (some-injective (at w' p) (at w p) (sym d ∙ h (at w p) (s.formed.form p i)), h))
      (P.concerns (last F c l + 1) r p t i)

  -- one record more
  sound-snoc : {o w w' : Pages} {c : Check} (l : List Rec) (r : Rec) → Sound F M o c w l → Able F M o c w' (l ++ (r ∷ []))
      → apply (last F c l + 1) r w ≡ some w' → Sound F M o c w' (l ++ (r ∷ []))
  sound-snoc {o = o} {w = w} {w' = w'} {c = c} l r s a e =
      let t : Stands F M (last F c l + 1) r = stands-next l r a in
      record {
        formed = applied-formed F M P (last F c l + 1) r w w' t s.formed (λ p i. omega (arith, s.low p i)) e;
        able = a;
        low = λ p i. low p i (one_more r w' s t e p i);
        quiet = λ p i. quiet p i (one_more r w' s t e p i);
        stood = each_snoc r (omega arith) s.stood t;
      }
    where
      low : (p : ℕ) → p < many → (stamp (at w' p) ≡ last F c l + 1) ⊎ ((at w' p ≡ at w p) × Passes F M p (last F c l + 1) r)
          → stamp (at w' p) ≤ last F c (l ++ (r ∷ []))
      low p i (inl h) = omega (arith, length-append l (r ∷ []))
      low p i (inr h) = omega (arith, ap stamp h.0, s.low p i, length-append l (r ∷ []))

      quiet : (p : ℕ) → p < many → (stamp (at w' p) ≡ last F c l + 1) ⊎ ((at w' p ≡ at w p) × Passes F M p (last F c l + 1) r)
          → Quiet F M p (stamp (at w' p)) (num c + 1) (l ++ (r ∷ []))
      quiet p i (inl h) = quiet-top F M p (stamp (at w' p)) (num c + 1) (l ++ (r ∷ [])) (omega (arith, length-append l (r ∷ [])))
      quiet p i (inr h) = rw h.0 (each_snoc r (omega arith) (s.quiet p i) (inr h.1))

  -- every uncut run from settled pages
  pub sound : {o : Pages} {c : Check} {w : Pages} {l : List Rec} → Settled F M o o c [] → Uncut F M o c w l → Sound F M o c w l
  sound g Uncut.start =
      record {
        formed = g.formed;
        able = closed g.shape g.complete g.fine;
        low = λ p i. omega (arith, g.low p i);
        quiet = λ p i. none;
        stood = none;
      }
  sound {o = o} {c = c} g (Uncut.begin {w = w} {w' = w'} {l = l} {r = r} u z h e) =
      let s = sound g u in
      sound-snoc l r s (U.unit o c w w' l r (sound-settled s z) h e) e
  sound g (Uncut.step {l = l} {r = r} u k h e) =
      let s = sound g u in
      sound-snoc l r s (able-step F M s.able k h e) e
  sound {o = o} {c = c} g (Uncut.event {w = w} {w' = w'} {l = l} u h) =
      let s = sound g u in
      let t = U.rewritten o c w w' l s.formed s.able h in
      record {
        formed = t.formed;
        able = t.able;
        low = λ p i. rw (t.stamps p i) (s.low p i);
        quiet = λ p i. rw (t.stamps p i) (s.quiet p i);
        stood = s.stood;
      }
