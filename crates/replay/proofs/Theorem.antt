-- The theorem: after any calls and cuts recovery is accepted, and leaves what a run without cuts would have left. Then what the same
-- says of the single calls, in an uncut run and in a history while there are work pages. All from the laws of specs/Laws.antt. Assumes nothing.
use Prim.Native.Nat.{ℕ, suc, ◌+◌, ◌≤◌, ◌<◌}
use mathlib.Core.Path.{◌≡◌, refl, sym, ◌∙◌, subst}
use mathlib.Core.List.{List, [], ◌∷◌, ◌++◌}
use mathlib.Core.Option.{Option, none, some, some-injective, none-ne-some}
use native.Mathlib.Omega.{arith}
use lib.ListN.{length}
use Rattle.replay.specs.Store.{Format, last, finish, recover, Meaning, Formed, Settled, Uncut, Reached, Recovers}
use Rattle.replay.specs.Laws.{PageLaws, UnitLaws}
use Rattle.replay.proofs.Able.{able-shape, able-next}
use Rattle.replay.proofs.Uncut.{sound, sound-settled}
use Rattle.replay.proofs.Kept.{
  Lost,
  Live,
  live-lost,
  live-start,
  live-append,
  live-force,
  live-flush,
  live-checkpoint,
  lost-torn,
  lost-cut,
  recover-way,
  lost-finished,
  lost-accepted,
  lost-recovers,
}

module _ (F : Format) (M : Meaning F) (P : PageLaws F M) (U : UnitLaws F M) where
  open F use {Pages, Rec, Check, many, at, copy, stamp, apply, num, left, next}
  open M use {Shape}

  -- what is kept, with the work pages where there are any
  record Holds (o : Pages) (x : Option Pages) (s : Pages) (c : Check) (l : List Rec) (f : ℕ) : Type 0 where
    lost : Lost F M o s c l f
    live : (w : Pages) → x ≡ some w → Live F M o w s c l f

  -- a state that has them
  with-work : {o w s : Pages} {c : Check} {l : List Rec} {f : ℕ} → Live F M o w s c l f → Holds o (some w) s c l f
  with-work {o} {w} {s} {c} {l} {f} k =
      record { lost = live-lost F M k; live = λ v e. subst (λ (u : Pages). Live F M o u s c l f) (some-injective w v e) k }

  -- .. and back
  live_of : {o w s : Pages} {c : Check} {l : List Rec} {f : ℕ} → Holds o (some w) s c l f → Live F M o w s c l f
  live_of {w = w} h = h.live w refl

  -- a state that has none
  without-work : {o s : Pages} {c : Check} {l : List Rec} {f : ℕ} → Lost F M o s c l f → Holds o none s c l f
  without-work k = record { lost = k; live = λ w e. absurd (none-ne-some w e) }

  -- it holds in every history
  holds : {o s : Pages} {x : Option Pages} {c : Check} {l : List Rec} {f : ℕ} → Reached F M o x s c l f → Holds o x s c l f
  holds (Reached.start g) = with-work (live-start F M P U g)
  holds (Reached.begin {r = r} g z h e) = let k = live_of (holds g) in with-work (live-append F M P U r k (Uncut.begin k.way.uncut z h e) e)
  holds (Reached.step {r = r} g j h e) = let k = live_of (holds g) in with-work (live-append F M P U r k (Uncut.step k.way.uncut j h e) e)
  holds (Reached.force g) = with-work (live-force F M P U (live_of (holds g)))
  holds (Reached.flush p g i b) = with-work (live-flush F M P U p (live_of (holds g)) i (omega arith))
  holds (Reached.checkpoint g z e h) = with-work (live-checkpoint F M P U (live_of (holds g)) z e h)
  holds (Reached.torn g z e h) = without-work (lost-torn F M P U (live_of (holds g)) z e h)
  holds (Reached.cut m g a b) = without-work (lost-cut F M P U m (holds g).lost (omega arith) b)
  holds (Reached.recovery {o = o} {w = w} {s = s} {c = c} {l = l} {l' = l'} g e) =
      let k = (holds g).lost in
      let d = lost-finished F M P U k in
      with-work (subst
      (λ (y : Pages × List Rec). Live F M o y.0 s c y.1 (length l))
      (some-injective (d.work, l ++ d.rest) (w, l') (sym (lost-accepted F M P U k) ∙ e))
      d.live)

  -- THE THEOREM
  pub theorem : {o s : Pages} {x : Option Pages} {c : Check} {l : List Rec} {f : ℕ} → Reached F M o x s c l f → Recovers F M o s c l
  theorem g = lost-recovers F M P U (holds g).lost

  -- the pages that the history names as those at the check record were settled
  pub origin-settled : {o s : Pages} {x : Option Pages} {c : Check} {l : List Rec} {f : ℕ} → Reached F M o x s c l f → Settled F M o o c []
  origin-settled g = (holds g).lost.origin

  -- ---- the single calls in an uncut run

  module _ {o w : Pages} {c : Check} {l : List Rec} (g : Settled F M o o c []) (u : Uncut F M o c w l) where
    -- the log is in form
    pub ran-shape : Shape c l
    ran-shape = able-shape F M (sound F M P U g u).able

    -- .. and so are the pages
    pub ran-formed : Formed F M w
    ran-formed = (sound F M P U g u).formed

    -- no unit is open: begin, find, list and checkpoint meet a fine tree
    pub ran_settled : left c w l ≡ 0 → Settled F M o w c l
    ran_settled z = sound-settled F M P U (sound F M P U g u) z

    -- a unit is open: its step is accepted, and one record fewer is lacking
    pub ran-step : {k : ℕ} → left c w l ≡ suc k
        → (r : Rec) × (w' : Pages) × (next c w l ≡ some r) × (apply (last F c l + 1) r w ≡ some w') × (left c w' (l ++ (r ∷ [])) ≡ k)
    ran-step z = let (r, w', n, a, j, t) = able-next F M (sound F M P U g u).able z in (r, w', n, a, j)

  -- ---- .. and in a history

  module _ {o w s : Pages} {c : Check} {l : List Rec} {f : ℕ} (g : Reached F M o (some w) s c l f) where
    -- the work pages are those of an uncut run of the log, so what is said of these holds
    pub work-uncut : Uncut F M o c w l
    work-uncut = (live_of (holds g)).way.uncut

    -- recovery, called now, does what finishing over the work pages would
    pub recover-work : recover F c s l ≡ finish F c (left c w l) w l
    recover-work = recover-way F M P U (origin-settled g) (live_of (holds g)).formed (live_of (holds g)).way

  -- a flush changes nothing of what recovery gives
  pub flush-keeps : {o w s : Pages} {c : Check} {l : List Rec} {f : ℕ} (p : ℕ) → Reached F M o (some w) s c l f → p < many → stamp (at w p) ≤ num c + f
      → recover F c (copy p w s) l ≡ recover F c s l
  flush-keeps p g i b = recover-work (Reached.flush p g i (omega arith)) ∙ sym (recover-work g)
