-- What remains of a unit: a plan is at most 25 steps, its end is its last step and no other, an LO's page is one of the 64. Assumes nothing.
use Prim.Native.Nat.{ℕ, zero, suc, ◌+◌, ◌-◌, ◌*◌, ◌≤◌, ◌<◌}
use native.Mathlib.Nat.{not-suc-le-zero}
use native.Mathlib.Numerals.{add-one}
use native.Mathlib.Omega.{arith}
use mathlib.Core.Path.{◌≡◌, refl, sym, ap, ◌∙◌}
use mathlib.Core.Bool.{Bool, true, false, false≢true}
use mathlib.Core.List.{List, [], ◌∷◌, ◌++◌}
use lib.ListN.{length, drop, get_or, length-append, drop_of_length-le}
use lib.Seq.{drop-cons}
use lib.Dec.{eqb}
use Rattle.field.proofs.Test.{pick-either}
use Rattle.field.specs.declared.PageNo.{PageNo}
use Rattle.field.specs.declared.UnitNo.{UnitNo}
use Rattle.logs.specs.Record.{Begin, saves, length_of, out}
use Rattle.logs.specs.Table.{kind_at, kinds}
use Rattle.logs.specs.Steps.{step_of}
use Rattle.logs.specs.declared.steps.Planned.{Planned}
use Rattle.logs.specs.declared.steps.Planned.TheVariants.{Out, In, Point, Close}
use Rattle.page.specs.Page.{count}
use Rattle.page.specs.Pages.{page}
use Rattle.logs.specs.Plan.{Step, take_out, bring_in, point, close, gather, removals, others, replacing, compact_plan, move_plan, swap_plan, plan}
use Rattle.logs.specs.Log.{begin_ok}
use Rattle.logs.proofs.Begin.{begin_ok-limits}
use Rattle.unit.specs.Next.{step_size, room}
use Rattle.unit.specs.Room.{is_close, Inside}
use Rattle.unit.proofs.Places.{StepKeeps, Keeping, one_more, plan-keeps}

-- ---- the bytes of an LO, off the table

pub out-size : (a b k : ℕ) → a ≡ length_of (kind_at 2) 0 → b ≡ length_of (kind_at 2) 1 → a + (b - a) * k ≡ length_of out k
unfolding length_of kind_at kinds
out-size a b k e f = let z : a ≡ 20 = e in let y : b - a ≡ 16 = omega arith in rw (y, z)

pub each-out : (a b : ℕ) → a ≡ length_of (kind_at 2) 0 → b ≡ length_of (kind_at 2) 1 → (a ≡ 20) × (b ≡ 36)
unfolding length_of kind_at kinds
each-out a b e f = (e, f)

pub out-fits : (a b k : ℕ) → a ≡ length_of (kind_at 2) 0 → b ≡ length_of (kind_at 2) 1 → k < 65536 → (b - a) * k ≤ 1048560
out-fits a b k e f h = let x = each-out a b e f in let y : b - a ≡ 16 = omega arith in rw y (omega arith)

-- ---- the bytes of a step, by its kind

module _ (s : Planned) (w : List ℕ) (r : ℕ) where
  pub size-out! : {org dest : PageNo} {c : ℕ} → s ≡ Out org dest → r ≡ length_of out c → c ≡ count (page org.0 w) → r ≡ step_size w (step_of s)
  unfolding step_size step_of
  size-out! e f g = rw (e, f, g)

  pub size-in! : {org dest : PageNo} {back : ℕ} → s ≡ In org dest back → r ≡ length_of (kind_at 3) 0 → r ≡ step_size w (step_of s)
  unfolding step_size step_of length_of kind_at kinds
  size-in! e f = rw (e, f)

  pub size-point! : {base old new : PageNo} {other : Bool} → s ≡ Point base old new other → r ≡ length_of (kind_at 4) 0 → r ≡ step_size w (step_of s)
  unfolding step_size step_of length_of kind_at kinds
  size-point! e f = rw (e, f)

  pub size-close! : {unit : UnitNo} → s ≡ Close unit → r ≡ length_of (kind_at 5) 0 → r ≡ step_size w (step_of s)
  unfolding step_size step_of length_of kind_at kinds
  size-close! e f = rw (e, f)

-- a record that carries none is short
pub kind-small : (j r : ℕ) → j < 6 → r ≡ length_of (kind_at j) 0 → r ≤ 44
unfolding length_of kind_at kinds
kind-small zero r h e = omega arith
kind-small (suc zero) r h e = omega arith
kind-small (suc (suc zero)) r h e = omega arith
kind-small (suc (suc (suc zero))) r h e = omega arith
kind-small (suc (suc (suc (suc zero)))) r h e = omega arith
kind-small (suc (suc (suc (suc (suc zero))))) r h e = omega arith
kind-small (suc (suc (suc (suc (suc (suc j)))))) r h e = absurd (let x : ⊥ = omega arith in x)

pub inside-out : (s : Planned) {org dest : PageNo} → s ≡ Out org dest → Inside (step_of s) → org.0 < 64
unfolding step_of
inside-out s e h = rw e at h

module _ (s : Planned) where
  pub close-out! : {org dest : PageNo} → s ≡ Out org dest → false ≡ is_close (step_of s)
  unfolding step_of is_close
  close-out! e = rw e

  pub close-in! : {org dest : PageNo} {back : ℕ} → s ≡ In org dest back → false ≡ is_close (step_of s)
  unfolding step_of is_close
  close-in! e = rw e

  pub close-point! : {base old new : PageNo} {other : Bool} → s ≡ Point base old new other → false ≡ is_close (step_of s)
  unfolding step_of is_close
  close-point! e = rw e

  pub close-end! : {unit : UnitNo} → s ≡ Close unit → true ≡ is_close (step_of s)
  unfolding step_of is_close
  close-end! e = rw e

-- ---- steps before the end

pub data Going : List Step → Type 0 where
  end : Going []
  on : {x : Step} {xs : List Step} → is_close x ≡ false → Going xs → Going (x ∷ xs)

going-append : {a b : List Step} → Going a → Going b → Going (a ++ b)
going-append end q = q
going-append (on h p) q = on h (going-append p q)

gather-going : (dest : ℕ) (ps : List ℕ) → Going (gather dest ps)
unfolding gather is_close
gather-going dest [] = end
gather-going dest (p ∷ ps) =
    pick-either Going (eqb p dest) (gather dest ps) (take_out p dest ∷ bring_in p dest 1 ∷ gather dest ps) (gather-going dest ps)
    (on refl (on refl (gather-going dest ps)))

gather-few : (dest : ℕ) (ps : List ℕ) → length (gather dest ps) ≤ 2 * length ps
unfolding gather
gather-few dest [] = omega arith
gather-few dest (p ∷ ps) =
    pick-either (λ (x : List Step). length x ≤ 2 * length (p ∷ ps)) (eqb p dest) (gather dest ps) (take_out p dest ∷ bring_in p dest 1 ∷ gather dest ps)
    (omega (arith, gather-few dest ps)) (omega (arith, gather-few dest ps))

removals-going : (base : ℕ) (ps : List ℕ) → Going (removals base ps)
unfolding removals is_close
removals-going base [] = end
removals-going base (p ∷ ps) = on refl (removals-going base ps)

removals-long : (base : ℕ) (ps : List ℕ) → length (removals base ps) ≡ length ps
unfolding removals
removals-long base [] = refl
removals-long base (p ∷ ps) = ap suc (removals-long base ps)

others-few : (n : ℕ) (ps : List ℕ) → length ps ≤ suc n → length (others ps) ≤ n
unfolding others
others-few n [] h = omega arith
others-few n (p ∷ ps) h = omega arith

replacing-going : (base c dest : ℕ) → Going (replacing base c dest)
unfolding replacing is_close
replacing-going base c dest = pick-either Going (eqb c dest) [] (point base c dest false ∷ []) end (on refl end)

replacing-few : (base c dest : ℕ) → length (replacing base c dest) ≤ 1
unfolding replacing
replacing-few base c dest = pick-either (λ (x : List Step). length x ≤ 1) (eqb c dest) [] (point base c dest false ∷ []) (omega arith) (omega arith)

-- at most 24 steps, none of them the end
pub record Body (xs : List Step) : Type 0 where
  pub going : Going xs
  pub few : length xs ≤ 24

compact-body : (base dest : ℕ) (ls : List ℕ) → length ls ≤ 8 → Body (compact_plan base dest ls)
unfolding compact_plan
compact-body base dest ls h =
    let a : List Step = gather dest ls in
    let b : List Step = replacing base (get_or ls 0 0) dest in
    let c : List Step = removals base (others ls) in
    record {
      going = going-append (gather-going dest ls) (going-append (replacing-going base (get_or ls 0 0) dest) (removals-going base (others ls)));
      few = rw (length-append a (b ++ c), length-append b c)
          (omega (arith, gather-few dest ls, replacing-few base (get_or ls 0 0) dest, removals-long base (others ls), others-few 7 ls h));
    }

move-body : (base org dest : ℕ) → Body (move_plan base org dest)
unfolding move_plan is_close
move-body base org dest = record { going = on refl (on refl (on refl end)); few = omega arith }

swap-body : (p q a b : ℕ) → Body (swap_plan p q a b)
unfolding swap_plan is_close
swap-body p q a b = record { going = on refl (on refl (on refl (on refl (on refl (on refl end))))); few = omega arith }

none-body : Body []
none-body = record { going = end; few = omega arith }

-- a plan is such steps, and the end
pub record Plan (g : Begin) : Type 0 where
  pub body : List Step
  pub is : plan g ≡ body ++ (close g.unit ∷ [])
  pub of : Body body

pub plan-body : (g : Begin) → begin_ok g ≡ true → Plan g
unfolding plan
plan-body g ok = record {
  body = _;
  is = refl;
  of = pick-either Body (eqb g.type 1) _ _ (compact-body _ g.dest g.leaves (begin_ok-limits g ok).leaves)
      (pick-either Body (eqb g.type 2) _ _ (swap-body _ _ _ _) (pick-either Body (saves g) _ _ none-body (move-body _ _ g.dest)));
}

-- ---- where the end is

at-end : (u : ℕ) (xs : List Step) (d : Step) (i : ℕ) → Going xs → i < length (xs ++ (close u ∷ [])) → is_close (get_or (xs ++ (close u ∷ [])) i d) ≡ true → i ≡ length xs
at-end u [] d zero end h t = refl
at-end u [] d (suc i) end h t = absurd (let x : ⊥ = omega arith in x)
at-end u (x ∷ xs) d zero (on k p) h t = absurd (false≢true (sym k ∙ t))
at-end u (x ∷ xs) d (suc i) (on k p) h t = ap suc (at-end u xs d i p (omega arith) t)

before-end : (u : ℕ) (xs : List Step) (d : Step) (i : ℕ) → Going xs → i < length (xs ++ (close u ∷ [])) → is_close (get_or (xs ++ (close u ∷ [])) i d) ≡ false → i < length xs
unfolding is_close
before-end u [] d zero end h t = absurd (false≢true (sym t))
before-end u [] d (suc i) end h t = absurd (let x : ⊥ = omega arith in x)
before-end u (x ∷ xs) d zero (on k p) h t = omega arith
before-end u (x ∷ xs) d (suc i) (on k p) h t = omega (arith, before-end u xs d i p (omega arith) t)

keeps-at : (xs : List Step) (d : Step) (i : ℕ) → Keeping xs → i < length xs → StepKeeps (get_or xs i d)
keeps-at [] d i k h = absurd (not-suc-le-zero h)
keeps-at (x ∷ xs) d zero (one_more h k) l = h
keeps-at (x ∷ xs) d (suc i) (one_more h k) l = keeps-at xs d i k (omega arith)

keeps-inside : (x : Step) → StepKeeps x → Inside x
keeps-inside (take_out org dest) h = omega (arith, h.1)
keeps-inside (bring_in org dest back) h = tt
keeps-inside (point base old new other) h = tt
keeps-inside (close unit) h = tt

module _ (g : Begin) (ok : begin_ok g ≡ true) where
  long : length (plan g) ≡ length (plan-body g ok).body + 1
  long = ap length (plan-body g ok).is ∙ length-append (plan-body g ok).body (close g.unit ∷ [])

  pub plan-few : length (plan g) ≤ 25
  plan-few = omega (arith, long, (plan-body g ok).of.few)

  module _ (i : ℕ) (h : i < length (plan g)) (x d : Step) (e : x ≡ get_or (plan g) i d) where
    pub step-inside : Inside x
    step-inside = rw e (keeps-inside (get_or (plan g) i d) (keeps-at (plan g) d i (plan-keeps g ok) h))

    here : is_close x ≡ is_close (get_or ((plan-body g ok).body ++ (close g.unit ∷ [])) i d)
    here = ap is_close (e ∙ ap (λ (l : List Step). get_or l i d) (plan-body g ok).is)

    inside : i < length ((plan-body g ok).body ++ (close g.unit ∷ []))
    inside = rw (← (plan-body g ok).is) h

    pub step-more : is_close x ≡ false → i + 1 < length (plan g)
    step-more t = omega (arith, long, before-end g.unit (plan-body g ok).body d i (plan-body g ok).of.going inside (sym here ∙ t))

    pub step-last : is_close x ≡ true → i + 1 ≡ length (plan g)
    step-last t = omega (arith, long, at-end g.unit (plan-body g ok).body d i (plan-body g ok).of.going inside (sym here ∙ t))

    pub room_next : (w : List ℕ) → room w (drop i (plan g)) ≡ step_size w x + room w (drop (i + 1) (plan g))
    unfolding room
    room_next w = rw (drop-cons (plan g) i d h, ← e, add-one i)

    pub room-last : (w : List ℕ) → is_close x ≡ true → room w (drop i (plan g)) ≡ step_size w x
    room-last w t =
        let k : length (plan g) ≤ i + 1 = omega (arith, step-last t) in
        room_next w ∙ rw (drop_of_length-le (plan g) k) (unfold room in omega arith)
