-- From a walk to a contract. A walk begins at what the contract owns at entry and ends in the contract's own `post`, so nothing is asked of what the
-- parameters are, and what a callee says of last values is what the caller says.
--     Walk, meets                        a run meets a contract, from a walk with the parameters' machine values written out
--     WalksOver, met-over                a function of one callee meets its contract, from a walk over the callee's
--     owns_beside, LastBeside, says_beside     what the parameters after the first own, what is bound for them at exit, and what is said of that
--     asks_nothing                       a callee without `requires`
--     leaves                             a contract's `post`, at a result and last values that are named
-- Assumes `Logic`.
use mathlib.Core.Path.{◌≡◌}
use Prim.Native.Nat.{ℕ}
use mathlib.Core.List.{List, [], ◌∷◌}
use seplogic.Ra.Ura.{Ura}
use mir.Syntax.{Callee, Fn}
use base.Logic.{SProp, ent, sep, ex, emp, via, comm∗, emp∗, ex_i, mono_l, mono_r, wand, wand_i, apply∗}
use base.Fml.{Fml, ftrue}
use prog.Model.{Model}
use prog.Routine.{Routine, Env}
use prog.Wp.{Calls, Loops, WpFn, Closed}
use types.Logic.{Logic}
use contract.Monad.{Fun}
use contract.Lifetimes.{Lfts, Shares, AllOutlive}
use contract.Running.{Running, tables, tables_of}
use sound.WpLaws.{FmC, fm_of}
use denote.RattleType.{RattleType, Denots, Valss, owns, flat}
use denote.Laws.{Are, Ises, Spells, valss, Tellss}
use denote.Signature.{Slot, Signature, types_at}
use denote.Steps.{said}
use denote.Triple.End.{Kepts, Fins, lasts_of}
use denote.Triple.Entry.{Args, Vals, on_entry}
use denote.Triple.Spec.{Spec, Meets, triple_of}
use denote.Triple.Statement.{Triple}
use denote.Triple.Table.{entered, cited}

-- ---- the parameters after the first
abbrev pub owns_beside : (Rs : List RattleType) → Denots Rs → Valss Rs → Fml
owns_beside [] a vss = ftrue
owns_beside (R ∷ Rs) a vss = owns Rs a.1 vss.1

abbrev pub LastBeside : {n : ℕ} (κs : Lfts n) (ss : List (Slot n)) (ks : Kepts ss) → Denots (types_at ss κs) → Type 0
LastBeside κs [] ks a = Unit {0}
LastBeside κs (s ∷ ss) ks a = Fins κs ss ks.1 a.1

abbrev pub says_beside : {n : ℕ} (κs : Lfts n) (ss : List (Slot n)) (ks : Kepts ss) (a : Denots (types_at ss κs)) → LastBeside κs ss ks a → Fml
says_beside κs [] ks a ws = ftrue
says_beside κs (s ∷ ss) ks a ws = lasts_of κs ss ks.1 a.1 ws

module _ {M : Type 1} {𝓤 : Ura M} (𝓛 : Logic 𝓤) where
  open 𝓛 use {H}

  pub asks_nothing : (P : SProp 𝓤) → ent 𝓤 P (sep 𝓤 P (emp 𝓤))
  asks_nothing P = via 𝓤 (sep 𝓤 (emp 𝓤) P) (emp∗ 𝓤 P) (comm∗ 𝓤 (emp 𝓤) P)

  -- B is what is owned beside a result, Z what is said of it and of the last values
  pub leaves : (P : SProp 𝓤) {X Y : Type 0} (B : X → SProp 𝓤) (Z : X → Y → SProp 𝓤) (x : X) (ws : Y) → ent 𝓤 P (sep 𝓤 (B x) (Z x ws)) → ent 𝓤 P
      (H.⇛ (ex 𝓤 (λ (x' : X). sep 𝓤 (B x') (ex 𝓤 (Z x')))))
  leaves P {X} B Z x ws e =
      let at_last = via 𝓤 (sep 𝓤 (B x) (Z x ws)) e (mono_r 𝓤 (B x) (ex_i 𝓤 (Z x) ws)) in
      let at-result = via 𝓤 (sep 𝓤 (B x) (ex 𝓤 (Z x))) at_last (ex_i 𝓤 (λ (x' : X). sep 𝓤 (B x') (ex 𝓤 (Z x'))) x) in
      via 𝓤 (ex 𝓤 (λ (x' : X). sep 𝓤 (B x') (ex 𝓤 (Z x')))) at-result (𝓛.laws.⇛_intro _)

  -- ---- a run meets a contract
  abbrev pub Walk : (S : Signature) → Spec 𝓤 S → Fun 𝓤 → ((κs : Lfts S.lifetimes) → Spells (types_at S.params κs)) → Type 1
  Walk S c run sp = (κs : Lfts S.lifetimes) (qs : Shares S.lifetimes) (bounds : AllOutlive S.lifetimes S.outlives κs) (a : Args S κs) (g : (c κs a).ghost)
      → Are (types_at S.params κs) (Ises (types_at S.params κs)) a (valss (types_at S.params κs) (sp κs) a)
      → ent 𝓤 (sep 𝓤 (on_entry 𝓛 S κs qs a (valss (types_at S.params κs) (sp κs) a)) ((c κs a).requires g))
      (run (flat (types_at S.params κs) (valss (types_at S.params κs) (sp κs) a)) ((triple_of 𝓛 S c).post ((κs, qs, bounds, a, valss (types_at S.params κs) (sp κs) a), g)))

  pub meets : (S : Signature) (c : Spec 𝓤 S) (run : Fun 𝓤) (sp : (κs : Lfts S.lifetimes) → Spells (types_at S.params κs))
      → ((κs : Lfts S.lifetimes) → Tellss (types_at S.params κs) (Ises (types_at S.params κs)) (sp κs)) → Walk S c run sp → Meets 𝓛 S run c
  meets S c run sp tells walk y =
      let κs : Lfts S.lifetimes = y.0.0 in
      let P : SProp 𝓤 = (c κs y.0.3).requires y.1 in
      let Q : Vals S κs → SProp 𝓤 = λ us. run (flat (types_at S.params κs) us) ((triple_of 𝓛 S c).post ((κs, y.0.1, y.0.2, y.0.3, us), y.1)) in
      via 𝓤 (sep 𝓤 P (wand 𝓤 P (Q y.0.4)))
      (via 𝓤 (sep 𝓤 (wand 𝓤 P (Q y.0.4)) P)
      (mono_l 𝓤 P (said 𝓛 S κs y.0.1 (sp κs) (tells κs) y.0.3 (λ us. wand 𝓤 P (Q us)) y.0.4
      (λ are. wand_i 𝓤 _ P _ (walk κs y.0.1 y.0.2 y.0.3 y.1 are))))
      (comm∗ 𝓤 (wand 𝓤 P (Q y.0.4)) P))
      (apply∗ 𝓤 P (Q y.0.4))

-- ---- a function that calls one other
module _ {M : Type 1} {𝓤 : Ura M} (𝓛 : Logic 𝓤) where
  -- of the calls C the walk may use that they are monotone under a frame, and that the callee k' meets the contract c'
  open 𝓛 use {H}

  abbrev pub WalksOver : (S : Signature) → Spec 𝓤 S → Fn → ((κs : Lfts S.lifetimes) → Spells (types_at S.params κs)) → Callee →
      (S' : Signature) → Spec 𝓤 S' → Type 2
  WalksOver S c e sp k' S' c' = (C : Calls 𝓤 H) (Λ : Loops 𝓤 H) → FmC 𝓤 H 𝓛.laws C → Triple 𝓤 (C k') (triple_of 𝓛 S' c') → Walk 𝓛 S c (WpFn 𝓤 H C Λ e) sp

  -- γ says what the calls in the code e of the function k mean; r' is the callee's routine
  pub met-over : (𝓜 : Model 𝓤 H) (𝓡 : Running 𝓤 H 𝓜) (S : Signature) (c : Spec 𝓤 S) (γ : Env) (k : Callee) (e : Fn) → Closed 𝓤 H
      (tables 𝓤 H 𝓜 𝓡 γ).C (tables 𝓤 H 𝓜 𝓡 γ).Λ k e
      → (sp : (κs : Lfts S.lifetimes) → Spells (types_at S.params κs)) → ((κs : Lfts S.lifetimes) → Tellss (types_at S.params κs) (Ises (types_at S.params κs)) (sp κs))
      → (k' : Callee) (r' : Routine) → γ k' ≡ r' → (S' : Signature) (c' : Spec 𝓤 S') → Triple 𝓤 (𝓡.run r') (triple_of 𝓛 S' c') → WalksOver
      S c e sp k' S' c'
      → Triple 𝓤 ((tables 𝓤 H 𝓜 𝓡 γ).C k) (triple_of 𝓛 S c)
  unfolding tables_of
  met-over 𝓜 𝓡 S c γ k e closed sp tells k' r' is S' c' met walk =
      let 𝓣 = tables 𝓤 H 𝓜 𝓡 γ in
      entered 𝓤 H (triple_of 𝓛 S c) 𝓣.C 𝓣.Λ k e closed
      (meets 𝓛 S c (WpFn 𝓤 H 𝓣.C 𝓣.Λ e) sp tells
      (walk 𝓣.C 𝓣.Λ (fm_of 𝓤 H 𝓛.laws (tables_of 𝓤 H 𝓜 𝓣)) (cited 𝓤 H (triple_of 𝓛 S' c') 𝓜 𝓡 γ k' r' is met)))
