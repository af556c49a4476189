-- The contract of each of the twelve calls, as it stands beside the code, is the equation that `Fixed` speaks of: a are the arguments in the order in
-- which the call has them, the first being the numbers, r is what it returns and e its parameters at exit. Assumes nothing.
use Prim.Native.Nat.{ℕ}
use mathlib.Core.Path.{◌≡◌, refl}
use mathlib.Core.List.{List, []}
use seplogic.Ra.Ura.{Ura}
use base.Logic.{SProp}
use prog.Memory.{Memory}
use prog.Routine.{Routine}
use types.Logic.{Logic}
use contract.Lifetimes.{Lfts}
use contract.Monad.{Fun, fact}
use denote.Triple.Entry.{Args, Res}
use denote.Triple.Clauses.{Ended, AtExit, Clauses}
use Rattle.store.specs.declared.known.Numbers.{Numbers}
use Rattle.store.specs.Calls.{Lent, lent}
use Rattle.store.specs.Calls as Calls
use Rattle.building.specs.contracts.build as build
use Rattle.recovering.specs.contracts.recover as recover
use Rattle.beginning.specs.contracts.begin_compact as begin-compact
use Rattle.beginning.specs.contracts.begin_order as begin-order
use Rattle.putting.specs.contracts.begin_put as begin-put
use Rattle.putting.specs.contracts.begin_delete as begin-delete
use Rattle.stepping.specs.contracts.step as step
use Rattle.flushing.specs.contracts.flush as flush
use Rattle.forcing.specs.contracts.force as force
use Rattle.checkpointing.specs.contracts.checkpoint as checkpoint
use Rattle.finding.specs.contracts.find as find
use Rattle.answering.specs.contracts.list as list
use Rattle.promise.specs.Fixed.{Result, replied, recovered, found, listed}

abbrev lent_to : Numbers → (work store log bytes : List ℕ) → Lent
lent_to n w s l b = lent n.used n.forced w s l b

abbrev result : {R : Type 0} → R → (work store log bytes : List ℕ) → Result R
result r w s l b = record { answer = r; work = w; store = s; log = l; bytes = b }

module _ {M : Type 1} {𝓤 : Ura M} (𝓛 : Logic 𝓤) (mem : Memory → SProp 𝓤) (run : Routine → Fun 𝓤) where
  -- a contract ensures the fact P and nothing else
  abbrev pub Says : (T : Ended) → Clauses 𝓤 T
      → (P : (κs : Lfts T.signature.lifetimes) → Args T.signature κs → Res T.signature κs → AtExit T κs → Type 0) → Type 2
  Says T c P =
      (κs : Lfts T.signature.lifetimes) (a : Args T.signature κs) (g : (c κs a).ghost) (r : Res T.signature κs) (e : AtExit T κs)
      → (c κs a).ensures g r e ≡ fact 𝓤 (P κs a r e)

  pub build-says : Says build.ended (build.clauses 𝓛 mem run)
      (λ κs a r e. replied (result r e.1.0.now e.1.1.0.now e.1.1.1.0.now a.1.1.1.1.0.now)
      ≡ Calls.build a.1.1.1.1.1.0 a.1.1.1.1.1.1.0
      (lent_to a.0 a.1.0.now a.1.1.0.now a.1.1.1.0.now a.1.1.1.1.0.now))
  build-says κs a g r e = refl

  pub recover-says : Says recover.ended (recover.clauses 𝓛 mem run)
      (λ κs a r e. recovered (result r e.1.0.now a.1.1.0.now e.1.1.1.0.now [])
      ≡ Calls.recover (lent_to a.0 a.1.0.now a.1.1.0.now a.1.1.1.0.now []))
  recover-says κs a g r e = refl

  pub begin-compact-says : Says begin-compact.ended (begin-compact.clauses 𝓛 mem run)
      (λ κs a r e. replied (result r a.1.0.now [] e.1.1.0.now [])
      ≡ Calls.begin_compact a.1.1.1.0 (lent_to a.0 a.1.0.now [] a.1.1.0.now []))
  begin-compact-says κs a g r e = refl

  pub begin-order-says : Says begin-order.ended (begin-order.clauses 𝓛 mem run)
      (λ κs a r e. replied (result r a.1.0.now [] e.1.1.0.now [])
      ≡ Calls.begin_order (lent_to a.0 a.1.0.now [] a.1.1.0.now []))
  begin-order-says κs a g r e = refl

  pub begin-put-says : Says begin-put.ended (begin-put.clauses 𝓛 mem run)
      (λ κs a r e. replied (result r a.1.0.now [] e.1.1.0.now a.1.1.1.0.now)
      ≡ Calls.begin_put (lent_to a.0 a.1.0.now [] a.1.1.0.now a.1.1.1.0.now))
  begin-put-says κs a g r e = refl

  pub begin-delete-says : Says begin-delete.ended (begin-delete.clauses 𝓛 mem run)
      (λ κs a r e. replied (result r a.1.0.now [] e.1.1.0.now [])
      ≡ Calls.begin_delete a.1.1.1.0 (lent_to a.0 a.1.0.now [] a.1.1.0.now []))
  begin-delete-says κs a g r e = refl

  pub step-says : Says step.ended (step.clauses 𝓛 mem run)
      (λ κs a r e. replied (result r e.1.0.now [] e.1.1.0.now [])
      ≡ Calls.step (lent_to a.0 a.1.0.now [] a.1.1.0.now []))
  step-says κs a g r e = refl

  pub flush-says : Says flush.ended (flush.clauses 𝓛 mem run)
      (λ κs a r e. replied (result r a.1.0.now e.1.1.0.now a.1.1.1.0.now [])
      ≡ Calls.flush a.1.1.1.1.0 (lent_to a.0 a.1.0.now a.1.1.0.now a.1.1.1.0.now []))
  flush-says κs a g r e = refl

  pub force-says : Says force.ended (force.clauses 𝓛 mem run)
      (λ κs a r e. replied (result r [] [] a.1.0.now [])
      ≡ Calls.force (lent_to a.0 [] [] a.1.0.now []))
  force-says κs a g r e = refl

  pub checkpoint-says : Says checkpoint.ended (checkpoint.clauses 𝓛 mem run)
      (λ κs a r e. replied (result r a.1.0.now a.1.1.0.now e.1.1.1.0.now [])
      ≡ Calls.checkpoint a.1.1.1.1.0 (lent_to a.0 a.1.0.now a.1.1.0.now a.1.1.1.0.now []))
  checkpoint-says κs a g r e = refl

  pub find-says : Says find.ended (find.clauses 𝓛 mem run)
      (λ κs a r e. found (result r a.1.0.now [] a.1.1.0.now [])
      ≡ Calls.find a.1.1.1.0 (lent_to a.0 a.1.0.now [] a.1.1.0.now []))
  find-says κs a g r e = refl

  pub list-says : Says list.ended (list.clauses 𝓛 mem run)
      (λ κs a r e. listed (result r a.1.0.now [] a.1.1.0.now e.1.1.1.1.1.0.now)
      ≡ Calls.list a.1.1.1.0 a.1.1.1.1.0 (lent_to a.0 a.1.0.now [] a.1.1.0.now a.1.1.1.1.1.0.now))
  list-says κs a g r e = refl
