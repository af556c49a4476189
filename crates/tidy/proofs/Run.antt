-- The steps of a unit over a tree: what each asks and does, and its record. The premises are what reply 5 tests. Assumes nothing.
use Prim.Native.Nat.{ℕ, ◌≤◌}
use mathlib.Core.Path.{◌≡◌, refl, sym, subst}
use mathlib.Core.Bool.{Bool, false}
use mathlib.Core.List.{List, [], ◌∷◌, ◌++◌, map}
use mathlib.Core.Option.{none, some}
use lib.ListN.{length}
use Rattle.field.specs.Test.{pick}
use Rattle.page.specs.Page.{key_of}
use Rattle.logs.specs.Record.{Rec, LO, LI, LM, LE, carried, outs}
use Rattle.logs.specs.Plan.{Step, take_out, bring_in, point, close}
use Rattle.logs.specs.Log.{taken}
use Rattle.unit.specs.Next.{skipped}
use Rattle.tidy.proofs.Model.{Entry, Ascends, full, upd, redirect, strip, lowest, State, state, Tree, contents}

-- the steps todo lead from s to s' with the records rs; the records before are did, the latest first
pub data Run : (did : List Rec) (todo : List Step) (s s' : State) (rs : List Rec) → Type 0 where
  done : {did : List Rec} {s : State} → Run did [] s s []
  takes : {did : List Rec} {p d : ℕ} {xs : List Step} {l : ℕ → List (List ℕ)} {b : ℕ → List Entry} {s' : State} {rs : List Rec} → 1 ≤ full (l p)
      → Run (LO p d (l p) ∷ did) xs (state (upd l p []) b) s' rs → Run did (take_out p d ∷ xs) (state l b) s' (LO p d (l p) ∷ rs)
  brings : {did : List Rec} {p d back : ℕ} {xs : List Step} {l : ℕ → List (List ℕ)} {b : ℕ → List Entry} {s' : State} {rs : List Rec} (v : List (List ℕ))
      → v ≡ taken back did → 1 ≤ full v → length (l d ++ v) ≤ 15 → Ascends 0 (map key_of (l d ++ v))
      → Run (LI p d back v ∷ did) xs (state (upd l d (l d ++ v)) b) s' rs → Run did (bring_in p d back ∷ xs) (state l b) s' (LI p d back v ∷ rs)
  points : {did : List Rec} {q old new : ℕ} {other : Bool} {xs : List Step} {l : ℕ → List (List ℕ)} {b : ℕ → List Entry} {s' : State} {rs : List Rec} (k : ℕ)
      → 1 ≤ new → lowest (skipped other did) old (b q) ≡ some k
      → Run (LM q old new k ∷ did) xs (state l (upd b q (map (redirect k old new) (b q)))) s' rs
      → Run did (point q old new other ∷ xs) (state l b) s' (LM q old new k ∷ rs)
  removes : {did : List Rec} {q old : ℕ} {other : Bool} {xs : List Step} {l : ℕ → List (List ℕ)} {b : ℕ → List Entry} {s' : State} {rs : List Rec} (k : ℕ)
      → lowest (skipped other did) old (b q) ≡ some k → 2 ≤ length (b q)
      → Run (LM q old 0 k ∷ did) xs (state l (upd b q (strip k old (b q)))) s' rs
      → Run did (point q old 0 other ∷ xs) (state l b) s' (LM q old 0 k ∷ rs)
  closes : {did : List Rec} {u : ℕ} {xs : List Step} {s s' : State} {rs : List Rec} → Run (LE u [] ∷ did) xs s s' rs → Run did (close u ∷ xs) s s' (LE u [] ∷ rs)

-- whatever came before
abbrev pub Always : (todo : List Step) (s s' : State) → Type 0
Always xs s s' = (did : List Rec) → (rs : List Rec) × Run did xs s s' rs

-- the steps run to their end, and leave a well-formed tree with the same records
pub record Kept (root : List Entry) (xs : List Step) (s : State) : Type 0 where
  pub end : State
  pub runs : Always xs s end
  pub well : Tree root end
  pub same : contents root end ≡ contents root s

-- ---- steps in front

-- LE
pub close-on : (u : ℕ) (s : State) → Always (close u ∷ []) s s
close-on u s did = (LE u [] ∷ [], closes done)

-- an LO and its LI; v is what the destination then has
pub pair-on : (p d : ℕ) (xs : List Step) (l : ℕ → List (List ℕ)) (b : ℕ → List Entry) (s' : State) (v : List (List ℕ)) → 1 ≤ full (l p)
    → upd l p [] d ++ l p ≡ v → length v ≤ 15 → Ascends 0 (map key_of v) → Always xs (state (upd (upd l p []) d v) b) s'
    → Always (take_out p d ∷ bring_in p d 1 ∷ xs) (state l b) s'
unfolding taken carried outs
pair-on p d xs l b s' v f e h a k did =
    let did' : List Rec = LI p d 1 (l p) ∷ LO p d (l p) ∷ did in
    let k' : Always xs (state (upd (upd l p []) d (upd l p [] d ++ l p)) b) s' = subst (λ (x : List (List ℕ)). Always xs (state (upd (upd l p []) d x) b) s') (sym e) k in
    let r = k' did' in
    (LO p d (l p) ∷ LI p d 1 (l p) ∷ r.0, takes f (brings {d = d} {l = upd l p []} {b = b} (l p) refl f (rw e h) (rw e a) r.1))

-- an LM that points elsewhere
pub point-on : (q old new k : ℕ) (xs : List Step) (l : ℕ → List (List ℕ)) (b : ℕ → List Entry) (s' : State) → 1 ≤ new → lowest none old (b q) ≡ some k
    → Always xs (state l (upd b q (map (redirect k old new) (b q)))) s' → Always (point q old new false ∷ xs) (state l b) s'
unfolding skipped pick
point-on q old new k xs l b s' h e r did = let t = r (LM q old new k ∷ did) in (LM q old new k ∷ t.0, points k h e t.1)

-- an LM that removes
pub remove-on : (q old k : ℕ) (xs : List Step) (l : ℕ → List (List ℕ)) (b : ℕ → List Entry) (s' : State) → lowest none old (b q) ≡ some k → 2 ≤ length (b q)
    → Always xs (state l (upd b q (strip k old (b q)))) s' → Always (point q old 0 false ∷ xs) (state l b) s'
unfolding skipped pick
remove-on q old k xs l b s' e h r did = let t = r (LM q old 0 k ∷ did) in (LM q old 0 k ∷ t.0, removes k e h t.1)
