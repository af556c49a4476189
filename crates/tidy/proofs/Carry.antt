-- A unit that runs over the tree that the pages show is carried out on the pages, which then show the tree after it. Assumes nothing.
use Prim.Native.Nat.{ℕ, ◌+◌, ◌≤◌}
use native.Mathlib.Omega.{arith}
use mathlib.Core.Path.{◌≡◌, refl, ◌∙◌}
use mathlib.Core.Logic.{◌⊎◌, inl, inr, ⊎_elim}
use mathlib.Core.List.{List, [], ◌∷◌}
use lib.ListN.{length}
use Rattle.page.specs.Pages.{page}
use Rattle.page.specs.Places.{Leafy}
use Rattle.logs.specs.Record.{Rec, LE, kind_of, carried, outs, size}
use Rattle.logs.specs.Plan.{Step, take_out, bring_in, point, close}
use Rattle.unit.specs.Next.{places_of, targets, target_of, page_of, next_rec, step_size}
use Rattle.unit.proofs.Places.{StepKeeps, Keeping, one_more}
use Rattle.unit.proofs.Pagewise.{apply-stays}
use Rattle.tidy.specs.Tidy.{Carried}
use Rattle.tidy.proofs.Model.{State}
use Rattle.tidy.proofs.Run.{Run}
use Rattle.tidy.proofs.Shown.{Shows, AllMoved, Clear, Stepped, base-clear}
use Rattle.tidy.proofs.Step.{out_step, in_step, point-step, remove-step}

-- no page is taken out after it was changed
abbrev pub Apart : List Step → Type 0
Apart [] = Unit {0}
Apart (take_out q d ∷ xs) = Clear q xs × Apart xs
Apart (bring_in q d k ∷ xs) = Clear d xs × Apart xs
Apart (point b old new other ∷ xs) = Apart xs
Apart (close u ∷ xs) = Apart xs

-- the steps were carried out, and the pages show the tree s'; the root page is the same
pub record Carries (n : ℕ) (did : List Rec) (todo : List Step) (w : List ℕ) (rs : List Rec) (s' : State) : Type 0 where
  pub after : List ℕ
  pub carried-out : Carried n did todo w after rs
  pub shows : Shows after s'
  pub top : page 0 after ≡ page 0 w

-- one step in front
one-step : {n : ℕ} {did : List Rec} {x : Step} {xs : List Step} {w : List ℕ} {r : Rec} {rs : List Rec} {s s' : State} (st : Stepped n did x xs w r s)
    → Carries (n + 1) (r ∷ did) xs st.now rs s' → Carries n did (x ∷ xs) w (r ∷ rs) s'
one-step st c =
    record {
      after = c.after;
      carried-out = Carried.step st.form st.next st.applied st.counted st.left st.shows.sound c.carried-out;
      shows = c.shows;
      top = c.top ∙ st.top;
    }

-- LE changes no page
close-step : (n u : ℕ) (did : List Rec) (xs : List Step) (w : List ℕ) (s : State) → Shows w s → Stepped n did (close u) xs w (LE u []) s
unfolding next_rec target_of page_of step_size size kind_of carried targets places_of
close-step n u did xs w s sh =
    record { now = w; form = tt; next = refl; applied = apply-stays n (LE u []) w refl; counted = refl; left = refl; shows = sh; top = refl }

-- the page that an LM points to is no 0
leaf-to : (new : ℕ) → 1 ≤ new → (new ≡ 0) ⊎ Leafy new → Leafy new
leaf-to new h t = ⊎_elim (λ (z : new ≡ 0). absurd (omega arith)) (λ (l : Leafy new). l) t

-- the first step keeps to the regions
keeping-1 : {x : Step} {xs : List Step} → Keeping (x ∷ xs) → StepKeeps x
keeping-1 (one_more h k) = h

-- so do the others
keeping-2 : {x : Step} {xs : List Step} → Keeping (x ∷ xs) → Keeping xs
keeping-2 (one_more h k) = k

-- by the steps of the run
pub carry : {did : List Rec} {todo : List Step} {s s' : State} {rs : List Rec} → Run did todo s s' rs → (n : ℕ) (w : List ℕ) → Shows w s → AllMoved did
    → Keeping todo → Apart todo → n + length todo ≤ 4294967296 → Carries n did todo w rs s'
unfolding outs
carry Run.done n w sh am k a few = record { after = w; carried-out = Carried.done; shows = sh; top = refl }
carry (Run.takes {did = did} {p = p} {d = d} {xs = xs} {l = l} {b = b} f run) n w sh am k a few =
    let st = out_step n did xs w l b sh (omega arith) p d (keeping-1 k) a.0 f in
    one-step st.0 (carry run (n + 1) st.0.now st.0.shows (inr st.1, am) (keeping-2 k) a.1 (omega arith))
carry (Run.brings {did = did} {p = p} {d = d} {back = back} {xs = xs} {l = l} {b = b} v e f short up run) n w sh am k a few =
    let st = in_step n did xs w l b sh (omega arith) p d back v (keeping-1 k) a.0 am e f short up in
    one-step st (carry run (n + 1) st.now st.shows (inl refl, am) (keeping-2 k) a.1 (omega arith))
carry (Run.points {did = did} {q = q} {old = old} {new = new} {other = other} {xs = xs} {l = l} {b = b} key h e run) n w sh am k a few =
    let r = keeping-1 k in
    let st = point-step n did xs w l b sh (omega arith) q old key other r.0 (base-clear q r.0.1 (keeping-2 k)) e new (leaf-to new h r.1) in
    one-step st (carry run (n + 1) st.now st.shows (inl refl, am) (keeping-2 k) a (omega arith))
carry (Run.removes {did = did} {q = q} {old = old} {other = other} {xs = xs} {l = l} {b = b} key e two run) n w sh am k a few =
    let r = keeping-1 k in
    let st = remove-step n did xs w l b sh (omega arith) q old key other r.0 (base-clear q r.0.1 (keeping-2 k)) e two in
    one-step st (carry run (n + 1) st.now st.shows (inl refl, am) (keeping-2 k) a (omega arith))
carry (Run.closes {did = did} {u = u} {xs = xs} {s = s} run) n w sh am k a few =
    let st = close-step n u did xs w s sh in
    one-step st (carry run (n + 1) st.now st.shows (inl refl, am) (keeping-2 k) a (omega arith))
