-- Steps and records keep to the regions: an LO and an LI change a leaf page, an LM a base page, and it points to a leaf page or removes.
-- So it is of every step that a begin record in form gives, and of every record of a log in form. Assumes nothing.
use Prim.Native.Nat.{ℕ, zero, suc, ◌≤◌, ◌<◌}
use native.Mathlib.Omega.{arith}
use mathlib.Core.Path.{◌≡◌, refl, ap}
use mathlib.Core.Logic.{◌⊎◌, inl, inr}
use mathlib.Core.Bool.{Bool, true, false}
use mathlib.Core.List.{List, [], ◌∷◌, ◌++◌}
use mathlib.Core.Option.{Option, some, none}
use lib.ListN.{length, drop, get_or}
use lib.Dec.{eqb}
use borrow.Author.Tests.{eqb-true, leb-true}
use Rattle.field.specs.Test.{both, pick, bind}
use Rattle.field.proofs.Test.{both-2, all_head, all_tail}
use Rattle.page.specs.Page.{first_base, last_base, first_leaf, last_leaf}
use Rattle.page.specs.Places.{Leafy, Basic}
use Rattle.logs.specs.Record.{Begin, saves, Rec, LB, LO, LI, LM, LG, LE}
use Rattle.logs.specs.Plan.{Step, take_out, bring_in, point, close, gather, removals, others, replacing, compact_plan, move_plan, swap_plan, plan}
use Rattle.logs.specs.Log.{Open, State, first, going, noting, opened_by, after, after_all, within, on_bases, on_leaves, compact_ok, swap_ok, move_ok, save_ok, type_ok, begin_ok, Log, at_end, images_of}
use Rattle.logs.proofs.Begin.{within-head, within-tail}
use Rattle.logs.specs.Valid.{Does, does-out, does-in, does-point, does-close, logs-image, logs-end, Follows, begins, goes, logs, Valid, nil, cons, Good, Filed}
use Rattle.logs.proofs.State.{Every}
use Rattle.logs.proofs.Filed.{image-filed}

-- where a step, and where a record changes a page
abbrev pub StepKeeps : Step → Type 0
StepKeeps (take_out org dest) = Leafy org
StepKeeps (bring_in org dest back) = Leafy dest
StepKeeps (point base old new other) = Basic base × ((new ≡ 0) ⊎ Leafy new)
StepKeeps (close unit) = Unit {0}

abbrev pub RecKeeps : Rec → Type 0
RecKeeps (LB g) = Unit {0}
RecKeeps (LO org dest rs) = Leafy org
RecKeeps (LI org dest back rs) = Leafy dest
RecKeeps (LM base old new key) = Basic base × ((new ≡ 0) ⊎ Leafy new)
RecKeeps (LG i) = Unit {0}
RecKeeps (LE unit images) = Filed 0 images

-- every step of a list keeps to the regions
pub data Keeping : List Step → Type 0 where
  no_step : Keeping []
  one_more : {x : Step} {xs : List Step} → StepKeeps x → Keeping xs → Keeping (x ∷ xs)

keeping-append : {a b : List Step} → Keeping a → Keeping b → Keeping (a ++ b)
keeping-append no_step q = q
keeping-append (one_more h p) q = one_more h (keeping-append p q)

keeping-pick : (t : Bool) (a b : List Step) → Keeping a → Keeping b → Keeping (pick t a b)
unfolding pick
keeping-pick true a b p q = p
keeping-pick false a b p q = q

point-keeps : (base old new : ℕ) (other : Bool) → Basic base → (new ≡ 0) ⊎ Leafy new → StepKeeps (point base old new other)
point-keeps base old new other b d = (b, d)

-- ---- the steps of a begin record

gather-keeps : (dest : ℕ) (ps : List ℕ) → Leafy dest → on_leaves ps ≡ true → Keeping (gather dest ps)
unfolding gather
gather-keeps dest [] d e = no_step
gather-keeps dest (p ∷ ps) d e =
    let rest = gather-keeps dest ps d (within-tail first_leaf last_leaf p ps e) in
    keeping-pick (eqb p dest) _ _ rest (one_more (within-head first_leaf last_leaf p ps e) (one_more d rest))

removals-keeps : (base : ℕ) (ps : List ℕ) → Basic base → Keeping (removals base ps)
unfolding removals
removals-keeps base [] b = no_step
removals-keeps base (p ∷ ps) b = one_more (point-keeps base p 0 false b (inl refl)) (removals-keeps base ps b)

replacing-keeps : (base c dest : ℕ) → Basic base → Leafy dest → Keeping (replacing base c dest)
unfolding replacing
replacing-keeps base c dest b d = keeping-pick (eqb c dest) _ _ no_step (one_more (point-keeps base c dest false b (inr d)) no_step)

compact-keeps : (base dest : ℕ) (ls : List ℕ) → Basic base → Leafy dest → on_leaves ls ≡ true → Keeping (compact_plan base dest ls)
unfolding compact_plan
compact-keeps base dest ls b d e =
    keeping-append (gather-keeps dest ls d e) (keeping-append (replacing-keeps base (get_or ls 0 0) dest b d) (removals-keeps base (others ls) b))

move-keeps : (base org dest : ℕ) → Basic base → Leafy org → Leafy dest → Keeping (move_plan base org dest)
unfolding move_plan
move-keeps base org dest b o d = one_more o (one_more d (one_more (point-keeps base org dest false b (inr d)) no_step))

swap-keeps : (p q a b : ℕ) → Basic p → Basic q → Leafy a → Leafy b → Keeping (swap_plan p q a b)
unfolding swap_plan
swap-keeps p q a b hp hq ha hb =
    one_more ha (one_more hb (one_more ha (one_more hb (one_more (point-keeps q b a false hq (inr ha)) (one_more (point-keeps p a b (eqb p q) hp (inr hb)) no_step)))))

-- a page that a list within the region has, by its place; d where the list is shorter
pub within-at : (from to : ℕ) (ps : List ℕ) (i d : ℕ) → within from to ps ≡ true → i < length ps → (from ≤ get_or ps i d) × (get_or ps i d ≤ to)
within-at from to (p ∷ ps) zero d e h = within-head from to p ps e
within-at from to (p ∷ ps) (suc i) d e h = within-at from to ps i d (within-tail from to p ps e) (omega arith)
within-at from to [] i d e h = absurd (omega arith)

-- ---- every step of a begin record in form

module _ (g : Begin) (bs : on_bases g.bases ≡ true) (ls : on_leaves g.leaves ≡ true) where
  base-first : 1 ≤ length g.bases → Basic (get_or g.bases 0 0)
  base-first h = within-at first_base last_base g.bases 0 0 bs h

  -- the second base page, or the first where there is one only
  base-second : 1 ≤ length g.bases → Basic (get_or g.bases 1 (get_or g.bases 0 0))
  base-second h = two g.bases bs h
    where
      two : (ps : List ℕ) → on_bases ps ≡ true → 1 ≤ length ps → Basic (get_or ps 1 (get_or ps 0 0))
      two [] e k = absurd (omega arith)
      two (p ∷ []) e k = within-head first_base last_base p [] e
      two (p ∷ q ∷ ps) e k = within-head first_base last_base q ps (within-tail first_base last_base p (q ∷ ps) e)

  leaf-at : (i : ℕ) → i < length g.leaves → Leafy (get_or g.leaves i 0)
  leaf-at i h = within-at first_leaf last_leaf g.leaves i 0 ls h

  compact-plan : compact_ok g ≡ true → Keeping (compact_plan (get_or g.bases 0 0) g.dest g.leaves)
  unfolding compact_ok
  compact-plan e =
      let one : length g.bases ≡ 1 = eqb-true (length g.bases) 1 (all_head _ _ e) in
      let e5 = all_tail _ _ (all_tail _ _ (all_tail _ _ (all_tail _ _ (all_tail _ _ e)))) in
      compact-keeps _ g.dest g.leaves (base-first (omega arith)) (within-head first_leaf last_leaf g.dest [] (all_head _ _ e5)) ls

  swap-plan : swap_ok g ≡ true
      → Keeping (swap_plan (get_or g.bases 0 0) (get_or g.bases 1 (get_or g.bases 0 0)) (get_or g.leaves 0 0) (get_or g.leaves 1 0))
  unfolding swap_ok
  swap-plan e =
      let some-base : 1 ≤ length g.bases = leb-true 1 (length g.bases) (all_head _ _ e) in
      let two : length g.leaves ≡ 2 = eqb-true (length g.leaves) 2 (all_head _ _ (all_tail _ _ (all_tail _ _ e))) in
      swap-keeps _ _ _ _ (base-first some-base) (base-second some-base) (leaf-at 0 (omega arith)) (leaf-at 1 (omega arith))

  move-plan : move_ok g ≡ true → Keeping (move_plan (get_or g.bases 0 0) (get_or g.leaves 0 0) g.dest)
  unfolding move_ok
  move-plan e =
      let one : length g.bases ≡ 1 = eqb-true (length g.bases) 1 (all_head _ _ e) in
      let e1 = all_tail _ _ e in
      let leaf : length g.leaves ≡ 1 = eqb-true (length g.leaves) 1 (all_head _ _ e1) in
      let e3 = all_tail _ _ (all_tail _ _ e1) in
      move-keeps _ _ g.dest (base-first (omega arith)) (leaf-at 0 (omega arith)) (within-head first_leaf last_leaf g.dest [] (all_head _ _ e3))

  -- by type
  type-plan : (a b c : Bool) → pick a (compact_ok g) (pick b (swap_ok g) (pick c (save_ok g) (both (eqb g.type 3) (move_ok g)))) ≡ true
      → Keeping
      (pick a (compact_plan (get_or g.bases 0 0) g.dest g.leaves)
      (pick b (swap_plan (get_or g.bases 0 0) (get_or g.bases 1 (get_or g.bases 0 0)) (get_or g.leaves 0 0) (get_or g.leaves 1 0))
      (pick c [] (move_plan (get_or g.bases 0 0) (get_or g.leaves 0 0) g.dest))))
  unfolding pick
  type-plan true b c e = compact-plan e
  type-plan false true c e = swap-plan e
  type-plan false false true e = no_step
  type-plan false false false e = move-plan (both-2 (eqb g.type 3) (move_ok g) e)

pub plan-keeps : (g : Begin) → begin_ok g ≡ true → Keeping (plan g)
unfolding begin_ok type_ok plan
plan-keeps g e =
    let e1 = all_tail _ _ e in
    let e2 = all_tail _ _ e1 in
    let e4 = all_tail _ _ (all_tail _ _ e2) in
    keeping-append (type-plan g (all_head _ _ e2) (all_head _ _ e4) (eqb g.type 1) (eqb g.type 2) (saves g) (all_head _ _ e1)) (one_more tt no_step)

-- ---- every record of a log in form

-- the steps to come of a unit that is open, and the images of a put or delete
abbrev pub OpenKeeps : Option Open → Type 0
OpenKeeps none = Unit {0}
OpenKeeps (some o) = Keeping o.todo × Filed 0 (images_of o.did [])

keeping-drop : {xs : List Step} → Keeping xs → Keeping (drop 1 xs)
keeping-drop no_step = no_step
keeping-drop (one_more h k) = k

keeping-head : (x : Step) (xs : List Step) (ys : List Step) → ys ≡ x ∷ xs → Keeping ys → StepKeeps x
keeping-head x xs [] e k = absurd (nil_not e)
  where
    nil_not : [] ≡ x ∷ xs → ⊥
    nil_not q = let z : ◌≡◌ {A = ℕ} 0 (suc (length xs)) = ap length q in omega arith
keeping-head x xs (y ∷ ys) e (one_more h k) = let q : y ≡ x = cc in rw (← q) h

does-keeps : {did : List Rec} {x : Step} {r : Rec} → Does did x r → StepKeeps x → RecKeeps r
does-keeps (does-out m) h = h
does-keeps (does-in e) h = h
does-keeps (does-point b) h = h
does-keeps does-close h = tt

pub follows-keeps : {u : ℕ} {o : Option Open} {r : Rec} → Follows u o r → OpenKeeps o → RecKeeps r
follows-keeps (begins e ok l b) h = tt
follows-keeps (goes {x = x} {xs = xs} v e d) h = does-keeps d (keeping-head x xs _ e h.0)
follows-keeps (logs v (logs-image f l b)) h = tt
follows-keeps (logs v (logs-end n)) h = h.1

-- what is open after a record that may come next
opened-keeps : {u : ℕ} {o : Option Open} {r : Rec} → Follows u o r → OpenKeeps o → OpenKeeps (opened_by r o)
unfolding opened_by bind going noting images_of
opened-keeps (begins {g = g} e ok l b) h = (plan-keeps g ok, tt)
opened-keeps (goes v e (does-out m)) h = (keeping-drop h.0, h.1)
opened-keeps (goes v e (does-in q)) h = (keeping-drop h.0, h.1)
opened-keeps (goes v e (does-point b)) h = (keeping-drop h.0, h.1)
opened-keeps (goes v e does-close) h = tt
opened-keeps (logs {o = o} v (logs-image {i = i} f l b)) h = (h.0, image-filed o.did i f l b h.1)
opened-keeps (logs v (logs-end n)) h = tt

pub valid-keeps : {s : State} {rs : List Rec} → Valid s rs → OpenKeeps s.opened → Every RecKeeps rs
unfolding after
valid-keeps nil h = Every.nil
valid-keeps (cons f v) h = Every.cons (follows-keeps f.follows h) (valid-keeps v (opened-keeps f.follows h))

pub open-keeps : {s : State} {rs : List Rec} → Valid s rs → OpenKeeps s.opened → OpenKeeps (after_all s rs).opened
unfolding after after_all
open-keeps nil h = h
open-keeps (cons f v) h = open-keeps v (opened-keeps f.follows h)

-- a log in form: its records, and the steps to come
pub log-keeps : (g : Log) → Good g → Every RecKeeps g.recs
unfolding first
log-keeps g h = valid-keeps h.valid tt

pub end-keeps : (g : Log) → Good g → OpenKeeps (at_end g).opened
unfolding first at_end
end-keeps g h = open-keeps h.valid tt
