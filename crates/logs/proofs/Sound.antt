-- What holds at every state of a good log: its numbers fit four bytes, so that a checkpoint can write them; the records of an open unit did
-- the first steps of its plan, and the steps to come are the others; an LI to come has its LO among those records. Assumes nothing.
use Prim.Native.Nat.{ℕ, zero, suc, ◌-◌, ◌≤◌}
use native.Mathlib.Omega.{arith}
use mathlib.Core.Path.{◌≡◌, refl, sym, ap, ◌∙◌, subst}
use mathlib.Core.Bool.{Bool, true, false, false≢true}
use mathlib.Core.List.{List, [], ◌∷◌, reverse, reverse_aux, reverse_aux-eq}
use mathlib.Core.Option.{Option, some, none, some-injective}
use lib.ListN.{length, drop, get_or, length-reverse}
use lib.Seq.{drop_at}
use lib.Dec.{eqb, leb}
use Rattle.field.specs.Test.{pick, given, bind}
use Rattle.field.specs.Bytes.{Bytes, most4}
use Rattle.field.proofs.Test.{pick-false}
use Rattle.field.proofs.Number.{le4-small}
use Rattle.page.specs.Page.{key_of}
use Rattle.page.specs.Each.{Each, Long}
use Rattle.logs.specs.Record.{Check, Begin, saves, Image, Rec, LB, LO, LI, LM, LG, LE, outs}
use Rattle.logs.specs.Plan.{Step, take_out, bring_in, close, plan}
use Rattle.logs.specs.Log.{Open, State, first, largest, largest_moved, lk_ended, going, noting, opened_by, lk_by, unit_by, after, after_all, begin_ok, taken, images_of, follows, Log, at_end}
use Rattle.logs.proofs.Record.{Narrow}
use Rattle.logs.proofs.State.{Every}
use Rattle.logs.proofs.Begin.{begin_ok-unit}
use Rattle.logs.proofs.Plan.{Works, works_out, works-in, works-point, Ending, Fed, ending-rest, fed-rest, plan-ending, plan-fed, plan-saves, saves-type}
use Rattle.logs.specs.Valid.{Moved, Does, does-out, does-in, does-point, does-close, logs-image, logs-end, Follows, begins, goes, logs, Fits, Valid, Small, Good, Filed}
use Rattle.logs.proofs.Valid.{does-narrow}
use Rattle.logs.proofs.Filed.{image-filed}

-- ---- the largest key moved

-- one number or the other
pick-most : (t : Bool) (a b : ℕ) → a ≤ most4 → b ≤ most4 → pick t a b ≤ most4
unfolding pick
pick-most true a b p q = p
pick-most false a b p q = q

-- the largest key of rows fits four bytes
pub largest-most : (m : ℕ) {rs : List (List ℕ)} → m ≤ most4 → Each Bytes rs → largest m rs ≤ most4
unfolding largest key_of
largest-most m h Each.nil = h
largest-most m h (Each.cons {r = r} b p) =
    let k : key_of r ≤ most4 = omega (arith, le4-small r 2 b) in
    largest-most (pick (leb m (key_of r)) (key_of r) m) (pick-most (leb m (key_of r)) (key_of r) m k h) p

-- the rows that an LO takes out are of bytes
outs-bytes : (r : Rec) → Narrow r → Each Bytes (outs r)
unfolding outs
outs-bytes (LB g) h = Each.nil
outs-bytes (LO org dest rs) h = h
outs-bytes (LI org dest back rs) h = Each.nil
outs-bytes (LM base old new key) h = Each.nil
outs-bytes (LG i) h = Each.nil
outs-bytes (LE unit images) h = Each.nil

-- the largest key that LOs moved fits four bytes
pub largest_moved-most : (m : ℕ) {did : List Rec} → m ≤ most4 → Every Narrow did → largest_moved m did ≤ most4
unfolding largest_moved
largest_moved-most m h Every.nil = h
largest_moved-most m h (Every.cons {r = r} n p) = largest_moved-most (largest m (outs r)) (largest-most m h (outs-bytes r n)) p

-- ---- the open unit

-- the records did, the latest first, do the steps past
pub data Done : List Step → List Rec → Type 0 where
  nil : Done [] []
  cons : {x : Step} {past : List Step} {r : Rec} {did : List Rec} → Does did x r → Done past did → Done (x ∷ past) (r ∷ did)

-- an open unit of this number: the steps that it did and those to come are its plan
pub record Awaits (u : ℕ) (o : Open) : Type 0 where
  pub start : o.start.unit ≡ u
  pub ok : begin_ok o.start ≡ true
  pub plain : saves o.start ≡ false
  pub past : List Step
  pub done : Done past o.did
  pub whole : reverse_aux past o.todo ≡ plan o.start
  pub fed : Fed past o.todo
  pub todo : Ending u o.todo

-- these records are LGs
pub data Imaged : List Rec → Type 0 where
  no-image : Imaged []
  an-image : {i : Image} {did : List Rec} → Imaged did → Imaged (LG i ∷ did)

-- an open put or delete of this number: its records so far are LGs, and its end is still to come
pub record Keeps (u : ℕ) (o : Open) : Type 0 where
  pub start : o.start.unit ≡ u
  pub ok : begin_ok o.start ≡ true
  pub saves : saves o.start ≡ true
  pub whole : Each (Long 16) o.start.saved
  pub bytes : Each Bytes o.start.saved
  pub images : Imaged o.did
  pub filed : Filed 0 (images_of o.did [])
  pub todo : o.todo ≡ close u ∷ []

-- the records done fit their bytes
done-narrow : {past : List Step} {did : List Rec} → Done past did → Every Narrow did
done-narrow nil = Every.nil
done-narrow (cons d p) = Every.cons (does-narrow d) (done-narrow p)

-- they are as many as the steps done
done-length : {past : List Step} {did : List Rec} → Done past did → length past ≡ length did
done-length nil = refl
done-length (cons d p) = ap suc (done-length p)

-- the steps to come are what the plan has behind the steps done
pub awaits-todo : {u : ℕ} {o : Open} → Awaits u o → o.todo ≡ drop (length o.did) (plan o.start)
awaits-todo {u} {o} a =
    rw (← a.whole, reverse_aux-eq a.past o.todo)
    (sym (drop_at (reverse a.past) o.todo (length o.did) (length-reverse a.past ∙ done-length a.done)))

-- the LO that stands so many records back took out these pages
pub record Source (did : List Rec) (i org dest : ℕ) : Type 0 where
  pub rows : List (List ℕ)
  pub lo : get_or did i (LE 0 []) ≡ LO org dest rows
  pub moved : Moved rows

-- the record that did an LO's step
source-here : {did rest : List Rec} {x : Step} {r : Rec} (org dest : ℕ) → Does did x r → x ≡ take_out org dest → Source (r ∷ rest) 0 org dest
source-here org dest (does-out {org = p} {dest = q} {rs = rs} m) e =
    let a : p ≡ org = cc in
    let b : q ≡ dest = cc in
    record { rows = rs; lo = rw (a, b); moved = m }
source-here org dest (does-in q) e = let z : ◌≡◌ {A = ℕ} 0 1 = cc in absurd (omega arith)
source-here org dest (does-point h) e = let z : ◌≡◌ {A = ℕ} 0 1 = cc in absurd (omega arith)
source-here org dest does-close e = let z : ◌≡◌ {A = ℕ} 0 1 = cc in absurd (omega arith)

-- the same, so many records back
source-at : {past : List Step} {did : List Rec} (i org dest : ℕ) → Done past did → get_or past i (close 0) ≡ take_out org dest → Source did i org dest
source-at i org dest nil e = let z : ◌≡◌ {A = ℕ} 0 1 = cc in absurd (omega arith)
source-at zero org dest (cons d p) e = source-here org dest d e
source-at (suc i) org dest (cons d p) e =
    let s = source-at i org dest p e in
    record { rows = s.rows; lo = s.lo; moved = s.moved }

-- an LI to come has its LO among the unit's records
pub awaits-source : {u : ℕ} {o : Open} {org dest back : ℕ} {xs : List Step} → Awaits u o → o.todo ≡ bring_in org dest back ∷ xs
    → Source o.did (back - 1) org dest
awaits-source {org = org} {dest = dest} {back = back} a e = source-at (back - 1) org dest a.done (subst (Fed a.past) e a.fed).0

-- what an LI to come brings in is what an LO moved
pub awaits-moved : {u : ℕ} {o : Open} {org dest back : ℕ} {xs : List Step} → Awaits u o → o.todo ≡ bring_in org dest back ∷ xs
    → Moved (taken back o.did)
unfolding taken outs
awaits-moved a e = let s = awaits-source a e in rw s.lo s.moved

-- ---- the states

-- no unit is open, or one of this number
pub data Waits (u : ℕ) : Option Open → Type 0 where
  shut : Waits u none
  open-unit : {o : Open} → Awaits u o → Waits u (some o)
  open-save : {o : Open} → Keeps u o → Waits u (some o)

-- the numbers of a state fit four bytes, and its open unit is as its plan says
pub record Sound (s : State) : Type 0 where
  pub number : s.number ≤ most4
  pub unit : s.unit ≤ most4
  pub lk : (k : ℕ) → s.lk ≡ some k → k ≤ most4
  pub waits : Waits s.unit s.opened

-- the open unit of a sound state
pub waits-open : {u : ℕ} {o : Open} → Waits u (some o) → saves o.start ≡ false → Awaits u o
waits-open (open-unit a) h = a
waits-open (open-save k) h = absurd (false≢true (sym h ∙ k.saves))

pub waits-save : {u : ℕ} {o : Open} → Waits u (some o) → saves o.start ≡ true → Keeps u o
waits-save (open-unit a) h = absurd (false≢true (sym a.plain ∙ h))
waits-save (open-save k) h = k

-- an open unit after one of its steps but LE
waits-going : {u : ℕ} {o : Open} {x : Step} {xs : List Step} {r : Rec} → Works x → o.todo ≡ x ∷ xs → Does o.did x r → Awaits u o → Awaits u (going r o)
unfolding going
waits-going {u} {o} {x} {xs} w e d a =
    record {
      start = a.start;
      ok = a.ok;
      plain = a.plain;
      past = x ∷ a.past;
      done = cons d a.done;
      whole = rw e (rw e at a.whole);
      fed = rw e (fed-rest a.past xs w (subst (Fed a.past) e a.fed));
      todo = rw e (ending-rest w (subst (Ending u) e a.todo));
    }

-- a unit that has just begun
waits-begun : (g : Begin) → begin_ok g ≡ true → Each (Long 16) g.saved → Each Bytes g.saved → (t : Bool) → saves g ≡ t → Waits g.unit (some (record { start = g; did = []; todo = plan g }))
waits-begun g ok l b true v = open-save (record { start = refl; ok = ok; saves = v; whole = l; bytes = b; images = no-image; filed = unfold images_of in tt; todo = plan-saves g v })
waits-begun g ok l b false v =
    open-unit (record { start = refl; ok = ok; plain = v; past = []; done = nil; whole = refl; fed = plan-fed g; todo = plan-ending g })

-- an open put or delete after an LG
waits-noting : {u : ℕ} {o : Open} (i : Image) → follows (images_of o.did []) i ≡ true → length i.bytes ≡ 256 → Bytes i.bytes → Keeps u o → Keeps u (noting (LG i) o)
unfolding noting images_of
waits-noting {o = o} i f l b k =
    record { start = k.start; ok = k.ok; saves = k.saves; whole = k.whole; bytes = k.bytes; images = an-image k.images; filed = image-filed o.did i f l b k.filed; todo = k.todo }

-- the unit that is open after a record
waits-after : {u : ℕ} {o : Option Open} {r : Rec} → Follows u o r → Waits u o → Waits (unit_by r u) (opened_by r o)
unfolding unit_by opened_by bind
waits-after (begins {g = g} e ok l b) w = waits-begun g ok l b (saves g) refl
waits-after (goes v e (does-out m)) w = open-unit (waits-going works_out e (does-out m) (waits-open w v))
waits-after (goes v e (does-in q)) w = open-unit (waits-going works-in e (does-in q) (waits-open w v))
waits-after (goes v e (does-point h)) w = open-unit (waits-going works-point e (does-point h) (waits-open w v))
waits-after (goes v e does-close) w = shut
waits-after (logs v (logs-image {i = i} f l b)) w = open-save (waits-noting i f l b (waits-save w v))
waits-after (logs v (logs-end h)) w = shut

-- its number
unit-after : {u : ℕ} {o : Option Open} {r : Rec} → Follows u o r → u ≤ most4 → unit_by r u ≤ most4
unfolding unit_by
unit-after (begins {g = g} e ok l b) h = begin_ok-unit g ok
unit-after (goes v e (does-out m)) h = h
unit-after (goes v e (does-in q)) h = h
unit-after (goes v e (does-point k)) h = h
unit-after (goes v e does-close) h = h
unit-after (logs v (logs-image f l b)) h = h
unit-after (logs v (logs-end k)) h = h

-- a key, or LK as it was
pick-key : (t : Bool) (v k : ℕ) (lk : Option ℕ) → v ≤ most4 → ((j : ℕ) → lk ≡ some j → j ≤ most4) → pick t (some v) lk ≡ some k → k ≤ most4
unfolding pick
pick-key true v k lk h f e = omega (arith, some-injective v k e)
pick-key false v k lk h f e = f k e

-- LK after a record
lk-after : {u : ℕ} {o : Option Open} {r : Rec} (lk : Option ℕ) → Follows u o r → Waits u o → ((k : ℕ) → lk ≡ some k → k ≤ most4)
    → (k : ℕ) → lk_by r lk o ≡ some k → k ≤ most4
unfolding lk_by lk_ended given
lk-after lk (begins e ok l b) w f k q = f k q
lk-after lk (goes v e (does-out m)) w f k q = f k q
lk-after lk (goes v e (does-in i)) w f k q = f k q
lk-after lk (goes v e (does-point h)) w f k q = f k q
lk-after lk (goes {o = o} v e does-close) w f k q =
    pick-key (eqb o.start.type 1) (largest_moved 0 o.did) k lk (largest_moved-most 0 (omega arith) (done-narrow (waits-open w v).done)) f q
lk-after lk (logs v (logs-image g l b)) w f k q = f k q
lk-after lk (logs {o = o} v (logs-end h)) w f k q = f k (sym (pick-false _ _ _ (saves-type o.start v)) ∙ q)

-- the state after a check record is sound
pub sound-first : (c : Check) → Small c → Sound (first c)
unfolding first
sound-first c h = record { number = h.number; unit = h.unit; lk = h.lk; waits = shut }

-- a record that may come next leaves a sound state
pub sound-after : {s : State} {r : Rec} → Sound s → Fits s r → Sound (after s r)
unfolding after
sound-after {s} h f =
    record {
      number = f.room;
      unit = unit-after f.follows h.unit;
      lk = lk-after s.lk f.follows h.waits h.lk;
      waits = waits-after f.follows h.waits;
    }

-- a chain leaves a sound state
pub sound-after_all : {s : State} {rs : List Rec} → Sound s → Valid s rs → Sound (after_all s rs)
unfolding after_all
sound-after_all h Valid.nil = h
sound-after_all h (Valid.cons f v) = sound-after_all (sound-after h f) v

-- the end of a good log is sound
pub sound-at_end : (g : Log) → Good g → Sound (at_end g)
unfolding at_end
sound-at_end g h = sound-after_all (sound-first g.top h.top) h.valid
