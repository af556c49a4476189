-- The records of an open unit stand in the log: the rows of each begin 20 bytes behind it. So the LO of an LI to come is found by the
-- numbers of the walk. Assumes nothing.
use Prim.Native.Nat.{ℕ, zero, suc, ◌+◌, ◌-◌, ◌*◌, ◌≤◌}
use native.Mathlib.Omega.{arith}
use mathlib.Core.Path.{◌≡◌, refl, sym, ap, ◌∙◌, subst}
use mathlib.Core.Logic.{⊎_elim}
use mathlib.Core.Bool.{false}
use mathlib.Core.List.{List, [], ◌∷◌}
use mathlib.Core.Option.{Option, some, none, some-injective, none-ne-some}
use lib.ListN.{length, drop, get_or}
use lib.Seq.{drop-drop}
use lib.Dec.{eqb, leb}
use borrow.Author.Tests.{eq-eqb, ne_eqb}
use Rattle.field.specs.Test.{all, given, bind}
use Rattle.field.specs.Bytes.{le2}
use Rattle.field.proofs.Test.{pick_true, pick-false, when-some, bind-some}
use Rattle.page.specs.Page.{rows_of, ascend_records}
use Rattle.page.proofs.Rows.{length-rows_of}
use Rattle.logs.specs.Record.{Begin, saves, Image, Rec, LB, LO, LI, LM, LG, LE, begin, length_of, kind_of, carried, outs, size, sizes}
use Rattle.logs.specs.Plan.{Step, take_out, bring_in, point, close, plan}
use Rattle.logs.specs.Log.{Open, State, going, noting, opened_by, after, read_begin, taken, planned, planned_first, expected, read_rec}
use Rattle.logs.specs.Scan.{latest, shown}
use Rattle.logs.specs.Source.{source_at, source_rows, sourced}
use Rattle.logs.specs.Valid.{Moved, Does, does-out, does-in, does-point, does-close, logs-image, logs-end, Follows, goes, logs}
use Rattle.logs.proofs.Sound.{Awaits, Source, awaits-source, awaits-moved}
use Rattle.logs.proofs.Begin.{begin-plain}
use Rattle.logs.proofs.Held.{Back, begin-read}

-- ---- the record that is read next

-- where a unit is open, it is the one that the step to come expects
pub read-planned : (s : State) (o : Open) (x : Step) (xs : List Step) (m : List ℕ) (r : Rec) → s.opened ≡ some o → saves o.start ≡ false → o.todo ≡ x ∷ xs → read_rec s m ≡ some r
    → planned x o.did m ≡ some r
unfolding read_rec expected planned_first
read-planned s o x xs m r op v t q =
    let b = bind-some (expected s.unit s.opened m) _ r q in
    let e : expected s.unit s.opened m ≡ planned x o.did m = rw op (pick-false _ _ _ v ∙ rw t) in
    sym e ∙ b.was ∙ ap (λ (y : Rec). some y) (when-some _ b.from r b.gives).1

-- its rows stand 20 bytes behind it
outs-front : (x : Step) (did : List Rec) (m : List ℕ) (r : Rec) → planned x did m ≡ some r → outs r ≡ rows_of 16 (length (outs r)) (drop 20 m)
unfolding planned outs rows_of
outs-front (take_out org dest) did m r e =
    let k : ℕ = le2 m 16 in
    let rs : List (List ℕ) = rows_of 16 k (drop 20 m) in
    let w = when-some (all (leb 1 k ∷ leb k 15 ∷ ascend_records 0 rs ∷ [])) (LO org dest rs) r e in
    let n : length rs ≡ k = length-rows_of 16 k (drop 20 m) in
    subst (λ (q : Rec). outs q ≡ rows_of 16 (length (outs q)) (drop 20 m)) w.1 (ap (λ (j : ℕ). rows_of 16 j (drop 20 m)) (sym n))
outs-front (bring_in org dest back) did m r e =
    subst (λ (q : Rec). outs q ≡ rows_of 16 (length (outs q)) (drop 20 m)) (some-injective _ r e) refl
outs-front (point base old new other) did m r e =
    subst (λ (q : Rec). outs q ≡ rows_of 16 (length (outs q)) (drop 20 m)) (some-injective _ r e) refl
outs-front (close unit) did m r e =
    subst (λ (q : Rec). outs q ≡ rows_of 16 (length (outs q)) (drop 20 m)) (some-injective _ r e) refl

-- ---- the unit's records

-- the records did, the latest first, of which the latest ends at the offset a
abbrev pub Laid : (l : List ℕ) (a : ℕ) → List Rec → Type 0
Laid l a [] = Unit {0}
Laid l a (r ∷ did) = (outs r ≡ rows_of 16 (length (outs r)) (drop (a - size r + 20) l)) × Laid l (a - size r) did

-- LB and the records since fit before the log's end, and stand there
pub record Stood (l : List ℕ) (s : State) (o : Open) : Type 0 where
  pub room : size (LB o.start) + sizes o.did ≤ s.at
  pub laid : Laid l s.at o.did

-- one record more
laid_more : (l : List ℕ) (a : ℕ) (r : Rec) (did : List Rec) → outs r ≡ rows_of 16 (length (outs r)) (drop 20 (drop a l)) → Laid l a did
    → Laid l (a + size r) (r ∷ did)
laid_more l a r did e p =
    let q : a + size r - size r ≡ a = omega arith in
    rw (q, ← drop-drop 20 a l) (e, p)

stood-more : (l : List ℕ) (s : State) (o : Open) (r : Rec) → Stood l s o → outs r ≡ rows_of 16 (length (outs r)) (drop 20 (drop s.at l))
    → (y : Open) → y.start ≡ o.start → y.did ≡ r ∷ o.did → (after s r).opened ≡ some y → (p : Open) → (after s r).opened ≡ some p → Stood l (after s r) p
unfolding after sizes
stood-more l s o r h e y ys yd n p q =
    subst (Stood l (after s r)) (some-injective y p (sym n ∙ q)) (record {
      room = rw (ys, yd) (omega (arith, h.room));
      laid = rw yd (laid_more l s.at r o.did e h.laid);
    })

stood-going : (l : List ℕ) (s : State) (o : Open) (r : Rec) → Stood l s o → outs r ≡ rows_of 16 (length (outs r)) (drop 20 (drop s.at l))
    → (after s r).opened ≡ some (going r o) → (p : Open) → (after s r).opened ≡ some p → Stood l (after s r) p
unfolding going
stood-going l s o r h e n p q = stood-more l s o r h e (going r o) refl refl n p q

stood-begun : (l : List ℕ) (s : State) (g : Begin) (p : Open) → (after s (LB g)).opened ≡ some p → Stood l (after s (LB g)) p
unfolding after opened_by sizes
stood-begun l s g p q =
    subst (Stood l (after s (LB g))) (some-injective (record { start = g; did = []; todo = plan g }) p q) (record { room = omega arith; laid = tt })

stood-step : (l : List ℕ) (s : State) (o : Open) → Stood l s o → s.opened ≡ some o → {x : Step} {r : Rec} → Does o.did x r
    → outs r ≡ rows_of 16 (length (outs r)) (drop 20 (drop s.at l)) → (p : Open) → (after s r).opened ≡ some p → Stood l (after s r) p
unfolding after opened_by bind
stood-step l s o h e (does-out {org = org} {dest = dest} {rs = rs} m) c p n = stood-going l s o (LO org dest rs) h c (rw e) p n
stood-step l s o h e (does-in {org = org} {dest = dest} {back = back} {rs = rs} m) c p n = stood-going l s o (LI org dest back rs) h c (rw e) p n
stood-step l s o h e (does-point {base = base} {old = old} {new = new} {key = key} m) c p n = stood-going l s o (LM base old new key) h c (rw e) p n
stood-step l s o h e does-close c p n = absurd (none-ne-some p n)

stood-image : (l : List ℕ) (s : State) (o : Open) (i : Image) → Stood l s o → s.opened ≡ some o → (p : Open) → (after s (LG i)).opened ≡ some p → Stood l (after s (LG i)) p
unfolding outs rows_of
stood-image l s o i h e p n =
    stood-more l s o (LG i) h refl (noting (LG i) o) (unfold noting in refl) (unfold noting in refl) (unfold after opened_by bind in rw e) p n

-- after a record that is read
pub stood-after : (l : List ℕ) (s : State) (r : Rec) → ((o : Open) → s.opened ≡ some o → Stood l s o) → read_rec s (drop s.at l) ≡ some r → (x : Option Open)
    → s.opened ≡ x → Follows s.unit x r → (p : Open) → (after s r).opened ≡ some p → Stood l (after s r) p
stood-after l s r h q none e f p n =
    let g : Begin = read_begin (s.unit + 1) (drop s.at l) in
    let c : r ≡ LB g = begin-read s (drop s.at l) r e q in
    subst (λ (y : Rec). (after s y).opened ≡ some p → Stood l (after s y) p) (sym c) (stood-begun l s g p) n
stood-after l s r h q (some o) e (goes {x = x} {xs = xs} v t d) p n =
    stood-step l s o (h o e) e d (outs-front x o.did (drop s.at l) r (read-planned s o x xs (drop s.at l) r e v t q)) p n
stood-after l s r h q (some o) e (logs v (logs-image {i = i} f k b)) p n = stood-image l s o i (h o e) e p n
stood-after l s r h q (some o) e (logs v (logs-end k)) p n = absurd (none-ne-some p (unfold after opened_by in n))

-- ---- the latest record and the unit's first

-- an LO that carries these rows, at the offset b of the log
record At (l : List ℕ) (b a : ℕ) (rs : List (List ℕ)) : Type 0 where
  rows : rs ≡ rows_of 16 (length rs) (drop (b + 20) l)
  ends : b + 20 + 16 * length rs ≤ a

size-out : (r : Rec) (org dest : ℕ) (rs : List (List ℕ)) → r ≡ LO org dest rs → size r ≡ 20 + 16 * length (outs r)
unfolding size carried outs kind_of length_of
size-out r org dest rs e = rw e

latest-at : (l : List ℕ) (a : ℕ) (g : Begin) (did : List Rec) (org dest : ℕ) (rs : List (List ℕ)) → get_or did 0 (LE 0 []) ≡ LO org dest rs → sizes did ≤ a → Laid l a did
    → At l (a - latest g did) a (outs (get_or did 0 (LE 0 [])))
unfolding sizes latest
latest-at l a g [] org dest rs e h p = let z : ◌≡◌ {A = ℕ} 0 1 = cc in absurd (omega arith)
latest-at l a g (r ∷ did) org dest rs e h p = record { rows = p.0; ends = omega (arith, size-out r org dest rs e) }

first-at : (l : List ℕ) (a : ℕ) (did : List Rec) (n org dest : ℕ) (rs : List (List ℕ)) → length did ≡ suc n → get_or did n (LE 0 []) ≡ LO org dest rs → sizes did ≤ a → Laid l a did
    → At l (a - sizes did) a (outs (get_or did n (LE 0 [])))
unfolding sizes
first-at l a [] n org dest rs k e h p = absurd (omega arith)
first-at l a (r ∷ []) zero org dest rs k e h p =
    let q : a - size r ≡ a - (size r + 0) = omega arith in
    record { rows = subst (λ (b : ℕ). outs r ≡ rows_of 16 (length (outs r)) (drop (b + 20) l)) q p.0; ends = omega (arith, size-out r org dest rs e) }
first-at l a (r ∷ []) (suc n) org dest rs k e h p = absurd (omega arith)
first-at l a (r ∷ x ∷ did) zero org dest rs k e h p = absurd (omega arith)
first-at l a (r ∷ x ∷ did) (suc n) org dest rs k e h p =
    let i = first-at l (a - size r) (x ∷ did) n org dest rs (omega arith) e (omega arith) p.1 in
    let q : a - size r - (size x + sizes did) ≡ a - (size r + (size x + sizes did)) = omega arith in
    record {
      rows = subst (λ (b : ℕ). outs (get_or (x ∷ did) n (LE 0 [])) ≡ rows_of 16 (length (outs (get_or (x ∷ did) n (LE 0 [])))) (drop (b + 20) l)) q i.rows;
      ends = omega (arith, i.ends);
    }

-- ---- by the numbers of the walk

module _ (s : State) (o : Open) (op : s.opened ≡ some o) where
  one-where : source_at (shown s) 1 ≡ s.at - latest o.start o.did
  unfolding source_at shown given
  one-where = rw op (pick_true (eqb 1 1) _ _ (eq-eqb 1 1 refl))

  one-rows : source_rows (shown s) 1 ≡ length (taken 1 o.did)
  unfolding source_rows shown given taken
  one-rows = rw op (pick_true (eqb 1 1) _ _ (eq-eqb 1 1 refl))

  three-where : size (LB o.start) ≡ length_of begin 0 → size (LB o.start) + sizes o.did ≤ s.at → source_at (shown s) 3 ≡ s.at - sizes o.did
  unfolding source_at shown given
  three-where k h =
      let n : ℕ = length_of begin 0 in
      let q : s.at - (n + sizes o.did) + n ≡ s.at - sizes o.did = omega (arith, h, k) in
      rw (op, k) (pick-false (eqb 3 1) _ _ (ne_eqb 3 1 (λ z. omega (arith, z))) ∙ q)

  three-rows : length o.did ≡ 3 → source_rows (shown s) 3 ≡ length (taken 3 o.did)
  unfolding source_rows shown given taken
  three-rows n = rw (op, n) (pick-false (eqb 3 1) _ _ (ne_eqb 3 1 (λ z. omega (arith, z))))

-- where the LO of an LI to come stands and what it outs
pub record Sourced (l : List ℕ) (s : State) (did : List Rec) (back : ℕ) : Type 0 where
  pub rows : sourced l (shown s) back ≡ taken back did
  pub count : source_rows (shown s) back ≡ length (taken back did)
  pub room : source_at (shown s) back + 20 + 16 * source_rows (shown s) back ≤ length l
  pub moved : Moved (taken back did)

sourced-by : (l : List ℕ) (s : State) (did : List Rec) (back b : ℕ) → source_at (shown s) back ≡ b → source_rows (shown s) back ≡ length (taken back did)
    → At l b s.at (taken back did) → s.at ≤ length l → Moved (taken back did) → Sourced l s did back
unfolding sourced
sourced-by l s did back b e n a h m =
    record {
      rows = rw (e, n) (sym a.rows);
      count = n;
      room = rw (e, n) (omega (arith, a.ends));
      moved = m;
    }

module _ (l : List ℕ) (s : State) (o : Open) (op : s.opened ≡ some o) (h : s.at ≤ length l) (d : Stood l s o) (org dest : ℕ) where
  sourced-one : Source o.did 0 org dest → Moved (taken 1 o.did) → Sourced l s o.did 1
  unfolding taken
  sourced-one c m =
      sourced-by l s o.did 1 (s.at - latest o.start o.did) (one-where s o op) (one-rows s o op)
      (latest-at l s.at o.start o.did org dest c.rows c.lo (omega (arith, d.room)) d.laid) h m

  sourced-three : size (LB o.start) ≡ length_of begin 0 → length o.did ≡ 3 → Source o.did 2 org dest → Moved (taken 3 o.did) → Sourced l s o.did 3
  unfolding taken
  sourced-three k n c m =
      sourced-by l s o.did 3 (s.at - sizes o.did) (three-where s o op k d.room) (three-rows s o op n)
      (first-at l s.at o.did 2 org dest c.rows n c.lo (omega (arith, d.room)) d.laid) h m

-- the LO of the LI that comes next
pub sourced-next : (l : List ℕ) (s : State) (o : Open) (org dest back : ℕ) (xs : List Step) → s.opened ≡ some o → s.at ≤ length l → Awaits s.unit o → Stood l s o
    → o.todo ≡ bring_in org dest back ∷ xs → Back (length o.did) (bring_in org dest back) → Sourced l s o.did back
unfolding Back
sourced-next l s o org dest back xs op h w d t f =
    let c : Source o.did (back - 1) org dest = awaits-source w t in
    let m : Moved (taken back o.did) = awaits-moved w t in
    ⊎_elim
    (λ (q : back ≡ 1). rw q (sourced-one l s o op h d org dest (rw q at c) (rw q at m)))
    (λ (q : (back ≡ 3) × (length o.did ≡ 3)). rw q.0 (sourced-three l s o op h d org dest (begin-plain o.start w.ok w.plain) q.1 (rw q.0 at c) (rw q.0 at m)))
    (f org dest back refl)
