-- What is read of a log is written back to the same bytes: a record read is the record that stands there, and the records and the log
-- read are all that stands before the zeros. Of a list of bytes, what is read is valid. Assumes nothing.
use Prim.Native.Nat.{ℕ, zero, suc, ◌+◌, ◌-◌, ◌*◌, ◌≤◌}
use native.Mathlib.Nat.{sub-zero}
use native.Mathlib.Omega.{arith}
use mathlib.Core.Path.{◌≡◌, refl, sym, ap, ◌∙◌, subst}
use mathlib.Core.Logic.{◌⊎◌, inl, inr, ⊎_elim}
use mathlib.Core.Bool.{Bool, true, false}
use mathlib.Core.List.{List, [], ◌∷◌, ◌++◌, append_assoc}
use mathlib.Core.Option.{Option, some, none, some-injective, none-ne-some}
use lib.ListN.{length, drop, get_or, length-drop}
use lib.Dec.{eqb, leb}
use borrow.Author.Tests.{leb-true}
use Rattle.field.specs.Test.{both, all, pick, when, bind}
use Rattle.field.specs.Bytes.{part, zeroes, all_zero, starts, Bytes, le2, le4, most4}
use Rattle.field.proofs.Test.{both-1, both-2, all_head, all_tail, when-some, bind-some}
use Rattle.field.proofs.Part.{length_part}
use Rattle.field.proofs.Number.{le4-small}
use Rattle.field.proofs.Zero.{zero-list}
use Rattle.field.proofs.Same.{starts-eq, starts-length}
use Rattle.field.proofs.Byte.{bytes_drop, bytes-part}
use Rattle.page.specs.Page.{rows_of, ascend_records}
use Rattle.page.specs.Each.{Each, Long}
use Rattle.page.proofs.Rows.{length-rows_of, long-rows_of, bytes-rows_of}
use Rattle.logs.specs.Record.{image, length_of, kind_of, Check, Begin, saves, Image, Rec, LB, LO, LG, LE, carried, size, sizes, encode_check, encode, encode_all}
use Rattle.logs.specs.Plan.{Step, take_out, bring_in, point, close}
use Rattle.logs.specs.Log.{Open, State, first, after, saves_at, read_begin, begin_ok, planned, planned_first, images_of, all_bear, read_image, follows, imaged, expected, read_rec, read_recs, read_check, Log, read_log, at_end, encode_log}
use Rattle.logs.proofs.Record.{Sized, length-encode_check, length-encode, number_read}
use Rattle.logs.proofs.State.{Every, at-at_end}
use Rattle.logs.specs.Valid.{Does, does-out, does-in, does-point, does-close, Logs, logs-image, logs-end, Bears, Follows, begins, goes, logs, Fits, Valid, Small, Good}

-- ---- one record

-- the record that a step expects can be written, and of bytes it does the step
planned-facts : (x : Step) (did : List Rec) (l : List ℕ) (r : Rec) → planned x did l ≡ some r → size r ≤ length l
    → Sized r × (Bytes l → Does did x r)
unfolding planned carried size length_of kind_of
planned-facts (take_out org dest) did l r e h =
    let k : ℕ = le2 l 16 in
    let rs : List (List ℕ) = rows_of 16 k (drop 20 l) in
    let w = when-some (all (leb 1 k ∷ leb k 15 ∷ ascend_records 0 rs ∷ [])) (LO org dest rs) r e in
    let n : length rs ≡ k = length-rows_of 16 k (drop 20 l) in
    let m : 20 + 16 * length rs ≤ length l = rw (← w.1) at h in
    let long : Each (Long 16) rs = long-rows_of 16 k (drop 20 l) (simp length-drop (omega arith)) in
    let t = all_tail _ _ w.0 in
    subst (λ (q : Rec). Sized q × (Bytes l → Does did (take_out org dest) q)) w.1 (
      long,
      λ b. does-out (record {
        some-rows = omega (arith, leb-true 1 k (all_head _ _ w.0));
        few-rows = omega (arith, leb-true k 15 (all_head _ _ t));
        long = long;
        bytes = bytes-rows_of 16 k (drop 20 l) (bytes_drop 20 l b);
        order = all_head _ _ (all_tail _ _ t);
      }),
    )
planned-facts (bring_in org dest back) did l r e h =
    subst (λ (q : Rec). Sized q × (Bytes l → Does did (bring_in org dest back) q)) (some-injective _ r e) (Each.nil, λ b. does-in refl)
planned-facts (point base old new other) did l r e h =
    subst (λ (q : Rec). Sized q × (Bytes l → Does did (point base old new other) q)) (some-injective _ r e)
    (Each.nil, λ b. does-point (omega (arith, le4-small l 20 b)))
planned-facts (close unit) did l r e h =
    subst (λ (q : Rec). Sized q × (Bytes l → Does did (close unit) q)) (some-injective _ r e) (Each.nil, λ b. does-close)

-- the record that an open unit expects
first-facts : (u : ℕ) (o : Open) (xs : List Step) (l : List ℕ) (r : Rec) → saves o.start ≡ false → o.todo ≡ xs → planned_first xs o.did l ≡ some r → size r ≤ length l
    → Sized r × (Bytes l → Follows u (some o) r)
unfolding planned_first
first-facts u o [] l r s t e h = absurd (none-ne-some r e)
first-facts u o (x ∷ xs) l r s t e h = let p = planned-facts x o.did l r e h in (p.0, λ b. goes s t (p.1 b))

-- the record that an open put or delete expects
imaged-facts : (u : ℕ) (is : List Image) (l : List ℕ) (r : Rec) → imaged u is l ≡ some r → size r ≤ length l → Sized r × ((Bytes l → Logs u is r) × Bears (le4 l 4) r)
unfolding imaged carried size length_of kind_of read_image
imaged-facts u is l r e h = by-mark (eqb (get_or l 1 0) image.sign) e
  where
    by-mark : (t : Bool) → pick t (when (follows is (read_image l)) (LG (read_image l))) (when (both (leb 1 (length is)) (all_bear (le4 l 4) is)) (LE u is)) ≡ some r
        → Sized r × ((Bytes l → Logs u is r) × Bears (le4 l 4) r)
    by-mark true c =
        let w = when-some (follows is (read_image l)) (LG (read_image l)) r (unfold pick in c) in
        let m : 16 + 256 * 1 ≤ length l = rw (← w.1) at h in
        let long : length (part 16 256 l) ≡ 256 = length_part 16 256 l (omega arith) in
        subst (λ (q : Rec). Sized q × ((Bytes l → Logs u is q) × Bears (le4 l 4) q)) w.1
        (Each.cons {r = part 16 256 l} long Each.nil, ((λ b. logs-image w.0 long (bytes-part 16 256 l b)), tt))
    by-mark false c =
        let w = when-some (both (leb 1 (length is)) (all_bear (le4 l 4) is)) (LE u is) r (unfold pick in c) in
        subst (λ (q : Rec). Sized q × ((Bytes l → Logs u is q) × Bears (le4 l 4) q)) w.1
        (Each.nil, ((λ b. logs-end (leb-true 1 (length is) (both-1 _ _ w.0))), both-2 _ _ w.0))

-- the record that a step expects bears any number
planned-bears : (m : ℕ) (x : Step) (did : List Rec) (l : List ℕ) (r : Rec) → planned x did l ≡ some r → Bears m r
unfolding planned all_bear
planned-bears m (take_out org dest) did l r e =
    let k : ℕ = le2 l 16 in
    let rs : List (List ℕ) = rows_of 16 k (drop 20 l) in
    subst (Bears m) (when-some (all (leb 1 k ∷ leb k 15 ∷ ascend_records 0 rs ∷ [])) (LO org dest rs) r e).1 tt
planned-bears m (bring_in org dest back) did l r e = subst (Bears m) (some-injective _ r e) tt
planned-bears m (point base old new other) did l r e = subst (Bears m) (some-injective _ r e) tt
planned-bears m (close unit) did l r e = subst (Bears m) (some-injective _ r e) refl

first-bears : (m : ℕ) (xs : List Step) (did : List Rec) (l : List ℕ) (r : Rec) → planned_first xs did l ≡ some r → Bears m r
unfolding planned_first
first-bears m [] did l r e = absurd (none-ne-some r e)
first-bears m (x ∷ xs) did l r e = planned-bears m x did l r e

-- the record that a begin record carries
saved-facts : (u : ℕ) (l : List ℕ) → size (LB (read_begin u l)) ≤ length l
    → Each (Long 16) (read_begin u l).saved × (Bytes l → Each Bytes (read_begin u l).saved)
unfolding read_begin carried size length_of kind_of
saved-facts u l h = by-type (saves_at l) h
  where
    by-type : (t : Bool) → 44 + 16 * length (pick t (part 44 16 l ∷ []) []) ≤ length l
        → Each (Long 16) (pick t (part 44 16 l ∷ []) []) × (Bytes l → Each Bytes (pick t (part 44 16 l ∷ []) []))
    by-type true k = unfold pick in (carried-one (unfold pick in k))
      where
        carried-one : 44 + 16 * 1 ≤ length l → Each (Long 16) (part 44 16 l ∷ []) × (Bytes l → Each Bytes (part 44 16 l ∷ []))
        carried-one k = (Each.cons {r = part 44 16 l} (length_part 44 16 l (omega arith)) Each.nil, λ b. Each.cons (bytes-part 44 16 l b) Each.nil)
    by-type false k = unfold pick in (Each.nil, λ b. Each.nil)

-- the record that a state expects can be written, and of bytes it may come next
expected-facts : (u : ℕ) (o : Option Open) (l : List ℕ) (r : Rec) → expected u o l ≡ some r → size r ≤ length l
    → Sized r × ((Bytes l → Follows u o r) × Bears (le4 l 4) r)
unfolding expected carried kind_of
expected-facts u none l r e h =
    let g : Begin = read_begin (u + 1) l in
    let w = when-some (begin_ok g) (LB g) r e in
    let n : g.unit ≡ u + 1 = unfold read_begin in refl in
    let k = saved-facts (u + 1) l (rw (← w.1) at h) in
    subst (λ (q : Rec). Sized q × ((Bytes l → Follows u none q) × Bears (le4 l 4) q)) w.1 (k.0, ((λ b. begins n w.0 k.0 (k.1 b)), tt))
expected-facts u (some o) l r e h = by-type (saves o.start) refl e
  where
    by-type : (t : Bool) → saves o.start ≡ t → pick t (imaged o.start.unit (images_of o.did []) l) (planned_first o.todo o.did l) ≡ some r
        → Sized r × ((Bytes l → Follows u (some o) r) × Bears (le4 l 4) r)
    by-type true s c = let p = imaged-facts o.start.unit (images_of o.did []) l r (unfold pick in c) h in (p.0, ((λ b. logs s (p.1.0 b)), p.1.1))
    by-type false s c =
        let q : planned_first o.todo o.did l ≡ some r = unfold pick in c in
        let p = first-facts u o o.todo l r s refl q h in (p.0, (p.1, first-bears (le4 l 4) o.todo o.did l r q))

-- what a record says of the bytes l that it was read off, after the state s
pub record ReadOff (s : State) (l : List ℕ) (r : Rec) : Type 0 where
  pub sized : Sized r
  pub short : size r ≤ length l
  pub front : l ≡ encode (s.number + 1) r ++ drop (size r) l
  pub fits : Bytes l → Fits s r

-- a record that is read stands there, all of it
pub read_rec-facts : (s : State) (l : List ℕ) (r : Rec) → read_rec s l ≡ some r → ReadOff s l r
unfolding read_rec
read_rec-facts s l r e =
    let n : ℕ = s.number + 1 in
    let b = bind-some (expected s.unit s.opened l) _ r e in
    let w = when-some (all (leb n most4 ∷ leb (size b.from) (length l) ∷ starts (encode n b.from) l ∷ [])) b.from r b.gives in
    let t = all_tail _ _ w.0 in
    let h : size b.from ≤ length l = leb-true (size b.from) (length l) (all_head _ _ t) in
    let p = expected-facts s.unit s.opened l b.from b.was h in
    let q : starts (encode n b.from) l ≡ true = all_head _ _ (all_tail _ _ t) in
    let room : n ≤ most4 = leb-true n most4 (all_head _ _ w.0) in
    let front : l ≡ encode n b.from ++ drop (size b.from) l = rw (length-encode n b.from p.0) at (starts-eq (encode n b.from) l q) in
    let num : le4 l 4 ≡ n = ap (λ (x : List ℕ). le4 x 4) front ∙ number_read n b.from (drop (size b.from) l) room in
    subst (ReadOff s l) w.1 (record {
      sized = p.0;
      short = h;
      front = front;
      fits = λ y. record { room = room; follows = p.1.0 y; bears = rw num at p.1.1 };
    })

-- ---- the records

-- what the records say of the bytes l that they were read off, after the state s
pub record ReadAll (s : State) (l : List ℕ) (rs : List Rec) : Type 0 where
  pub sized : Every Sized rs
  pub short : sizes rs ≤ length l
  pub whole : l ≡ encode_all (s.number + 1) rs ++ zeroes (length l - sizes rs)
  pub valid : Bytes l → Valid s rs

-- nothing but zeros
all_none : (s : State) (l : List ℕ) → all_zero l ≡ true → ReadAll s l []
unfolding sizes encode_all
all_none s l e =
    record { sized = Every.nil; short = omega arith; whole = rw (sub-zero (length l)) (zero-list l e); valid = λ b. Valid.nil }

-- a record, then those behind it
all_more : (s : State) (l : List ℕ) (r : Rec) (rs : List Rec) → ReadOff s l r → ReadAll (after s r) (drop (size r) l) rs → ReadAll s l (r ∷ rs)
unfolding sizes encode_all after
all_more s l r rs one rest =
    let n : ℕ = s.number + 1 in
    let d : length (drop (size r) l) ≡ length l - size r = length-drop (size r) l in
    let q : length (drop (size r) l) - sizes rs ≡ length l - (size r + sizes rs) = omega arith in
    record {
      sized = Every.cons one.sized rest.sized;
      short = omega (arith, one.short, rest.short);
      whole = one.front
          ∙ ap (λ (x : List ℕ). encode n r ++ x) rest.whole
          ∙ ap (λ (k : ℕ). encode n r ++ (encode_all (n + 1) rs ++ zeroes k)) q
          ∙ sym (append_assoc (encode n r) (encode_all (n + 1) rs) (zeroes (length l - (size r + sizes rs))));
      valid = λ b. Valid.cons (one.fits b) (rest.valid (bytes_drop (size r) l b));
    }

-- one answer or the other
pick_some : {A : Type 0} (t : Bool) (x y : Option A) (v : A) → pick t x y ≡ some v → (x ≡ some v) ⊎ (y ≡ some v)
unfolding pick
pick_some true x y v e = inl e
pick_some false x y v e = inr e

-- records that are read stand there, and zeros to the end
pub read_recs-facts : (f : ℕ) (s : State) (l : List ℕ) (rs : List Rec) → read_recs f s l ≡ some rs → ReadAll s l rs
unfolding read_recs
read_recs-facts zero s l rs e = absurd (none-ne-some rs e)
read_recs-facts (suc f) s l rs e =
    ⊎_elim
    (λ (p : when (all_zero l) [] ≡ some rs). let w = when-some (all_zero l) [] rs p in subst (ReadAll s l) w.1 (all_none s l w.0))
    (λ (p : bind (read_rec s l) (λ r. bind (read_recs f (after s r) (drop (size r) l)) (λ rs. some (r ∷ rs))) ≡ some rs).
    let b = bind-some (read_rec s l) _ rs p in
    let c = bind-some (read_recs f (after s b.from) (drop (size b.from) l)) _ rs b.gives in
    subst (ReadAll s l) (some-injective (b.from ∷ c.from) rs c.gives)
    (all_more s l b.from c.from (read_rec-facts s l b.from b.was)
    (read_recs-facts f (after s b.from) (drop (size b.from) l) c.from c.was)))
    (pick_some (eqb (get_or l 0 0) 0) (when (all_zero l) []) _ rs e)

-- ---- the check record and the log

-- what a check record says of the bytes l that it was read off
pub record ReadTop (l : List ℕ) (c : Check) : Type 0 where
  pub short : 24 ≤ length l
  pub front : l ≡ encode_check c ++ drop 24 l
  pub small : Bytes l → Small c

-- a key that is there
key-small : (t : Bool) (v k : ℕ) → pick t none (some v) ≡ some k → v ≤ most4 → k ≤ most4
unfolding pick
key-small true v k e h = absurd (none-ne-some k e)
key-small false v k e h = omega (arith, some-injective v k e)

-- a check record that is read stands there
pub read_check-facts : (l : List ℕ) (c : Check) → read_check l ≡ some c → ReadTop l c
unfolding read_check
read_check-facts l c e =
    let d : Check = record { number = le4 l 4; unit = le4 l 12; lk = pick (eqb (get_or l 16 0) 0) none (some (le4 l 20)) } in
    let w = when-some (starts (encode_check d) l) d c e in
    let n : length (encode_check d) ≡ 24 = length-encode_check d in
    subst (ReadTop l) w.1 (record {
      short = omega (arith, starts-length (encode_check d) l w.0);
      front = rw n at (starts-eq (encode_check d) l w.0);
      small = λ b. record {
        number = omega (arith, le4-small l 4 b);
        unit = omega (arith, le4-small l 12 b);
        lk = λ k q. key-small (eqb (get_or l 16 0) 0) (le4 l 20) k q (omega (arith, le4-small l 20 b));
      };
    })

-- what a log says of the bytes l that it was read off
pub record ReadLog (l : List ℕ) (g : Log) : Type 0 where
  pub sized : Every Sized g.recs
  pub short : (at_end g).at ≤ length l
  pub whole : l ≡ encode_log g ++ zeroes (length l - (at_end g).at)
  pub good : Bytes l → Good g

-- a check record, then records
log-of : (l : List ℕ) (c : Check) (rs : List Rec) → ReadTop l c → ReadAll (first c) (drop 24 l) rs → ReadLog l (record { top = c; recs = rs })
unfolding encode_log
log-of l c rs top rest =
    let g : Log = record { top = c; recs = rs } in
    let a : (at_end g).at ≡ 24 + sizes rs = at-at_end g in
    let d : length (drop 24 l) ≡ length l - 24 = length-drop 24 l in
    let q : length (drop 24 l) - sizes rs ≡ length l - (at_end g).at = omega arith in
    let n : (first c).number ≡ c.number = unfold first in refl in
    record {
      sized = rest.sized;
      short = omega (arith, top.short, rest.short);
      whole = top.front
          ∙ ap (λ (x : List ℕ). encode_check c ++ x) (rw (q, n) at rest.whole)
          ∙ sym (append_assoc (encode_check c) (encode_all (c.number + 1) rs) (zeroes (length l - (at_end g).at)));
      good = λ b. record { top = top.small b; valid = rest.valid (bytes_drop 24 l b) };
    }

-- a log that is read stands there, and zeros to the end
pub read_log-facts : (l : List ℕ) (g : Log) → read_log l ≡ some g → ReadLog l g
unfolding read_log length_of
read_log-facts l g e =
    let b = bind-some (read_check l) _ g e in
    let c = bind-some (read_recs (length l) (first b.from) (drop 24 l)) _ g b.gives in
    subst (ReadLog l) (some-injective _ g c.gives)
    (log-of l b.from c.from (read_check-facts l b.from b.was) (read_recs-facts (length l) (first b.from) (drop 24 l) c.from c.was))
