-- What is written is read: a record that may come next, records each of which may, and a good log, whatever zeros follow.
-- Assumes nothing.
use Prim.Native.Nat.{ℕ, zero, suc, ◌+◌, ◌≤◌, ◌<◌}
use native.Mathlib.Nat.{not-suc-le-zero}
use native.Mathlib.Omega.{arith}
use mathlib.Core.Path.{◌≡◌, refl, sym, ap, ap₂, ◌∙◌}
use mathlib.Core.Bool.{Bool, true, false}
use mathlib.Core.List.{List, [], ◌∷◌, ◌++◌, append_assoc}
use mathlib.Core.Option.{Option, some, none}
use lib.ListN.{length, take, drop, get_or, length-append}
use lib.Seq.{drop-drop, drop_at, take_at}
use lib.Dec.{eqb, leb}
use borrow.Author.Tests.{eq-eqb, ne_eqb, le-leb, leb-true}
use Rattle.field.specs.Test.{both, pick, when}
use Rattle.field.specs.Bytes.{part, zeroes, all_zero, starts, le2, le4, bytes2, bytes4, most4}
use Rattle.field.proofs.Test.{both-intro, all_head, all_tail, all_nil, all-intro, pick_true, pick-false, when_true, bind-intro}
use Rattle.field.proofs.Number.{le2-drop, le4-drop, le2-bytes2, le4-bytes4}
use Rattle.field.proofs.Zero.{all-zeroes}
use Rattle.field.proofs.Same.{starts-append}
use Rattle.page.specs.Page.{joined, first_base, last_base, first_leaf, last_leaf}
use Rattle.page.specs.Each.{Each, Long}
use Rattle.page.proofs.Rows.{rows_of-joined}
use Rattle.logs.specs.Record.{image, length_of, kind_of, Check, Begin, saves, Image, Rec, LB, LO, LM, LG, LE, size, sizes, header, fields, lk_bytes, encode_check, new_key, body, encode, encode_all}
use Rattle.logs.specs.Plan.{Step}
use Rattle.logs.specs.Log.{Open, State, first, after, within, begin_ok, read_fields, saves_at, read_begin, planned, planned_first, images_of, all_bear, read_image, follows, imaged, expected, read_rec, read_recs, read_check, Log, read_log, encode_log}
use Rattle.logs.specs.Valid.{Does, does-out, does-in, does-point, does-close, Logs, logs-image, logs-end, Bears, Follows, begins, goes, logs, Fits, Valid, Small, Good}
use Rattle.logs.proofs.Record.{length_fields, length-encode_check, length-encode, encode-first, number_read}
use Rattle.logs.proofs.State.{sizes-least, length-encode_all}
use Rattle.logs.proofs.Begin.{Limits, within-head, within-tail, begin_ok-limits, begin_ok-bases, begin_ok-leaves, begin_ok-saved}
use Rattle.logs.proofs.Valid.{follows-sized, valid-sized}

-- ---- a begin record

-- listed pages are read as they were written
pub read_fields-fields : (from to n : ℕ) (ps rest : List ℕ) → to < 65536 → length ps ≤ n → within from to ps ≡ true
    → read_fields (length ps) (fields n ps ++ rest) ≡ ps
unfolding read_fields fields bytes2
read_fields-fields from to n [] rest h k w = refl
read_fields-fields from to zero (p ∷ ps) rest h k w = absurd (not-suc-le-zero k)
read_fields-fields from to (suc n) (p ∷ ps) rest h k w =
    let b = within-head from to p ps w in
    ap₂ (λ (x : ℕ) (xs : List ℕ). x ∷ xs) (le2-bytes2 p (fields n ps ++ rest) (omega arith))
    (read_fields-fields from to n ps rest h (omega arith) (within-tail from to p ps w))

module _ (n : ℕ) (g : Begin) (rest : List ℕ) (ok : begin_ok g ≡ true) (long : Each (Long 16) g.saved) where
  -- what stands from the base pages on
  bases-on : drop 20 (encode n (LB g) ++ rest) ≡ fields 2 g.bases ++ (fields 8 g.leaves ++ (bytes2 g.dest ++ (bytes2 0 ++ (joined g.saved ++ rest))))
  unfolding encode header body bytes2 bytes4
  bases-on = simp append_assoc

  -- from the leaves on
  leaves-on : drop 24 (encode n (LB g) ++ rest) ≡ fields 8 g.leaves ++ (bytes2 g.dest ++ (bytes2 0 ++ (joined g.saved ++ rest)))
  leaves-on =
      sym (drop-drop 4 20 (encode n (LB g) ++ rest))
      ∙ rw bases-on (drop_at (fields 2 g.bases) (fields 8 g.leaves ++ (bytes2 g.dest ++ (bytes2 0 ++ (joined g.saved ++ rest)))) 4 (length_fields 2 g.bases))

  -- from the destination on
  dest-on : drop 40 (encode n (LB g) ++ rest) ≡ bytes2 g.dest ++ (bytes2 0 ++ (joined g.saved ++ rest))
  dest-on =
      sym (drop-drop 16 24 (encode n (LB g) ++ rest))
      ∙ rw leaves-on (drop_at (fields 8 g.leaves) (bytes2 g.dest ++ (bytes2 0 ++ (joined g.saved ++ rest))) 16 (length_fields 8 g.leaves))

  -- the four bytes in front of the listed pages
  four-on : (get_or (encode n (LB g) ++ rest) 16 0 ≡ g.type) × (get_or (encode n (LB g) ++ rest) 17 0 ≡ g.fill)
      × (get_or (encode n (LB g) ++ rest) 18 0 ≡ length g.bases) × (get_or (encode n (LB g) ++ rest) 19 0 ≡ length g.leaves)
  unfolding encode header body bytes2 bytes4
  four-on = (refl, refl, refl, refl)

  -- from the carried record on
  saved-on : drop 44 (encode n (LB g) ++ rest) ≡ joined g.saved ++ rest
  saved-on = sym (drop-drop 4 40 (encode n (LB g) ++ rest)) ∙ rw dest-on (unfold bytes2 in refl)

  -- how many records it carries
  saved-count : (t : Bool) → leb 4 g.type ≡ t → length g.saved ≡ pick t 1 0
  unfolding saves
  saved-count t e = rw e at (begin_ok-saved g ok)

  -- the record that it carries, if any
  saved_read : (t : Bool) → leb 4 g.type ≡ t → (rs : List (List ℕ)) → g.saved ≡ rs
      → pick t (part 44 16 (encode n (LB g) ++ rest) ∷ []) [] ≡ g.saved
  saved_read true e [] c = absurd (let z : length g.saved ≡ 1 = (unfold pick in saved-count true e) in let y : length g.saved ≡ 0 = ap length c in omega arith)
  saved_read true e (r ∷ r2 ∷ rs) c = absurd (let z : length g.saved ≡ 1 = (unfold pick in saved-count true e) in let y : length g.saved ≡ suc (suc (length rs)) = ap length c in omega arith)
  saved_read true e (r ∷ []) c = unfold pick part joined in
      (ap (λ (l : List ℕ). take 16 l ∷ []) (saved-on ∙ ap (λ (rs : List (List ℕ)). joined rs ++ rest) c) ∙ one (rw c at long) ∙ sym c)
    where
      one : Each (Long 16) (r ∷ []) → take 16 ((r ++ []) ++ rest) ∷ [] ≡ r ∷ []
      one (Each.cons h p) = ap (λ (l : List ℕ). l ∷ []) (ap (take 16) (append_assoc r [] rest) ∙ take_at r rest 16 h)
  saved_read false e [] c = unfold pick in (sym c)
  saved_read false e (r ∷ rs) c = absurd (let z : length g.saved ≡ 0 = (unfold pick in saved-count false e) in let y : length g.saved ≡ suc (length rs) = ap length c in omega arith)

  -- a begin record is read as it was written
  pub read_begin-encode : read_begin g.unit (encode n (LB g) ++ rest) ≡ g
  unfolding read_begin
  read_begin-encode =
      let l : List ℕ = encode n (LB g) ++ rest in
      let m : Limits g = begin_ok-limits g ok in
      let bs : read_fields (get_or l 18 0) (drop 20 l) ≡ g.bases =
      rw (four-on.2, bases-on) (read_fields-fields first_base last_base 2 g.bases (fields 8 g.leaves ++ (bytes2 g.dest ++ (bytes2 0 ++ (joined g.saved ++ rest)))) (omega arith) m.bases (begin_ok-bases g ok)) in
      let ls : read_fields (get_or l 19 0) (drop 24 l) ≡ g.leaves =
      rw (four-on.3, leaves-on) (read_fields-fields first_leaf last_leaf 8 g.leaves (bytes2 g.dest ++ (bytes2 0 ++ (joined g.saved ++ rest))) (omega arith) m.leaves (begin_ok-leaves g ok)) in
      let d : le2 l 40 ≡ g.dest = sym (le2-drop 40 0 l) ∙ rw dest-on (le2-bytes2 g.dest (bytes2 0 ++ (joined g.saved ++ rest)) (omega arith)) in
      let s : pick (saves_at l) (part 44 16 l ∷ []) [] ≡ g.saved = unfold saves_at in rw four-on.0 (saved_read (leb 4 g.type) refl g.saved refl) in
      λ i. record { unit = g.unit; type = four-on.0 i; fill = four-on.1 i; bases = bs i; leaves = ls i; dest = d i; saved = s i }

-- ---- one record

-- an LO's count
out-count : (n org dest : ℕ) (rs : List (List ℕ)) (rest : List ℕ) → length rs ≤ 15 → le2 (encode n (LO org dest rs) ++ rest) 16 ≡ length rs
unfolding encode header body bytes2 bytes4 le2
out-count n org dest rs rest h = omega arith

-- an LO's rows
out-rows : (n org dest : ℕ) (rs : List (List ℕ)) (rest : List ℕ) → drop 20 (encode n (LO org dest rs) ++ rest) ≡ joined rs ++ rest
unfolding encode header body bytes2 bytes4
out-rows n org dest rs rest = refl

-- an LM's key
point-key : (n base old new key : ℕ) (rest : List ℕ) → key ≤ most4 → le4 (encode n (LM base old new key) ++ rest) 20 ≡ key
unfolding encode header body bytes2
point-key n base old new key rest h =
    sym (le4-drop 20 0 (encode n (LM base old new key) ++ rest))
    ∙ (unfold bytes4 in le4-bytes4 key (bytes4 (new_key new key) ++ rest) (omega arith))

-- the record of a step
planned-encode : {did : List Rec} {x : Step} {r : Rec} (n : ℕ) (rest : List ℕ) → Does did x r → planned x did (encode n r ++ rest) ≡ some r
unfolding planned
planned-encode n rest (does-out {org = org} {dest = dest} {rs = rs} m) =
    rw (out-count n org dest rs rest m.few-rows, out-rows n org dest rs rest, rows_of-joined 16 rs rest m.long)
    (when_true _ (LO org dest rs)
    (all-intro _ _ (le-leb 1 (length rs) m.some-rows) (all-intro _ _ (le-leb (length rs) 15 m.few-rows) (all-intro _ _ m.order all_nil))))
planned-encode n rest (does-in e) = rw e
planned-encode n rest (does-point {base = base} {old = old} {new = new} {key = key} h) = rw (point-key n base old new key rest h)
planned-encode n rest does-close = refl

-- the marks of an LG and of an LE
sign-image : (n : ℕ) (i : Image) (rest : List ℕ) → get_or (encode n (LG i) ++ rest) 1 0 ≡ 71
unfolding encode header kind_of
sign-image n i rest = refl

sign-end : (n u : ℕ) (is : List Image) (rest : List ℕ) → get_or (encode n (LE u is) ++ rest) 1 0 ≡ 69
unfolding encode header kind_of
sign-end n u is rest = refl

follows-small : (is : List Image) (i : Image) → follows is i ≡ true → i.at ≤ last_leaf
unfolding follows
follows-small is i e = leb-true i.at last_leaf (all_head _ _ (all_tail _ _ e))

-- an LG's image
image-read : (n : ℕ) (i : Image) (rest : List ℕ) → i.at ≤ last_leaf → length i.bytes ≡ 256 → read_image (encode n (LG i) ++ rest) ≡ i
unfolding read_image
image-read n i rest h k = λ j. record { at = at_read j; bytes = bytes_read j }
  where
    at_read : le2 (encode n (LG i) ++ rest) 12 ≡ i.at
    at_read = unfold encode header body bytes2 bytes4 le2 in omega arith

    bytes_read : part 16 256 (encode n (LG i) ++ rest) ≡ i.bytes
    bytes_read = unfold part encode header body bytes2 bytes4 in take_at i.bytes rest 256 k

-- the record of a put or delete
imaged-encode : {u : ℕ} {is : List Image} {r : Rec} (n : ℕ) (rest : List ℕ) → n ≤ most4 → Bears n r → Logs u is r → imaged u is (encode n r ++ rest) ≡ some r
unfolding imaged
imaged-encode {u} {is} n rest h k (logs-image {i = i} f l b) =
    let l1 : List ℕ = encode n (LG i) ++ rest in
    let small : i.at ≤ last_leaf = follows-small is i f in
    pick_true (eqb (get_or l1 1 0) image.sign) (when (follows is (read_image l1)) (LG (read_image l1))) _ (eq-eqb (get_or l1 1 0) 71 (sign-image n i rest))
    ∙ rw (image-read n i rest small l) (when_true (follows is i) (LG i) f)
imaged-encode {u} {is} n rest h k (logs-end m) =
    let l1 : List ℕ = encode n (LE u is) ++ rest in
    pick-false (eqb (get_or l1 1 0) image.sign) _ (when (both (leb 1 (length is)) (all_bear (le4 l1 4) is)) (LE u is)) (ne_eqb (get_or l1 1 0) 71 (λ e. let z = sign-end n u is rest in omega arith))
    ∙ rw (number_read n (LE u is) rest h) (when_true _ (LE u is) (both-intro _ _ (le-leb 1 (length is) m) k))

-- the record that a state expects
expected-encode : {u : ℕ} {o : Option Open} {r : Rec} (n : ℕ) (rest : List ℕ) → n ≤ most4 → Bears n r → Follows u o r → expected u o (encode n r ++ rest) ≡ some r
unfolding expected planned_first
expected-encode n rest h k (begins {g = g} e ok l b) = rw (← e, read_begin-encode n g rest ok l) (when_true (begin_ok g) (LB g) ok)
expected-encode n rest h k (goes {o = o} {r = r} s e d) =
    pick-false (saves o.start) (imaged o.start.unit (images_of o.did []) (encode n r ++ rest)) _ s ∙ rw e (planned-encode n rest d)
expected-encode n rest h k (logs {o = o} {r = r} s m) =
    pick_true (saves o.start) (imaged o.start.unit (images_of o.did []) (encode n r ++ rest)) _ s ∙ imaged-encode n rest h k m

-- a record that may come next is read as it was written
pub read_rec-encode : (s : State) (r : Rec) (rest : List ℕ) → Fits s r → read_rec s (encode (s.number + 1) r ++ rest) ≡ some r
unfolding read_rec
read_rec-encode s r rest f =
    let n : ℕ = s.number + 1 in
    let h : size r ≤ length (encode n r ++ rest) = omega (arith, length-append (encode n r) rest, length-encode n r (follows-sized f.follows)) in
    bind-intro (expected s.unit s.opened (encode n r ++ rest)) _ r (expected-encode n rest f.room f.bears f.follows)
    ∙ when_true _ r
    (all-intro _ _ (le-leb n most4 f.room) (all-intro _ _ (le-leb (size r) (length (encode n r ++ rest)) h) (all-intro _ _ (starts-append (encode n r) rest) all_nil)))

-- ---- the records

-- zeros begin with zero
zeroes-first : (k : ℕ) → get_or (zeroes k) 0 0 ≡ 0
unfolding zeroes
zeroes-first zero = refl
zeroes-first (suc k) = refl

-- a chain is read as it was written, with fuel for one record more
pub read_recs-encode_all : (f k : ℕ) {s : State} {rs : List Rec} → Valid s rs → length rs < f
    → read_recs f s (encode_all (s.number + 1) rs ++ zeroes k) ≡ some rs
unfolding read_recs encode_all after
read_recs-encode_all zero k v h = absurd (not-suc-le-zero h)
read_recs-encode_all (suc f) k Valid.nil h =
    pick_true (eqb (get_or (zeroes k) 0 0) 0) (when (all_zero (zeroes k)) []) _ (eq-eqb (get_or (zeroes k) 0 0) 0 (zeroes-first k))
    ∙ when_true (all_zero (zeroes k)) [] (all-zeroes k)
read_recs-encode_all (suc f) k (Valid.cons {s = s} {r = r} {rs = rs} one rest) h =
    let n : ℕ = s.number + 1 in
    let l : List ℕ = encode_all (n + 1) rs ++ zeroes k in
    let first : get_or (encode n r ++ l) 0 0 ≡ 76 = encode-first n r l in
    let long : length (encode n r) ≡ size r = length-encode n r (follows-sized one.follows) in
    rw (append_assoc (encode n r) (encode_all (n + 1) rs) (zeroes k))
    (pick-false (eqb (get_or (encode n r ++ l) 0 0) 0) _ _ (ne_eqb (get_or (encode n r ++ l) 0 0) 0 (λ e. omega arith))
    ∙ bind-intro (read_rec s (encode n r ++ l)) _ r (read_rec-encode s r l one)
    ∙ rw (drop_at (encode n r) l (size r) long)
    (bind-intro (read_recs f (after s r) l) _ rs (read_recs-encode_all f k rest (omega arith))))

-- ---- the check record and the log

-- LK at the front of a list
lk-front : (lk : Option ℕ) (rest : List ℕ) → ((k : ℕ) → lk ≡ some k → k ≤ most4)
    → pick (eqb (get_or (lk_bytes lk ++ rest) 0 0) 0) none (some (le4 (lk_bytes lk ++ rest) 4)) ≡ lk
unfolding lk_bytes zeroes pick
lk-front none rest h = refl
lk-front (some k) rest h = ap some (sym (le4-drop 4 0 (lk_bytes (some k) ++ rest)) ∙ le4-bytes4 k rest (omega (arith, h k refl)))

module _ (c : Check) (rest : List ℕ) where
  -- a check record's number
  check-number : c.number ≤ most4 → le4 (encode_check c ++ rest) 4 ≡ c.number
  unfolding encode_check header bytes2 bytes4
  check-number h = sym (le4-drop 4 0 (encode_check c ++ rest)) ∙ le4-bytes4 c.number _ (omega arith)

  -- its unit
  check-unit : c.unit ≤ most4 → le4 (encode_check c ++ rest) 12 ≡ c.unit
  unfolding encode_check header bytes2 bytes4
  check-unit h = sym (le4-drop 12 0 (encode_check c ++ rest)) ∙ le4-bytes4 c.unit (lk_bytes c.lk ++ rest) (omega arith)

  -- its LK
  check-lk : ((k : ℕ) → c.lk ≡ some k → k ≤ most4) → pick (eqb (get_or (encode_check c ++ rest) 16 0) 0) none (some (le4 (encode_check c ++ rest) 20)) ≡ c.lk
  unfolding encode_check header bytes2 bytes4
  check-lk h = rw (← le4-drop 16 4 (encode_check c ++ rest)) (lk-front c.lk rest h)

  -- a check record is read as it was written
  pub read_check-encode : Small c → read_check (encode_check c ++ rest) ≡ some c
  unfolding read_check
  read_check-encode h =
      let l : List ℕ = encode_check c ++ rest in
      let d : Check = record { number = le4 l 4; unit = le4 l 12; lk = pick (eqb (get_or l 16 0) 0) none (some (le4 l 20)) } in
      let e : d ≡ c = λ i. record { number = check-number h.number i; unit = check-unit h.unit i; lk = check-lk h.lk i } in
      ap (λ (x : Check). when (starts (encode_check x) l) x) e ∙ when_true (starts (encode_check c) l) c (starts-append (encode_check c) rest)

-- a good log is read as it was written
pub read_log-encode : (g : Log) (k : ℕ) → Good g → read_log (encode_log g ++ zeroes k) ≡ some g
unfolding read_log encode_log length_of first
read_log-encode g k h =
    let c : Check = g.top in
    let rs : List Rec = g.recs in
    let a : List ℕ = encode_check c in
    let l : List ℕ = encode_all (c.number + 1) rs ++ zeroes k in
    let na : length a ≡ 24 = length-encode_check c in
    let nl : length l ≡ sizes rs + length (zeroes k) = length-append (encode_all (c.number + 1) rs) (zeroes k) ∙ rw (length-encode_all (c.number + 1) (valid-sized h.valid)) in
    let f : length rs < length (a ++ l) = omega (arith, length-append a l, sizes-least rs) in
    let all : read_recs (length (a ++ l)) (first c) l ≡ some rs = read_recs-encode_all (length (a ++ l)) k h.valid f in
    rw (append_assoc a (encode_all (c.number + 1) rs) (zeroes k))
    (bind-intro (read_check (a ++ l)) _ c (read_check-encode c l h.top)
    ∙ rw (drop_at a l 24 na) (bind-intro (read_recs (length (a ++ l)) (first c) l) _ rs all))
