-- A turn of the pass reads the record that `read_rec` reads: the numbers after it are those of the state after it. Assumes nothing.
use Prim.Native.Nat.{ℕ, suc, ◌+◌, ◌-◌, ◌*◌, ◌≤◌}
use native.Mathlib.Omega.{arith}
use mathlib.Core.Path.{◌≡◌, refl, sym, ap, ◌∙◌}
use mathlib.Core.Bool.{Bool, true, false}
use mathlib.Core.List.{List, [], ◌∷◌}
use mathlib.Core.Option.{Option, some, none}
use lib.ListN.{length, drop, get_or}
use lib.Dec.{eqb, leb}
use borrow.Author.Tests.{ne_eqb, le-leb, lt-leb}
use Rattle.field.specs.Test.{both, all, pick, given, when, bind, there}
use Rattle.field.specs.Bytes.{part, le2, le4}
use Rattle.field.proofs.Test.{pick_true, pick-false}
use Rattle.field.proofs.Part.{split}
use Rattle.page.specs.Page.{rows_of, key_of, ascend_records}
use Rattle.page.proofs.Rows.{length-rows_of}
use Rattle.logs.specs.Record.{Begin, saves, Image, Rec, LB, LO, LI, LM, LG, LE, out, into, modify, image, length_of, kind_of, carried, outs, size, sizes}
use Rattle.logs.specs.Plan.{Step, take_out, bring_in, point, close}
use Rattle.logs.specs.Log.{Open, State, largest, largest_moved, lk_ended, going, noting, opened_by, lk_by, unit_by, after, begin_ok, saves_at, read_begin, taken, planned, planned_first, images_of, all_bear, read_image, follows, imaged, expected, read_rec}
use Rattle.logs.specs.Stand.{stands, stands_modify, stands_out, stands_begin, stands_image, stands_last}
use Rattle.logs.specs.Scan.{latest, key_in, shown, lost, begun, went, ended, stepped, saved}
use Rattle.logs.proofs.Stand.{stands-in, stands-le4, both-none}

-- ---- the largest key moved, record by record

most : (a b : ℕ) → ℕ
most a b = pick (leb a b) b a

most-high : (a b : ℕ) → a ≤ b → most a b ≡ b
unfolding most pick
most-high a b h = rw (le-leb a b h)

most-low : (a b : ℕ) → b ≤ a → most a b ≡ a
unfolding most pick
most-low a b h =
    split b a
    (λ k. rw (lt-leb a b k))
    (λ k. let e : a ≡ b = omega arith in rw (le-leb a b k) (sym e))

most-turn : (a b : ℕ) → most a b ≡ most b a
most-turn a b =
    split a b
    (λ k. let h : a ≤ b = omega arith in most-high a b h ∙ sym (most-low b a h))
    (λ k. most-low a b k ∙ sym (most-high b a k))

most-three : (a b c : ℕ) → most (most a b) c ≡ most a (most b c)
most-three a b c =
    split a b
    (λ k. let h : a ≤ b = omega arith in
    split b c
    (λ j. let i : b ≤ c = omega arith in let q : a ≤ c = omega arith in rw (most-high a b h, most-high b c i, most-high a c q))
    (λ j. rw (most-high a b h, most-low b c j, most-high a b h)))
    (λ k. split b c
    (λ j. let i : b ≤ c = omega arith in rw (most-low a b k, most-high b c i))
    (λ j. let q : c ≤ a = omega arith in rw (most-low a b k, most-low b c j, most-low a b k, most-low a c q)))

most-nothing : (a : ℕ) → most 0 a ≡ a
most-nothing a = most-high 0 a (omega arith)

largest-most : (m : ℕ) (rs : List (List ℕ)) → largest m rs ≡ most m (largest 0 rs)
unfolding largest most
largest-most m [] = sym (unfold most in most-low m 0 (omega arith))
largest-most m (r ∷ rs) =
    let k : ℕ = key_of r in
    largest-most (pick (leb m k) k m) rs
    ∙ most-three m k (largest 0 rs)
    ∙ ap (most m) (sym (largest-most k rs))
    ∙ ap (λ (x : ℕ). most m (largest x rs)) (sym (most-nothing k))

moved-most : (m : ℕ) (did : List Rec) → largest_moved m did ≡ most m (largest_moved 0 did)
unfolding largest_moved
moved-most m [] = sym (most-low m 0 (omega arith))
moved-most m (r ∷ did) =
    moved-most (largest m (outs r)) did
    ∙ ap (λ (x : ℕ). most x (largest_moved 0 did)) (largest-most m (outs r))
    ∙ most-three m (largest 0 (outs r)) (largest_moved 0 did)
    ∙ ap (most m) (sym (moved-most (largest 0 (outs r)) did))

-- the largest key moved after one record more
moved_more : (r : Rec) (did : List Rec) → largest_moved 0 (r ∷ did) ≡ largest (largest_moved 0 did) (outs r)
unfolding largest_moved
moved_more r did =
    moved-most (largest 0 (outs r)) did ∙ most-turn (largest 0 (outs r)) (largest_moved 0 did) ∙ sym (largest-most (largest_moved 0 did) (outs r))

-- ---- the state after a record, by its numbers

-- the unit's first record
first_of : (r d : Rec) (did : List Rec) → length (outs (get_or (r ∷ did) (length did) d)) ≡ pick (eqb (length did) 0) (length (outs r)) (length (outs (get_or did (length did - 1) d)))
unfolding pick
first_of r d [] = refl
first_of r d (x ∷ did) =
    let e : eqb (suc (length did)) 0 ≡ false = ne_eqb (suc (length did)) 0 (λ q. omega arith) in
    let f : suc (length did) - 1 ≡ length did = omega arith in
    rw (e, f)

-- after an LO, an LI, an LM or an LG
module _ (s : State) (o : Open) (r : Rec) (op : s.opened ≡ some o) (u : unit_by r s.unit ≡ s.unit) (k : lk_by r s.lk (some o) ≡ s.lk) (p : Open) (w : opened_by r (some o) ≡ some p) (ps : p.start ≡ o.start) (pd : p.did ≡ r ∷ o.did) where
  shown-went : shown (after s r) ≡ went (shown s) (size r) (length (outs r)) (key_in r) (largest (largest_moved 0 o.did) (outs r))
  unfolding shown after went given there sizes latest
  shown-went =
      let b : ℕ = size (LB o.start) in
      let e1 : s.at + size r - (b + (size r + sizes o.did)) ≡ s.at - (b + sizes o.did) = omega arith in
      let e2 : suc (length o.did) ≡ length o.did + 1 = omega arith in
      let e3 : s.at + size r - size r ≡ s.at = omega arith in
      let e4 : suc (length o.did) - 1 ≡ length o.did = omega arith in
      rw (op, u, k, w, ps, pd, e1, e4, first_of r (LE 0 []) o.did, e2, e3, moved_more r o.did)

-- after an LB
shown-begun : (s : State) (g : Begin) → s.opened ≡ none → g.unit ≡ s.unit + 1 → shown (after s (LB g)) ≡ begun (shown s) (length g.saved)
unfolding shown after begun given there sizes latest unit_by lk_by opened_by size carried outs kind_of key_in largest_moved length_of
shown-begun s g op u =
    let n : ℕ = length g.saved in
    let e : s.at + (44 + 16 * n) - (44 + 16 * n + 0) ≡ s.at = omega arith in
    let f : s.at + (44 + 16 * n) - (44 + 16 * n) ≡ s.at = omega arith in
    rw (u, e, f)

-- LK after a unit has ended
ended-there : (t : Bool) (k : ℕ) (lk : Option ℕ) → there (pick t (some k) lk) ≡ pick t true (there lk)
unfolding there pick
ended-there true k lk = refl
ended-there false k lk = refl

ended-key : (t : Bool) (k : ℕ) (lk : Option ℕ) → given (pick t (some k) lk) 0 (λ (n : ℕ). n) ≡ pick t k (given lk 0 (λ (n : ℕ). n))
unfolding given pick
ended-key true k lk = refl
ended-key false k lk = refl

-- after an LE
shown-ended : (s : State) (o : Open) (u : ℕ) (is : List Image) → s.opened ≡ some o → shown (after s (LE u is)) ≡ ended (shown s) (eqb o.start.type 1)
unfolding shown after ended unit_by lk_by opened_by lk_ended size carried kind_of length_of
shown-ended s o u is op =
    let t : Bool = eqb o.start.type 1 in
    let e : given (some o) s.lk (λ (x : Open). pick (eqb x.start.type 1) (some (largest_moved 0 x.did)) s.lk) ≡ pick t (some (largest_moved 0 o.did)) s.lk = unfold given in refl in
    let z : there {A = Open} none ≡ false = unfold there in refl in
    rw (op, e, ended-there t (largest_moved 0 o.did) s.lk, ended-key t (largest_moved 0 o.did) s.lk) (unfold given there in refl)

-- a begin record that is read carries one record or none
saved-length : (t : Bool) (r : List ℕ) → length (pick t (r ∷ []) []) ≡ pick t 1 0
unfolding pick
saved-length true r = refl
saved-length false r = refl

-- ---- what is read, by one test

-- a value that is there where a test holds
pub given-when : {A B : Type 0} (f : A → B) (b : B) (t : Bool) (x : A) → given (when t x) b f ≡ pick t (f x) b
unfolding given when pick
given-when f b true x = refl
given-when f b false x = refl

-- a value that must be there and pass a test
given-one : {A B : Type 0} (T : A → Bool) (f : A → B) (b : B) (x : A) → given (bind (some x) (λ r. when (T r) r)) b f ≡ pick (T x) (f x) b
unfolding bind
given-one T f b x = given-when f b (T x) x

given_both : {A B : Type 0} (T : A → Bool) (f : A → B) (b : B) (a : Bool) (x : A) → given (bind (when a x) (λ r. when (T r) r)) b f ≡ pick (both a (T x)) (f x) b
unfolding bind when both given pick
given_both T f b true x = given-when f b (T x) x
given_both T f b false x = refl

-- the record that is expected, tested
read_is : (s : State) (m : List ℕ) (x : Option Rec) → expected s.unit s.opened m ≡ x → read_rec s m ≡ bind x (λ r. when (stands (s.number + 1) r m) r)
unfolding read_rec stands
read_is s m x e = rw e

-- ---- the planned step

module _ (s : State) (o : Open) (op : s.opened ≡ some o) (m : List ℕ) where
  -- what is read where the step x comes next
  Reads : Step → Type 0
  Reads x =
      stepped (shown s) m (eqb o.start.type 1) x ≡ given (bind (planned x o.did m) (λ r. when (stands (s.number + 1) r m) r)) lost (λ r. shown (after s r))

  moved-is : (shown s).moved ≡ largest_moved 0 o.did
  unfolding shown given
  moved-is = rw op

  out-shown : (org dest k : ℕ) (rs : List (List ℕ)) → length rs ≡ k
      → shown (after s (LO org dest rs)) ≡ went (shown s) (length_of out k) k 0 (largest (shown s).moved rs)
  unfolding size carried outs kind_of key_in unit_by lk_by opened_by bind going
  out-shown org dest k rs n =
      rw (← n)
      (shown-went s o (LO org dest rs) op refl refl (going (LO org dest rs) o) refl refl refl ∙ ap (λ (x : ℕ). went (shown s) (length_of out (length rs)) (length rs) 0 (largest x rs)) (sym moved-is))

  in-shown : (org dest back : ℕ) (rs : List (List ℕ)) → shown (after s (LI org dest back rs)) ≡ went (shown s) (length_of into 0) 0 0 (shown s).moved
  unfolding size carried outs kind_of key_in unit_by lk_by opened_by bind largest going
  in-shown org dest back rs = shown-went s o (LI org dest back rs) op refl refl (going (LI org dest back rs) o) refl refl refl ∙ ap (went (shown s) (length_of into 0) 0 0) (sym moved-is)

  modify-shown : (base old new key : ℕ) → shown (after s (LM base old new key)) ≡ went (shown s) (length_of modify 0) 0 key (shown s).moved
  unfolding size carried outs kind_of key_in unit_by lk_by opened_by bind largest going
  modify-shown base old new key = shown-went s o (LM base old new key) op refl refl (going (LM base old new key) o) refl refl refl ∙ ap (went (shown s) (length_of modify 0) 0 key) (sym moved-is)

  number_is : (shown s).number.0 ≡ s.number
  unfolding shown
  number_is = refl

  step-out : (org dest : ℕ) → Reads (take_out org dest)
  unfolding Reads stepped planned stands_out
  step-out org dest =
      let k : ℕ = le2 m 16 in
      let rs : List (List ℕ) = rows_of 16 k (drop 20 m) in
      sym (given_both (λ r. stands (s.number + 1) r m) (λ r. shown (after s r)) lost (all (leb 1 k ∷ leb k 15 ∷ ascend_records 0 rs ∷ [])) (LO org dest rs)
      ∙ rw (out-shown org dest k rs (length-rows_of 16 k (drop 20 m)), number_is))

  step_in : (org dest back : ℕ) → pick (eqb back 1) (shown s).rows (shown s).first ≡ length (taken back o.did) → Reads (bring_in org dest back)
  unfolding Reads stepped planned
  step_in org dest back e =
      sym (given-one (λ r. stands (s.number + 1) r m) (λ r. shown (after s r)) lost (LI org dest back (taken back o.did))
      ∙ rw (in-shown org dest back (taken back o.did), stands-in (s.number + 1) org dest back (taken back o.did) m, number_is, e))

  step-point : (base old new : ℕ) (other : Bool) → Reads (point base old new other)
  unfolding Reads stepped planned stands_modify
  step-point base old new other =
      sym (given-one (λ r. stands (s.number + 1) r m) (λ r. shown (after s r)) lost (LM base old new (le4 m 20))
      ∙ rw (modify-shown base old new (le4 m 20), number_is))

  step-close : (u : ℕ) → Reads (close u)
  unfolding Reads stepped planned
  step-close u =
      sym (given-one (λ r. stands (s.number + 1) r m) (λ r. shown (after s r)) lost (LE u [])
      ∙ rw (shown-ended s o u [] op, number_is))

  -- an LI says how many records its LO outs, which is the record before or the unit's first
  unfoldable pub Counted : Step → Type 0
  Counted x = (org dest back : ℕ) → x ≡ bring_in org dest back → pick (eqb back 1) (shown s).rows (shown s).first ≡ length (taken back o.did)

  step-any : (x : Step) → Counted x → Reads x
  unfolding Counted
  step-any (take_out org dest) f = step-out org dest
  step-any (bring_in org dest back) f = step_in org dest back (f org dest back refl)
  step-any (point base old new other) f = step-point base old new other
  step-any (close u) f = step-close u

  -- the record that an open unit reads next
  pub open-reads : (x : Step) (xs : List Step) → saves o.start ≡ false → o.todo ≡ x ∷ xs → Counted x
      → stepped (shown s) m (eqb o.start.type 1) x ≡ given (read_rec s m) lost (λ r. shown (after s r))
  unfolding Reads expected planned_first
  open-reads x xs v t f =
      let e : expected s.unit s.opened m ≡ planned x o.did m = rw op (pick-false _ _ _ v ∙ rw t) in
      step-any x f ∙ ap (λ (y : Option Rec). given y lost (λ r. shown (after s r))) (sym (read_is s m (planned x o.did m) e))

  -- ---- a put or delete

  image-shown : (i : Image) → shown (after s (LG i)) ≡ went (shown s) (length_of image 1) 0 0 (shown s).moved
  unfolding size carried outs kind_of key_in unit_by lk_by opened_by bind largest noting
  image-shown i = shown-went s o (LG i) op refl refl (noting (LG i) o) refl refl refl ∙ ap (went (shown s) (length_of image 1) 0 0) (sym moved-is)

  -- the test of an LE reads its number off the bytes
  last-bears : (u : ℕ) (is : List Image) (t : Bool) → stands (s.number + 1) (LE u is) m ≡ t
      → both (both (leb 1 (length is)) (all_bear (le4 m 4) is)) t ≡ both (both (leb 1 (length is)) (all_bear (s.number + 1) is)) t
  last-bears u is true e = ap (λ (n : ℕ). both (both (leb 1 (length is)) (all_bear n is)) true) (stands-le4 (s.number + 1) (LE u is) m e)
  last-bears u is false e = both-none _ false refl ∙ sym (both-none _ false refl)

  -- the record that an open put or delete reads next
  pub save-reads : saves o.start ≡ true → o.start.unit ≡ s.unit → (eqb o.start.type 1 ≡ false)
      → saved (shown s) m (images_of o.did []) ≡ given (read_rec s m) lost (λ r. shown (after s r))
  unfolding expected saved imaged stands_image stands_last pick
  save-reads v u n =
      let is : List Image = images_of o.did [] in
      let un : (shown s).unit.0 ≡ s.unit = unfold shown in refl in
      let e : expected s.unit s.opened m ≡ imaged s.unit is m = rw op (pick_true _ _ _ v ∙ rw u) in
      sym (ap (λ (y : Option Rec). given y lost (λ r. shown (after s r))) (read_is s m (imaged s.unit is m) e)
      ∙ by-mark (eqb (get_or m 1 0) image.sign) ∙ rw (number_is, un))
    where
      by-mark : (t : Bool)
          → given (bind (pick t (when (follows (images_of o.did []) (read_image m)) (LG (read_image m)))
          (when (both (leb 1 (length (images_of o.did []))) (all_bear (le4 m 4) (images_of o.did []))) (LE s.unit (images_of o.did [])))) (λ r. when (stands (s.number + 1) r m) r)) lost (λ r. shown (after s r))
          ≡ pick t (pick (both (follows (images_of o.did []) (read_image m)) (stands (s.number + 1) (LG (read_image m)) m)) (went (shown s) (length_of image 1) 0 0 (shown s).moved) lost)
          (pick (both (both (leb 1 (length (images_of o.did []))) (all_bear (s.number + 1) (images_of o.did []))) (stands (s.number + 1) (LE s.unit (images_of o.did [])) m)) (ended (shown s) false) lost)
      by-mark true = given_both (λ r. stands (s.number + 1) r m) (λ r. shown (after s r)) lost _ (LG (read_image m)) ∙ rw (image-shown (read_image m))
      by-mark false =
          given_both (λ r. stands (s.number + 1) r m) (λ r. shown (after s r)) lost _ (LE s.unit (images_of o.did []))
          ∙ rw (last-bears s.unit (images_of o.did []) _ refl, shown-ended s o s.unit (images_of o.did []) op, n)

-- the record that comes next where no unit is open
pub shut-reads : (s : State) (m : List ℕ) → s.opened ≡ none
    → pick (stands_begin ((shown s).number.0 + 1) ((shown s).unit.0 + 1) m) (begun (shown s) (pick (saves_at m) 1 0)) lost ≡ given (read_rec s m) lost (λ r. shown (after s r))
unfolding stands_begin expected
shut-reads s m op =
    let g : Begin = read_begin (s.unit + 1) m in
    let gu : g.unit ≡ s.unit + 1 = unfold read_begin in refl in
    let n : (shown s).number.0 ≡ s.number = unfold shown in refl in
    let u : (shown s).unit.0 ≡ s.unit = unfold shown in refl in
    let e : expected s.unit s.opened m ≡ when (begin_ok g) (LB g) = rw op in
    let r : given (read_rec s m) lost (λ r. shown (after s r)) ≡ pick (both (begin_ok g) (stands (s.number + 1) (LB g) m)) (shown (after s (LB g))) lost =
    ap (λ (y : Option Rec). given y lost (λ r. shown (after s r))) (read_is s m (when (begin_ok g) (LB g)) e)
    ∙ given_both (λ r. stands (s.number + 1) r m) (λ r. shown (after s r)) lost (begin_ok g) (LB g) in
    let k : length g.saved ≡ pick (saves_at m) 1 0 = unfold read_begin in saved-length (saves_at m) (part 44 16 m) in
    sym (r ∙ rw (shown-begun s g op gu, n, u, k))
