-- Past a record that is there: its mark says which one it is, and its bytes give the numbers after it. Assumes nothing.
use Prim.Native.Nat.{ℕ, ◌+◌, ◌≤◌, ◌<◌}
use native.Mathlib.Omega.{arith}
use mathlib.Core.Path.{◌≡◌, refl, sym, ap, ◌∙◌, subst}
use mathlib.Core.Bool.{Bool, true, false, false≢true}
use mathlib.Core.List.{List, [], ◌++◌}
use lib.ListN.{length, drop, get_or}
use lib.Seq.{get_or-drop}
use lib.Dec.{eqb}
use borrow.Author.Tests.{eq-eqb, ne_eqb, leb-true}
use Rattle.field.specs.Test.{pick}
use Rattle.field.specs.Bytes.{starts, le2, le4, most4}
use Rattle.field.proofs.Test.{all_head, all_tail, both-1, both-2, pick_true, pick-false, pick-either}
use Rattle.field.proofs.Same.{starts-eq}
use Rattle.page.specs.Page.{rows_of}
use Rattle.logs.specs.Record.{Kind, Image, Rec, LM, LG, LE, begin, out, into, modify, image, type_at, length_of, kind_of, carried, size, header, body, previous, encode}
use Rattle.logs.specs.Write.{paged, in_bytes}
use Rattle.logs.specs.Plan.{Step, take_out, bring_in, point, close, plan}
use Rattle.logs.specs.Log.{largest, begin_ok, saves_at, read_begin, read_image}
use Rattle.logs.specs.Stand.{stands, stands_in, stands_modify, stands_out, stands_begin, stands_image, stands_last}
use Rattle.logs.specs.Scan.{lost, begun, went, bare_long, bare_key, ended, stepped, images_on, saved, turned}
use Rattle.logs.specs.Carries.{Carries}
use Rattle.logs.specs.declared.scan.Walk.{Walk}
use Rattle.logs.proofs.Ways.{stands-room, modify-room, in-room, begin-room, out-room, out-rows}

-- ---- the mark of a record that stands there

header-sign : (c : Kind) (long n before : ℕ) (e m : List ℕ) → starts (header c long n before ++ e) m ≡ true → get_or m 1 0 ≡ c.sign
unfolding header
header-sign c long n before e m t = ap (λ (x : List ℕ). get_or x 1 0) (starts-eq (header c long n before ++ e) m t)

stands-sign : (n : ℕ) (r : Rec) (m : List ℕ) → stands n r m ≡ true → get_or m 1 0 ≡ (kind_of r).sign
unfolding stands encode
stands-sign n r m e = header-sign (kind_of r) (size r) n (previous n r) (body n r) m (all_head _ _ (all_tail _ _ (all_tail _ _ e)))

in-sign : (n org dest back k : ℕ) (m : List ℕ) → stands_in n org dest back k m ≡ true → get_or m 1 0 ≡ 73
unfolding stands_in in_bytes paged header
in-sign n org dest back k m e =
    ap (λ (x : List ℕ). get_or x 1 0) (starts-eq (in_bytes n org dest back k) m (all_head _ _ (all_tail _ _ (all_tail _ _ e))))

-- ---- and its number

stands-number : (n : ℕ) (r : Rec) (m : List ℕ) → stands n r m ≡ true → n ≤ most4
unfolding stands
stands-number n r m e = leb-true n most4 (all_head _ _ e)

in-number : (n org dest back k : ℕ) (m : List ℕ) → stands_in n org dest back k m ≡ true → n ≤ most4
unfolding stands_in
in-number n org dest back k m e = leb-true n most4 (all_head _ _ e)

-- ---- and its bytes

pub close-room : (n u : ℕ) (is : List Image) (m : List ℕ) → stands n (LE u is) m ≡ true → 16 ≤ length m
unfolding size carried kind_of length_of
close-room n u is m e = stands-room n (LE u is) m e

pub drawn-room : (n : ℕ) (i : Image) (m : List ℕ) → stands n (LG i) m ≡ true → 272 ≤ length m
unfolding size carried kind_of length_of
drawn-room n i m e = stands-room n (LG i) m e

begin-least : (k n : ℕ) → length_of begin k ≤ n → 16 ≤ n
unfolding length_of
begin-least k n h = omega arith

pub begin-room-fixed : (k n : ℕ) → length_of begin k ≤ n → 44 ≤ n
unfolding length_of
begin-room-fixed k n h = omega arith

last-stands : (n u : ℕ) (is : List Image) (m : List ℕ) → stands_last n u is m ≡ true → stands n (LE u is) m ≡ true
unfolding stands_last
last-stands n u is m e = both-2 _ _ e

-- a put or delete is no compact
pub saves-no-compact : (b : List ℕ) → saves_at b ≡ true → eqb (get_or b 16 0) 1 ≡ false
unfolding saves_at
saves-no-compact b v = let k : 4 ≤ get_or b 16 0 = leb-true 4 (get_or b 16 0) v in ne_eqb (get_or b 16 0) 1 (λ e. omega arith)

-- ---- the ways past it, by the sign g

-- y: the numbers after the record at the front of m; t: the unit is a compact
pub record Way (g : ℕ) (w : Walk) (m : List ℕ) (t : Bool) (y : Walk) : Type 0 where
  pub number : w.number.0 < 4294967295
  pub room : 16 ≤ length m
  pub takes : g ≡ 79 → Carries m × (y ≡ went w (length_of out (le2 m 16)) (le2 m 16) 0 (largest w.moved (rows_of 16 (le2 m 16) (drop 20 m))))
  pub begins : g ≡ 66 → (length_of begin (pick (saves_at m) 1 0) ≤ length m) × (w.unit.0 < 4294967295) × (y ≡ begun w (pick (saves_at m) 1 0))
  pub ends : g ≡ 69 → (w.opened ≡ true) × (y ≡ ended w t)
  -- an LI, LM or LG
  pub others : (g ≡ 79 → ⊥) → (g ≡ 66 → ⊥) → (g ≡ 69 → ⊥) → (bare_long g ≤ length m) × (y ≡ went w (bare_long g) 0 (bare_key g m) w.moved)

bare-in : (g : ℕ) (m : List ℕ) → g ≡ 73 → (bare_long g ≡ length_of into 0) × (bare_key g m ≡ 0)
unfolding bare_long bare_key length_of pick
bare-in g m e = rw e (refl, refl)

pub bare-point : (g : ℕ) (m : List ℕ) → g ≡ 77 → (bare_long g ≡ length_of modify 0) × (bare_key g m ≡ le4 m 20)
unfolding bare_long bare_key length_of pick
bare-point g m e = rw e (refl, refl)

bare-image : (g : ℕ) (m : List ℕ) → g ≡ 71 → (bare_long g ≡ length_of image 1) × (bare_key g m ≡ 0)
unfolding bare_long bare_key length_of pick
bare-image g m e = rw e (refl, refl)

-- they have bytes
pub bare-some : (g : ℕ) → 1 ≤ bare_long g
unfolding bare_long length_of
bare-some g = pick-either (λ (n : ℕ). 1 ≤ n) _ _ _ (omega arith) (pick-either (λ (n : ℕ). 1 ≤ n) _ _ _ (omega arith) (omega arith))

-- gone past by its length and its key
bare-went : (g long key : ℕ) (w : Walk) (m : List ℕ) (y : Walk) → (bare_long g ≡ long) × (bare_key g m ≡ key) → long ≤ length m → y ≡ went w long 0 key w.moved
    → (bare_long g ≤ length m) × (y ≡ went w (bare_long g) 0 (bare_key g m) w.moved)
bare-went g long key w m y e h q = (rw e.0 h, q ∙ rw (e.0, e.1))

-- a sign is not another
other : {A : Type 0} (a b g : ℕ) → eqb a b ≡ false → g ≡ a → g ≡ b → A
other a b g e p q = absurd (false≢true (sym e ∙ eq-eqb a b (sym p ∙ q)))

-- the record is there
there-by : (z : Bool) (v : Walk) → (pick z v lost).ok ≡ true → z ≡ true
unfolding pick lost
there-by true v e = refl
there-by false v e = absurd (false≢true e)

module _ (w : Walk) (m : List ℕ) (t : Bool) where
  way_out : (org dest : ℕ) → stands_out (w.number.0 + 1) org dest m ≡ true
      → Way (get_or m 1 0) w m t (pick (stands_out (w.number.0 + 1) org dest m) (went w (length_of out (le2 m 16)) (le2 m 16) 0 (largest w.moved (rows_of 16 (le2 m 16) (drop 20 m)))) lost)
  unfolding stands_out kind_of
  way_out org dest h =
      let s = stands-sign (w.number.0 + 1) _ m (both-2 _ _ h) in
      let n = stands-number (w.number.0 + 1) _ m (both-2 _ _ h) in
      let r = out-room (w.number.0 + 1) m true refl org dest (sym h) in
      let o = out-rows (w.number.0 + 1) m true refl org dest (sym h) in
      record {
        number = omega (arith, n);
        room = omega (arith, r.0);
        takes = λ q. (record { room = r.0; some = o.0; few = r.1; rising = o.1 }, pick_true _ _ _ h);
        begins = other 79 66 (get_or m 1 0) refl s;
        ends = other 79 69 (get_or m 1 0) refl s;
        others = λ a b c. absurd (a s);
      }

  way_in : (org dest back k : ℕ) → stands_in (w.number.0 + 1) org dest back k m ≡ true
      → Way (get_or m 1 0) w m t (pick (stands_in (w.number.0 + 1) org dest back k m) (went w (length_of into 0) 0 0 w.moved) lost)
  unfolding length_of
  way_in org dest back k h =
      let s = in-sign (w.number.0 + 1) org dest back k m h in
      let n = in-number (w.number.0 + 1) org dest back k m h in
      let r = in-room (w.number.0 + 1) m true refl org dest back k (sym h) in
      record {
        number = omega (arith, n);
        room = omega (arith, r);
        takes = other 73 79 (get_or m 1 0) refl s;
        begins = other 73 66 (get_or m 1 0) refl s;
        ends = other 73 69 (get_or m 1 0) refl s;
        others = λ a b c. bare-went (get_or m 1 0) (length_of into 0) 0 w m _ (bare-in (get_or m 1 0) m s) r (pick_true _ _ _ h);
      }

  way-point : (base old new : ℕ) → stands_modify (w.number.0 + 1) base old new m ≡ true
      → Way (get_or m 1 0) w m t (pick (stands_modify (w.number.0 + 1) base old new m) (went w (length_of modify 0) 0 (le4 m 20) w.moved) lost)
  unfolding stands_modify kind_of length_of
  way-point base old new h =
      let s = stands-sign (w.number.0 + 1) (LM base old new (le4 m 20)) m h in
      let n = stands-number (w.number.0 + 1) (LM base old new (le4 m 20)) m h in
      let r = modify-room (w.number.0 + 1) m true refl base old new (sym h) in
      record {
        number = omega (arith, n);
        room = omega (arith, r);
        takes = other 77 79 (get_or m 1 0) refl s;
        begins = other 77 66 (get_or m 1 0) refl s;
        ends = other 77 69 (get_or m 1 0) refl s;
        others = λ a b c. bare-went (get_or m 1 0) (length_of modify 0) (le4 m 20) w m _ (bare-point (get_or m 1 0) m s) r (pick_true _ _ _ h);
      }

  -- an LE, with or without images
  way-close : (u : ℕ) (is : List Image) (z : Bool) → stands (w.number.0 + 1) (LE u is) m ≡ true → z ≡ true → w.opened ≡ true
      → Way (get_or m 1 0) w m t (pick z (ended w t) lost)
  unfolding kind_of
  way-close u is z h q op =
      let s = stands-sign (w.number.0 + 1) (LE u is) m h in
      let n = stands-number (w.number.0 + 1) (LE u is) m h in
      record {
        number = omega (arith, n);
        room = close-room (w.number.0 + 1) u is m h;
        takes = other 69 79 (get_or m 1 0) refl s;
        begins = other 69 66 (get_or m 1 0) refl s;
        ends = λ e. (op, pick_true _ _ _ q);
        others = λ a b c. absurd (c s);
      }

  way_end : (u : ℕ) → stands (w.number.0 + 1) (LE u []) m ≡ true → w.opened ≡ true → Way (get_or m 1 0) w m t (pick (stands (w.number.0 + 1) (LE u []) m) (ended w t) lost)
  way_end u h op = way-close u [] _ h h op

  way-image : (is : List Image) → stands_image (w.number.0 + 1) is m ≡ true
      → Way (get_or m 1 0) w m t (pick (stands_image (w.number.0 + 1) is m) (went w (length_of image 1) 0 0 w.moved) lost)
  unfolding stands_image kind_of length_of
  way-image is h =
      let s = stands-sign (w.number.0 + 1) (LG (read_image m)) m (both-2 _ _ h) in
      let n = stands-number (w.number.0 + 1) (LG (read_image m)) m (both-2 _ _ h) in
      let r = drawn-room (w.number.0 + 1) (read_image m) m (both-2 _ _ h) in
      record {
        number = omega (arith, n);
        room = omega (arith, r);
        takes = other 71 79 (get_or m 1 0) refl s;
        begins = other 71 66 (get_or m 1 0) refl s;
        ends = other 71 69 (get_or m 1 0) refl s;
        others = λ a b c. bare-went (get_or m 1 0) (length_of image 1) 0 w m _ (bare-image (get_or m 1 0) m s) r (pick_true _ _ _ h);
      }

  way-begin : stands_begin (w.number.0 + 1) (w.unit.0 + 1) m ≡ true → Way (get_or m 1 0) w m t (pick (stands_begin (w.number.0 + 1) (w.unit.0 + 1) m) (begun w (pick (saves_at m) 1 0)) lost)
  unfolding stands_begin begin_ok read_begin kind_of
  way-begin h =
      let s = stands-sign (w.number.0 + 1) _ m (both-2 _ _ h) in
      let n = stands-number (w.number.0 + 1) _ m (both-2 _ _ h) in
      let u = leb-true (w.unit.0 + 1) most4 (all_head _ _ (both-1 _ _ h)) in
      let r = begin-room (w.number.0 + 1) m true refl (w.unit.0 + 1) (sym h) in
      record {
        number = omega (arith, n);
        room = begin-least (pick (saves_at m) 1 0) (length m) r;
        takes = other 66 79 (get_or m 1 0) refl s;
        begins = λ q. (r, omega (arith, u), pick_true _ _ _ h);
        ends = other 66 69 (get_or m 1 0) refl s;
        others = λ a b c. absurd (b s);
      }

  way_step : (x : Step) → (stepped w m t x).ok ≡ true → w.opened ≡ true → Way (get_or m 1 0) w m t (stepped w m t x)
  unfolding stepped
  way_step (take_out org dest) e op = way_out org dest (there-by _ _ e)
  way_step (bring_in org dest back) e op = way_in org dest back _ (there-by _ _ e)
  way_step (point base old new other) e op = way-point base old new (there-by _ _ e)
  way_step (close u) e op = way_end u (there-by _ _ e) op

  -- the record of a put or delete
  way-saved : (is : List Image) → t ≡ false → (saved w m is).ok ≡ true → w.opened ≡ true → Way (get_or m 1 0) w m t (saved w m is)
  unfolding saved pick
  way-saved is n e op = by-mark (eqb (get_or m 1 0) image.sign) e
    where
      by-mark : (z : Bool)
          → (pick z (pick (stands_image (w.number.0 + 1) is m) (went w (length_of image 1) 0 0 w.moved) lost) (pick (stands_last (w.number.0 + 1) w.unit.0 is m) (ended w false) lost)).ok ≡ true
          → Way (get_or m 1 0) w m t
          (pick z (pick (stands_image (w.number.0 + 1) is m) (went w (length_of image 1) 0 0 w.moved) lost) (pick (stands_last (w.number.0 + 1) w.unit.0 is m) (ended w false) lost))
      by-mark true c = way-image is (there-by _ _ c)
      by-mark false c =
          let h : stands_last (w.number.0 + 1) w.unit.0 is m ≡ true = there-by _ _ c in
          let d : Way (get_or m 1 0) w m t (pick (stands_last (w.number.0 + 1) w.unit.0 is m) (ended w t) lost) =
          way-close w.unit.0 is _ (last-stands (w.number.0 + 1) w.unit.0 is m h) h op in
          subst (λ (y : Bool). Way (get_or m 1 0) w m t (pick (stands_last (w.number.0 + 1) w.unit.0 is m) (ended w y) lost)) n d

-- ---- the next record of the log

module _ (l : List ℕ) (w : Walk) where
  way-lent : Way (get_or (drop w.at l) 1 0) w (drop w.at l) (eqb (get_or (drop w.begin l) 16 0) 1) (turned l w)
      → Way (get_or l (w.at + 1) 0) w (drop w.at l) (eqb (get_or l (w.begin + 16) 0) 1) (turned l w)
  way-lent a =
      subst (λ (g : ℕ). Way g w (drop w.at l) (eqb (get_or l (w.begin + 16) 0) 1) (turned l w)) (get_or-drop w.at l 1 0)
      (subst (λ (g : ℕ). Way (get_or (drop w.at l) 1 0) w (drop w.at l) (eqb g 1) (turned l w)) (get_or-drop w.begin l 16 0) a)

  way_by : (b : Bool) → w.opened ≡ b → (turned l w).ok ≡ true
      → Way (get_or (drop w.at l) 1 0) w (drop w.at l) (eqb (get_or (drop w.begin l) 16 0) 1) (turned l w)
  unfolding turned pick
  way_by true op e =
      let q = pick_true w.opened _ _ op in
      subst (Way _ w _ _) (sym q) (open_by (saves_at (drop w.begin l)) refl (sym (ap (λ (y : Walk). y.ok) q) ∙ e))
    where
      open_by : (z : Bool) → saves_at (drop w.begin l) ≡ z
          → (pick z (saved w (drop w.at l) (images_on l w))
          (stepped w (drop w.at l) (eqb (get_or (drop w.begin l) type_at 0) 1) (get_or (plan (read_begin w.unit.0 (drop w.begin l))) w.done (close w.unit.0)))).ok ≡ true
          → Way (get_or (drop w.at l) 1 0) w (drop w.at l) (eqb (get_or (drop w.begin l) 16 0) 1)
          (pick z (saved w (drop w.at l) (images_on l w))
          (stepped w (drop w.at l) (eqb (get_or (drop w.begin l) type_at 0) 1) (get_or (plan (read_begin w.unit.0 (drop w.begin l))) w.done (close w.unit.0))))
      open_by true v c = way-saved w (drop w.at l) _ (images_on l w) (saves-no-compact (drop w.begin l) v) c op
      open_by false v c = way_step w (drop w.at l) _ _ c op
  way_by false op e =
      let q = pick-false w.opened _ _ op in
      subst (Way _ w _ _) (sym q) (way-begin w (drop w.at l) _ (there-by _ _ (sym (ap (λ (y : Walk). y.ok) q) ∙ e)))

  pub way-past : (turned l w).ok ≡ true → Way (get_or l (w.at + 1) 0) w (drop w.at l) (eqb (get_or l (w.begin + 16) 0) 1) (turned l w)
  way-past e = way-lent (way_by w.opened refl e)
