-- The whole pass: from the check record, a turn for each record, then zeros to the end. Assumes nothing.
use Prim.Native.Nat.{ℕ, suc, ◌+◌, ◌-◌, ◌≤◌, ◌<◌}
use native.Mathlib.Nat.{add-zero}
use native.Mathlib.Omega.{arith}
use mathlib.Core.Path.{◌≡◌, refl, sym, ap, ◌∙◌, subst}
use mathlib.Core.Bool.{Bool, true, false, not, false≢true}
use mathlib.Core.List.{List, [], ◌∷◌}
use mathlib.Core.Option.{Option, some, none}
use lib.ListN.{length, take, drop, get_or, get_or-eq_default}
use lib.Seq.{drop-drop, get_or-drop}
use lib.Dec.{eqb}
use borrow.Author.Tests.{eq-eqb, eqb-false, not-true, not-false}
use borrow.Author.Rules.{part_to_end}
use Rattle.field.specs.Test.{pick, given, when, bind, there}
use Rattle.field.specs.Bytes.{put, all_zero, starts, Bytes, le4}
use Rattle.field.proofs.Test.{pick_true, pick-false, both-1, both-2, both_true, both_false}
use Rattle.field.proofs.Same.{starts-length}
use Rattle.field.proofs.Part.{split}
use Rattle.logs.specs.Record.{Check, Rec, check, length_of, size, encode_check}
use Rattle.logs.specs.Table.{kinds, kind_at}
use Rattle.logs.specs.Write.{lk_of, check_of}
use Rattle.logs.specs.Log.{State, first, after, after_all, read_rec, read_recs, read_check, Log, read_log, at_end, ending_at, last_forced}
use Rattle.logs.specs.Scan.{log_no, shown, shut, lost, turned, Ready, topped, answer, scanned, mark_of, noted, live, finished}
use Rattle.logs.specs.declared.scan.Walk.{Walk}
use Rattle.logs.specs.declared.scan.Scan.{Scan}
use Rattle.logs.specs.declared.scan.Mark.{Mark}
use Rattle.logs.proofs.Record.{size-least, length-encode_check}
use Rattle.logs.proofs.Read.{read_check-facts}
use Rattle.logs.proofs.Stand.{put-front-is, both-none}
use Rattle.logs.proofs.Turned.{given-when}
use Rattle.logs.proofs.Held.{Holds, ready, turn-reads, holds_after, holds-first}

-- ---- the check record

pub check-stands! : (l : List ℕ) (k : Check) (z : Bool) (b c : List ℕ) (n : ℕ) → n ≡ length_of (kind_at 0) 0 → z ≡ starts (take n b) (drop 0 l) → b ≡ put 0 (encode_check k) c
    → z ≡ starts (encode_check k) l
unfolding length_of kind_at kinds
check-stands! l k z b c n e q p = q ∙ rw (e, p, put-front-is (encode_check k) c 24 (length-encode_check k))

lk-read : (z : Bool) (k : ℕ) → pick z none (some k) ≡ lk_of (not z) k
unfolding lk_of pick
lk-read true k = refl
lk-read false k = refl

lk-there : (t : Bool) (k : ℕ) → there (lk_of t k) ≡ t
unfolding lk_of pick there
lk-there true k = refl
lk-there false k = refl

lk-key : (t : Bool) (k : ℕ) → given (lk_of t k) 0 (λ (n : ℕ). n) ≡ pick t k 0
unfolding lk_of pick given
lk-key true k = refl
lk-key false k = refl

module _ (l : List ℕ) where
  -- the check record that the bytes say
  said : Check
  said = check_of (le4 l 4) (le4 l 12) (not (eqb (get_or l 16 0) 0)) (le4 l 20)

  topped-is : topped l ≡ pick (starts (encode_check said) l) (shown (first said)) lost
  unfolding topped read_check said check_of
  topped-is = rw (lk-read (eqb (get_or l 16 0) 0) (le4 l 20)) (given-when (λ c. shown (first c)) lost _ _)

  short-starts : (k : Check) (t : Bool) → starts (encode_check k) l ≡ t → length l < 24 → t ≡ false
  short-starts k true e h = absurd (omega (arith, starts-length (encode_check k) l e, length-encode_check k))
  short-starts k false e h = refl

  pub top-short : (x : Walk) (n : ℕ) → x ≡ lost → n ≡ length_of (kind_at 0) 0 → length l < n → x ≡ topped l
  unfolding length_of kind_at kinds
  top-short x n e q h = e ∙ sym (topped-is ∙ pick-false _ _ _ (short-starts said (starts (encode_check said) l) refl (omega arith)))

  module _ (n u k : ℕ) (z : Bool) (e : z ≡ starts (encode_check (check_of n u (not (eqb (get_or l 16 0) 0)) k)) l) (pn : n ≡ le4 l 4) (pu : u ≡ le4 l 12) (pk : k ≡ le4 l 20) where
    said-is : check_of n u (not (eqb (get_or l 16 0) 0)) k ≡ said
    unfolding said
    said-is = rw (pn, pu, pk)

    pub top-lost! : (x : Walk) → x ≡ lost → not z ≡ true → x ≡ topped l
    top-lost! x q h = q ∙ sym (topped-is ∙ pick-false _ _ _ (sym (e ∙ rw said-is) ∙ not-true z h))

    pub top-on : not z ≡ false → shown (first (check_of n u (not (eqb (get_or l 16 0) 0)) k)) ≡ topped l
    top-on h = rw said-is (sym (topped-is ∙ pick_true _ _ _ (sym (e ∙ rw said-is) ∙ not-false z h)))

-- the numbers after the check record
pub shown-first : (n u : ℕ) (t : Bool) (k at v : ℕ) → at ≡ length_of (kind_at 0) 0 → v ≡ pick t k 0
    → shut true at n u t v ≡ shown (first (check_of n u t k))
unfolding shown first check_of kind_at kinds
shown-first n u t k at v p q = rw (p, q, lk-there t k, lk-key t k) (unfold given there in refl)

-- ---- the pass's small steps

pub live-short : (l : List ℕ) (w : Walk) → length l ≤ w.at → false ≡ live l w
unfolding live
live-short l w h =
    let e : get_or l w.at 0 ≡ 0 = get_or-eq_default l 0 h in
    let f : not (eqb (get_or l w.at 0) 0) ≡ false = ap not (eq-eqb (get_or l w.at 0) 0 e) in
    sym (both-none w.ok _ f)

module _ (l : List ℕ) (w : Walk) (e : Mark) (x : Walk) (q : x ≡ lost) where
  nothing : record { walk = x; ends = false; forced = log_no 0 } ≡ answer lost none
  unfolding answer there given
  nothing = rw q

  pub finish_off : not w.ok ≡ true → record { walk = x; ends = false; forced = log_no 0 } ≡ finished l w e
  unfolding finished
  finish_off h = nothing ∙ sym (pick-false _ _ _ (both_false _ _ (not-true w.ok h)))

  pub finish-bad : (z : Bool) → z ≡ all_zero (take (length l - w.at) (drop w.at l)) → not z ≡ true → record { walk = x; ends = false; forced = log_no 0 } ≡ finished l w e
  unfolding finished
  finish-bad z p h =
      let y : z ≡ all_zero (drop w.at l) = rw part_to_end at p in
      nothing ∙ sym (pick-false _ _ _ (both-none w.ok _ (sym y ∙ not-true z h)))

pub finish-on : (l : List ℕ) (w : Walk) (e : Mark) (z : Bool) → not w.ok ≡ false → z ≡ all_zero (take (length l - w.at) (drop w.at l)) → not z ≡ false
    → record { walk = w; ends = e.ends; forced = e.number } ≡ finished l w e
unfolding finished
finish-on l w e z k p h =
    let y : z ≡ all_zero (drop w.at l) = rw part_to_end at p in
    sym (pick_true _ _ _ (both_true _ _ (not-false w.ok k) ∙ sym y ∙ not-false z h))

-- ---- the loop

-- the first value, or else the second
or_else : Option ℕ → Option ℕ → Option ℕ
or_else o y = given o y (λ n. some n)

by-mark : (t : Bool) (n : ℕ)
    → pick t (record { ends = true; number = log_no n }) (record { ends = false; number = log_no 0 }) ≡ mark_of (given {A = ℕ} {B = Option ℕ} none (when t n) (λ v. some v))
unfolding mark_of given there pick when
by-mark true n = refl
by-mark false n = refl

-- noting the record that ends at an offset
noted-mark : (o : Option ℕ) (at n f : ℕ) → noted (mark_of o) at n f ≡ mark_of (or_else o (when (eqb at f) n))
unfolding noted mark_of or_else given there pick
noted-mark (some v) at n f = refl
noted-mark none at n f = by-mark (eqb at f) n

-- what was found before comes first
or_else-later : (o : Option ℕ) (t : Bool) (n : ℕ) (y : Option ℕ) → or_else o (pick t (some n) y) ≡ or_else (or_else o (when t n)) y
unfolding or_else given pick when
or_else-later (some v) t n y = refl
or_else-later none true n y = refl
or_else-later none false n y = refl

given-ext : {A B : Type 0} (x : Option A) (b : B) (f g : A → B) → ((a : A) → f a ≡ g a) → given x b f ≡ given x b g
unfolding given
given-ext none b f g h = refl
given-ext (some a) b f g h = h a

given-bind : {A C B : Type 0} (x : Option A) (b : B) (h : A → C) (f : C → B) → given (bind x (λ a. some (h a))) b f ≡ given x b (λ a. f (h a))
unfolding given bind
given-bind none b h f = refl
given-bind (some a) b h f = refl

-- the answer that the records behind a state give
pub rest : (f : ℕ) (s : State) (o : Option ℕ) → List Rec → Scan
rest f s o rs = answer (shown (after_all s rs)) (or_else o (ending_at f s.at s.number rs))

-- the numbers stand for a state; the whole's answer is that of the records behind it
pub record Walked (l : List ℕ) (f : ℕ) (w : Walk) (e : Mark) : Type 0 where
  pub s : State
  pub o : Option ℕ
  pub fuel : ℕ
  pub holds : Holds l s
  pub shows : w ≡ shown s
  pub marks : e ≡ mark_of o
  pub enough : length l - s.at < fuel
  pub same : scanned f l ≡ given (read_recs fuel s (drop s.at l)) (answer lost none) (rest f s o)

-- so far the form holds, or it is broken
pub record Pass (l : List ℕ) (f : ℕ) (w : Walk) (e : Mark) : Type 0 where
  pub on : w.ok ≡ true → Walked l f w e
  pub off : w.ok ≡ false → (w ≡ lost) × (scanned f l ≡ answer lost none)

lost-ok : (w : Walk) → w ≡ lost → w.ok ≡ false
unfolding lost
lost-ok w e = ap (λ (x : Walk). x.ok) e

shown_ok : (w : Walk) (s : State) → w ≡ shown s → w.ok ≡ true
unfolding shown
shown_ok w s e = ap (λ (x : Walk). x.ok) e

pass-lost : (l : List ℕ) (f : ℕ) (w : Walk) (e : Mark) → w ≡ lost → scanned f l ≡ answer lost none → Pass l f w e
pass-lost l f w e q r = record { on = λ t. absurd (false≢true (sym (lost-ok w q) ∙ t)); off = λ t. (q, r) }

pass_on : (l : List ℕ) (f : ℕ) (w : Walk) (e : Mark) → Walked l f w e → Pass l f w e
pass_on l f w e x = record { on = λ t. x; off = λ t. absurd (false≢true (sym t ∙ shown_ok w x.s x.shows)) }

-- ---- its start

top-none : given {A = Check} none lost (λ c. shown (first c)) ≡ lost
unfolding given
top-none = refl

top-some : (c : Check) → given (some c) lost (λ c. shown (first c)) ≡ shown (first c)
unfolding given
top-some c = refl

scan-none : (f : ℕ) → given {A = Log} none (answer lost none) (λ g. answer (shown (at_end g)) (last_forced f g)) ≡ answer lost none
unfolding given
scan-none f = refl

first-enough : (l : List ℕ) (c : Check) → 24 ≤ length l → length l - (first c).at < length l
unfolding first length_of
first-enough l c h = omega arith

first_rest : (l : List ℕ) (f : ℕ) (c : Check)
    → given (read_recs (length l) (first c) (drop (length_of check 0) l)) (answer lost none) (λ rs. answer (shown (at_end (record { top = c; recs = rs }))) (last_forced f (record { top = c; recs = rs })))
    ≡ given (read_recs (length l) (first c) (drop (first c).at l)) (answer lost none) (rest f (first c) none)
unfolding at_end last_forced rest or_else given first
first_rest l f c = refl

no-mark : record { ends = false; number = log_no 0 } ≡ mark_of none
unfolding mark_of there given
no-mark = refl

-- the answer that a check record gives
abbrev told : (l : List ℕ) (f : ℕ) → Option Check → Scan
told l f y =
    given (bind y (λ c. bind (read_recs (length l) (first c) (drop (length_of check 0) l)) (λ rs. some (record { top = c; recs = rs })))) (answer lost none)
    (λ g. answer (shown (at_end g)) (last_forced f g))

start-by : (l : List ℕ) (f : ℕ) (w : Walk) (e : Mark) → Bytes l → w ≡ topped l → e ≡ mark_of none → (x : Option Check) → read_check l ≡ x → Pass l f w e
unfolding topped scanned read_log bind
start-by l f w e b q m none r =
    pass-lost l f w e (q ∙ ap (λ (y : Option Check). given y lost (λ c. shown (first c))) r ∙ top-none)
    (ap (told l f) r ∙ scan-none f)
start-by l f w e b q m (some c) r =
    let t = read_check-facts l c r in
    pass_on l f w e (record {
      s = first c;
      o = none;
      fuel = length l;
      holds = holds-first l c (t.small b) t.short;
      shows = q ∙ ap (λ (y : Option Check). given y lost (λ c. shown (first c))) r ∙ top-some c;
      marks = m;
      enough = first-enough l c t.short;
      same = ap (told l f) r
          ∙ given-bind (read_recs (length l) (first c) (drop (length_of check 0) l)) (answer lost none) (λ rs. record { top = c; recs = rs }) (λ g. answer (shown (at_end g)) (last_forced f g))
          ∙ first_rest l f c;
    })

pub pass-start : (l : List ℕ) (f : ℕ) (w : Walk) → Bytes l → w ≡ topped l → Pass l f w (record { ends = false; number = log_no 0 })
pass-start l f w b q = start-by l f w (record { ends = false; number = log_no 0 }) b q no-mark (read_check l) refl

-- ---- a turn

-- the records that are left, where the byte there is not zero, and where it is
pub more_of : (g : ℕ) (s : State) (m : List ℕ) → eqb (get_or m 0 0) 0 ≡ false
    → read_recs (suc g) s m ≡ bind (read_rec s m) (λ r. bind (read_recs g (after s r) (drop (size r) m)) (λ rs. some (r ∷ rs)))
unfolding read_recs
more_of g s m z = pick-false _ _ _ z

pub end_of : (g : ℕ) (s : State) (m : List ℕ) → eqb (get_or m 0 0) 0 ≡ true → read_recs (suc g) s m ≡ when (all_zero m) []
unfolding read_recs
end_of g s m z = pick_true _ _ _ z

bind-first : (r : Rec) (g : Rec → Option (List Rec)) (k : List Rec → Scan) → given (bind (some r) g) (answer lost none) k ≡ given (g r) (answer lost none) k
unfolding bind
bind-first r g k = refl

recs-more : (fuel g : ℕ) (s : State) (m : List ℕ) → fuel ≡ suc g → eqb (get_or m 0 0) 0 ≡ false
    → read_recs fuel s m ≡ bind (read_rec s m) (λ r. bind (read_recs g (after s r) (drop (size r) m)) (λ rs. some (r ∷ rs)))
recs-more fuel g s m e z = ap (λ (k : ℕ). read_recs k s m) e ∙ more_of g s m z

recs-end : (fuel g : ℕ) (s : State) (m : List ℕ) → fuel ≡ suc g → eqb (get_or m 0 0) 0 ≡ true → read_recs fuel s m ≡ when (all_zero m) []
recs-end fuel g s m e z = ap (λ (k : ℕ). read_recs k s m) e ∙ end_of g s m z

walk_none : (s : State) → given {A = Rec} none lost (λ r. shown (after s r)) ≡ lost
unfolding given
walk_none s = refl

pub walk-some : (s : State) (r : Rec) → given (some r) lost (λ r. shown (after s r)) ≡ shown (after s r)
unfolding given
walk-some s r = refl

recs-none : (g : ℕ) (s : State) (m : List ℕ) (k : List Rec → Scan)
    → given (bind {A = Rec} none (λ r. bind (read_recs g (after s r) (drop (size r) m)) (λ rs. some (r ∷ rs)))) (answer lost none) k ≡ answer lost none
unfolding given bind
recs-none g s m k = refl

recs-some : (g : ℕ) (s : State) (m : List ℕ) (r : Rec) (k : List Rec → Scan)
    → given (bind (some r) (λ r. bind (read_recs g (after s r) (drop (size r) m)) (λ rs. some (r ∷ rs)))) (answer lost none) k
    ≡ given (read_recs g (after s r) (drop (size r) m)) (answer lost none) (λ rs. k (r ∷ rs))
recs-some g s m r k =
    bind-first r (λ r. bind (read_recs g (after s r) (drop (size r) m)) (λ rs. some (r ∷ rs))) k
    ∙ given-bind (read_recs g (after s r) (drop (size r) m)) (answer lost none) (λ rs. r ∷ rs) k

pub at_after : (s : State) (r : Rec) → (after s r).at ≡ s.at + size r
unfolding after
at_after s r = refl

rest_more : (f : ℕ) (s : State) (o : Option ℕ) (r : Rec) (rs : List Rec) → rest f s o (r ∷ rs) ≡ rest f (after s r) (or_else o (when (eqb s.at f) s.number)) rs
unfolding rest after_all after ending_at
rest_more f s o r rs = ap (answer _) (or_else-later o (eqb s.at f) s.number _)

live-ok : (l : List ℕ) (w : Walk) → live l w ≡ true → w.ok ≡ true
unfolding live
live-ok l w h = both-1 _ _ h

live-byte : (l : List ℕ) (w : Walk) → live l w ≡ true → eqb (get_or l w.at 0) 0 ≡ false
unfolding live
live-byte l w h = not-true _ (both-2 _ _ h)

dead-byte : (l : List ℕ) (w : Walk) → live l w ≡ false → w.ok ≡ true → eqb (get_or l w.at 0) 0 ≡ true
unfolding live
dead-byte l w h k = not-false _ (sym (both_true _ _ k) ∙ h)

at_of : (w : Walk) (s : State) → w ≡ shown s → w.at ≡ s.at
unfolding shown
at_of w s e = ap (λ (x : Walk). x.at) e

number_of : (w : Walk) (s : State) → w ≡ shown s → w.number.0 ≡ s.number
unfolding shown
number_of w s e = ap (λ (x : Walk). x.number.0) e

-- a byte that is not zero stands in the log
byte-in : (l : List ℕ) (a : ℕ) → eqb (get_or l a 0) 0 ≡ false → a < length l
byte-in l a h =
    split a (length l)
    (λ k. k)
    (λ k. absurd (eqb-false (get_or l a 0) 0 h (get_or-eq_default l 0 k)))

module _ (l : List ℕ) (f : ℕ) (w : Walk) (e : Mark) (b : Bytes l) (p : Pass l f w e) (h : live l w ≡ true) where
  here : Walked l f w e
  here = p.on (live-ok l w h)

  front : eqb (get_or (drop here.s.at l) 0 0) 0 ≡ false
  front =
      let a : w.at ≡ here.s.at = at_of w here.s here.shows in
      let g : get_or (drop here.s.at l) 0 0 ≡ get_or l (here.s.at + 0) 0 = get_or-drop here.s.at l 0 0 in
      let k : here.s.at + 0 ≡ here.s.at = add-zero here.s.at in
      ap (λ (x : ℕ). eqb x 0) (g ∙ ap (λ (x : ℕ). get_or l x 0) (k ∙ sym a)) ∙ live-byte l w h

  module _ (v : Walk) (q : v ≡ turned l w) where
    read_by : v ≡ given (read_rec here.s (drop here.s.at l)) lost (λ r. shown (after here.s r))
    read_by = q ∙ ap (turned l) here.shows ∙ turn-reads l here.s here.holds

    less : ℕ
    less = here.fuel - 1

    fuel-is : here.fuel ≡ suc less
    unfolding less
    fuel-is = omega (arith, here.enough)

    enough-on : (r : Rec) → (after here.s r).at ≡ here.s.at + size r → length l - (after here.s r).at < less
    unfolding less
    enough-on r a =
        let k : here.s.at < length l = subst (λ (x : ℕ). x < length l) (at_of w here.s here.shows) (byte-in l w.at (live-byte l w h)) in
        subst (λ (x : ℕ). length l - x < here.fuel - 1) (sym a) (omega (arith, here.enough, size-least r))

    module _ (d : Mark) (n : d ≡ noted e w.at w.number.0 f) where
      marks-on : d ≡ mark_of (or_else here.o (when (eqb here.s.at f) here.s.number))
      marks-on =
          n ∙ ap (λ (x : ℕ). noted e x w.number.0 f) (at_of w here.s here.shows)
          ∙ ap (λ (x : ℕ). noted e here.s.at x f) (number_of w here.s here.shows)
          ∙ ap (λ (x : Mark). noted x here.s.at here.s.number f) here.marks
          ∙ noted-mark here.o here.s.at here.s.number f

      turn_by : (x : Option Rec) → read_rec here.s (drop here.s.at l) ≡ x → Pass l f v d
      turn_by none r =
          pass-lost l f v d (read_by ∙ ap (λ (y : Option Rec). given y lost (λ r. shown (after here.s r))) r ∙ walk_none here.s)
          (here.same ∙ ap (λ (y : Option (List Rec)). given y (answer lost none) (rest f here.s here.o))
          (recs-more here.fuel less here.s (drop here.s.at l) fuel-is front
          ∙ ap (λ (y : Option Rec). bind y (λ r. bind (read_recs less (after here.s r) (drop (size r) (drop here.s.at l))) (λ rs. some (r ∷ rs)))) r)
          ∙ recs-none less here.s (drop here.s.at l) (rest f here.s here.o))
      turn_by (some r) t =
          let s : State = here.s in
          let m : List ℕ = drop s.at l in
          let a : (after s r).at ≡ s.at + size r = at_after s r in
          let dr : drop (size r) m ≡ drop (after s r).at l = drop-drop (size r) s.at l ∙ ap (λ (x : ℕ). drop x l) (sym a) in
          pass_on l f v d (record {
            s = after s r;
            o = or_else here.o (when (eqb s.at f) s.number);
            fuel = less;
            holds = holds_after l s r b here.holds t;
            shows = read_by ∙ ap (λ (y : Option Rec). given y lost (λ r. shown (after s r))) t ∙ walk-some s r;
            marks = marks-on;
            enough = enough-on r a;
            same = here.same
                ∙ ap (λ (y : Option (List Rec)). given y (answer lost none) (rest f s here.o))
                (recs-more here.fuel less s m fuel-is front
                ∙ ap (λ (y : Option Rec). bind y (λ r. bind (read_recs less (after s r) (drop (size r) m)) (λ rs. some (r ∷ rs)))) t)
                ∙ recs-some less s m r (rest f s here.o)
                ∙ ap (λ (y : List ℕ). given (read_recs less (after s r) y) (answer lost none) (λ rs. rest f s here.o (r ∷ rs))) dr
                ∙ given-ext (read_recs less (after s r) (drop (after s r).at l)) (answer lost none) (λ rs. rest f s here.o (r ∷ rs))
                (rest f (after s r) (or_else here.o (when (eqb s.at f) s.number))) (λ rs. rest_more f s here.o r rs);
          })

pub pass-turn : (l : List ℕ) (f : ℕ) (w : Walk) (e : Mark) → Bytes l → Pass l f w e → live l w ≡ true → (v : Walk) → v ≡ turned l w → (d : Mark) → d ≡ noted e w.at w.number.0 f
    → Pass l f v d
pass-turn l f w e b p h v q d n = turn_by l f w e b p h v q d n (read_rec (here l f w e b p h).s (drop (here l f w e b p h).s.at l)) refl

-- what a turn needs
pub pass-ready : (l : List ℕ) (f : ℕ) (w : Walk) (e : Mark) → Pass l f w e → live l w ≡ true → Ready l w
pass-ready l f w e p h =
    let x : Walked l f w e = p.on (live-ok l w h) in
    subst (Ready l) (sym x.shows) (ready l x.s x.holds)

-- the end lies in the log
inside-by : (l : List ℕ) (f : ℕ) (w : Walk) (e : Mark) → Pass l f w e → (t : Bool) → w.ok ≡ t → w.at ≤ length l
unfolding lost
inside-by l f w e p true k =
    let x : Walked l f w e = p.on k in
    subst (λ (n : ℕ). n ≤ length l) (sym (at_of w x.s x.shows)) x.holds.inside
inside-by l f w e p false k =
    let z : w.at ≡ 0 = ap (λ (x : Walk). x.at) (p.off k).0 in
    omega arith

pub pass-inside : (l : List ℕ) (f : ℕ) (w : Walk) (e : Mark) → Pass l f w e → w.at ≤ length l
pass-inside l f w e p = inside-by l f w e p w.ok refl

-- each turn leaves less to read
pub to_read : (l : List ℕ) → Walk → ℕ
to_read l w = pick w.ok (length l + 1 - w.at) 0

to-read-lost : (l : List ℕ) (w : Walk) → w ≡ lost → to_read l w ≡ 0
unfolding to_read
to-read-lost l w e = pick-false _ _ _ (lost-ok w e)

to-read-on : (l : List ℕ) (w : Walk) → w.ok ≡ true → to_read l w ≡ length l + 1 - w.at
unfolding to_read
to-read-on l w k = pick_true _ _ _ k

module _ (l : List ℕ) (f : ℕ) (w : Walk) (e : Mark) (b : Bytes l) (p : Pass l f w e) (h : live l w ≡ true) (v : Walk) (q : v ≡ turned l w) where
  less_by : (x : Option Rec) → read_rec (here l f w e b p h).s (drop (here l f w e b p h).s.at l) ≡ x → to_read l v < to_read l w
  less_by x r =
      let t : Walked l f w e = here l f w e b p h in
      let a : w.at ≡ t.s.at = at_of w t.s t.shows in
      let k : w.at < length l = byte-in l w.at (live-byte l w h) in
      let y : v ≡ given x lost (λ r. shown (after t.s r)) = read_by l f w e b p h v q ∙ ap (λ (z : Option Rec). given z lost (λ r. shown (after t.s r))) r in
      less-of x t a k y
    where
      less-of : (x : Option Rec) (t : Walked l f w e) → w.at ≡ t.s.at → w.at < length l → v ≡ given x lost (λ r. shown (after t.s r)) → to_read l v < to_read l w
      less-of none t a k y = omega (arith, to-read-lost l v (y ∙ walk_none t.s), to-read-on l w (live-ok l w h))
      less-of (some r) t a k y =
          let z : v ≡ shown (after t.s r) = y ∙ walk-some t.s r in
          let i : v.at ≡ (after t.s r).at = at_of v (after t.s r) z in
          let j : (after t.s r).at ≡ t.s.at + size r = at_after t.s r in
          omega (arith, to-read-on l v (shown_ok v (after t.s r) z), to-read-on l w (live-ok l w h), size-least r)

  pub pass-less : to_read l v < to_read l w
  pass-less = less_by (read_rec (here l f w e b p h).s (drop (here l f w e b p h).s.at l)) refl

-- ---- its end

finish-lost : (l : List ℕ) (w : Walk) (d : Mark) → w.ok ≡ false → finished l w d ≡ answer lost none
unfolding finished
finish-lost l w d k = pick-false _ _ _ (both_false _ _ k)

finish-some : (l : List ℕ) (w : Walk) (o : Option ℕ) → w.ok ≡ true → finished l w (mark_of o) ≡ pick (all_zero (drop w.at l)) (answer w o) (answer lost none)
unfolding finished mark_of answer
finish-some l w o k = ap (λ (t : Bool). pick t (record { walk = w; ends = there o; forced = log_no (given o 0 (λ n. n)) }) (answer lost none)) (both_true _ _ k)

rest-none : (f : ℕ) (s : State) (o : Option ℕ) → rest f s o [] ≡ answer (shown s) (or_else o (when (eqb s.at f) s.number))
unfolding rest after_all ending_at
rest-none f s o = refl

end_by : (l : List ℕ) (f : ℕ) (w : Walk) (e : Mark) → Pass l f w e → live l w ≡ false → (d : Mark) → d ≡ noted e w.at w.number.0 f → (t : Bool) → w.ok ≡ t
    → finished l w d ≡ scanned f l
end_by l f w e p h d n false k = finish-lost l w d k ∙ sym (p.off k).1
end_by l f w e p h d n true k =
    let x : Walked l f w e = p.on k in
    let s : State = x.s in
    let o : Option ℕ = or_else x.o (when (eqb s.at f) s.number) in
    let a : w.at ≡ s.at = at_of w s x.shows in
    let dm : d ≡ mark_of o =
    n ∙ ap (λ (y : ℕ). noted e y w.number.0 f) a
    ∙ ap (λ (y : ℕ). noted e s.at y f) (number_of w s x.shows)
    ∙ ap (λ (y : Mark). noted y s.at s.number f) x.marks
    ∙ noted-mark x.o s.at s.number f in
    let z : eqb (get_or (drop s.at l) 0 0) 0 ≡ true =
    ap (λ (y : ℕ). eqb y 0) (get_or-drop s.at l 0 0 ∙ ap (λ (y : ℕ). get_or l y 0) (add-zero s.at ∙ sym a)) ∙ dead-byte l w h k in
    let g : ℕ = x.fuel - 1 in
    let fu : x.fuel ≡ suc g = omega (arith, x.enough) in
    ap (finished l w) dm ∙ finish-some l w o k
    ∙ ap (λ (y : Walk). pick (all_zero (drop w.at l)) (answer y o) (answer lost none)) x.shows
    ∙ ap (λ (y : ℕ). pick (all_zero (drop y l)) (answer (shown s) o) (answer lost none)) a
    ∙ sym (x.same
    ∙ ap (λ (y : Option (List Rec)). given y (answer lost none) (rest f s x.o)) (recs-end x.fuel g s (drop s.at l) fu z)
    ∙ given-when (rest f s x.o) (answer lost none) (all_zero (drop s.at l)) []
    ∙ ap (λ (y : Scan). pick (all_zero (drop s.at l)) y (answer lost none)) (rest-none f s x.o))

pub pass-end : (l : List ℕ) (f : ℕ) (w : Walk) (e : Mark) → Pass l f w e → live l w ≡ false → (d : Mark) → d ≡ noted e w.at w.number.0 f → finished l w d ≡ scanned f l
pass-end l f w e p h d n = end_by l f w e p h d n w.ok refl
