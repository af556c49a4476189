-- What holds at each state of the pass: it is sound, and its open unit began where the numbers say. Assumes nothing.
use Prim.Native.Nat.{ℕ, zero, suc, ◌+◌, ◌-◌, ◌*◌, ◌≤◌}
use native.Mathlib.Omega.{arith}
use mathlib.Core.Path.{◌≡◌, refl, sym, ap, ◌∙◌, subst}
use mathlib.Core.Logic.{◌⊎◌, inl, inr, ⊎_elim}
use mathlib.Core.Bool.{Bool, true, false, false≢true}
use mathlib.Core.List.{List, [], ◌∷◌, ◌++◌}
use mathlib.Core.Option.{Option, some, none, some-injective, none-ne-some}
use lib.ListN.{length, drop, get_or, length-drop}
use lib.Seq.{drop-drop}
use lib.Dec.{eqb, leb}
use borrow.Author.Tests.{eq-eqb, ne_eqb}
use Rattle.field.specs.Test.{both, pick, given, when, bind, there}
use Rattle.field.specs.Bytes.{Bytes, le4}
use Rattle.field.proofs.Test.{pick_true, pick-false, bind-some, when-some}
use Rattle.field.proofs.Byte.{bytes_drop}
use Rattle.logs.specs.Record.{Check, Begin, saves, Image, Rec, LB, LO, LI, LM, LG, LE, begin, image, length_of, kind_of, carried, size, sizes}
use Rattle.logs.specs.Plan.{Step, take_out, bring_in, point, close, gather, removals, others, replacing, compact_plan, move_plan, swap_plan, plan}
use Rattle.logs.specs.Log.{Open, State, first, going, noting, opened_by, unit_by, after, begin_ok, saves_at, read_begin, taken, images_of, all_bear, read_image, follows, imaged, expected, read_rec}
use Rattle.logs.specs.Scan.{shown, lost, begun, stepped, images_in, images_on, saved, turned, Ready}
use Rattle.logs.specs.Stand.{stands_begin}
use Rattle.logs.proofs.Record.{size-least}
use Rattle.logs.proofs.Begin.{begin-saving}
use Rattle.logs.proofs.Plan.{Ending, last, more, saves-type}
use Rattle.logs.specs.Valid.{Small, Does, does-out, does-in, does-point, does-close, logs-image, logs-end, Follows, goes, logs, Fits}
use Rattle.logs.proofs.Sound.{Awaits, awaits-todo, Imaged, no-image, an-image, Keeps, Sound, Waits, open-unit, open-save, waits-open, waits-save, sound-first, sound-after}
use Rattle.logs.proofs.Read.{ReadOff, read_rec-facts}
use Rattle.logs.proofs.Turned.{Counted, open-reads, save-reads, shut-reads}
use Rattle.logs.proofs.Filed.{images-more}

-- ---- each LI refers to the record before; or, fourth in a swap, to the unit's first

OneBack : Step → Type 0
OneBack x = (org dest back : ℕ) → x ≡ bring_in org dest back → back ≡ 1

data Ones : List Step → Type 0 where
  nil : Ones []
  cons : {x : Step} {xs : List Step} → OneBack x → Ones xs → Ones (x ∷ xs)

one_out : (a d : ℕ) → OneBack (take_out a d)
unfolding OneBack
one_out a d org dest back e = let z : ◌≡◌ {A = ℕ} 0 1 = cc in absurd (omega arith)

one_in : (a d : ℕ) → OneBack (bring_in a d 1)
unfolding OneBack
one_in a d org dest back e = cc

one-point : (p a d : ℕ) (t : Bool) → OneBack (point p a d t)
unfolding OneBack
one-point p a d t org dest back e = let z : ◌≡◌ {A = ℕ} 0 1 = cc in absurd (omega arith)

one-close : (u : ℕ) → OneBack (close u)
unfolding OneBack
one-close u org dest back e = let z : ◌≡◌ {A = ℕ} 0 1 = cc in absurd (omega arith)

ones-append : {a b : List Step} → Ones a → Ones b → Ones (a ++ b)
ones-append nil q = q
ones-append (cons h p) q = cons h (ones-append p q)

ones-pick : (t : Bool) {a b : List Step} → Ones a → Ones b → Ones (pick t a b)
unfolding pick
ones-pick true p q = p
ones-pick false p q = q

ones-gather : (dest : ℕ) (ps : List ℕ) → Ones (gather dest ps)
unfolding gather
ones-gather dest [] = nil
ones-gather dest (p ∷ ps) = ones-pick (eqb p dest) (ones-gather dest ps) (cons (one_out p dest) (cons (one_in p dest) (ones-gather dest ps)))

ones-removals : (base : ℕ) (ps : List ℕ) → Ones (removals base ps)
unfolding removals
ones-removals base [] = nil
ones-removals base (p ∷ ps) = cons (one-point base p 0 false) (ones-removals base ps)

ones-at : {xs : List Step} (u i : ℕ) → Ones xs → OneBack (get_or xs i (close u))
ones-at u zero nil = one-close u
ones-at u (suc i) nil = one-close u
ones-at u zero (cons h p) = h
ones-at u (suc i) (cons h p) = ones-at u i p

unfoldable pub Back : ℕ → Step → Type 0
Back i x = (org dest back : ℕ) → x ≡ bring_in org dest back → (back ≡ 1) ⊎ ((back ≡ 3) × (i ≡ 3))

back_one : (i : ℕ) (x : Step) → OneBack x → Back i x
unfolding Back OneBack
back_one i x f org dest back e = inl (f org dest back e)

back-third : (a b : ℕ) → Back 3 (bring_in a b 3)
unfolding Back
back-third a b org dest back e = inr (cc, refl)

swap-back : (p q a b v u i : ℕ) → Back i (get_or (swap_plan p q a b ++ (close v ∷ [])) i (close u))
unfolding swap_plan
swap-back p q a b v u zero = back_one 0 _ (one_out a b)
swap-back p q a b v u (suc zero) = back_one 1 _ (one_out b a)
swap-back p q a b v u (suc (suc zero)) = back_one 2 _ (one_in b a)
swap-back p q a b v u (suc (suc (suc zero))) = back-third a b
swap-back p q a b v u (suc (suc (suc (suc zero)))) = back_one 4 _ (one-point q b a false)
swap-back p q a b v u (suc (suc (suc (suc (suc zero))))) = back_one 5 _ (one-point p a b (eqb p q))
swap-back p q a b v u (suc (suc (suc (suc (suc (suc zero)))))) = back_one 6 _ (one-close v)
swap-back p q a b v u (suc (suc (suc (suc (suc (suc (suc i))))))) = back_one _ _ (one-close u)

pick-back : (t : Bool) (u i : ℕ) (a b xs : List Step) → Back i (get_or (a ++ xs) i (close u)) → Back i (get_or (b ++ xs) i (close u)) → Back i (get_or (pick t a b ++ xs) i (close u))
unfolding pick
pick-back true u i a b xs p q = p
pick-back false u i a b xs p q = q

compact-ones : (p d : ℕ) (ls : List ℕ) → Ones (compact_plan p d ls)
unfolding compact_plan replacing
compact-ones p d ls =
    ones-append (ones-gather d ls) (ones-append (ones-pick (eqb (get_or ls 0 0) d) nil (cons (one-point p (get_or ls 0 0) d false) nil)) (ones-removals p (others ls)))

move-ones : (p a d : ℕ) → Ones (move_plan p a d)
unfolding move_plan
move-ones p a d = cons (one_out a d) (cons (one_in a d) (cons (one-point p a d false) nil))

pub plan-back : (g : Begin) (u i : ℕ) → Back i (get_or (plan g) i (close u))
unfolding plan
plan-back g u i =
    let p : ℕ = get_or g.bases 0 0 in
    let q : ℕ = get_or g.bases 1 p in
    let a : ℕ = get_or g.leaves 0 0 in
    let b : ℕ = get_or g.leaves 1 0 in
    let e : Ones (close g.unit ∷ []) = cons (one-close g.unit) nil in
    pick-back (eqb g.type 1) u i (compact_plan p g.dest g.leaves) (pick (eqb g.type 2) (swap_plan p q a b) (pick (saves g) [] (move_plan p a g.dest))) (close g.unit ∷ [])
    (back_one i _ (ones-at u i (ones-append (compact-ones p g.dest g.leaves) e)))
    (pick-back (eqb g.type 2) u i (swap_plan p q a b) (pick (saves g) [] (move_plan p a g.dest)) (close g.unit ∷ []) (swap-back p q a b g.unit u i)
    (pick-back (saves g) u i [] (move_plan p a g.dest) (close g.unit ∷ []) (back_one i _ (ones-at u i e))
    (back_one i _ (ones-at u i (ones-append (move-ones p a g.dest) e)))))

-- so the number of records that an LI names is known
counted : (s : State) (o : Open) (op : s.opened ≡ some o) (m : List ℕ) (x : Step) → Back (length o.did) x → Counted s o op m x
unfolding Counted Back shown given taken
counted s o op m x f org dest back e =
    ⊎_elim
    (λ (q : back ≡ 1). rw (op, q) (pick_true (eqb 1 1) _ _ (eq-eqb 1 1 refl)))
    (λ (q : (back ≡ 3) × (length o.did ≡ 3)). rw (op, q.0, q.1) (pick-false (eqb 3 1) _ _ (ne_eqb 3 1 (λ z. omega (arith, z)))))
    (f org dest back e)

-- ---- the open unit's next step

pub record Cons (xs : List Step) : Type 0 where
  pub head : Step
  pub tail : List Step
  pub is : xs ≡ head ∷ tail

pub ending-cons : {u : ℕ} {xs : List Step} → Ending u xs → Cons xs
ending-cons {u} last = record { head = close u; tail = []; is = refl }
ending-cons (more {x = x} {xs = xs} w e) = record { head = x; tail = xs; is = refl }

pub head-drop : (n : ℕ) (p : List Step) (d y : Step) (ys : List Step) → drop n p ≡ y ∷ ys → get_or p n d ≡ y
head-drop zero [] d y ys e = let z : ◌≡◌ {A = ℕ} 0 1 = cc in absurd (omega arith)
head-drop zero (x ∷ p) d y ys e = cc
head-drop (suc n) [] d y ys e = let z : ◌≡◌ {A = ℕ} 0 1 = cc in absurd (omega arith)
head-drop (suc n) (x ∷ p) d y ys e = head-drop n p d y ys e

-- ---- what holds

-- the open unit began where the numbers say; the images of a put or delete stand behind its begin record
pub record Anchored (l : List ℕ) (s : State) (o : Open) : Type 0 where
  pub start : o.start ≡ read_begin s.unit (drop (shown s).begin l)
  pub room : (shown s).begin + 44 ≤ length l
  pub fits : size (LB o.start) + sizes o.did ≤ s.at
  pub images : saves o.start ≡ true → images_in (length o.did) (drop 60 (drop (shown s).begin l)) ≡ images_of o.did []

pub record Holds (l : List ℕ) (s : State) : Type 0 where
  pub sound : Sound s
  pub inside : s.at ≤ length l
  pub steps : (shown s).done ≤ s.at
  pub anchored : (o : Open) → s.opened ≡ some o → Anchored l s o

-- the open unit of the state
pub awaits : (s : State) (o : Open) → Sound s → s.opened ≡ some o → saves o.start ≡ false → Awaits s.unit o
awaits s o h e v = waits-open (subst (Waits s.unit) e h.waits) v

pub keeps : (s : State) (o : Open) → Sound s → s.opened ≡ some o → saves o.start ≡ true → Keeps s.unit o
keeps s o h e v = waits-save (subst (Waits s.unit) e h.waits) v

-- its begin record keeps the rules
start-ok : {u : ℕ} {o : Open} → Waits u (some o) → begin_ok o.start ≡ true
start-ok (open-unit a) = a.ok
start-ok (open-save k) = k.ok

-- the numbers are ready for a turn
there-none : (x : Option Open) → x ≡ none → there x ≡ true → ⊥
unfolding there
there-none x e t = let z : false ≡ true = rw e at t in absurd (false≢true z)

unfold-none : there {A = Open} none ≡ false
unfolding there
unfold-none = refl

unfold-some : (o : Open) → there (some o) ≡ true
unfolding there
unfold-some o = refl

pub done-some : (s : State) (o : Open) → s.opened ≡ some o → (shown s).done ≡ length o.did
unfolding shown given
done-some s o e = rw e

type-of : (u : ℕ) (b : List ℕ) → (read_begin u b).type ≡ get_or b 16 0
unfolding read_begin
type-of u b = refl

-- a begin record that is read saves where its bytes say so
pub saves-of : (u : ℕ) (b : List ℕ) → saves (read_begin u b) ≡ saves_at b
unfolding read_begin saves saves_at
saves-of u b = refl

-- where a put or delete stands: so many images behind its begin record
sizes-imaged : {did : List Rec} → Imaged did → sizes did ≡ 272 * length did
unfolding sizes size carried kind_of length_of
sizes-imaged no-image = refl
sizes-imaged (an-image {did = did} p) = omega (arith, sizes-imaged p)

-- where its begin record stands
begin-of : (s : State) (o : Open) → s.opened ≡ some o → (shown s).begin ≡ s.at - (size (LB o.start) + sizes o.did)
unfolding shown given
begin-of s o e = rw e

saving-place : (l : List ℕ) (s : State) (o : Open) → s.opened ≡ some o → Anchored l s o → Keeps s.unit o → s.at ≡ (shown s).begin + 60 + 272 * length o.did
saving-place l s o e a k =
    let b : size (LB o.start) ≡ 60 = begin-saving o.start k.ok k.saves ∙ (unfold length_of in refl) in
    omega (arith, a.fits, sizes-imaged k.images, b, begin-of s o e)

saving-at : (l : List ℕ) (s : State) (o : Open) → s.opened ≡ some o → Anchored l s o → Keeps s.unit o
    → (shown s).at ≡ (shown s).begin + length_of begin 1 + length_of image 1 * (shown s).done
unfolding length_of
saving-at l s o e a k =
    let x : (shown s).at ≡ s.at = unfold shown in refl in
    x ∙ rw (done-some s o e) (saving-place l s o e a k)

at-is : (l : List ℕ) (s : State) → Holds l s → (shown s).at ≤ length l
unfolding shown
at-is l s h = h.inside

steps-is : (l : List ℕ) (s : State) → Holds l s → (shown s).done ≤ (shown s).at
unfolding shown
steps-is l s h = h.steps

shown-opened : (s : State) → (shown s).opened ≡ there s.opened
unfolding shown
shown-opened s = refl

ready_by : (l : List ℕ) (s : State) → Holds l s → (x : Option Open) → s.opened ≡ x → Ready l (shown s)
ready_by l s h none e =
    record {
      inside = at-is l s h;
      steps = steps-is l s h;
      room = λ t. absurd (there-none s.opened e (sym (shown-opened s) ∙ t));
      start = λ t. absurd (there-none s.opened e (sym (shown-opened s) ∙ t));
      saving = λ t. absurd (there-none s.opened e (sym (shown-opened s) ∙ t));
    }
ready_by l s h (some o) e =
    let a : Anchored l s o = h.anchored o e in
    let w : begin_ok o.start ≡ true = start-ok (subst (Waits s.unit) e h.sound.waits) in
    let u : (shown s).unit.0 ≡ s.unit = unfold shown in refl in
    let v : saves o.start ≡ saves_at (drop (shown s).begin l) = ap saves a.start ∙ saves-of s.unit _ in
    record {
      inside = at-is l s h;
      steps = steps-is l s h;
      room = λ t. a.room;
      start = λ t. rw (u, ← a.start) w;
      saving = λ t x. saving-at l s o e a (keeps s o h.sound e (v ∙ x));
    }

pub ready : (l : List ℕ) (s : State) → Holds l s → Ready l (shown s)
ready l s h = ready_by l s h s.opened refl

-- ---- a turn reads the next record

opened-none : (l : List ℕ) (s : State) → s.opened ≡ none
    → turned l (shown s) ≡ pick (stands_begin ((shown s).number.0 + 1) ((shown s).unit.0 + 1) (drop s.at l)) (begun (shown s) (pick (saves_at (drop s.at l)) 1 0)) lost
unfolding turned
opened-none l s e =
    let a : (shown s).at ≡ s.at = unfold shown in refl in
    let f : (shown s).opened ≡ false = shown-opened s ∙ ap there e ∙ unfold-none in
    pick-false _ _ _ f ∙ ap (λ (x : ℕ). pick (stands_begin ((shown s).number.0 + 1) ((shown s).unit.0 + 1) (drop x l)) (begun (shown s) (pick (saves_at (drop x l)) 1 0)) lost) a

opened_some : (l : List ℕ) (s : State) (o : Open) → s.opened ≡ some o → saves o.start ≡ false → o.start ≡ read_begin s.unit (drop (shown s).begin l)
    → turned l (shown s) ≡ stepped (shown s) (drop s.at l) (eqb o.start.type 1) (get_or (plan o.start) (length o.did) (close s.unit))
unfolding turned
opened_some l s o e v q =
    let a : (shown s).at ≡ s.at = unfold shown in refl in
    let u : (shown s).unit.0 ≡ s.unit = unfold shown in refl in
    let d : (shown s).done ≡ length o.did = done-some s o e in
    let f : (shown s).opened ≡ true = shown-opened s ∙ ap there e ∙ unfold-some o in
    let b : List ℕ = drop (shown s).begin l in
    let t : o.start.type ≡ get_or b 16 0 = ap (λ (g : Begin). g.type) q ∙ type-of s.unit b in
    let p : plan (read_begin s.unit b) ≡ plan o.start = ap plan (sym q) in
    pick_true _ _ _ f
    ∙ pick-false _ _ _ (sym (saves-of s.unit b) ∙ sym (ap saves q) ∙ v)
    ∙ ap (λ (x : ℕ). stepped (shown s) (drop x l) (eqb (get_or b 16 0) 1) (get_or (plan (read_begin (shown s).unit.0 b)) (shown s).done (close (shown s).unit.0))) a
    ∙ ap (λ (x : ℕ). stepped (shown s) (drop s.at l) (eqb x 1) (get_or (plan (read_begin (shown s).unit.0 b)) (shown s).done (close (shown s).unit.0))) (sym t)
    ∙ ap (λ (x : ℕ). stepped (shown s) (drop s.at l) (eqb o.start.type 1) (get_or (plan (read_begin x b)) (shown s).done (close x))) u
    ∙ ap (λ (x : ℕ). stepped (shown s) (drop s.at l) (eqb o.start.type 1) (get_or (plan (read_begin s.unit b)) x (close s.unit))) d
    ∙ ap (λ (x : List Step). stepped (shown s) (drop s.at l) (eqb o.start.type 1) (get_or x (length o.did) (close s.unit))) p

-- an open put or delete
opened-save : (l : List ℕ) (s : State) (o : Open) → s.opened ≡ some o → saves o.start ≡ true → Anchored l s o
    → turned l (shown s) ≡ saved (shown s) (drop s.at l) (images_of o.did [])
unfolding turned images_on length_of
opened-save l s o e v a =
    let at : (shown s).at ≡ s.at = unfold shown in refl in
    let d : (shown s).done ≡ length o.did = done-some s o e in
    let f : (shown s).opened ≡ true = shown-opened s ∙ ap there e ∙ unfold-some o in
    let b : List ℕ = drop (shown s).begin l in
    let i : images_in (shown s).done (drop 60 b) ≡ images_of o.did [] = ap (λ (k : ℕ). images_in k (drop 60 b)) d ∙ a.images v in
    pick_true _ _ _ f
    ∙ pick_true _ _ _ (sym (saves-of s.unit b) ∙ sym (ap saves a.start) ∙ v)
    ∙ ap (λ (x : ℕ). saved (shown s) (drop x l) (images_in (shown s).done (drop (length_of begin 1) b))) at
    ∙ ap (saved (shown s) (drop s.at l)) i

-- its images, by the numbers of the walk
pub images-on : (l : List ℕ) (s : State) (o : Open) → s.opened ≡ some o → saves o.start ≡ true → Anchored l s o → images_on l (shown s) ≡ images_of o.did []
unfolding images_on length_of
images-on l s o e v a = ap (λ (k : ℕ). images_in k (drop 60 (drop (shown s).begin l))) (done-some s o e) ∙ a.images v

open_by : (l : List ℕ) (s : State) → Holds l s → (o : Open) → s.opened ≡ some o → (t : Bool) → saves o.start ≡ t
    → turned l (shown s) ≡ given (read_rec s (drop s.at l)) lost (λ r. shown (after s r))
open_by l s h o e true v =
    let k : Keeps s.unit o = keeps s o h.sound e v in
    opened-save l s o e v (h.anchored o e) ∙ save-reads s o e (drop s.at l) v k.start (saves-type o.start v)
open_by l s h o e false v =
    let a : Anchored l s o = h.anchored o e in
    let w : Awaits s.unit o = awaits s o h.sound e v in
    let c : Cons o.todo = ending-cons w.todo in
    let t : drop (length o.did) (plan o.start) ≡ c.head ∷ c.tail = sym (awaits-todo w) ∙ c.is in
    let x : get_or (plan o.start) (length o.did) (close s.unit) ≡ c.head = head-drop (length o.did) (plan o.start) (close s.unit) c.head c.tail t in
    let f : Back (length o.did) c.head = subst (Back (length o.did)) x (plan-back o.start s.unit (length o.did)) in
    opened_some l s o e v a.start ∙ ap (stepped (shown s) (drop s.at l) (eqb o.start.type 1)) x
    ∙ open-reads s o e (drop s.at l) c.head c.tail v c.is (counted s o e (drop s.at l) c.head f)

turn_by : (l : List ℕ) (s : State) → Holds l s → (x : Option Open) → s.opened ≡ x → turned l (shown s) ≡ given (read_rec s (drop s.at l)) lost (λ r. shown (after s r))
turn_by l s h none e = opened-none l s e ∙ shut-reads s (drop s.at l) e
turn_by l s h (some o) e = open_by l s h o e (saves o.start) refl

pub turn-reads : (l : List ℕ) (s : State) → Holds l s → turned l (shown s) ≡ given (read_rec s (drop s.at l)) lost (λ r. shown (after s r))
turn-reads l s h = turn_by l s h s.opened refl

-- ---- what holds after a record

begin-new : (s : State) (g : Begin) → (after s (LB g)).at - (size (LB g) + sizes []) ≡ s.at
unfolding after sizes
begin-new s g = omega arith

begin-size : (a : ℕ) (r : Rec) (g : Begin) (n : ℕ) → r ≡ LB g → a + size r ≤ n → a + 44 ≤ n
unfolding size carried kind_of length_of
begin-size a r g n e h = let k : a + (44 + 16 * length g.saved) ≤ n = rw e at h in omega arith

-- the images behind a begin record after one more
pub images_in-more : (k : ℕ) (m : List ℕ) → images_in (suc k) m ≡ images_in k m ++ read_image (drop (272 * k) m) ∷ []
unfolding images_in length_of
images_in-more zero m = refl
images_in-more (suc k) m =
    let e : 272 * suc k ≡ 272 + 272 * k = omega arith in
    ap (λ (x : List Image). read_image m ∷ x) (images_in-more k (drop 272 m) ∙ rw (e, drop-drop (272 * k) 272 m))

-- the open unit after one of its records but LE, which is r: p with the images that it then has
anchored-more : (l : List ℕ) (s : State) (o : Open) (r : Rec) → s.opened ≡ some o → Anchored l s o → (after s r).unit ≡ s.unit
    → (after s r).at ≡ s.at + size r → (p : Open) → (after s r).opened ≡ some p → p.start ≡ o.start → p.did ≡ r ∷ o.did
    → (saves o.start ≡ true → images_in (suc (length o.did)) (drop 60 (drop (shown s).begin l)) ≡ images_of (r ∷ o.did) [])
    → Anchored l (after s r) p
anchored-more l s o r e a u k p n ps pd im =
    let sz : sizes p.did ≡ size r + sizes o.did = rw pd (unfold sizes in refl) in
    let z : size (LB p.start) ≡ size (LB o.start) = ap (λ (g : Begin). size (LB g)) ps in
    let i : (shown (after s r)).begin ≡ (shown s).begin =
    begin-of (after s r) p n ∙ omega (arith, k, sz, z, begin-of s o e) in
    record {
      start = ps ∙ a.start
          ∙ ap (λ (x : ℕ). read_begin s.unit (drop x l)) (sym i)
          ∙ ap (λ (x : ℕ). read_begin x (drop (shown (after s r)).begin l)) (sym u);
      room = subst (λ (x : ℕ). x + 44 ≤ length l) (sym i) a.room;
      fits = omega (arith, a.fits, k, sz, z);
      images = λ v. rw (pd, i) (im (sym (ap saves ps) ∙ v));
    }

-- a planned step is of no put or delete
anchored-going : (l : List ℕ) (s : State) (o : Open) (r : Rec) → s.opened ≡ some o → saves o.start ≡ false → Anchored l s o
    → (after s r).opened ≡ some (going r o) → (after s r).unit ≡ s.unit
    → (after s r).at ≡ s.at + size r → (p : Open) → (after s r).opened ≡ some p → Anchored l (after s r) p
anchored-going l s o r e v a n u k p q =
    subst (Anchored l (after s r)) (some-injective (going r o) p (sym n ∙ q))
    (anchored-more l s o r e a u k (going r o) n (unfold going in refl) (unfold going in refl) (λ x. absurd (false≢true (sym v ∙ x))))

-- the record of a put or delete that is read
pub saved_read : (s : State) (o : Open) (m : List ℕ) (r : Rec) → s.opened ≡ some o → saves o.start ≡ true → read_rec s m ≡ some r
    → r ≡ pick (eqb (get_or m 1 0) image.sign) (LG (read_image m)) (LE o.start.unit (images_of o.did []))
unfolding read_rec expected imaged pick
saved_read s o m r e v q =
    let b = bind-some (expected s.unit s.opened m) _ r q in
    let x : b.from ≡ r = (when-some _ b.from r b.gives).1 in
    let y : imaged o.start.unit (images_of o.did []) m ≡ some r =
    sym (ap (λ (z : Option Open). expected s.unit z m) e ∙ pick_true _ _ _ v) ∙ b.was ∙ ap (λ (z : Rec). some z) x in
    by-mark (eqb (get_or m 1 0) image.sign) y
  where
    by-mark : (t : Bool) → pick t (when (follows (images_of o.did []) (read_image m)) (LG (read_image m)))
        (when (both (leb 1 (length (images_of o.did []))) (all_bear (le4 m 4) (images_of o.did []))) (LE o.start.unit (images_of o.did []))) ≡ some r
        → r ≡ pick t (LG (read_image m)) (LE o.start.unit (images_of o.did []))
    by-mark true c = sym (when-some _ _ r c).1
    by-mark false c = sym (when-some _ _ r c).1

-- an LG's image
image-read : (s : State) (o : Open) (m : List ℕ) (i : Image) → s.opened ≡ some o → saves o.start ≡ true → read_rec s m ≡ some (LG i) → i ≡ read_image m
unfolding pick
image-read s o m i e v q = by-mark (eqb (get_or m 1 0) image.sign) (saved_read s o m (LG i) e v q)
  where
    by-mark : (t : Bool) → LG i ≡ pick t (LG (read_image m)) (LE o.start.unit (images_of o.did [])) → i ≡ read_image m
    by-mark true c = cc
    by-mark false c = let z : ◌≡◌ {A = ℕ} 0 1 = cc in absurd (omega arith)

anchored-image : (l : List ℕ) (s : State) (o : Open) (i : Image) → s.opened ≡ some o → Keeps s.unit o → Anchored l s o → i ≡ read_image (drop s.at l)
    → (p : Open) → (after s (LG i)).opened ≡ some p → Anchored l (after s (LG i)) p
anchored-image l s o i e k a q p n =
    let y : (after s (LG i)).opened ≡ some (noting (LG i) o) = unfold after opened_by bind in rw e in
    let b : ℕ = (shown s).begin in
    let d : List Rec = o.did in
    let j : ℕ = 272 * length d in
    let c : drop j (drop 60 (drop b l)) ≡ drop s.at l =
    ap (drop j) (drop-drop 60 b l) ∙ drop-drop j (b + 60) l ∙ ap (λ (x : ℕ). drop x l) (sym (saving-place l s o e a k)) in
    let r : read_image (drop j (drop 60 (drop b l))) ≡ i = ap read_image c ∙ sym q in
    let f : images_of (LG i ∷ d) [] ≡ images_of d (i ∷ []) = unfold images_of in refl in
    subst (Anchored l (after s (LG i))) (some-injective (noting (LG i) o) p (sym y ∙ n))
    (anchored-more l s o (LG i) e a (unfold after unit_by in refl) (unfold after in refl) (noting (LG i) o) y (unfold noting in refl) (unfold noting in refl)
    (λ v. images_in-more (length d) (drop 60 (drop b l)) ∙ rw (a.images v, r) (sym (f ∙ images-more d (i ∷ [])))))

-- the LB that is read
pub begin-read : (s : State) (m : List ℕ) (r : Rec) → s.opened ≡ none → read_rec s m ≡ some r → r ≡ LB (read_begin (s.unit + 1) m)
unfolding read_rec expected
begin-read s m r e q =
    let b = bind-some (expected s.unit s.opened m) _ r q in
    let w = when-some (begin_ok (read_begin (s.unit + 1) m)) (LB (read_begin (s.unit + 1) m)) b.from (sym (ap (λ (y : Option Open). expected s.unit y m) e) ∙ b.was) in
    sym (w.1 ∙ (when-some _ b.from r b.gives).1)

anchored-begun : (l : List ℕ) (s : State) → s.at + 44 ≤ length l → (p : Open) → (after s (LB (read_begin (s.unit + 1) (drop s.at l)))).opened ≡ some p
    → Anchored l (after s (LB (read_begin (s.unit + 1) (drop s.at l)))) p
anchored-begun l s h p q =
    let g : Begin = read_begin (s.unit + 1) (drop s.at l) in
    let n : (after s (LB g)).opened ≡ some (record { start = g; did = []; todo = plan g }) = unfold after opened_by in refl in
    let e : record { start = g; did = []; todo = plan g } ≡ p = some-injective _ p (sym n ∙ q) in
    let i : (shown (after s (LB g))).begin ≡ s.at = begin-of (after s (LB g)) _ n ∙ begin-new s g in
    let u : (after s (LB g)).unit ≡ s.unit + 1 = unfold after unit_by read_begin in refl in
    subst (Anchored l (after s (LB g))) e (record {
      start = ap (λ (x : ℕ). read_begin (s.unit + 1) (drop x l)) (sym i)
          ∙ ap (λ (x : ℕ). read_begin x (drop (shown (after s (LB g))).begin l)) (sym u);
      room = subst (λ (x : ℕ). x + 44 ≤ length l) (sym i) h;
      fits = unfold after sizes in omega arith;
      images = λ v. unfold images_in images_of in refl;
    })

by-step : (l : List ℕ) (s : State) (r : Rec) (o : Open) → Anchored l s o → s.opened ≡ some o → saves o.start ≡ false → {x : Step} → Does o.did x r
    → (p : Open) → (after s r).opened ≡ some p → Anchored l (after s r) p
unfolding after opened_by unit_by bind
by-step l s r o a e v (does-out {org = org} {dest = dest} {rs = rs} m) p n = anchored-going l s o (LO org dest rs) e v a (rw e) refl refl p n
by-step l s r o a e v (does-in {org = org} {dest = dest} {back = back} {rs = rs} m) p n = anchored-going l s o (LI org dest back rs) e v a (rw e) refl refl p n
by-step l s r o a e v (does-point {base = base} {old = old} {new = new} {key = key} m) p n = anchored-going l s o (LM base old new key) e v a (rw e) refl refl p n
by-step l s r o a e v does-close p n = absurd (none-ne-some p n)

-- by the record that comes next
anchored-after : (l : List ℕ) (s : State) (r : Rec) → Holds l s → read_rec s (drop s.at l) ≡ some r → s.at + size r ≤ length l → (x : Option Open) → s.opened ≡ x
    → Follows s.unit x r → (p : Open) → (after s r).opened ≡ some p → Anchored l (after s r) p
anchored-after l s r h q k none e f p n =
    let c : r ≡ LB (read_begin (s.unit + 1) (drop s.at l)) = begin-read s (drop s.at l) r e q in
    let z : s.at + 44 ≤ length l = begin-size s.at r _ (length l) c k in
    subst (λ (y : Rec). (after s y).opened ≡ some p → Anchored l (after s y) p) (sym c) (anchored-begun l s z p) n
anchored-after l s r h q k (some o) e (goes v t d) p n = by-step l s r o (h.anchored o e) e v d p n
anchored-after l s r h q k (some o) e (logs v (logs-image {i = i} f x b)) p n =
    anchored-image l s o i e (keeps s o h.sound e v) (h.anchored o e) (image-read s o (drop s.at l) i e v q) p n
anchored-after l s r h q k (some o) e (logs v (logs-end x)) p n = absurd (none-ne-some p (unfold after opened_by in n))

-- the steps done are no more than the bytes
done-by : (r : Rec) (a : ℕ) (x : Option Open) → given x 0 (λ (o : Open). length o.did) ≤ a → given (opened_by r x) 0 (λ (o : Open). length o.did) ≤ a + size r
unfolding opened_by given bind going noting
done-by (LB g) a x h = omega arith
done-by (LO org dest rs) a none h = omega arith
done-by (LO org dest rs) a (some o) h = omega (arith, size-least (LO org dest rs))
done-by (LI org dest back rs) a none h = omega arith
done-by (LI org dest back rs) a (some o) h = omega (arith, size-least (LI org dest back rs))
done-by (LM base old new key) a none h = omega arith
done-by (LM base old new key) a (some o) h = omega (arith, size-least (LM base old new key))
done-by (LG i) a none h = omega arith
done-by (LG i) a (some o) h = omega (arith, size-least (LG i))
done-by (LE u is) a x h = omega arith

done-after : (s : State) (r : Rec) → (shown s).done ≤ s.at → (shown (after s r)).done ≤ s.at + size r
unfolding shown after
done-after s r h = done-by r s.at s.opened h

-- the next state
pub holds_after : (l : List ℕ) (s : State) (r : Rec) → Bytes l → Holds l s → read_rec s (drop s.at l) ≡ some r → Holds l (after s r)
holds_after l s r b h q =
    let f : ReadOff s (drop s.at l) r = read_rec-facts s (drop s.at l) r q in
    let x : Fits s r = f.fits (bytes_drop s.at l b) in
    let d : length (drop s.at l) ≡ length l - s.at = length-drop s.at l in
    let k : s.at + size r ≤ length l = omega (arith, f.short, size-least r, h.inside) in
    let a : (after s r).at ≡ s.at + size r = unfold after in refl in
    record {
      sound = sound-after h.sound x;
      inside = subst (λ (x : ℕ). x ≤ length l) (sym a) k;
      steps = subst (λ (x : ℕ). (shown (after s r)).done ≤ x) (sym a) (done-after s r h.steps);
      anchored = anchored-after l s r h q k s.opened refl x.follows;
    }

-- the first state
pub holds-first : (l : List ℕ) (c : Check) → Small c → 24 ≤ length l → Holds l (first c)
unfolding first shown given length_of
holds-first l c m h =
    record { sound = sound-first c m; inside = h; steps = omega arith; anchored = λ o e. absurd (none-ne-some o e) }
