-- The laws do not contradict each other: a small format meets them, with what they leave room for: a record that changes two pages, a unit whose
-- rest is worked out from the pages, records that grow as the log says, and a mark that a checkpoint writes before its log. Page 0 counts what was
-- put, pages 1 and 2 are places: 0 empty, 1 full, 2 failed. A unit opens, puts (one more on page 0, and the lowest empty place full), and ends. So
-- the tree is not fine between the first two records, and a put done twice would spoil it. Assumes nothing.
use Prim.Native.Nat.{ℕ, zero, suc, ◌+◌, ◌≤◌, ◌<◌}
use mathlib.Core.Path.{◌≡◌, refl, sym, ap, ◌∙◌}
use mathlib.Core.Bool.{Bool, true, false, cond}
use mathlib.Core.List.{List, [], ◌∷◌, ◌++◌}
use mathlib.Core.Logic.{◌⊎◌, inl, inr, ◌≢◌}
use mathlib.Core.Option.{Option, some, none, bind, bind-eq-some_iff, some-injective, none-ne-some}
use native.Mathlib.Decide.{ℕ_discrete}
use native.Mathlib.Omega.{arith}
use lib.Dec.{leb, eqb}
use lib.ListN.{length}
use borrow.Author.Tests.{eq-eqb, ne_eqb}
use Rattle.replay.specs.Store.{run, Format, again, finish, recover, Meaning, Settled, Uncut, Reached}
use Rattle.replay.specs.Laws.{Each, also, Touches, Passes, PageLaws, Able, closed, more, UnitLaws}
use Rattle.replay.proofs.Able.{able-shape, able-fine, able-next}

-- a page: its stamp and its number
pub record Page : Type 0 where
  stamp : ℕ
  value : ℕ

pub record Pages : Type 0 where
  first : Page
  second : Page
  third : Page

-- the three records of a unit; q is the place
pub data Rec : Type 0 where
  opens ends : Rec
  puts : (q : ℕ) → Rec

-- ---- pages

-- the page with this stamp and number
abbrev page : ℕ → ℕ → Page
page n v = record { stamp = n; value = v }

abbrev three : Page → Page → Page → Pages
three a b c = record { first = a; second = b; third = c }

-- a page by its number; one page copied
abbrev at : Pages → ℕ → Page
at w zero = w.first
at w (suc zero) = w.second
at w (suc (suc p)) = w.third

abbrev copy : ℕ → Pages → Pages → Pages
copy zero v w = three v.first w.second w.third
copy (suc zero) v w = three w.first v.second w.third
copy (suc (suc p)) v w = three w.first w.second v.third

-- an empty place becomes full
abbrev fill : ℕ → Page → Option Page
fill n pg = cond (eqb pg.value 0) (some (page n 1)) none

-- what a record does to a page, and what it does repeated
abbrev change : ℕ → Rec → ℕ → Page → Option Page
change n opens p pg = some pg
change n ends p pg = some pg
change n (puts q) zero pg = some (page n (pg.value + 1))
change n (puts q) (suc p) pg = cond (eqb q (suc p)) (fill n pg) (some pg)

-- f at all pages
abbrev each : (ℕ → Page → Option Page) → Pages → Option Pages
each f w = bind (f 0 w.first) (λ a. bind (f 1 w.second) (λ b. bind (f 2 w.third) (λ c. some (three a b c))))

abbrev repeated : ℕ → Rec → ℕ → Page → Option Page
repeated n r p pg = cond (leb n pg.stamp) (some pg) (change n r p pg)

-- ---- units

-- how many records follow, and how many lacked before
abbrev lacks : Rec → ℕ
lacks opens = 2
lacks (puts q) = 1
lacks ends = 0

abbrev lacked : Rec → ℕ
lacked opens = 0
lacked (puts q) = 2
lacked ends = 1

-- how many records lack after the log, where k did before it
abbrev stage : ℕ → List Rec → ℕ
stage k [] = k
stage k (r ∷ rs) = stage (lacks r) rs

-- the records follow each other
abbrev Follow : ℕ → List Rec → Type 0
Follow k [] = Unit {0}
Follow k (r ∷ rs) = (k ≡ lacked r) × Follow (lacks r) rs

-- how many units the log has begun
abbrev count : List Rec → ℕ
count [] = 0
count (opens ∷ rs) = count rs + 1
count (puts q ∷ rs) = count rs
count (ends ∷ rs) = count rs

-- the lowest empty place
abbrev lowest : Pages → Option ℕ
lowest w = cond (eqb w.second.value 0) (some 1) (cond (eqb w.third.value 0) (some 2) none)

-- the next record where k lack
abbrev follows : ℕ → Pages → Option Rec
follows zero w = none
follows (suc zero) w = some ends
follows (suc (suc k)) w = bind (lowest w) (λ q. some (puts q))

-- the format
abbrev pub toy : Format
toy = record {
  Page = Page;
  Pages = Pages;
  Rec = Rec;
  Check = ℕ;
  many = 3;
  at = at;
  copy = copy;
  stamp = λ pg. pg.stamp;
  change = change;
  apply = λ n r. each (change n r);
  repeat = λ n r. each (repeated n r);
  num = λ c. c;
  left = λ c w l. stage 0 l;
  next = λ c w l. follows (stage 0 l) w;
}

-- an empty place marked as failed, its number kept
abbrev failed : Page → Page
failed pg = cond (eqb pg.value 0) (page pg.stamp 2) pg

-- place q marked; for 0 none
abbrev mark : ℕ → Pages → Pages
mark zero w = w
mark (suc zero) w = three w.first (failed w.second) w.third
mark (suc (suc q)) w = three w.first w.second (failed w.third)

-- its meaning; lengths and forms ask nothing
abbrev pub means : Meaning toy
means = record {
  Sized = λ w. Unit {0};
  Form = λ p pg. Unit {0};
  Shape = λ c l. Follow 0 l;
  Fine = λ o l w. w.first.value ≡ o.first.value + count l;
  Begins = λ c w l r. (q : ℕ) × (r ≡ opens) × (lowest w ≡ some q);
  Checks = λ c w s l c' w' s'. (q : ℕ) × (c' ≡ c + length l + 1) × (w' ≡ mark q w) × (s' ≡ mark q s);
  Tears = λ c s l s'. (q : ℕ) × (s' ≡ mark q s);
  Event = λ c w l w'. (q : ℕ) × (w' ≡ mark q w) × (stage 0 l ≤ 1);
}

-- ---- the laws of pages

-- what f made of all pages it made of each
each_at : (f : ℕ → Page → Option Page) (v w : Pages) → each f v ≡ some w → (p : ℕ) → p < 3 → f p (at v p) ≡ some (at w p)
each_at f v w e = go
  where
    parts : (a b c : Page) × (f 0 v.first ≡ some a) × (f 1 v.second ≡ some b) × (f 2 v.third ≡ some c) × (three a b c ≡ w)
    parts =
        let (a, x, g) = (bind-eq-some_iff (f 0 v.first) (λ a. bind (f 1 v.second) (λ b. bind (f 2 v.third) (λ c. some (three a b c))))).0 e in
        let (b, y, h) = (bind-eq-some_iff (f 1 v.second) (λ b. bind (f 2 v.third) (λ c. some (three a b c)))).0 g in
        let (c, z, i) = (bind-eq-some_iff (f 2 v.third) (λ c. some (three a b c))).0 h in
        (a, b, c, x, y, z, some-injective (three a b c) w i)

    go : (p : ℕ) → p < 3 → f p (at v p) ≡ some (at w p)
    go zero i = let (a, b, c, x, y, z, e) = parts in x ∙ ap (λ (u : Pages). some u.first) e
    go (suc zero) i = let (a, b, c, x, y, z, e) = parts in y ∙ ap (λ (u : Pages). some u.second) e
    go (suc (suc zero)) i = let (a, b, c, x, y, z, e) = parts in z ∙ ap (λ (u : Pages). some u.third) e
    go (suc (suc (suc p))) i = absurd (omega arith)

-- f refuses no page, so not all
each-some : (f : ℕ → Page → Option Page) (v : Pages) → ((p : ℕ) → p < 3 → (pg : Page) × (f p (at v p) ≡ some pg))
    → (w : Pages) × (each f v ≡ some w)
unfolding bind
each-some f v h =
    let (a, x) = h 0 (omega arith) in
    let (b, y) = h 1 (omega arith) in
    let (c, z) = h 2 (omega arith) in
    (three a b c, rw (x, y, z))

-- the copied page, and the others
copy_at : (v w : Pages) (p : ℕ) → at (copy p v w) p ≡ at v p
copy_at v w zero = refl
copy_at v w (suc zero) = refl
copy_at v w (suc (suc p)) = refl

copy-beside : (v w : Pages) (p q : ℕ) → p < 3 → q < 3 → q ≢ p → at (copy p v w) q ≡ at w q
copy-beside v w zero zero i j d = absurd (omega arith)
copy-beside v w zero (suc zero) i j d = refl
copy-beside v w zero (suc (suc q)) i j d = refl
copy-beside v w (suc zero) zero i j d = refl
copy-beside v w (suc zero) (suc zero) i j d = absurd (omega arith)
copy-beside v w (suc zero) (suc (suc q)) i j d = refl
copy-beside v w (suc (suc p)) zero i j d = refl
copy-beside v w (suc (suc p)) (suc zero) i j d = refl
copy-beside v w (suc (suc p)) (suc (suc q)) i j d = absurd (omega arith)

-- a record that stamps the page that it is accepted on
touches : (p n : ℕ) (r : Rec) → ((y z : Page) → change n r p y ≡ some z → z.stamp ≡ n) → Touches toy means p n r
touches p n r h = record { stamped = λ y z f k e. h y z e; formed = λ y z f k e. tt }

fill-stamped : (n : ℕ) (y z : Page) → fill n y ≡ some z → z.stamp ≡ n
fill-stamped n y z e = go (eqb y.value 0) e
  where
    go : (b : Bool) → cond b (some (page n 1)) none ≡ some z → z.stamp ≡ n
    go true q = ap (λ (x : Page). x.stamp) (sym (some-injective (page n 1) z q))
    go false q = absurd (none-ne-some z q)

concerns : (n : ℕ) (r : Rec) (p : ℕ) → Touches toy means p n r ⊎ Passes toy means p n r
concerns n opens p = inr (λ pg f. refl)
concerns n ends p = inr (λ pg f. refl)
concerns n (puts q) zero =
    inl (touches zero n (puts q) (λ y z e. ap (λ (x : Page). x.stamp) (sym (some-injective (page n (y.value + 1)) z e))))
concerns n (puts q) (suc p) = elim (ℕ_discrete q (suc p)) [
  | yes j ↦ inl (touches (suc p) n (puts q) (λ y z e. fill-stamped n y z (rw (eq-eqb q (suc p) j) at e)))
  | no j ↦ inr (λ pg f. rw (ne_eqb q (suc p) j))
]

-- so the laws of pages hold
pub toy-pages : PageLaws toy means
unfolding again
toy-pages = record {
  same-pages = λ v w a b h. same v w (h 0 (omega arith)) (h 1 (omega arith)) (h 2 (omega arith));
  copy-sized = λ v w p a b i. tt;
  copy-same = λ v w p a b i. copy_at v w p;
  copy-other = λ v w p q a b i j d. copy-beside v w p q i j d;
  concerns = λ n r p s i. concerns n r p;
  applied = λ n r v w s f e. (tt, each_at (change n r) v w e);
  repeated = λ n r v w s f e. (tt, each_at (repeated n r) v w e);
  repeat-accepted = λ n r v s f h. each-some (repeated n r) v h;
}
  where
    same : (v w : Pages) → v.first ≡ w.first → v.second ≡ w.second → v.third ≡ w.third → v ≡ w
    same v w a b c = rw (a, b, c)

-- ---- the laws of units

-- logs one after the other
stage-append : (k : ℕ) (l t : List Rec) → stage k (l ++ t) ≡ stage (stage k l) t
stage-append k [] t = refl
stage-append k (r ∷ rs) t = stage-append (lacks r) rs t

follow-append : (k : ℕ) (l t : List Rec) → Follow k l → Follow (stage k l) t → Follow k (l ++ t)
follow-append k [] t a b = b
follow-append k (r ∷ rs) t a b = (a.0, follow-append (lacks r) rs t a.1 b)

follow-rest : (k : ℕ) (l t : List Rec) → Follow k (l ++ t) → Follow (stage k l) t
follow-rest k [] t a = a
follow-rest k (r ∷ rs) t a = follow-rest (lacks r) rs t a.1

count-append : (l t : List Rec) → count (l ++ t) ≡ count l + count t
count-append [] t = omega arith
count-append (opens ∷ rs) t = omega (arith, count-append rs t)
count-append (puts q ∷ rs) t = count-append rs t
count-append (ends ∷ rs) t = count-append rs t

-- the end is the last record, and leaves the pages as they are
ended : (n : ℕ) (w : Pages) → each (change n ends) w ≡ some w
ended n w = unfold bind in refl

next-ends : (w : Pages) (l : List Rec) → stage 0 l ≡ 1 → follows (stage 0 l) w ≡ some ends
next-ends w l e = rw e

-- the put is accepted
filled : (w : Pages) (q n : ℕ) → lowest w ≡ some q
    → (w' : Pages) × (each (change n (puts q)) w ≡ some w') × (w'.first.value ≡ w.first.value + 1)
filled w q n e = elim (ℕ_discrete w.second.value 0) [
  | yes i ↦
      let j : 1 ≡ q = some-injective 1 q (rw (eq-eqb w.second.value 0 i) at e) in
      rw (← j) (three (page n (w.first.value + 1)) (page n 1) w.third, (unfold bind in rw (eq-eqb w.second.value 0 i)), refl)
  | no i ↦ elim (ℕ_discrete w.third.value 0) [
    | yes k ↦
        let j : 2 ≡ q = some-injective 2 q (rw (ne_eqb w.second.value 0 i, eq-eqb w.third.value 0 k) at e) in
        rw (← j) (three (page n (w.first.value + 1)) w.second (page n 1), (unfold bind in rw (eq-eqb w.third.value 0 k)), refl)
    | no k ↦ absurd (none-ne-some q (rw (ne_eqb w.second.value 0 i, ne_eqb w.third.value 0 k) at e))
  ]
]

-- the unit that was opened, from pages with an empty place
opened : (o : Pages) (c : ℕ) (w : Pages) (l : List Rec) (q : ℕ) → stage 0 l ≡ 0 → Follow 0 l → w.first.value ≡ o.first.value + count l
    → lowest w ≡ some q → Able toy means o c w (l ++ (opens ∷ []))
opened o c w l q z s f e =
    let l₁ : List Rec = l ++ (opens ∷ []) in
    let l₂ : List Rec = l₁ ++ (puts q ∷ []) in
    let s₁ : stage 0 l₁ ≡ 2 = stage-append 0 l (opens ∷ []) in
    let s₂ : stage 0 l₂ ≡ 1 = stage-append 0 l₁ (puts q ∷ []) in
    let s₃ : stage 0 (l₂ ++ (ends ∷ [])) ≡ 0 = stage-append 0 l₂ (ends ∷ []) in
    let f₁ : Follow 0 l₁ = follow-append 0 l (opens ∷ []) s (z, tt) in
    let f₂ : Follow 0 l₂ = follow-append 0 l₁ (puts q ∷ []) f₁ (s₁, tt) in
    let f₃ : Follow 0 (l₂ ++ (ends ∷ [])) = follow-append 0 l₂ (ends ∷ []) f₂ (s₂, tt) in
    let (w', a, b) = filled w q (c + length l₁ + 1) e in
    let fine : w'.first.value ≡ o.first.value + count (l₂ ++ (ends ∷ [])) =
    omega (arith, b, f, count-append l₂ (ends ∷ []), count-append l₁ (puts q ∷ []), count-append l (opens ∷ [])) in
    more f₁ s₁ s₂ (nexts l₁ s₁) a
    (more {l = l₂} {r = ends} {k = 0} f₂ s₂ s₃ (next-ends w' l₂ s₂) (ended (c + length l₂ + 1) w')
    (closed f₃ s₃ fine))
  where
    nexts : (l : List Rec) → stage 0 l ≡ 2 → follows (stage 0 l) w ≡ some (puts q)
    nexts l h = unfold bind in rw (h, e)

-- a mark leaves page 0
mark-first : (w : Pages) (q : ℕ) → (mark q w).first ≡ w.first
mark-first w zero = refl
mark-first w (suc zero) = refl
mark-first w (suc (suc q)) = refl

-- .. and every number
failed-stamp : (pg : Page) → (failed pg).stamp ≡ pg.stamp
failed-stamp pg = go (eqb pg.value 0)
  where
    go : (b : Bool) → (cond b (page pg.stamp 2) pg).stamp ≡ pg.stamp
    go true = refl
    go false = refl

mark-stamps : (w : Pages) (q p : ℕ) → (at (mark q w) p).stamp ≡ (at w p).stamp
mark-stamps w zero p = refl
mark-stamps w (suc zero) zero = refl
mark-stamps w (suc zero) (suc zero) = failed-stamp w.second
mark-stamps w (suc zero) (suc (suc p)) = refl
mark-stamps w (suc (suc q)) zero = refl
mark-stamps w (suc (suc q)) (suc zero) = refl
mark-stamps w (suc (suc q)) (suc (suc p)) = failed-stamp w.third

-- after a mark the unit can be finished as before, where it lacks its end at most
marked-able : (o : Pages) (c : ℕ) (w : Pages) (q : ℕ) (l : List Rec) → Able toy means o c w l → stage 0 l ≤ 1 → Able toy means o c (mark q w) l
marked-able o c w q l a k = go (stage 0 l) refl
  where
    fine : (l : List Rec) → w.first.value ≡ o.first.value + count l → (mark q w).first.value ≡ o.first.value + count l
    fine l f = rw (mark-first w q) f

    -- the tree was fine before the end too
    still : stage 0 l ≡ 1 → (r : Rec) (v : Pages) → follows (stage 0 l) w ≡ some r → each (change (c + length l + 1) r) w ≡ some v
        → v.first.value ≡ o.first.value + count (l ++ (r ∷ [])) → w.first.value ≡ o.first.value + count (l ++ (ends ∷ []))
    still e r v i h f =
        let x : r ≡ ends = sym (some-injective ends r (rw e at i)) in
        let y : w ≡ v = some-injective w v (sym (ended (c + length l + 1) w) ∙ (rw x at h)) in
        rw y (rw x at f)

    s : Follow 0 l
    s = able-shape toy means a

    go : (n : ℕ) → stage 0 l ≡ n → Able toy means o c (mark q w) l
    go zero e = closed s e (fine l (able-fine toy means a e))
    go (suc zero) e =
        let (r, v, i, h, j, t) = able-next toy means {k = 0} a e in
        let f : w.first.value ≡ o.first.value + count (l ++ (ends ∷ [])) = still e r v i h (able-fine toy means t j) in
        let z : stage 0 (l ++ (ends ∷ [])) ≡ 0 = stage-append 0 l (ends ∷ []) in
        more {r = ends} {k = 0} s e z (next-ends (mark q w) l e) (ended (c + length l + 1) (mark q w))
        (closed (follow-append 0 l (ends ∷ []) s (e, tt)) z (fine (l ++ (ends ∷ [])) f))
    go (suc (suc n)) e = absurd (omega arith)

-- a put does not pass page 0
no-pass : (n q : ℕ) → Passes toy means 0 n (puts q) → ⊥
no-pass n q h =
    let e : ◌≡◌ {A = ℕ} n (n + 1) = ap (λ (x : Page). x.stamp) (some-injective (page n 1) (page (n + 1) 0) (h (page (n + 1) 0) tt)) in
    omega arith

-- before records that pass page 0 and end a unit, the unit lacks its end at most
calm : (k n : ℕ) (t : List Rec) → Follow k t → stage k t ≡ 0 → Each (Passes toy means 0) n t → k ≤ 1
calm k n [] s e q = omega arith
calm k n (opens ∷ t) s e q = omega (arith, s.0)
calm k n (ends ∷ t) s e q = omega (arith, s.0)
calm k n (puts x ∷ t) s e (also a q) = absurd (no-pass n x a)

-- a checkpoint that marks place q
settle : (o : Pages) (c c' : ℕ) (w : Pages) (q : ℕ) (l : List Rec) → Settled toy means o w c l → c' ≡ c + length l + 1
    → Settled toy means (mark q w) (mark q w) c' []
settle o c c' w q l s e =
    record {
      formed = record { sized = tt; form = λ p i. tt };
      shape = tt;
      low = λ p i. rw (mark-stamps w q p) (omega (arith, s.low p i));
      fine = omega arith;
      complete = refl;
    }

-- so the laws of units hold
pub toy-units : UnitLaws toy means
toy-units = record {
  unit = λ o c w w' l r s b e.
      let (q, i, h) = b in
      let x : w ≡ w' = some-injective w w' (opens-keeps (c + length l + 1) w ∙ (rw i at e)) in
      rw (i, ← x) (opened o c w l q s.complete s.shape s.fine h);
  checked = λ o c c' w w' s' l s h. let (q, i, a, b) = h in (rw a (settle o c c' w q l s i), a ∙ sym b);
  rewritten = λ o c w w' l f a h.
      let (q, e, k) = h in
      rw e (record {
        formed = record { sized = tt; form = λ p i. tt };
        stamps = λ p i. mark-stamps w q p;
        able = marked-able o c w q l a (omega arith);
      });
  torn = λ o c w s l t g h q.
      let k : stage 0 l ≤ 1 =
      calm (stage 0 l) (c + length l + 1) t (follow-rest 0 l t g.shape) (rw (stage-append 0 l t) at g.complete) (q 0 (omega arith)) in
      (h.0, h.1, omega arith);
}
  where
    opens-keeps : (n : ℕ) (w : Pages) → some w ≡ each (change n opens) w
    opens-keeps n w = unfold bind in refl

-- ---- one history: a unit cut short after its put was forced and page 0 flushed, so that the store is torn

-- the start: nothing is put, both places are empty
abbrev start : Pages
start = three (page 0 0) (page 0 0) (page 0 0)

toy-settled : Settled toy means start start 1 []
toy-settled = record { formed = record { sized = tt; form = λ p i. tt }; shape = tt; low = low; fine = refl; complete = refl }
  where
    low : (p : ℕ) → p < 3 → (at start p).stamp ≤ 1 + length {A = Rec} []
    low zero i = omega arith
    low (suc zero) i = omega arith
    low (suc (suc p)) i = omega arith

-- begin, step, force, flush, cut
toy-flushed : Reached toy means start none (three (page 3 1) (page 0 0) (page 0 0)) 1 (opens ∷ (puts 1 ∷ [])) 2
unfolding bind
toy-flushed =
    Reached.cut 2
    (Reached.flush {w = three (page 3 1) (page 3 1) (page 0 0)} 0
    (Reached.force (Reached.step (Reached.begin (Reached.start toy-settled) refl (1, refl, refl) refl) refl refl refl))
    (omega arith)
    (omega arith))
    (omega arith)
    (omega arith)

-- recovery gives page 1 its change, which the store lacks, leaves page 0 with the one that it has, and ends the unit
toy-recovers : recover toy 1 (three (page 3 1) (page 0 0) (page 0 0)) (opens ∷ (puts 1 ∷ []))
    ≡ some (three (page 3 1) (page 3 1) (page 0 0), opens ∷ (puts 1 ∷ (ends ∷ [])))
unfolding recover run finish bind
toy-recovers = refl

-- ---- another: page 1 is marked, the supply fails before the log is written; then a put is begun, and only that much is kept

abbrev marked : Pages
marked = three (page 0 0) (page 0 2) (page 0 0)

-- torn, recovered, begun, cut
toy-torn : Reached toy means start none marked 1 (opens ∷ []) 0
unfolding recover run finish bind
toy-torn =
    Reached.cut 1
    (Reached.begin
    (Reached.recovery {w = marked} {l' = []} (Reached.torn (Reached.start toy-settled) refl refl (1, refl)) refl)
    refl
    (2, refl, refl)
    refl)
    (omega arith)
    (omega arith)

-- recovery puts onto page 2 ..
abbrev left : Pages
left = three (page 3 1) (page 0 2) (page 3 1)

toy-puts : recover toy 1 marked (opens ∷ []) ≡ some (left, opens ∷ (puts 2 ∷ (ends ∷ [])))
unfolding recover run finish bind
toy-puts = refl

-- .. as the run does that has the mark where it was written; with the mark last it would have put onto page 1
toy-uncut : Uncut toy means start 1 left (opens ∷ (puts 2 ∷ (ends ∷ [])))
unfolding bind
toy-uncut =
    Uncut.step (Uncut.step (Uncut.begin (Uncut.event Uncut.start (1, refl, omega arith)) refl (2, refl, refl) refl) refl refl refl) refl refl refl
