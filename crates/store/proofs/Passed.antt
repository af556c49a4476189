-- What one pass over the log has answered is what test 2 finds. Assumes nothing.
use Prim.Native.Nat.{ℕ}
use mathlib.Core.Path.{◌≡◌, refl, sym, ap, ◌∙◌}
use mathlib.Core.Bool.{true, false, not, false≢true}
use mathlib.Core.List.{List, []}
use lib.ListN.{length}
use mathlib.Core.Option.{Option, some, none}
use lib.Dec.{eqb}
use borrow.Author.Tests.{eqb-true, eq-eqb, ne_eqb, not-true, not-false}
use Rattle.field.specs.Bytes.{zeroes}
use Rattle.field.specs.Test.{both, given, when, bind, there}
use Rattle.field.proofs.Test.{both-1, both-intro, both_true, both_false, both-no, when_true, when_false}
use Rattle.logs.specs.Log.{Open, State, Log, read_log, at_end, last_forced}
use Rattle.logs.specs.Scan.{shown, lost, answer, scanned}
use Rattle.logs.specs.declared.scan.Scan.{Scan}
use Rattle.logs.specs.declared.scan.Walk.{Walk}
use Rattle.tree.specs.Answer.{Found, missing, found, look_up}
use Rattle.tree.specs.Way.{reply_of, bytes_of}
use Rattle.store.specs.Calls.{Lent, lent, Left, left, refused, known, answered, find}
use Rattle.store.proofs.Chain.{two-no-work, two-no-log, two_sized_lem, find-unsized, find-unknown, find-open, find-looks}
use Rattle.store.specs.Knows.{knows}

-- the log that test 2 finds, the numbers of its end, the number of its last forced record
pub record Knows (d : Lent) (s : Scan) : Type 0 where
  pub log : Log
  pub is : known d ≡ some log
  pub walk : s.walk ≡ shown (at_end log)
  pub forced : last_forced d.forced log ≡ some s.forced.0

-- a log that was read, and whether a record ends at forced
module _ (d : Lent) (g : Log) where
  known_is : (f : Option ℕ) → last_forced d.forced g ≡ f → read_log d.log ≡ some g → known d ≡ when (both (eqb d.used (at_end g).at) (there f)) g
  unfolding known bind
  known_is f q r = rw (r, q)

  -- both tests passed
  pub read-yes : (f : Option ℕ) → last_forced d.forced g ≡ f → read_log d.log ≡ some g → knows (answer (shown (at_end g)) f) d.used ≡ true
      → Knows d (answer (shown (at_end g)) f)
  unfolding knows answer shown there given both
  read-yes none q r e = absurd (false≢true (sym (both-no (eqb (at_end g).at d.used)) ∙ e))
  read-yes (some v) q r e =
      let at : (at_end g).at ≡ d.used = eqb-true (at_end g).at d.used (both-1 _ _ e) in
      record {
        log = g;
        is = known_is (some v) q r ∙ when_true _ g (both-intro _ _ (eq-eqb d.used (at_end g).at (sym at)) refl);
        walk = refl;
        forced = q;
      }

  -- one of them failed
  pub read_no : (f : Option ℕ) → last_forced d.forced g ≡ f → read_log d.log ≡ some g → knows (answer (shown (at_end g)) f) d.used ≡ false → known d ≡ none
  unfolding knows answer shown there given both
  read_no none q r e = known_is none q r ∙ when_false _ g (both-no (eqb d.used (at_end g).at))
  read_no (some v) q r e =
      known_is (some v) q r
      ∙ when_false _ g (both_false _ _ (ne_eqb d.used (at_end g).at (λ i. false≢true (sym e ∙ both-intro _ _ (eq-eqb (at_end g).at d.used (sym i)) refl))))

-- ---- of the pass's answer

by-read-yes : (d : Lent) (o : Option Log) → read_log d.log ≡ o → (s : Scan) → s ≡ given o (answer lost none) (λ g. answer (shown (at_end g)) (last_forced d.forced g))
    → knows s d.used ≡ true → Knows d s
unfolding given
by-read-yes d none r s e k = absurd (lost-not (rw e at k))
  where
    lost-not : knows (answer lost none) d.used ≡ true → ⊥
    lost-not q = false≢true (unfold knows answer lost both in q)
by-read-yes d (some g) r s e k = rw e (read-yes d g (last_forced d.forced g) refl r (rw e at k))

by-read-no : (d : Lent) (o : Option Log) → read_log d.log ≡ o → (s : Scan) → s ≡ given o (answer lost none) (λ g. answer (shown (at_end g)) (last_forced d.forced g))
    → knows s d.used ≡ false → known d ≡ none
unfolding given
by-read-no d none r s e k = unread r
  where
    unread : read_log d.log ≡ none → known d ≡ none
    unread q = unfold known bind in (rw q)
by-read-no d (some g) r s e k = read_no d g (last_forced d.forced g) refl r (rw e at k)

module _ (d : Lent) (s : Scan) (e : s ≡ scanned d.forced d.log) where
  pub knows-yes : knows s d.used ≡ true → Knows d s
  unfolding scanned
  knows-yes k = by-read-yes d (read_log d.log) refl s e k

  pub knows-no : knows s d.used ≡ false → known d ≡ none
  unfolding scanned
  knows-no k = by-read-no d (read_log d.log) refl s e k

-- ---- whether a unit is open

opened_some : (s : State) → (shown s).opened ≡ true → (o : Open) × (s.opened ≡ some o)
unfolding shown
opened_some s e = by-open s.opened refl e
  where
    by-open : (o : Option Open) → s.opened ≡ o → there o ≡ true → (u : Open) × (s.opened ≡ some u)
    by-open none i q = absurd (false≢true (unfold there in q))
    by-open (some u) i q = (u, i)

opened-none : (s : State) → (shown s).opened ≡ false → s.opened ≡ none
unfolding shown
opened-none s e = by-open s.opened refl e
  where
    by-open : (o : Option Open) → s.opened ≡ o → there o ≡ false → s.opened ≡ none
    by-open none i q = i
    by-open (some u) i q = absurd (false≢true (sym (unfold there in q)))

pub is_open : (d : Lent) (s : Scan) (k : Knows d s) → s.walk.opened ≡ true → (o : Open) × ((at_end k.log).opened ≡ some o)
is_open d s k e = opened_some (at_end k.log) (sym (ap (λ (w : Walk). w.opened) k.walk) ∙ e)

pub is-shut : (d : Lent) (s : Scan) (k : Knows d s) → s.walk.opened ≡ false → (at_end k.log).opened ≡ none
is-shut d s k e = opened-none (at_end k.log) (sym (ap (λ (w : Walk). w.opened) k.walk) ∙ e)

-- ---- test 2 on numbers, for `search`

module _ (s : Scan) (used : ℕ) where
  pub knows-broken! : not s.walk.ok ≡ true → false ≡ knows s used
  unfolding knows
  knows-broken! a = sym (both_false _ _ (not-true s.walk.ok a))

  pub knows-elsewhere! : not s.walk.ok ≡ false → (s.walk.at ≡ used → ⊥) → false ≡ knows s used
  unfolding knows
  knows-elsewhere! a b = sym (both_true _ _ (not-false s.walk.ok a) ∙ both_false _ _ (ne_eqb s.walk.at used b))

  pub knows-ends! : not s.walk.ok ≡ false → s.walk.at ≡ used → s.ends ≡ knows s used
  unfolding knows
  knows-ends! a b = sym (both_true _ _ (not-false s.walk.ok a) ∙ both_true _ _ (eq-eqb s.walk.at used b))

-- ---- find, for `search`

module _ (used forced : ℕ) (work log : List ℕ) (key : ℕ) where
  abbrev d : Lent
  d = lent used forced work [] log []

  refused_as : (r v : ℕ) (x : List ℕ) (u f : ℕ) (y : Left) → y ≡ refused 10 r d → v ≡ r → x ≡ zeroes 10 → u ≡ used → f ≡ forced
      → left v x (lent u f work [] log []) ≡ y
  unfolding refused
  refused_as r v x u f y e a b p q = rw (a, b, p, q) (sym e)

  -- the numbers and the value that the code returns, as it has them
  module _ (v : ℕ) (x : List ℕ) (u f : ℕ) (p : u ≡ used) (q : f ≡ forced) (z : x ≡ zeroes 10) where
    pub find-work! : v ≡ 1 → (length work ≡ 16384 → ⊥) → left v x (lent u f work [] log []) ≡ find key d
    find-work! a b = refused_as 1 v x u f (find key d) (find-unsized key d (two-no-work d b)) a z p q

    pub find-log! : v ≡ 1 → length work ≡ 16384 → (length log ≡ 8192 → ⊥) → left v x (lent u f work [] log []) ≡ find key d
    find-log! a b c = refused_as 1 v x u f (find key d) (find-unsized key d (two-no-log d b c)) a z p q

    module _ (b : length work ≡ 16384) (c : length log ≡ 8192) (s : Scan) (e : s ≡ scanned forced log) where
      pub find-form! : v ≡ 2 → knows s used ≡ false → left v x (lent u f work [] log []) ≡ find key d
      find-form! a k = refused_as 2 v x u f (find key d) (find-unknown key d (two_sized_lem d b c) (knows-no d s e k)) a z p q

      pub find-busy! : v ≡ 9 → knows s used ≡ true → s.walk.opened ≡ true → left v x (lent u f work [] log []) ≡ find key d
      find-busy! a k o =
          let g : Knows d s = knows-yes d s e k in
          let (w, i) = is_open d s g o in
          refused_as 9 v x u f (find key d) (find-open key d (two_sized_lem d b c) g.log g.is w i) a z p q

  answered-as : (v : ℕ) (x : List ℕ) (a : Found) → v ≡ reply_of a → x ≡ bytes_of a → left v x d ≡ answered d a
  unfolding answered refused reply_of bytes_of
  answered-as v x (missing r) e i = rw (e, i)
  answered-as v x (found b) e i = rw (e, i)

  pub find-found! : (v : ℕ) (x : List ℕ) (s : Scan) → v ≡ reply_of (look_up key work) → x ≡ bytes_of (look_up key work) → s ≡ scanned forced log
      → length work ≡ 16384 → length log ≡ 8192 → knows s used ≡ true → s.walk.opened ≡ false → left v x d ≡ find key d
  find-found! v x s e i q b c k o =
      let g : Knows d s = knows-yes d s q k in
      answered-as v x (look_up key work) e i ∙ sym (find-looks key d (two_sized_lem d b c) g.log g.is (is-shut d s g o))
