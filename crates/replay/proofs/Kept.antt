-- What every history keeps. For each number m of records that a cut may leave there is an uncut run of the first m records, and repeating them
-- over a stored page, by its stamp, gives the run's page (`Way`). So the log repeated over the store gives the uncut run's pages, and recovery
-- has nothing to refuse. While there are work pages, a page of theirs is the one of such a run unless a later record has stamped it (`Live`).
-- One lemma a rule. Assumes nothing.
use Prim.Native.Nat.{ℕ, ◌+◌, ◌≤◌, ◌<◌}
use mathlib.Core.Path.{◌≡◌, refl, sym, ◌∙◌, subst}
use mathlib.Core.List.{List, [], ◌∷◌, ◌++◌, append-nil, append_assoc}
use mathlib.Core.Logic.{◌⊎◌, inl, inr, ⊎_elim}
use mathlib.Core.Option.{some, bind}
use native.Mathlib.Decide.{dec_le, ℕ_discrete}
use native.Mathlib.Omega.{arith}
use lib.ListN.{length, take, drop, length-append, take-append-drop}
use lib.Seq.{take-append-le, take-take, take_all, take-length, length-take-le, take-nil}
use Rattle.replay.specs.Store.{run, Format, last, finish, recover, Meaning, Formed, Settled, Uncut, Recovers}
use Rattle.replay.specs.Laws.{Each, Stands, Passes, PageLaws, Able, closed, more, UnitLaws}
use Rattle.replay.proofs.Each.{each-drop}
use Rattle.replay.proofs.Runs.{Runs, done, run-snoc}
use Rattle.replay.proofs.Page.{AgainAt, Quiet, quiet-run, quiet-passes, changed-again}
use Rattle.replay.proofs.Pages.{repeat-all}
use Rattle.replay.proofs.Able.{able-shape}
use Rattle.replay.proofs.Uncut.{Sound, sound-settled, stands-next, one_more, sound}

module _ (F : Format) (M : Meaning F) where
  open F use {Pages, Rec, Check, many, at, stamp, num}

  -- u are the pages of an uncut run of l, and l repeated over a stored page gives theirs
  pub record Way (o s : Pages) (c : Check) (l : List Rec) (u : Pages) : Type 0 where
    pub uncut : Uncut F M o c u l
    pub repeats : (p : ℕ) → p < many → Runs (AgainAt F M p) (num c + 1) l (at s p) (at u p)

  -- the work pages may be lost; f records are forced
  pub record Lost (o s : Pages) (c : Check) (l : List Rec) (f : ℕ) : Type 0 where
    pub origin : Settled F M o o c []
    pub forced : f ≤ length l
    pub formed : Formed F M s
    pub low : (p : ℕ) → p < many → stamp (at s p) ≤ num c + f
    pub ways : (m : ℕ) → f ≤ m → m ≤ length l → (u : Pages) × Way o s c (take m l) u

  -- a page of w that no record after the first m has stamped is u's
  abbrev Joined : (c : Check) (m : ℕ) (u w : Pages) → Type 0
  Joined c m u w = (p : ℕ) → p < many → (at u p ≡ at w p) ⊎ (num c + m < stamp (at w p))

  -- w are the work pages
  pub record Live (o w s : Pages) (c : Check) (l : List Rec) (f : ℕ) : Type 0 where
    pub origin : Settled F M o o c []
    pub forced : f ≤ length l
    pub formed : Formed F M s
    pub low : (p : ℕ) → p < many → stamp (at s p) ≤ num c + f
    pub way : Way o s c l w
    pub ways : (m : ℕ) → f ≤ m → m ≤ length l → (u : Pages) × Way o s c (take m l) u × Joined c m u w

  -- the work pages may be lost
  pub live-lost : {o w s : Pages} {c : Check} {l : List Rec} {f : ℕ} → Live o w s c l f → Lost o s c l f
  live-lost k =
      record {
        origin = k.origin;
        forced = k.forced;
        formed = k.formed;
        low = k.low;
        ways = λ m a b. let (u, v, j) = k.ways m a b in (u, v);
      }

module _ (F : Format) (M : Meaning F) (P : PageLaws F M) (U : UnitLaws F M) where
  open F use {Pages, Rec, Check, many, at, copy, stamp, apply, repeat, num, left}
  open M use {Sized, Checks, Tears, Event}

  -- ---- each rule keeps it

  -- the start, and where a checkpoint leads
  pub live-start : {o : Pages} {c : Check} → Settled F M o o c [] → Live F M o o o c [] 0
  live-start {o} {c} g =
      let w : Way F M o o c [] o = record { uncut = Uncut.start; repeats = λ p i. done } in
      record {
        origin = g;
        forced = omega arith;
        formed = g.formed;
        low = λ p i. omega (arith, g.low p i);
        way = w;
        ways = λ m a b. (o, rw (take-nil {A = Rec} m) w, λ p i. inl refl);
      }

  -- begin and step: the log has a record more
  pub live-append : {o w w' s : Pages} {c : Check} {l : List Rec} {f : ℕ} (r : Rec) → Live F M o w s c l f → Uncut F M o c w' (l ++ (r ∷ []))
      → apply (last F c l + 1) r w ≡ some w' → Live F M o w' s c (l ++ (r ∷ [])) f
  live-append {o = o} {w = w} {w' = w'} {s = s} {c = c} {l = l} {f = f} r k u e =
      record {
        origin = k.origin;
        forced = omega (arith, k.forced, length-append l (r ∷ []));
        formed = k.formed;
        low = k.low;
        way = way;
        ways = λ m a b. elim (dec_le m (length l)) [
          | yes h ↦
              let (v, q, j) = k.ways m a h in
              (v, rw (take-append-le m l (r ∷ []) h) q, λ p i. joined m h v p i (j p i) (one_more F M P U r w' d t e p i))
          | no h ↦ (w', rw (take_all m (l ++ (r ∷ [])) (omega (arith, length-append l (r ∷ [])))) way, λ p i. inl refl)
        ];
      }
    where
      d : Sound F M o c w l
      d = sound F M P U k.origin k.way.uncut

      t : Stands F M (last F c l + 1) r
      t = stands-next F M P U l r (sound F M P U k.origin u).able

      way : Way F M o s c (l ++ (r ∷ [])) w'
      way = record {
        uncut = u;
        repeats = λ p i. run-snoc (omega arith) (k.way.repeats p i)
            (changed-again F M P p (last F c l + 1) r (at w p) (at w' p) t i (d.formed.form p i) (omega (arith, d.low p i))
            ((P.applied (last F c l + 1) r w w' t d.formed e).1 p i));
      }

      joined : (m : ℕ) → m ≤ length l → (v : Pages) (p : ℕ) → p < many → (at v p ≡ at w p) ⊎ (num c + m < stamp (at w p))
          → (stamp (at w' p) ≡ last F c l + 1) ⊎ ((at w' p ≡ at w p) × Passes F M p (last F c l + 1) r)
          → (at v p ≡ at w' p) ⊎ (num c + m < stamp (at w' p))
      joined m h v p i j (inl g) = inr (omega arith)
      joined m h v p i (inl j) (inr g) = inl (j ∙ sym g.0)
      joined m h v p i (inr j) (inr g) = inr (rw g.0 j)

  -- force: what was forced still is
  pub live-force : {o w s : Pages} {c : Check} {l : List Rec} {f : ℕ} → Live F M o w s c l f → Live F M o w s c l (length l)
  live-force k =
      record {
        origin = k.origin;
        forced = omega arith;
        formed = k.formed;
        low = λ p i. omega (arith, k.low p i, k.forced);
        way = k.way;
        ways = λ m a b. k.ways m (omega (arith, k.forced)) b;
      }

  -- what an uncut run left is left alone by its log
  own-page : {o u : Pages} {c : Check} {l : List Rec} → Sound F M o c u l → (p : ℕ) → p < many
      → Runs (AgainAt F M p) (num c + 1) l (at u p) (at u p)
  own-page {u = u} {c = c} {l = l} d p i = quiet-run F M p (num c + 1) l (at u p) (d.formed.form p i) (d.quiet p i)

  -- a way with one page of the work pages put into the store
  way-flush : {o w s u : Pages} {c : Check} {l : List Rec} (p : ℕ) → Settled F M o o c [] → Sized w → Sized s → p < many
      → at u p ≡ at w p → Way F M o s c l u → Way F M o (copy p w s) c l u
  way-flush {w = w} {s = s} {u = u} p g y z i e k =
      record {
        uncut = k.uncut;
        repeats = λ q a. elim (ℕ_discrete q p) [
          | yes j ↦ rw (j, P.copy-same w s p y z i, ← e) (own-page (sound F M P U g k.uncut) p i)
          | no j ↦ rw (P.copy-other w s p q y z i a j) (k.repeats q a)
        ];
      }

  -- flush: the page is that of every run that a cut may leave
  pub live-flush : {o w s : Pages} {c : Check} {l : List Rec} {f : ℕ} (p : ℕ) → Live F M o w s c l f → p < many → stamp (at w p) ≤ num c + f
      → Live F M o w (copy p w s) c l f
  live-flush {o = o} {w = w} {s = s} {c = c} {l = l} {f = f} p k i b =
      let d = sound F M P U k.origin k.way.uncut in
      let y : Sized w = d.formed.sized in
      let z : Sized s = k.formed.sized in
      record {
        origin = k.origin;
        forced = k.forced;
        formed = record {
          sized = P.copy-sized w s p y z i;
          form = λ q a. elim (ℕ_discrete q p) [
            | yes j ↦ rw (j, P.copy-same w s p y z i) (d.formed.form p i)
            | no j ↦ rw (P.copy-other w s p q y z i a j) (k.formed.form q a)
          ];
        };
        low = λ q a. elim (ℕ_discrete q p) [
          | yes j ↦ rw (j, P.copy-same w s p y z i) b
          | no j ↦ rw (P.copy-other w s p q y z i a j) (k.low q a)
        ];
        way = way-flush p k.origin y z i refl k.way;
        ways = λ m a h.
            let (u, q, j) = k.ways m a h in
            (u, way-flush p k.origin y z i (same m a u (j p i)) q, j);
      }
    where
      same : (m : ℕ) → f ≤ m → (u : Pages) → (at u p ≡ at w p) ⊎ (num c + m < stamp (at w p)) → at u p ≡ at w p
      same m a u (inl e) = e
      same m a u (inr e) = absurd (omega arith)

  -- checkpoint: the pages that it leaves are those that the new log begins with
  pub live-checkpoint : {o w w' s s' : Pages} {c c' : Check} {l : List Rec} {f : ℕ} → Live F M o w s c l f → left c w l ≡ 0 → w ≡ s
      → Checks c w s l c' w' s' → Live F M w' w' s' c' [] 0
  live-checkpoint {o = o} {w = w} {w' = w'} {s' = s'} {c = c} {c' = c'} {l = l} k z e h =
      let (g, i) = U.checked o c c' w w' s' l (sound-settled F M P U (sound F M P U k.origin k.way.uncut) z)
      (subst (λ (x : Pages). Checks c w x l c' w' s') (sym e) h) in
      subst (λ (x : Pages). Live F M w' w' x c' [] 0) i (live-start g)

  -- a torn checkpoint: all pages were in the store, so the records behind the forced ones concern none, and wherever a cut may come among
  -- them the rewriting stands at that point
  pub lost-torn : {o w s s' : Pages} {c : Check} {l : List Rec} {f : ℕ} → Live F M o w s c l f → left c w l ≡ 0 → w ≡ s → Tears c s l s'
      → Lost F M o s' c l f
  lost-torn {o = o} {w = w} {s = s} {s' = s'} {c = c} {l = l} {f = f} k z e g =
      record {
        origin = k.origin;
        forced = k.forced;
        formed = (after f (omega arith) k.forced).formed;
        low = λ p i. rw (stamps p i) (below p i);
        ways = λ m a b. (s', record { uncut = Uncut.event (there m a b) (at_place m a b); repeats = own-page (after m a b) });
      }
    where
      d : Sound F M o c w l
      d = sound F M P U k.origin k.way.uncut

      below : (p : ℕ) → p < many → stamp (at w p) ≤ num c + f
      below p i = rw e (k.low p i)

      -- the run of the first m records has the work pages
      equal : (m : ℕ) → f ≤ m → (u : Pages) → Sized u → Joined F M c m u w → u ≡ w
      equal m a u q j =
          P.same-pages u w q d.formed.sized
          (λ p i. ⊎_elim (λ x. x) (λ (x : num c + m < stamp (at w p)). absurd (omega (arith, below p i))) (j p i))

      there : (m : ℕ) → f ≤ m → m ≤ length l → Uncut F M o c w (take m l)
      there m a b =
          let (u, q, j) = k.ways m a b in
          subst (λ (v : Pages). Uncut F M o c v (take m l)) (equal m a u (sound F M P U k.origin q.uncut).formed.sized j) q.uncut

      -- the other records concern no page
      behind : (m : ℕ) → f ≤ m → m ≤ length l → (p : ℕ) → p < many → Each (Passes F M p) (last F c (take m l) + 1) (drop m l)
      behind m a b p i =
          let x : Quiet F M p (stamp (at w p)) (num c + 1 + length (take m l)) (drop m l) =
          each-drop (take m l) (drop m l) (rw (take-append-drop m l) (d.quiet p i)) in
          let y : num c + 1 + length (take m l) ≡ last F c (take m l) + 1 = omega arith in
          quiet-passes F M p (stamp (at w p)) (last F c (take m l) + 1) (drop m l) (omega (arith, below p i, length-take-le m l b)) (rw y at x)

      at_place : (m : ℕ) → f ≤ m → m ≤ length l → Event c w (take m l) s'
      at_place m a b =
          let h : Tears c w l s' = rw e g in
          U.torn o c w s' (take m l) (drop m l) (rw (take-append-drop m l) (sound-settled F M P U d z)) (rw (take-append-drop m l) h) (behind m a b)

      after : (m : ℕ) → f ≤ m → m ≤ length l → Sound F M o c s' (take m l)
      after m a b = sound F M P U k.origin (Uncut.event (there m a b) (at_place m a b))

      stamps : (p : ℕ) → p < many → stamp (at s' p) ≡ stamp (at w p)
      stamps =
          let x = sound F M P U k.origin (there f (omega arith) k.forced) in
          (U.rewritten o c w s' (take f l) x.formed x.able (at_place f (omega arith) k.forced)).stamps

  -- cut: fewer records
  pub lost-cut : {o s : Pages} {c : Check} {l : List Rec} {f : ℕ} (m : ℕ) → Lost F M o s c l f → f ≤ m → m ≤ length l → Lost F M o s c (take m l) f
  lost-cut {l = l} m k a b =
      record {
        origin = k.origin;
        forced = omega (arith, length-take-le m l b);
        formed = k.formed;
        low = k.low;
        ways = λ n i j.
            let h : n ≤ m = omega (arith, length-take-le m l b) in
            let (u, q) = k.ways n i (omega arith) in
            (u, rw (take-take n m l h) q);
      }

  -- ---- recovery

  -- the log repeated over the store gives the run's pages
  repeated-way : {o s v : Pages} {c : Check} {l : List Rec} → Settled F M o o c [] → Formed F M s → Way F M o s c l v
      → run repeat (num c + 1) l s ≡ some v
  repeated-way {s = s} {v = v} g f k =
      let d = sound F M P U g k.uncut in
      repeat-all F M P s v d.stood f d.formed.sized k.repeats

  -- recovery finishes over them
  pub recover-way : {o s v : Pages} {c : Check} {l : List Rec} → Settled F M o o c [] → Formed F M s → Way F M o s c l v
      → recover F c s l ≡ finish F c (left c v l) v l
  unfolding recover bind
  recover-way g f k = rw (repeated-way g f k)

  -- it forces the log as found
  lost-repeated : {o s v : Pages} {c : Check} {l : List Rec} {f : ℕ} → Lost F M o s c l f → Way F M o s c l v → Live F M o v s c l (length l)
  lost-repeated {v = v} {l = l} k q =
      record {
        origin = k.origin;
        forced = omega arith;
        formed = k.formed;
        low = λ p i. omega (arith, k.low p i, k.forced);
        way = q;
        ways = λ m a b. (v, rw (take_all m l a) q, λ p i. inl refl);
      }

  -- what finishing gives from work pages w and records l
  pub record Finished (o : Pages) (c : Check) (w : Pages) (l : List Rec) (s : Pages) (f : ℕ) : Type 0 where
    pub work : Pages
    pub rest : List Rec
    pub made : finish F c (left c w l) w l ≡ some (work, l ++ rest)
    pub appended : length rest ≡ left c w l
    pub complete : left c work (l ++ rest) ≡ 0
    pub live : Live F M o work s c (l ++ rest) f

  finished : {o s : Pages} {c : Check} {w : Pages} {l : List Rec} {f : ℕ} → Live F M o w s c l f → Able F M o c w l → Finished o c w l s f
  unfolding finish bind
  finished {w = w} {l = l} v (closed a z g) =
      let e : l ++ [] ≡ l = append-nil l in
      record { work = w; rest = []; made = rw (z, e); appended = sym z; complete = rw e z; live = rw e v }
  finished {l = l} v (more {r = r} a k j n b t) =
      let d = finished (live-append r v (Uncut.step v.way.uncut k n b) b) t in
      let e : l ++ (r ∷ []) ++ d.rest ≡ l ++ (r ∷ d.rest) = append_assoc l (r ∷ []) d.rest in
      record {
        work = d.work;
        rest = r ∷ d.rest;
        made = rw (k, n, b) (rw (j, e) at d.made);
        appended = omega (arith, d.appended);
        complete = rw e at d.complete;
        live = rw e at d.live;
      }

  module _ {o s : Pages} {c : Check} {l : List Rec} {f : ℕ} (k : Lost F M o s c l f) where
    -- the pages that the log gives
    pub lost-way : (v : Pages) × Way F M o s c l v
    lost-way = let (v, q) = k.ways (length l) k.forced (omega arith) in (v, rw (take-length l) at q)

    -- recovery carried out
    pub lost-finished : Finished o c lost-way.0 l s (length l)
    lost-finished = finished (lost-repeated k lost-way.1) (sound F M P U k.origin lost-way.1.uncut).able

    -- .. it is accepted
    pub lost-accepted : recover F c s l ≡ some (lost-finished.work, l ++ lost-finished.rest)
    lost-accepted = recover-way k.origin k.formed lost-way.1 ∙ lost-finished.made

    -- .. and leaves what it should
    pub lost-recovers : Recovers F M o s c l
    lost-recovers =
        let d = lost-finished in
        record {
          found = lost-way.0;
          repeated = repeated-way k.origin k.formed lost-way.1;
          work = d.work;
          rest = d.rest;
          log-form = able-shape F M (sound F M P U k.origin lost-way.1.uncut).able;
          page-form = k.formed;
          numbers = λ p i. omega (arith, k.low p i, k.forced);
          accepted = lost-accepted;
          settled = sound-settled F M P U (sound F M P U k.origin d.live.way.uncut) d.complete;
          appended = d.appended;
          before = lost-way.1.uncut;
          uncut = d.live.way.uncut;
        }
