-- Recovery's finishing, one record after the other: finishing all is finishing what is to come, the pages stay in form, and the log that was
-- found stays in front. Assumes nothing.
use Prim.Native.Nat.{ℕ, ◌+◌, ◌-◌, ◌≤◌, ◌<◌}
use native.Mathlib.Omega.{arith}
use mathlib.Core.Path.{◌≡◌, refl, sym, ap, ◌∙◌, subst}
use mathlib.Core.Bool.{true, false, false≢true}
use mathlib.Core.List.{List}
use mathlib.Core.Option.{Option, some, none, some-injective}
use lib.ListN.{length, take, length-take}
use lib.Seq.{take-append-le, take-take}
use Rattle.field.specs.Test.{given}
use Rattle.field.specs.Bytes.{Bytes, put}
use Rattle.field.proofs.Test.{given-some}
use Rattle.logs.specs.Record.{size, encode}
use Rattle.logs.specs.Log.{Open, State, Log, read_log, at_end}
use Rattle.logs.specs.Scan.{shown, lost, answer, scanned, turned, Ready}
use Rattle.logs.specs.declared.scan.Walk.{Walk}
use Rattle.logs.proofs.Record.{size-least}
use Rattle.logs.proofs.Read.{read_log-facts}
use Rattle.logs.proofs.Append.{grown, at_end-grown}
use Rattle.logs.proofs.Toward.{shown-shut, scanned-walk, turned-ok, turn-grown}
use Rattle.tree.specs.Walk.{InForm}
use Rattle.store.specs.Calls.{Went, stopped, went, and_then, finish_open}
use Rattle.forward.specs.Appends as Appends
use Rattle.forward.specs.Appends.{append_next, reply_in, work_in, log_in, Goes}
use Rattle.recovering.specs.Finishes.{Found, finishing, Finishes}
use Rattle.forward.proofs.Stands.{Ends, ends}
use Rattle.forward.proofs.Grows.{Grown}
use Rattle.forward.proofs.Finish.{onward}
use Rattle.forward.proofs.Next.{open-speaks, Gone, next-open, next-finish, next_grows}

-- ---- the log that one pass has read

unread : (l : List ℕ) → read_log l ≡ none → (scanned 0 l).walk.ok ≡ false
unfolding scanned given answer lost
unread l e = rw e

pub record Was (l : List ℕ) (v : Walk) : Type 0 where
  pub log : Log
  pub read : read_log l ≡ some log
  pub shows : v ≡ shown (at_end log)

was-by : (l : List ℕ) (v : Walk) (o : Option Log) → read_log l ≡ o → v ≡ (scanned 0 l).walk → v.ok ≡ true → Was l v
was-by l v none e q h = absurd (false≢true (sym (unread l e) ∙ sym (ap (λ (x : Walk). x.ok) q) ∙ h))
was-by l v (some g) e q h = record { log = g; read = e; shows = q ∙ scanned-walk 0 l g e }

pub was : (l : List ℕ) (v : Walk) → v ≡ (scanned 0 l).walk → v.ok ≡ true → Was l v
was l v q h = was-by l v (read_log l) refl q h

pub shown_ok : (s : State) → (shown s).ok ≡ true
unfolding shown
shown_ok s = refl

shown-at : (s : State) → (shown s).at ≡ s.at
unfolding shown
shown-at s = refl

shown-number : (s : State) → (shown s).number.0 ≡ s.number
unfolding shown
shown-number s = refl

pub at-is : (s : State) (v : Walk) → v ≡ shown s → v.at ≡ s.at
at-is s v e = ap (λ (x : Walk). x.at) e ∙ shown-at s

pub number_is : (s : State) (v : Walk) → v ≡ shown s → v.number.0 ≡ s.number
number_is s v e = ap (λ (x : Walk). x.number.0) e ∙ shown-number s

-- ---- the loop

-- w₀, l₀ and v₀ are the pages, the log and the walk as found
pub record Going (w₀ l₀ : List ℕ) (v₀ : Walk) (w l : List ℕ) (v : Walk) : Type 0 where
  pub log : Log
  pub read : read_log l ≡ some log
  pub shows : v ≡ shown (at_end log)
  pub form : InForm w
  pub long : length l ≡ 8192
  pub work-bytes : Bytes w
  pub log-bytes : Bytes l
  pub same : finishing w₀ l₀ ≡ finishing w l
  pub front : take v₀.at l ≡ take v₀.at l₀
  pub higher : v₀.at ≤ v.at
  pub later : v₀.number.0 ≤ v.number.0

pub going_start : (w l : List ℕ) (v : Walk) → Bytes w → Bytes l → Found w l v → Going w l v w l v
going_start w l v bw bl f =
    let x : Was l v = was l v f.walk f.ok in
    record {
      log = x.log;
      read = x.read;
      shows = x.shows;
      form = f.form;
      long = f.long;
      work-bytes = bw;
      log-bytes = bl;
      same = refl;
      front = refl;
      higher = omega arith;
      later = omega arith;
    }

pub finishing-is : (w l : List ℕ) (g : Log) → read_log l ≡ some g → finishing w l ≡ finish_open (at_end g).opened (at_end g) w l
unfolding finishing
finishing-is w l g e = given-some (read_log l) g (stopped 2) _ e

-- what lies in front of a write
take_put : (n i : ℕ) (bs l : List ℕ) → n ≤ i → i ≤ length l → take n (put i bs l) ≡ take n l
unfolding put
take_put n i bs l h k =
    let q : length (take i l) ≡ i = simp length-take (omega arith) in
    take-append-le n (take i l) _ (omega arith) ∙ take-take n i l h

module _ (w₀ l₀ : List ℕ) (v₀ : Walk) (w l : List ℕ) (v : Walk) (p : Going w₀ l₀ v₀ w l v) where
  s : State
  s = at_end p.log

  pub going-inside : v.at ≤ 8192
  going-inside = omega (arith, at-is (at_end p.log) v p.shows, (read_log-facts l p.log p.read).short, p.long)

  -- no unit is open
  pub going_end : v.opened ≡ false → Finishes (finishing w₀ l₀) l₀ v₀ 0 v w l
  unfolding finish_open
  going_end h =
      let e : (at_end p.log).opened ≡ none = shown-shut (at_end p.log) (sym (ap (λ (x : Walk). x.opened) p.shows) ∙ h) in
      record {
        done = λ z. record {
          state = at_end p.log;
          is = p.same ∙ finishing-is w l p.log p.read ∙ ap (λ (o : Option Open). finish_open o (at_end p.log) w l) e;
          shows = p.shows;
          form = p.form;
          inside = going-inside;
          later = p.later;
        };
        stops = λ z. absurd (z refl);
        front = p.front;
      }

  module _ (h : v.opened ≡ true) where
    pub going-opened : Appends.Opened l v
    going-opened =
        record { walk = p.shows ∙ sym (scanned-walk 0 l p.log p.read); ok = ap (λ (x : Walk). x.ok) p.shows ∙ shown_ok (at_end p.log); unit = h }

    end : Ends l v
    end = ends l v p.log-bytes going-opened

    same_log : end.log ≡ p.log
    same_log = some-injective _ _ (sym end.read ∙ p.read)

    all-is : (o : Went) → append_next w l ≡ o → finishing w₀ l₀ ≡ and_then o onward
    all-is o e =
        p.same ∙ finishing-is w l end.log end.read ∙ ap (λ (u : Option Open). finish_open u (at_end end.log) w l) end.opened
        ∙ next-finish end w p.form.whole p.long p.work-bytes p.log-bytes ∙ ap (λ (y : Went). and_then y onward) e

    module _ (reply : ℕ) (w' l' : List ℕ) (a : Goes (append_next w l) w l reply w' l') where
      -- stopped
      stops-by : (o : Went) → append_next w l ≡ o → reply ≡ reply_in o → l' ≡ log_in o l → (reply ≡ 0 → ⊥) → Finishes (finishing w₀ l₀) l₀ v₀ reply v w' l'
      unfolding reply_in log_in and_then
      stops-by (stopped q) e r k n =
          record {
            done = λ z. absurd (n z);
            stops = λ z. all-is (stopped q) e ∙ ap stopped (sym r);
            front = ap (take v₀.at) k ∙ p.front;
          }
      stops-by (went s' x y) e r k n = absurd (n r)

      pub going-stops : (reply ≡ 0 → ⊥) → Finishes (finishing w₀ l₀) l₀ v₀ reply v w' l'
      going-stops n = stops-by (append_next w l) refl a.reply-is a.log_is n

      -- went on
      record On : Type 0 where
        state : State
        is : append_next w l ≡ went state w' l'

      on-by : (o : Went) → append_next w l ≡ o → reply ≡ reply_in o → w' ≡ work_in o w → l' ≡ log_in o l → reply ≡ 0 → On
      unfolding reply_in work_in log_in
      on-by (stopped q) e r i k n = absurd (open-speaks end.unit (at_end end.log) w l q (sym (next-open end w) ∙ e) (sym r ∙ n))
      on-by (went s' x y) e r i k n = record { state = s'; is = e ∙ rw (i, k) }

      module _ (n : reply ≡ 0) where
        on : On
        on = on-by (append_next w l) refl a.reply-is a.work-is a.log_is n

        gone : Gone p.log w l on.state w' l'
        gone =
            subst (λ (g : Log). Gone g w l on.state w' l') same_log
            (next_grows end w p.form.whole p.long p.work-bytes p.log-bytes on.state w' l' on.is)

        grew : Grown p.log gone.added w l on.state w' l'
        grew = gone.grown

        log_is : put (at_end p.log).at (encode ((at_end p.log).number + 1) gone.added) l ≡ l'
        log_is = sym grew.written

        ready : Ready l' v
        ready =
            subst (Ready l') (sym p.shows)
            (subst (λ (y : List ℕ). Ready y (shown (at_end p.log))) log_is (turn-grown l p.log gone.added p.log-bytes p.read grew.fits).0)

        turned-is : turned l' v ≡ shown (at_end (grown p.log gone.added))
        turned-is =
            ap (turned l') p.shows ∙ ap (λ (y : List ℕ). turned y (shown (at_end p.log))) grew.written
            ∙ (turn-grown l p.log gone.added p.log-bytes p.read grew.fits).1
            ∙ ap shown (sym (at_end-grown p.log gone.added))

        pub going-past : Ready l' v × ((turned l' v).ok ≡ true)
        going-past = (ready, turned-ok l' v (at_end (grown p.log gone.added)) turned-is)

        module _ (v' : Walk) (t : v' ≡ turned l' v) where
          turns : v' ≡ shown (at_end (grown p.log gone.added))
          turns = t ∙ turned-is

          at-grew : v'.at ≡ v.at + size gone.added
          at-grew =
              at-is (at_end (grown p.log gone.added)) v' turns ∙ ap (λ (x : State). x.at) (sym grew.state) ∙ grew.higher
              ∙ ap (λ (k : ℕ). k + size gone.added) (sym (at-is (at_end p.log) v p.shows))

          number-grew : v'.number.0 ≡ v.number.0 + 1
          number-grew =
              number_is (at_end (grown p.log gone.added)) v' turns ∙ ap (λ (x : State). x.number) (sym grew.state) ∙ grew.later
              ∙ ap (λ (k : ℕ). k + 1) (sym (number_is (at_end p.log) v p.shows))

          same-on : finishing w₀ l₀ ≡ finishing w' l'
          unfolding and_then
          same-on =
              all-is (went on.state w' l') on.is
              ∙ ap (λ (x : State). onward x w' l') grew.state
              ∙ sym (finishing-is w' l' (grown p.log gone.added) grew.read)

          pub going_more : Going w₀ l₀ v₀ w' l' v'
          going_more =
              record {
                log = grown p.log gone.added;
                read = grew.read;
                shows = turns;
                form = grew.form p.form;
                long = grew.long ∙ p.long;
                work-bytes = grew.work;
                log-bytes = grew.log;
                same = same-on;
                front = ap (take v₀.at) grew.written
                    ∙ take_put v₀.at (at_end p.log).at _ l (omega (arith, p.higher, at-is (at_end p.log) v p.shows))
                    (read_log-facts l p.log p.read).short
                    ∙ p.front;
                higher = omega (arith, p.higher, at-grew);
                later = omega (arith, p.later, number-grew);
              }

          pub going_less : 8192 - v'.at < 8192 - v.at
          going_less =
              let k : v'.at ≤ 8192 = omega (arith, at-is (at_end (grown p.log gone.added)) v' turns, ap (λ (x : State). x.at) grew.state, grew.inside) in
              omega (arith, at-grew, size-least gone.added)
