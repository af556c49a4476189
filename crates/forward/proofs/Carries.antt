-- The open unit's next record, be the unit one that tidies or a put or delete. Assumes nothing.
use Prim.Native.Nat.{ℕ, ◌+◌, ◌≤◌}
use mathlib.Core.Path.{◌≡◌, refl, sym, ap, ◌∙◌}
use mathlib.Core.Bool.{Bool, true, false}
use mathlib.Core.List.{List, [], ◌∷◌}
use mathlib.Core.Option.{Option, some, none}
use lib.ListN.{length, take, drop}
use Rattle.field.specs.Test.{need, given}
use Rattle.field.specs.Bytes.{put}
use Rattle.field.proofs.Test.{pick_true}
use Rattle.logs.specs.Record.{saves, Rec, encode}
use Rattle.logs.specs.Log.{State, saves_at, at_end}
use Rattle.logs.specs.Scan.{shown}
use Rattle.logs.specs.declared.scan.Walk.{Walk}
use Rattle.unit.specs.Next.{apply}
use Rattle.saving.specs.Rest.{Rest, refuses, lacks}
use Rattle.resuming.specs.Lacking.{Unfinished}
use Rattle.resuming.specs.Concluded.{Outcome, outcome, first_of, concluded, rest_on, concluded_on}
use Rattle.resuming.proofs.Walked.{unfinished, rest-on}
use Rattle.store.specs.Calls.{Went, stopped, and_then, logged, append_all, conclude, lacked_by}
use Rattle.forward.specs.Appends.{append_open, append_next, reply_in, work_in, log_in, Goes}
use Rattle.forward.proofs.Stands.{Ends}

-- what has come of it, as an outcome
shows : Went → (w l : List ℕ) → Outcome
shows o w l = outcome (reply_in o) (work_in o w) (log_in o l)

goes_of : (o : Went) (w l : List ℕ) (r : ℕ) (v m : List ℕ) → outcome r v m ≡ shows o w l → Goes o w l r v m
unfolding shows
goes_of o w l r v m e = record { reply-is = ap (λ (x : Outcome). x.reply) e; work-is = ap (λ (x : Outcome). x.work) e; log_is = ap (λ (x : Outcome). x.log) e }

-- the first record lacked, by numbers
first-shows : (rs : List Rec) (s : State) (w l : List ℕ) → first_of s.at s.number rs w l ≡ shows (append_all (take 1 rs) s w l) w l
unfolding first_of append_all shows reply_in work_in log_in
first-shows [] s w l = refl
first-shows (r ∷ rs) s w l = by-change (apply (s.number + 1) r w)
  where
    by-change : (o : Option (List ℕ)) → given o (outcome 5 w l) (λ v. outcome 0 v (put s.at (encode (s.number + 1) r) l))
        ≡ shows (given o (stopped 5) (λ v. and_then (logged s r v l) (append_all []))) w l
    by-change none = unfold given shows reply_in work_in log_in in refl
    by-change (some v) = unfold given and_then append_all shows reply_in work_in log_in in refl

rest-shows : (rest : Rest) (s : State) (w l : List ℕ) → concluded s.at s.number rest w l ≡ shows (conclude 1 rest s w l) w l
unfolding concluded conclude
rest-shows (refuses r) s w l = unfold shows reply_in work_in log_in in refl
rest-shows (lacks rs) s w l = by_tests _ _
  where
    by_tests : (a b : Bool) → need a (outcome 6 w l) (need b (outcome 7 w l) (first_of s.at s.number rs w l))
        ≡ shows (need a (stopped 6) (need b (stopped 7) (append_all (take 1 rs) s w l))) w l
    by_tests true true = unfold need in (first-shows rs s w l)
    by_tests true false = unfold need shows reply_in work_in log_in in refl
    by_tests false b = unfold need shows reply_in work_in log_in in refl

module _ {l : List ℕ} {w : Walk} (e : Ends l w) where
  pub ends-room : w.begin + 44 ≤ length l
  ends-room = rw e.walk (e.toward.holds.anchored e.unit e.opened).room

  module _ (v : saves_at (drop w.begin l) ≡ true) where
    saves-so : saves e.unit.start ≡ true
    saves-so = sym e.bears ∙ v

    pub ends-unfinished : Unfinished l w
    ends-unfinished = rw e.walk (unfinished l e.log e.toward.holds e.unit e.opened saves-so)

    next-is : (work : List ℕ) → append_next work l ≡ conclude 1 (lacked_by e.unit (at_end e.log) work) (at_end e.log) work l
    unfolding append_next append_open given
    next-is work = rw (e.read, e.opened) (pick_true _ _ _ saves-so)

    concluded-is : (work : List ℕ) → concluded_on w work l ≡ concluded (at_end e.log).at (at_end e.log).number (lacked_by e.unit (at_end e.log) work) work l
    unfolding concluded_on lacked_by
    concluded-is work =
        ap (λ (x : Walk). concluded x.at x.number.0 (rest_on l x work) work l) e.walk
        ∙ ap (λ (x : Rest). concluded (shown (at_end e.log)).at (shown (at_end e.log)).number.0 x work l)
        (rest-on l e.log e.toward.holds e.unit e.opened saves-so work)
        ∙ by-shown
      where
        by-shown : concluded (shown (at_end e.log)).at (shown (at_end e.log)).number.0 (lacked_by e.unit (at_end e.log) work) work l
            ≡ concluded (at_end e.log).at (at_end e.log).number (lacked_by e.unit (at_end e.log) work) work l
        by-shown = unfold shown in refl

    pub save-goes : (work : List ℕ) (r : ℕ) (v m : List ℕ) → outcome r v m ≡ concluded_on w work l → Goes (append_next work l) work l r v m
    save-goes work r v m q =
        goes_of (append_next work l) work l r v m
        (q ∙ concluded-is work ∙ rest-shows (lacked_by e.unit (at_end e.log) work) (at_end e.log) work l
        ∙ ap (λ (o : Went). shows o work l) (sym (next-is work)))
