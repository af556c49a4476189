-- What one pass over a log knows at its end is enough to carry an open put or delete on; and what that one lacks is read off the log. Assumes
-- nothing.
use Prim.Native.Nat.{ℕ, ◌+◌, ◌-◌, ◌≤◌}
use native.Mathlib.Omega.{arith}
use mathlib.Core.Path.{◌≡◌, refl, sym, ap, ◌∙◌}
use mathlib.Core.Bool.{true}
use mathlib.Core.List.{List, [], ◌∷◌}
use mathlib.Core.Option.{Option, some, none}
use lib.ListN.{length, drop}
use Rattle.field.specs.Test.{given, bind, there}
use Rattle.logs.specs.Record.{saves, Rec, LB, LO, LI, LM, LG, LE}
use Rattle.logs.specs.Log.{Open, State, first, going, noting, opened_by, after, after_all, saves_at, Log, at_end}
use Rattle.logs.specs.Scan.{shown, Ready}
use Rattle.logs.proofs.Sound.{Keeps}
use Rattle.logs.proofs.Held.{Anchored, Holds, keeps, done-some, saves-of, ready, images-on}
use Rattle.saving.specs.Rest.{rest_of}
use Rattle.resuming.specs.Lacking.{Unfinished, first_number}
use Rattle.resuming.specs.Concluded.{rest_on}

-- ---- a unit has no more records than the log's last number

abbrev done_of : Option Open → ℕ
done_of x = given x 0 (λ (o : Open). length o.did)

done-by : (r : Rec) (n : ℕ) (x : Option Open) → done_of x ≤ n → done_of (opened_by r x) ≤ n + 1
unfolding opened_by given bind going noting
done-by (LB g) n x h = omega arith
done-by (LO org dest rs) n none h = omega arith
done-by (LO org dest rs) n (some o) h = omega arith
done-by (LI org dest back rs) n none h = omega arith
done-by (LI org dest back rs) n (some o) h = omega arith
done-by (LM base old new key) n none h = omega arith
done-by (LM base old new key) n (some o) h = omega arith
done-by (LG i) n none h = omega arith
done-by (LG i) n (some o) h = omega arith
done-by (LE u is) n x h = omega arith

done_all : (s : State) (rs : List Rec) → done_of s.opened ≤ s.number → done_of (after_all s rs).opened ≤ (after_all s rs).number
unfolding after_all after
done_all s [] h = h
done_all s (r ∷ rs) h = done_all (after s r) rs (done-by r s.number s.opened h)

pub done_end : (g : Log) → (shown (at_end g)).done ≤ (shown (at_end g)).number.0
unfolding shown at_end first given
done_end g = done_all (first g.top) g.recs (omega arith)

-- ---- the log's end

module _ (l : List ℕ) (g : Log) (h : Holds l (at_end g)) (o : Open) (e : (at_end g).opened ≡ some o) (v : saves o.start ≡ true) where
  opened-so : (shown (at_end g)).opened ≡ true
  unfolding shown there
  opened-so = rw e

  saves-so : saves_at (drop (shown (at_end g)).begin l) ≡ true
  saves-so = sym (ap saves (h.anchored o e).start ∙ saves-of (at_end g).unit _) ∙ v

  pub unfinished : Unfinished l (shown (at_end g))
  unfinished =
      let r : Ready l (shown (at_end g)) = ready l (at_end g) h in
      let k : Keeps (at_end g).unit o = keeps (at_end g) o h.sound e v in
      record {
        saves = saves-so;
        inside = r.inside;
        laid = r.saving opened-so saves-so;
        filed = rw (images-on l (at_end g) o e v (h.anchored o e)) k.filed;
        counted = done_end g;
      }

  -- what is lacked, given the unit's records
  pub rest-on : (w : List ℕ) → rest_on l (shown (at_end g)) w ≡ rest_of o.start ((at_end g).number - length o.did) o.did w
  unfolding rest_on first_number
  rest-on w =
      let u : (shown (at_end g)).unit.0 ≡ (at_end g).unit = unfold shown in refl in
      let n : (shown (at_end g)).number.0 ≡ (at_end g).number = unfold shown in refl in
      let a : Anchored l (at_end g) o = h.anchored o e in
      rw (images-on l (at_end g) o e v a, done-some (at_end g) o e, u, n, ← a.start)
