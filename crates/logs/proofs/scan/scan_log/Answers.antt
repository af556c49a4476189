-- `logs::scan::scan_log` meets its contract. The invariant: the numbers stand for a state of the log, and the whole's answer is that of what is
-- left; in the inner loop also that no put or delete is open, and that something was read unless it has just begun. Assumes nothing.
use Prim.Native.Nat.{◌<◌}
use native.Mathlib.Omega.{arith}
use mathlib.Core.Path.{◌≡◌, refl, sym, ◌∙◌, subst}
use mathlib.Core.Logic.{inl, inr, ⊎_elim}
use mathlib.Core.Bool.{true, false, false≢true}
use Rattle.field.specs.Bytes.{Bytes}
use Rattle.logs.specs.Scan.{saving_on, live, tidies_on}
use Rattle.logs.specs.declared.scan.Walk.{Walk}
use Rattle.logs.proofs.Pass.{to_read, pass-start, pass-ready, pass-turn, pass-less, pass-inside, pass-end}
use Rattle.logs.proofs.Tidies.{plain_of, plain_turn, tidies-on, tidies-some}
use Rattle.logs.proofs.scan.scan_log.Goals as goal
use Rattle.logs.proofs.scan.scan_log.Goals.{After-loop-e-else-saving, After-turn-w, At-loop-e, In-loop-e, In-loop-e-else-saving}

-- the log is bytes
bytes : (c : At-loop-e) → Bytes c.args.l.now
bytes c = λ i. omega (arith, c.shared_slice_known-1.given i)

-- a record comes
goes : (c : In-loop-e) → live c.args.l.now c.loop-e.w ≡ true
goes c = sym c.live.ensures ∙ c.loop-e-test.true

-- one of a unit that tidies
tidies : (c : In-loop-e-else-saving) → let a = c in
    (live a.args.l.now c.loop-e-else-saving.w ≡ true) × (saving_on a.args.l.now c.loop-e-else-saving.w ≡ false)
tidies c =
    let a = c in
    tidies-on a.args.l.now c.loop-e-else-saving.w (sym c.tidies.ensures ∙ c.loop-e-else-saving-test.true) c.loop-e-else-saving.invariant.plain

-- the inner loop has read something
less : (c : After-loop-e-else-saving) → let o = c in
    to_read o.args.l.now c.loop-e-else-saving.w < to_read o.args.l.now o.loop-e.w
less c =
    let o = c in
    let s = c in
    let l = o.args.l.now in
    let i = c.loop-e-else-saving.invariant in
    ⊎_elim
    (λ (q : c.loop-e-else-saving.w ≡ o.loop-e.w).
    absurd (false≢true (sym (sym c.tidies.ensures ∙ c.loop-e-else-saving-test.false)
    ∙ subst (λ (w : Walk). tidies_on l w ≡ true) (sym q) (tidies-some l o.loop-e.w (goes (goal.at.After-loop-e-else-saving c).In-loop-e) (sym s.saving.ensures ∙ s.if-saving.false)))))
    (λ (q : to_read l c.loop-e-else-saving.w < to_read l o.loop-e.w). q) i.gone

pub loop-e-init : goal.loop-e-init
loop-e-init c =
    let y : Bytes c.args.l.now = λ i. omega (arith, c.shared_slice_known-1.given i) in
    pass-start c.args.l.now _ _ y c.top-w.ensures

pub saving-requires : goal.saving-requires
saving-requires c = pass-ready _ _ _ _ c.loop-e.invariant (goes (goal.at.saving-requires c).In-loop-e)

pub saving_turn-w-requires : goal.saving_turn-w-requires
saving_turn-w-requires c =
    let o = c in
    (pass-ready _ _ _ _ o.loop-e.invariant (goes (goal.at.saving_turn-w-requires c).In-loop-e), sym c.saving.ensures ∙ c.if-saving.true)

pub loop-e-smaller-then-saving : goal.loop-e-smaller-then-saving
loop-e-smaller-then-saving c =
    let o = c in
    let l = o in
    pass-less _ _ _ _ (bytes (goal.at.loop-e-smaller-then-saving c).At-loop-e) l.loop-e.invariant (goes (goal.at.loop-e-smaller-then-saving c).In-loop-e) _ c.saving_turn-w.ensures

pub loop-e-preserved-then-saving : goal.loop-e-preserved-then-saving
loop-e-preserved-then-saving c =
    let o = c in
    let l = o in
    pass-turn _ _ _ _ (bytes (goal.at.loop-e-preserved-then-saving c).At-loop-e) l.loop-e.invariant (goes (goal.at.loop-e-preserved-then-saving c).In-loop-e) _ c.saving_turn-w.ensures _ c.noted-e.ensures

pub loop-e-else-saving-init : goal.loop-e-else-saving-init
loop-e-else-saving-init c =
    let o = c in
    let l = o in
    record {
      pass = l.loop-e.invariant;
      plain = plain_of l.args.l.now l.loop-e.w (sym c.saving.ensures ∙ c.if-saving.false);
      gone = inl refl;
    }

pub tidies-requires : goal.tidies-requires
tidies-requires c = pass-inside _ _ _ _ c.loop-e-else-saving.invariant.pass

pub loop-e-smaller : goal.loop-e-smaller
loop-e-smaller c = less (goal.at.loop-e-smaller c).After-loop-e-else-saving

pub loop-e-preserved : goal.loop-e-preserved
loop-e-preserved c = c.loop-e-else-saving.invariant.pass

pub turn-w-requires : goal.turn-w-requires
turn-w-requires c =
    let k = c in
    (pass-ready _ _ _ _ k.loop-e-else-saving.invariant.pass (tidies (goal.at.turn-w-requires c).In-loop-e-else-saving).0, (tidies (goal.at.turn-w-requires c).In-loop-e-else-saving).1)

-- the turn of a unit that tidies has read something
fewer : (c : After-turn-w) → let t = c in
    let l = t in
    to_read l.args.l.now c.turn-w.result < to_read l.args.l.now t.loop-e-else-saving.w
fewer c =
    let k = c in
    let t = k in
    let l = t in
    pass-less _ _ _ _ (bytes (goal.at.After-turn-w c).At-loop-e) t.loop-e-else-saving.invariant.pass (tidies (goal.at.After-turn-w c).In-loop-e-else-saving).0 _ c.turn-w.ensures

pub loop-e-else-saving-smaller : goal.loop-e-else-saving-smaller
loop-e-else-saving-smaller c = fewer (goal.at.loop-e-else-saving-smaller c).After-turn-w

pub loop-e-else-saving-preserved : goal.loop-e-else-saving-preserved
loop-e-else-saving-preserved c =
    let k = c in
    let t = k in
    let l = t in
    let m = l.args.l.now in
    let less : to_read m c.turn-w.result < to_read m t.loop-e-else-saving.w = fewer (goal.at.loop-e-else-saving-preserved c).After-turn-w in
    record {
      pass = pass-turn _ _ _ _ (bytes (goal.at.loop-e-else-saving-preserved c).At-loop-e) t.loop-e-else-saving.invariant.pass (tidies (goal.at.loop-e-else-saving-preserved c).In-loop-e-else-saving).0 _ c.turn-w.ensures _ c.noted-e-in-loop-e-else-saving.ensures;
      plain = plain_turn m t.loop-e-else-saving.w _ (tidies (goal.at.loop-e-else-saving-preserved c).In-loop-e-else-saving).1 c.turn-w.ensures;
      gone = inr (⊎_elim
          (λ (q : t.loop-e-else-saving.w ≡ l.loop-e.w). subst (λ (w : Walk). to_read m c.turn-w.result < to_read m w) q less)
          (λ (q : to_read m t.loop-e-else-saving.w < to_read m l.loop-e.w). omega (arith, q, less)) t.loop-e-else-saving.invariant.gone);
    }

pub finish-requires : goal.finish-requires
finish-requires c = pass-inside _ _ _ _ c.loop-e.invariant

pub returns : goal.returns
returns c =
    let k = c in
    let l = k in
    c.finish.ensures ∙ pass-end _ _ _ _ l.loop-e.invariant (sym k.live.ensures ∙ k.loop-e-test.false) _ c.noted-e-2.ensures
