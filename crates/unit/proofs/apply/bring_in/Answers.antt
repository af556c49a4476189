-- `unit::apply::bring_in` meets its contract. Assumes nothing.
use mathlib.Core.Bool.{not}
use mathlib.Core.Path.{ap}
use Rattle.unit.proofs.Applied.{did-not, in-open, in-room, in-done}
use borrow.Author.Rules.{rules}
use Rattle.unit.proofs.apply.bring_in.Goals as goal

pub returns-then-not-can_bring_in : goal.returns-then-not-can_bring_in
returns-then-not-can_bring_in c = (λ org back. did-not _ _ _ (c.can_bring_in.ensures _ org back) (ap not c.if-not-can_bring_in.true))

pub append_at-requires : goal.append_at-requires
append_at-requires c =
    let e = c in
    let t = e.can_bring_in in
    record {
      w_len = search rules;
      w_value = in-open _ _ _ _ t.result t.ensures (ap not e.if-not-can_bring_in.false);
      rs_len = (search rules, in-room _ _ _ _ t.result t.ensures (ap not e.if-not-can_bring_in.false));
    }

pub returns : goal.returns
returns c = search in-done
