-- `unit::apply::modify` meets its contract. Assumes nothing.
use mathlib.Core.Bool.{not}
use mathlib.Core.Path.{ap}
use Rattle.unit.proofs.Applied.{did-not, modify-base, modify-others, modify-inside, modify-point, modify-remove}
use borrow.Author.Rules.{rules}
use Rattle.unit.proofs.apply.modify.Goals as goal

pub returns-then-not-can_modify : goal.returns-then-not-can_modify
returns-then-not-can_modify c = did-not _ _ _ (c.can_modify.ensures _) (ap not c.if-not-can_modify.true)

pub entry_at-i-requires : goal.entry_at-i-requires
entry_at-i-requires c =
    let e = c in
    let t = e.can_modify in
    (search rules, search rules, modify-base _ _ _ _ _ t.result t.ensures (ap not e.if-not-can_modify.false))

pub redirect_at-requires : goal.redirect_at-requires
redirect_at-requires c =
    let i = c.entry_at-i in
    let e = c in
    let t = e.can_modify in
    record {
      w_len = search rules;
      w_value = (modify-base _ _ _ _ _ t.result t.ensures (ap not e.if-not-can_modify.false), modify-inside _ _ _ _ _ t.result t.ensures (ap not e.if-not-can_modify.false) _ i.ensures);
    }

pub returns-then-new-ne0 : goal.returns-then-new-ne0
returns-then-new-ne0 c = search modify-point

pub remove_at-requires : goal.remove_at-requires
remove_at-requires c =
    let i = c.entry_at-i in
    let e = c in
    let t = e.can_modify in record {
      w_len = search rules;
      w_value = (
        modify-base _ _ _ _ _ t.result t.ensures (ap not e.if-not-can_modify.false),
        modify-inside _ _ _ _ _ t.result t.ensures (ap not e.if-not-can_modify.false) _
            i.ensures,
        modify-others _ _ _ _ _ t.result t.ensures (ap not e.if-not-can_modify.false) c.if-new-ne0.false,
      );
    }

pub returns : goal.returns
returns c = search modify-remove
