-- `logs::scan::save_turn` meets its contract. Assumes nothing.
use native.Mathlib.Omega.{arith}
use mathlib.Core.Path.{sym, ◌∙◌}
use lib.ListN.{length-drop}
use lib.Seq.{get_or-drop}
use Rattle.logs.specs.Record.{length_of}
use Rattle.logs.specs.Table.{kinds, kind_at}
use Rattle.logs.proofs.Images.{save-short, save-image, save-last}
use Rattle.logs.proofs.scan.save_turn.Goals as goal

pub overflow_sub-l : goal.overflow_sub-l
overflow_sub-l c = omega (arith, c.requires.0.inside)

pub returns-then-l-at : goal.returns-then-l-at
unfolding length_of kind_at kinds
returns-then-l-at c = save-short _ _ _ _ c.lost.ensures (rw length-drop (omega (arith, c.if-l-at.true, c.size_of.ensures)))

pub overflow_add-at : goal.overflow_add-at
unfolding length_of kind_at kinds
overflow_add-at c = omega (arith, c.requires.0.inside, c.requires.0.small, c.if-l-at.false, c.size_of.ensures)

pub bounds-l-at : goal.bounds-l-at
unfolding length_of kind_at kinds
bounds-l-at c = omega (arith, c.requires.0.inside, c.if-l-at.false, c.size_of.ensures)

pub image_turn-requires : goal.image_turn-requires
image_turn-requires c = c.requires

pub returns-then-l-at-2 : goal.returns-then-l-at-2
unfolding kind_at kinds
returns-then-l-at-2 c = save-image _ _ _ _ (get_or-drop _ c.args.l.now 1 0 ∙ c.if-l-at-2.true ∙ c.sign.ensures) c.image_turn.ensures

pub last_turn-requires : goal.last_turn-requires
last_turn-requires c = c.requires

pub returns : goal.returns
unfolding kind_at kinds
returns c = save-last _ _ _ _ (λ q. c.if-l-at-2.false (sym (get_or-drop _ c.args.l.now 1 0) ∙ q ∙ sym c.sign.ensures)) c.last_turn.ensures
