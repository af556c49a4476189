-- `page::change::set_head` meets its contract: three writes in turn. Assumes nothing.
use native.Mathlib.Omega.{arith}
use mathlib.Core.Path.{◌∙◌}
use lib.ListN.{length-set}
use Rattle.field.proofs.Part.{set-put}
use Rattle.page.proofs.change.set_head.Goals as goal

pub put2-requires : goal.put2-requires
put2-requires c = simp length-set (omega arith)

pub stamp-requires : goal.stamp-requires
stamp-requires c =
    let a = c in
    c.put2.auto.s ∙ length-set a.args.pg.now 1 a.args.sign ∙ a.requires

pub returns : goal.returns
returns c =
    let a = c in
    cc (set-put a.args.pg.now 1 a.args.sign (omega arith))
