-- `saving::put::upper_key` meets its contract. Assumes nothing.
use Rattle.saving.proofs.Halves.{upper_first, upper-later, upper-here}
use borrow.Author.Rules.{rules}
use Rattle.saving.proofs.put.upper_key.Statement.{statement}
use Rattle.saving.proofs.put.upper_key.Tie as tie

key-at-requires : tie.Need-key_at-requires
key-at-requires c κs = search rules

returns : tie.Need-returns-then-i-lt8
returns c = λ r e. let a = c.before.before.before in upper_first a.args.w.now a.args.p.0 _ _ _ a.requires.2 r e c.before.if-i-lt8.true c.key_at.ensures

key-at-requires-2 : tie.Need-key_at-requires-then-i-gt8
key-at-requires-2 c κs = search rules

returns-2 : tie.Need-returns-then-i-gt8
returns-2 c = λ r e. let a = c.before.before.before.before in upper-later a.args.w.now a.args.p.0 _ _ _ a.requires.2 r e c.before.if-i-gt8.true a.requires.3 c.key_at-then-i-gt8.ensures

returns-3 : tie.Need-returns
returns-3 c = λ r e. let a = c.before.before.before in upper-here a.args.w.now a.args.p.0 a.args.i _ 0 a.requires.2 r e c.before.if-i-lt8.false c.if-i-gt8.false

pub upper_key_spec : {M : Type 1} → statement M
upper_key_spec = tie.close (tie.spec key-at-requires returns key-at-requires-2 returns-2 returns-3)
