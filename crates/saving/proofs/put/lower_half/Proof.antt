-- `saving::put::lower_half` meets its contract. Assumes nothing.
use Rattle.saving.proofs.Halves.{lower-with, lower-without}
use borrow.Author.Rules.{rules}
use Rattle.saving.proofs.put.lower_half.Statement.{statement}
use Rattle.saving.proofs.put.lower_half.Tie as tie

sub-t5 : tie.Need-overflow_sub-result
sub-t5 c = search rules

returns : tie.Need-returns-then-i-lt8
returns c = λ w f. let a = c.before in lower-with w a.args.p a.args.i a.requires.0 f c.if-i-lt8.true

returns-2 : tie.Need-returns
returns-2 c = λ w f. let a = c.before in lower-without w a.args.p a.args.i a.requires.0 f c.if-i-lt8.false a.requires.1

pub lower_half_spec : {M : Type 1} → statement M
lower_half_spec = tie.close (tie.spec sub-t5 returns returns-2)
