-- `saving::put::upper_half` meets its contract. Assumes nothing.
use Rattle.saving.proofs.Halves.{upper-with, upper-without}
use borrow.Author.Rules.{rules}
use Rattle.saving.proofs.put.upper_half.Statement.{statement}
use Rattle.saving.proofs.put.upper_half.Tie as tie

returns : tie.Need-returns-then-i-lt8
returns c = λ w f. let a = c.before in upper-without w a.args.p a.args.i a.requires.1 f a.args.q a.requires.0 c.if-i-lt8.true

sub-t8 : tie.Need-overflow_sub-result-2
sub-t8 c = search rules

returns-2 : tie.Need-returns
returns-2 c = λ w f. let a = c.before in upper-with w a.args.p a.args.i a.requires.1 f a.args.q a.requires.0 c.if-i-lt8.false a.requires.2

pub upper_half_spec : {M : Type 1} → statement M
upper_half_spec = tie.close (tie.spec returns sub-t8 returns-2)
