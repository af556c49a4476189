-- `logs::writing::put_begin` meets its contract. Assumes nothing.
use Rattle.logs.proofs.Puts.{encode-plain}
use borrow.Author.Rules.{rules}
use Rattle.logs.proofs.writing.put_begin.Goals as goal

pub returns : goal.returns
returns c = rw (← encode-plain) (search rules)
