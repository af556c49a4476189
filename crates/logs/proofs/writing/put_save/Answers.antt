-- `logs::writing::put_save` meets its contract. Assumes nothing.
use Rattle.logs.specs.Record.{length_of}
use Rattle.logs.specs.Table.{kinds, kind_at}
use Rattle.logs.proofs.Puts.{save-written! }
use borrow.Author.Rules.{rules}
use Rattle.logs.proofs.writing.put_save.Goals as goal

pub put_start-requires : goal.put_start-requires
unfolding length_of
put_start-requires c = search rules

pub overflow_add-at : goal.overflow_add-at
unfolding length_of kind_at kinds
overflow_add-at c = search rules

pub copy-requires : goal.copy-requires
unfolding length_of kind_at kinds
copy-requires c = search rules

pub returns : goal.returns
unfolding length_of
returns c = search save-written!
