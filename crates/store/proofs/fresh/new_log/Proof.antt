-- `store::fresh::new_log` meets its contract: zeros, then the check record over them. Assumes nothing.
use Rattle.store.proofs.Anew.{new-log! }
use borrow.Author.Rules.{rules}
use Rattle.store.proofs.fresh.new_log.Statement.{statement}
use Rattle.store.proofs.fresh.new_log.Tie as tie

clear-requires : tie.Need-clear-requires
clear-requires c κs = search rules

put-check-requires : tie.Need-put_check-requires
put-check-requires c κs = search rules

same_length : tie.Need-shape_of-log
same_length c = search rules

returns : tie.Need-returns
returns c = search new-log!

pub new_log_spec : {M : Type 1} → statement M
new_log_spec = tie.close (tie.spec clear-requires put-check-requires same_length returns)
