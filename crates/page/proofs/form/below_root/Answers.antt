-- `page::form::below_root` meets its contract. Assumes nothing.
use Rattle.page.proofs.Tests.{below-kind!, below-empty! }
use Rattle.page.proofs.form.below_root.Goals as goal

pub returns-then-of_place : goal.returns-then-of_place
returns-then-of_place c = search below-kind!

pub returns : goal.returns
returns c = search below-empty!
