-- `page::form::of_place` meets its contract. Assumes nothing.
use Rattle.page.proofs.Tests.{place-base!, place-leaf! }
use Rattle.page.proofs.form.of_place.Goals as goal

pub returns-then-p : goal.returns-then-p
returns-then-p c = search place-base!

pub returns : goal.returns
returns c = search place-leaf!
