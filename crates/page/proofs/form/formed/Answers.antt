-- `page::form::formed` meets its contract. Assumes nothing.
use Rattle.page.proofs.Tests.{formed-root! }
use Rattle.page.proofs.form.formed.Goals as goal

pub returns-then-p-eq0 : goal.returns-then-p-eq0
returns-then-p-eq0 c = search formed-root!
