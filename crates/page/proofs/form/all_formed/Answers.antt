-- `page::form::all_formed` meets its contract. The invariant: all pages are in form where those from page p on are. Assumes nothing.
use native.Mathlib.Omega.{arith}
use Rattle.page.proofs.Tests.{front-stop!, front-more, formed-stop!, formed-more!, formed-end! }
use Rattle.page.proofs.form.all_formed.Goals as goal

pub returns-then-not-is_root : goal.returns-then-not-is_root
returns-then-not-is_root c = search front-stop!

pub loop-p-init : goal.loop-p-init
loop-p-init c = (omega arith, omega arith, search front-more)

pub returns-then-not-below_root : goal.returns-then-not-below_root
returns-then-not-below_root c = search formed-stop!

pub loop-p-preserved : goal.loop-p-preserved
loop-p-preserved c = (omega arith, omega arith, search formed-more!)

pub returns : goal.returns
returns c = search formed-end!
