-- `page::form::head_ok` meets its contract: each test that fails ends it, in the order of the definition. Assumes nothing.
use Rattle.page.proofs.Tests.{head-size!, head-mark!, head-letter!, head-few!, head-many!, head-spare! }
use borrow.Author.Rules.{rules}
use Rattle.page.proofs.form.head_ok.Statement.{statement}
use Rattle.page.proofs.form.head_ok.Tie as tie

returns : tie.Need-returns-then-pg-ne256
returns c = search head-size!

shared-slice-read-if2 : tie.Need-bounds-pg-0
shared-slice-read-if2 c = search rules

returns-2 : tie.Need-returns-then-pg-ne112
returns-2 c = search head-mark!

shared-slice-read-if3 : tie.Need-bounds-pg-1
shared-slice-read-if3 c = search rules

returns-3 : tie.Need-returns-then-pg-sign
returns-3 c = search head-letter!

count-requires : tie.Need-count-n-requires
count-requires c κs = search rules

returns-4 : tie.Need-returns-then-n-least
returns-4 c = search head-few!

returns-5 : tie.Need-returns-then-most-n
returns-5 c = search head-many!

sub-zeros : tie.Need-slice_bounds-zeros-count
sub-zeros c = search rules

part-zeros-start : tie.Need-slice_bounds-zeros-start
part-zeros-start c = search rules

part-zeros-end : tie.Need-slice_bounds-zeros-end
part-zeros-end c = search rules

zeros-requires : tie.Need-zeros-requires
zeros-requires c κs = search rules

returns-6 : tie.Need-returns
returns-6 c = search head-spare!

pub head_ok_spec : {M : Type 1} → statement M
head_ok_spec =
    tie.close
    (tie.spec
    returns
    shared-slice-read-if2
    returns-2
    shared-slice-read-if3
    returns-3
    count-requires
    returns-4
    returns-5
    sub-zeros
    part-zeros-start
    part-zeros-end
    zeros-requires
    returns-6)
