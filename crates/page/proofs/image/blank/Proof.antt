-- `page::image::blank` meets its contract: both sides compute to the same 256 bytes. Assumes nothing.
use mathlib.Core.Path.{refl}
use Rattle.field.specs.Bytes.{zeroes, bytes2, bytes4}
use Rattle.page.specs.Page.{joined, made}
use borrow.Author.Rules.{rules}
use Rattle.page.proofs.image.blank.Statement.{statement}
use Rattle.page.proofs.image.blank.Tie as tie

array-write-image : tie.Need-bounds-image-0
array-write-image c = search rules

array-write-image-2 : tie.Need-bounds-image-1
array-write-image-2 c = search rules

returns : tie.Need-returns
unfolding zeroes bytes2 bytes4 joined made
returns c = refl

pub blank_spec : {M : Type 1} → statement M
blank_spec = tie.close (tie.spec array-write-image array-write-image-2 returns)
