-- `logs::reading::is_image` meets its contract: each test that fails ends it. Assumes nothing.
use mathlib.Core.Bool.{not}
use mathlib.Core.Path.{ap}
use Prim.Native.Nat.{◌≤◌}
use native.Mathlib.Omega.{arith}
use Rattle.logs.specs.Record.{length_of}
use Rattle.logs.specs.Table.{kinds, kind_at}
use Rattle.logs.proofs.Images.{image-short, image-low, image-high, image-form, image-rest}
use Rattle.logs.proofs.reading.is_image.Goals as goal

pub returns-then-m-long : goal.returns-then-m-long
returns-then-m-long c = λ is e. image-short _ c.args.m.now is _ c.size_of-long.ensures c.if-m-long.true

pub get2-p-requires : goal.get2-p-requires
unfolding length_of kind_at kinds
get2-p-requires c = omega (arith, c.size_of-long.ensures, c.if-m-long.false)

pub returns-then-p-least : goal.returns-then-p-least
returns-then-p-least c = λ is e. image-low _ c.args.m.now is _ _ e c.get2-p.ensures c.if-p-least.true

pub returns-then-p-gt-LAST_LEAF : goal.returns-then-p-gt-LAST_LEAF
returns-then-p-gt-LAST_LEAF c = λ is e. image-high _ c.args.m.now is _ _ e c.get2-p.ensures c.if-p-gt-LAST_LEAF.true

pub slice_bounds-formed-count : goal.slice_bounds-formed-count
unfolding length_of kind_at kinds
slice_bounds-formed-count c = omega (arith, c.size_of-long.ensures, c.size_of-from.ensures)

pub slice_bounds-formed-start : goal.slice_bounds-formed-start
unfolding length_of kind_at kinds
slice_bounds-formed-start c = omega (arith, c.size_of-long.ensures, c.size_of-from.ensures)

pub slice_bounds-formed-end : goal.slice_bounds-formed-end
unfolding length_of kind_at kinds
slice_bounds-formed-end c = omega (arith, c.if-m-long.false)

pub returns-then-not-formed : goal.returns-then-not-formed
returns-then-not-formed c = λ is e. image-form _ c.args.m.now is _ _ e c.get2-p.ensures _ _ c.size_of-from.ensures c.size_of-long.ensures _ c.formed.ensures (ap not c.if-not-formed.true)

pub same_at-requires : goal.same_at-requires
unfolding length_of kind_at kinds
same_at-requires c = omega (arith, c.size_of-long.ensures, c.size_of-from.ensures, c.if-m-long.false)

pub returns : goal.returns
returns c = λ is e.
    let a = c in
    let k : a.args.n.0 ≤ 4294967295 = omega arith in
    image-rest a.args.n.0 a.args.m.now is _ _ e c.get2-p.ensures _ _ c.size_of-from.ensures c.size_of-long.ensures _ c.formed.ensures
    (ap not c.if-not-formed.false) c.if-p-least.false c.if-p-gt-LAST_LEAF.false k c.if-m-long.false _ _ _ c.same_at.ensures c.put_image_head.ensures
