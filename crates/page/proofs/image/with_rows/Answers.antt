-- `page::image::with_rows` meets its contract: the rows are copied behind those that were there, and counted. Assumes nothing.
use Prim.Native.Nat.{ℕ, ◌≤◌, ◌*◌}
use native.Mathlib.Omega.{arith}
use mathlib.Core.Path.{◌≡◌, ap}
use lib.ListN.{length}
use Rattle.page.specs.Page.{count}
use Rattle.page.proofs.Images.{more_rows}
use borrow.Author.Rules.{rules}
use Rattle.page.proofs.image.with_rows.Goals as goal
use Rattle.page.proofs.image.with_rows.Goals.{After-image-4-1}

-- the rows are in the page
room : (c : After-image-4-1)
    → let a = c in a.args.sz * c.count-old.result ≡ a.args.sz * count a.args.image
room c =
    let a = c in
    ap (λ (x : ℕ). a.args.sz * x) c.count-old.ensures

pub overflow_mul-sz : goal.overflow_mul-sz
overflow_mul-sz c = omega (arith, room (goal.at.overflow_mul-sz c).After-image-4-1)

pub overflow_add-sz : goal.overflow_add-sz
overflow_add-sz c = omega (arith, room (goal.at.overflow_add-sz c).After-image-4-1)

pub copy-requires : goal.copy-requires
copy-requires c =
    let whole : length c.args.image ≡ 256 = search rules in
    omega (arith, room (goal.at.copy-requires c).After-image-4-1, c.put2.auto.s)

pub returns : goal.returns
returns c =
    let a = c in
    let whole : length a.args.image ≡ 256 = search rules in
    let few : a.args.sz * count a.args.image ≤ 240 = omega arith in
    cc (more_rows a.args.sz a.args.k a.args.image a.args.rs.now whole a.requires.image_value a.requires.rs_len.0 few)
