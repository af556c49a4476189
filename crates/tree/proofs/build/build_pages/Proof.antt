-- `tree::build::build_pages` meets its contract. Assumes nothing.
use Prim.Native.Nat.{ℕ, ◌≤◌, ◌<◌, ◌-◌, ◌/◌}
use native.Mathlib.Nat.{not-suc-le-zero}
use mathlib.Core.Path.{◌≡◌, sym, ap, ◌∙◌}
use lib.ListN.{length}
use Rattle.field.specs.Bytes.{Bytes}
use Rattle.page.specs.Page.{rows_of}
use Rattle.page.specs.Pages.{page}
use Rattle.page.proofs.Pages.{length-put_page}
use Rattle.tree.specs.Pieces.{layout_page}
use Rattle.tree.proofs.Laid.{page-long, laid_more, laid-all}
use native.Mathlib.Omega.{arith}
use Rattle.tree.proofs.build.build_pages.Statement.{statement}
use Rattle.tree.proofs.build.build_pages.Tie as tie

abbrev invariant-loop : tie.invariant-loop-p
invariant-loop w₀ f g records p₀ w p =
    (p ≤ 64) × (length w ≡ 16384) × ((q : ℕ) → q < p → page q w ≡ layout_page f g (rows_of 16 (length records / 16) records) q)

abbrev decreases-loop : tie.decreases-loop-p
decreases-loop w₀ f g records p₀ w p = 64 - p

loop-holds : tie.Need-loop-p-init invariant-loop decreases-loop
loop-holds c = (omega arith, c.before.before.requires.0, λ q h. absurd (not-suc-le-zero h))

cast-image-at : tie.Need-overflow_cast-p invariant-loop decreases-loop
cast-image-at c = omega arith

image-at-requires : tie.Need-image_at-image-requires invariant-loop decreases-loop
image-at-requires c κs = (c.before.before.before.before.requires.1, omega arith)

set-page-requires : tie.Need-set_page-requires invariant-loop decreases-loop
set-page-requires c κs = (c.before.before.before.loop-p.invariant.1, omega arith)

add-p : tie.Need-overflow_add-p invariant-loop decreases-loop
add-p c = omega arith

loop-less : tie.Need-loop-p-smaller invariant-loop decreases-loop
loop-less c = omega arith

loop-again : tie.Need-loop-p-preserved invariant-loop decreases-loop
loop-again c =
    let l = c.before.before.before.before.before.before in
    let a = l.before.before.before in
    let bytes : Bytes a.args.records.now = λ i. omega (arith, l.before.shared_slice_known-1.given i) in
    let x = c.before.before.before.before.image_at-image in
    let s = c.before.before.set_page in
    let small : l.loop-p.p < 64 = omega arith in
    let long : length x.result ≡ 256 = ap length x.ensures ∙ page-long a.args.f a.args.g a.args.records.now a.requires.1 bytes l.loop-p.p in (
      omega arith,
      rw s.ensures (length-put_page l.loop-p.p l.loop-p.w l.loop-p.invariant.1 small x.result long),
      λ q h. rw s.ensures
          (laid_more a.args.f a.args.g a.args.records.now a.requires.1 bytes l.loop-p.w x.result l.loop-p.p l.loop-p.invariant.1 small
          x.ensures l.loop-p.invariant.2 q h),
    )

same_length : tie.Need-shape_of-w invariant-loop decreases-loop
same_length c = c.before.loop-p.invariant.1 ∙ sym c.before.before.before.before.requires.0

returns : tie.Need-returns invariant-loop decreases-loop
returns c =
    let l = c.before in
    let a = l.before.before.before in
    let bytes : Bytes a.args.records.now = λ i. omega (arith, l.before.shared_slice_known-1.given i) in
    laid-all a.args.f a.args.g a.args.records.now a.requires.1 bytes l.loop-p.w l.loop-p.p l.loop-p.invariant.1 c.loop-p-test.false l.loop-p.invariant.2

pub build_pages_spec : {M : Type 1} → statement M
build_pages_spec =
    tie.close
    (tie.spec
    invariant-loop
    decreases-loop
    loop-holds
    cast-image-at
    image-at-requires
    set-page-requires
    add-p
    loop-less
    loop-again
    same_length
    returns)
