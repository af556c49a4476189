-- `waking::blanked` meets its contract: zeros over all pages. Assumes nothing.
use Prim.Native.Nat.{ℕ}
use mathlib.Core.Path.{◌≡◌, sym, ◌∙◌}
use mathlib.Core.List.{List}
use lib.ListN.{length}
use Rattle.field.specs.Bytes.{put, zeroes}
use Rattle.field.proofs.Part.{put_whole}
use Rattle.field.proofs.Zero.{length-zeroes}
use borrow.Author.Rules.{rules}
use Rattle.waking.proofs.blanked.Statement.{statement}
use Rattle.waking.proofs.blanked.Tie as tie

-- zeros over all pages
all-blank : (w : List ℕ) → length w ≡ 16384 → put 0 (zeroes 16384) w ≡ zeroes 16384
all-blank w h = put_whole (zeroes 16384) w (length-zeroes 16384 ∙ sym h)

clear-requires : tie.Need-clear-requires
clear-requires c κs = search rules

declined-requires : tie.Need-declined-requires
declined-requires c κs = search rules

same_length : tie.Need-shape_of-work
same_length c = search rules

returns : tie.Need-returns
returns c =
    let a = c.before.before.before.before.before.before in (
      c.before.before.before.clear.ensures ∙ all-blank a.args.work.now a.requires,
      c.declined.ensures.0,
      c.declined.ensures.1,
      c.declined.ensures.2,
      c.declined.ensures.3,
    )

pub blanked_spec : {M : Type 1} → statement M
blanked_spec = tie.close (tie.spec clear-requires declined-requires same_length returns)
