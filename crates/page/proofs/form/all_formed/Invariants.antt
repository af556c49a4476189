-- `page::form::all_formed` meets its contract. The invariant: all pages are in form where those from page p on are. Assumes nothing.
use Prim.Native.Nat.{◌≤◌, ◌-◌, ◌*◌}
use mathlib.Core.Path.{◌≡◌}
use lib.ListN.{drop}
use Rattle.page.specs.Page.{rows_of}
use Rattle.page.specs.Pages.{pages, all_formed}
use Rattle.page.proofs.form.all_formed.Given as goal

abbrev pub invariant-loop-p : goal.invariant-loop-p
invariant-loop-p l = (1 ≤ l.p) × (l.p ≤ 64) × (all_formed 0 (pages l.w) ≡ all_formed l.p (rows_of 256 (64 - l.p) (drop (256 * l.p) l.w)))

abbrev pub decreases-loop-p : goal.decreases-loop-p
decreases-loop-p l = 64 - l.p
