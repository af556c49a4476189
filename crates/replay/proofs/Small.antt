-- The theorem for the small format of Toy.antt. Assumes nothing.
use Prim.Native.Nat.{ℕ}
use mathlib.Core.List.{List}
use mathlib.Core.Option.{Option}
use Rattle.replay.specs.Store.{Reached, Recovers}
use Rattle.replay.proofs.Theorem.{theorem}
use Rattle.replay.proofs.Toy.{Pages, Rec, toy, means, toy-pages, toy-units}

toy-theorem : {o s : Pages} {x : Option Pages} {c : ℕ} {l : List Rec} {f : ℕ} → Reached toy means o x s c l f → Recovers toy means o s c l
toy-theorem g = theorem toy means toy-pages toy-units g
