-- Laws of records that may come next, of chains of them, and of logs made of one. Assumes nothing.
use Prim.Native.Nat.{ℕ, zero, suc}
use mathlib.Core.Path.{refl}
use mathlib.Core.List.{List, [], ◌∷◌, ◌++◌}
use mathlib.Core.Option.{Option}
use lib.ListN.{take}
use Rattle.page.specs.Each.{Each}
use Rattle.logs.specs.Record.{Rec, kind_of, carried}
use Rattle.logs.specs.Plan.{Step}
use Rattle.logs.specs.Log.{Open, State, after, after_all, all_bear}
use Rattle.logs.specs.Valid.{Does, does-out, does-in, does-point, does-close, logs-image, logs-end, Bears, Follows, begins, goes, logs, Valid, nil, cons}
use Rattle.logs.proofs.Record.{Sized, Narrow}
use Rattle.logs.proofs.State.{Every}
use Rattle.logs.proofs.Begin.{begin_ok-narrow}

-- ---- a record that fits can be written

-- a record that does a step has rows of 16 bytes
pub does-sized : {did : List Rec} {x : Step} {r : Rec} → Does did x r → Sized r
unfolding carried kind_of
does-sized (does-out m) = m.long
does-sized (does-in e) = Each.nil
does-sized (does-point h) = Each.nil
does-sized does-close = Each.nil

-- a record that does a step fits its bytes
pub does-narrow : {did : List Rec} {x : Step} {r : Rec} → Does did x r → Narrow r
does-narrow (does-out m) = m.bytes
does-narrow (does-in e) = tt
does-narrow (does-point h) = tt
does-narrow does-close = tt

-- a record that does a step has no image, so that all of them bear its number
pub does-bears : {did : List Rec} {x : Step} {r : Rec} (n : ℕ) → Does did x r → Bears n r
unfolding all_bear
does-bears n (does-out m) = tt
does-bears n (does-in e) = tt
does-bears n (does-point h) = tt
does-bears n does-close = refl

-- a record that may come next has rows of 16 bytes
pub follows-sized : {u : ℕ} {o : Option Open} {r : Rec} → Follows u o r → Sized r
unfolding carried kind_of
follows-sized (begins e ok l b) = l
follows-sized (goes s e d) = does-sized d
follows-sized (logs s (logs-image {i = i} f l b)) = Each.cons {r = i.bytes} l Each.nil
follows-sized (logs s (logs-end h)) = Each.nil

-- a record that may come next fits its bytes
pub follows-narrow : {u : ℕ} {o : Option Open} {r : Rec} → Follows u o r → Narrow r
follows-narrow (begins {g = g} e ok l b) = begin_ok-narrow g ok b
follows-narrow (goes s e d) = does-narrow d
follows-narrow (logs s (logs-image f l b)) = b
follows-narrow (logs s (logs-end h)) = tt

-- all records of a chain have rows of 16 bytes
pub valid-sized : {s : State} {rs : List Rec} → Valid s rs → Every Sized rs
valid-sized nil = Every.nil
valid-sized (cons f v) = Every.cons (follows-sized f.follows) (valid-sized v)

-- all records of a chain fit their bytes
pub valid-narrow : {s : State} {rs : List Rec} → Valid s rs → Every Narrow rs
valid-narrow nil = Every.nil
valid-narrow (cons f v) = Every.cons (follows-narrow f.follows) (valid-narrow v)

-- ---- beginnings of a chain, and chains one after the other

-- every beginning of a chain is a chain
pub valid-take : {s : State} {rs : List Rec} (m : ℕ) → Valid s rs → Valid s (take m rs)
valid-take zero v = nil
valid-take (suc m) nil = nil
valid-take {s = s} (suc m) (cons {r = r} {rs = rs} f v) = cons f (valid-take {s = after s r} m v)

-- a chain, then one from where it led
pub valid-append : {s : State} {a : List Rec} (b : List Rec) → Valid s a → Valid (after_all s a) b → Valid s (a ++ b)
unfolding after_all
valid-append b nil w = w
valid-append b (cons f v) w = cons f (valid-append b v w)

-- a chain of two parts is a chain, then one from where it led
pub valid-split : (s : State) (a b : List Rec) → Valid s (a ++ b) → Valid s a × Valid (after_all s a) b
unfolding after_all
valid-split s [] b v = (nil, v)
valid-split s (r ∷ a) b (cons f v) = let w = valid-split (after s r) a b v in (cons f w.0, w.1)
