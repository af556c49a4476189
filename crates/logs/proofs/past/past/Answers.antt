-- `logs::past::past` meets its contract: a law for each sign. Assumes nothing.
use Prim.Native.Nat.{◌+◌, ◌-◌, ◌≤◌, ◌<◌}
use native.Mathlib.Omega.{arith}
use mathlib.Core.Path.{◌≡◌, sym, ◌∙◌}
use mathlib.Core.Bool.{true}
use lib.ListN.{length, drop, get_or, length-drop}
use lib.Dec.{eqb}
use borrow.Author.Rules.{part_to_end}
use Rattle.field.specs.Test.{pick}
use Rattle.logs.specs.Record.{begin, length_of}
use Rattle.logs.specs.Log.{saves_at}
use Rattle.logs.specs.Table.{kinds, kind_at}
use Rattle.logs.specs.Scan.{begun, went, bare_long, bare_key, ended, turned}
use Rattle.logs.proofs.Begun.{one-most}
use Rattle.logs.proofs.Signs.{Way, bare-some, begin-room-fixed, way-past}
use Rattle.logs.proofs.past.past.Goals as goal
use Rattle.logs.proofs.past.past.Goals.{After-sign, Else-sign-3, Then-sign-2, Then-sign-3}

-- what each sign says of the record and of the numbers after it
on : (c : After-sign) → let a = c.args in
    Way (get_or a.l.now (a.w.at + 1) 0) a.w (drop a.w.at a.l.now) (eqb (get_or a.l.now (a.w.begin + 16) 0) 1) (turned a.l.now a.w)
on c = let a = c in way-past a.args.l.now a.args.w a.requires.1

-- the bytes from the record on
rest : (c : After-sign) → let a = c.args in length (drop a.w.at a.l.now) ≡ length a.l.now - a.w.at
rest c = let a = c.args in length-drop a.w.at a.l.now

-- an LB, with the record that it may carry
starts : (c : Then-sign-2) → let a = c.args in
    (length_of begin (pick (saves_at (drop a.w.at a.l.now)) 1 0) ≤ length (drop a.w.at a.l.now)) × (a.w.unit.0 < 4294967295)
    × (turned a.l.now a.w ≡ begun a.w (pick (saves_at (drop a.w.at a.l.now)) 1 0))
unfolding kind_at kinds
starts c = (on (goal.at.Then-sign-2 c).After-sign).begins (c.if-sign-2.true ∙ c.sign-2.ensures)

-- an LE
last : (c : Then-sign-3) → let a = c.args in
    (a.w.opened ≡ true) × (turned a.l.now a.w ≡ ended a.w (eqb (get_or a.l.now (a.w.begin + 16) 0) 1))
unfolding kind_at kinds
last c = (on (goal.at.Then-sign-3 c).After-sign).ends (c.if-sign-3.true ∙ c.sign-3.ensures)

-- an LI, LM or LG
bare : (c : Else-sign-3) → let a = c.args in
    (bare_long (get_or a.l.now (a.w.at + 1) 0) ≤ length (drop a.w.at a.l.now))
    × (turned a.l.now a.w
    ≡ went a.w (bare_long (get_or a.l.now (a.w.at + 1) 0)) 0 (bare_key (get_or a.l.now (a.w.at + 1) 0) (drop a.w.at a.l.now)) a.w.moved)
unfolding kind_at kinds
bare c =
    let second = c in
    let first = second in
    (on (goal.at.Else-sign-3 c).After-sign).others (λ q. first.if-sign.false (q ∙ sym first.sign.ensures)) (λ q. second.if-sign-2.false (q ∙ sym second.sign-2.ensures))
    (λ q. c.if-sign-3.false (q ∙ sym c.sign-3.ensures))

pub bounds-l-at : goal.bounds-l-at
bounds-l-at c =
    let a = c in
    omega (arith, (way-past a.args.l.now a.args.w a.requires.1).room, length-drop a.args.w.at a.args.l.now)

pub taken_out-requires : goal.taken_out-requires
unfolding kind_at kinds
taken_out-requires c =
    let k = c in
    let x = (on (goal.at.taken_out-requires c).After-sign).takes (c.if-sign.true ∙ k.sign.ensures) in
    ((on (goal.at.taken_out-requires c).After-sign).number, rw part_to_end (omega (arith, rest (goal.at.taken_out-requires c).After-sign)), k.requires.0.steps, rw part_to_end x.0)

pub returns-then-sign : goal.returns-then-sign
unfolding kind_at kinds
returns-then-sign c =
    let k = c in
    let x = (on (goal.at.returns-then-sign c).After-sign).takes (c.if-sign.true ∙ k.sign.ensures) in
    rw part_to_end at c.taken_out.ensures ∙ sym x.1

pub carried-requires : goal.carried-requires
carried-requires c = rw part_to_end (begin-room-fixed _ _ (starts (goal.at.carried-requires c).Then-sign-2).0)

pub begun-requires : goal.begun-requires
begun-requires c =
    let b = c in
    let k = b in
    let e = rw part_to_end at c.carried.ensures in
    (one-most _ _ e, (on (goal.at.begun-requires c).After-sign).number, (starts (goal.at.begun-requires c).Then-sign-2).1, rw e (omega (arith, (starts (goal.at.begun-requires c).Then-sign-2).0, rest (goal.at.begun-requires c).After-sign)))

pub returns-then-sign-2 : goal.returns-then-sign-2
returns-then-sign-2 c =
    let b = c in
    c.begun.ensures ∙ rw (rw part_to_end at c.carried.ensures) (sym (starts (goal.at.returns-then-sign-2 c).Then-sign-2).2)

pub overflow_add-begin : goal.overflow_add-begin
overflow_add-begin c = omega (arith, c.requires.0.room (last (goal.at.overflow_add-begin c).Then-sign-3).0)

pub bounds-l-begin : goal.bounds-l-begin
bounds-l-begin c = omega (arith, c.requires.0.room (last (goal.at.bounds-l-begin c).Then-sign-3).0)

pub ended-requires : goal.ended-requires
ended-requires c = let k = c in ((on (goal.at.ended-requires c).After-sign).number, omega (arith, (on (goal.at.ended-requires c).After-sign).room, rest (goal.at.ended-requires c).After-sign))

pub returns-then-sign-3 : goal.returns-then-sign-3
returns-then-sign-3 c = c.ended.ensures ∙ sym (last (goal.at.returns-then-sign-3 c).Then-sign-3).1

pub bare_key-requires : goal.bare_key-requires
bare_key-requires c = rw part_to_end (bare (goal.at.bare_key-requires c).Else-sign-3).0

pub went-requires : goal.went-requires
went-requires c =
    let b = c in
    let k = b in
    let long = c.bare_long.ensures in
    let room = (bare (goal.at.went-requires c).Else-sign-3).0 in
    ((on (goal.at.went-requires c).After-sign).number, omega (arith, long, room, rest (goal.at.went-requires c).After-sign), omega (arith, long, k.requires.0.steps, bare-some (get_or k.args.l.now (k.args.w.at + 1) 0)))

pub returns : goal.returns
returns c =
    let b = c in
    c.went.ensures ∙ rw (c.bare_long.ensures, rw part_to_end at c.bare_key.ensures) (sym (bare (goal.at.returns c).Else-sign-3).1)
