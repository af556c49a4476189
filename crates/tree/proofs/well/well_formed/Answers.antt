-- `tree::well::well_formed` meets its contract. Assumes nothing.
use mathlib.Core.Bool.{not}
use mathlib.Core.Path.{ap}
use native.Mathlib.Omega.{arith}
use Rattle.field.specs.Bytes.{Bytes}
use Rattle.tree.proofs.Chain.{well-once!, well-start!, well-head!, well-kept, well-level, entries_over, entries_below, root-room}
use Rattle.tree.proofs.well.well_formed.Goals as goal

pub returns-then-not-pointed_once : goal.returns-then-not-pointed_once
returns-then-not-pointed_once c = search well-once!

pub returns-then-not-starts_at_zero : goal.returns-then-not-starts_at_zero
returns-then-not-starts_at_zero c = search well-start!

pub headed-requires : goal.headed-requires
headed-requires c =
    let a = c in
    let o = c.pointed_once in
    let k = c.count_at-n in
    let w = a.args.w.now in
    let room = root-room w a.requires k.result k.ensures in
    (a.requires.whole, room, entries_below w o.result o.ensures (ap not c.if-not-pointed_once.false) a.requires k.result k.ensures)

pub returns-then-not-headed : goal.returns-then-not-headed
returns-then-not-headed c = search well-head!

pub kept-requires : goal.kept-requires
kept-requires c =
    let a = c in
    let o = c.pointed_once in
    let k = c.count_at-n in
    let w = a.args.w.now in
    let room = root-room w a.requires k.result k.ensures in
    (a.requires.whole, room, omega arith, entries_below w o.result o.ensures (ap not c.if-not-pointed_once.false) a.requires k.result k.ensures)

pub returns-then-not-kept : goal.returns-then-not-kept
returns-then-not-kept c =
    let a = c in
    let bytes : Bytes a.args.w.now = λ i. omega (arith, c.shared_slice_known-1.given i) in
    search well-kept

pub level_kept-requires : goal.level_kept-requires
level_kept-requires c =
    let a = c in
    let o = c.pointed_once in
    let k = c.count_at-n in
    let w = a.args.w.now in
    let room = root-room w a.requires k.result k.ensures in
    (a.requires.whole, room, entries_over w o.result o.ensures (ap not c.if-not-pointed_once.false) a.requires k.result k.ensures)

pub returns : goal.returns
returns c =
    let a = c in
    let bytes : Bytes a.args.w.now = λ i. omega (arith, c.shared_slice_known-1.given i) in
    search well-level
