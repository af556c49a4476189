-- `logs::past::bare_key` meets its contract. Assumes nothing.
use native.Mathlib.Omega.{arith}
use mathlib.Core.Path.{sym, ◌∙◌}
use borrow.Author.Tests.{eq-eqb, ne_eqb}
use Rattle.field.proofs.Test.{pick_true, pick-false}
use Rattle.logs.specs.Record.{length_of}
use Rattle.logs.specs.Table.{kinds, kind_at}
use Rattle.logs.specs.Scan.{bare_key}
use Rattle.logs.proofs.Signs.{bare-point}
use borrow.Author.Rules.{rules}
use Rattle.logs.proofs.past.bare_key.Statement.{statement}
use Rattle.logs.proofs.past.bare_key.Tie as tie

sign-requires : tie.Need-sign-requires
sign-requires c κs = search rules

get4-requires : tie.Need-get4-requires
unfolding length_of kind_at kinds
get4-requires c κs =
    let a = c.before.before.before in
    let q = bare-point a.args.sign a.args.m.now (c.if-sign.true ∙ c.before.sign.ensures) in
    omega (arith, a.requires, q.0)

returns : tie.Need-returns-then-sign
unfolding bare_key kind_at kinds
returns c = c.get4.ensures ∙ sym (pick_true _ _ _ (eq-eqb _ _ (c.before.if-sign.true ∙ c.before.before.sign.ensures)))

returns-2 : tie.Need-returns
unfolding bare_key kind_at kinds
returns-2 c = sym (pick-false _ _ _ (ne_eqb _ _ (λ q. c.if-sign.false (q ∙ sym c.before.sign.ensures))))

pub bare_key_spec : {M : Type 1} → statement M
bare_key_spec = tie.close (tie.spec sign-requires get4-requires returns returns-2)
