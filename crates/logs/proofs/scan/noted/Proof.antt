-- `logs::scan::noted` meets its contract. Assumes nothing.
use Prim.Native.Nat.{ℕ}
use mathlib.Core.Path.{◌≡◌, refl, sym, ap, ◌∙◌}
use mathlib.Core.Bool.{Bool, true, false}
use borrow.Author.Tests.{eq-eqb, ne_eqb}
use Rattle.field.specs.Test.{pick}
use Rattle.field.proofs.Test.{pick_true, pick-false}
use Rattle.logs.specs.Scan.{log_no, noted}
use Rattle.logs.specs.declared.scan.Mark.{Mark}
use borrow.Author.Rules.{rules}
use Rattle.logs.proofs.scan.noted.Statement.{statement}
use Rattle.logs.proofs.scan.noted.Tie as tie

mark : Bool → ℕ → Mark
mark b n = record { ends = b; number = log_no n }

-- a mark that is kept as it is: its number where it is set
kept : (b : Bool) (n : ℕ) → mark b (pick b n 0) ≡ pick b (mark b n) (mark false 0)
unfolding pick
kept true n = refl
kept false n = refl

number-if-requires : tie.Need-number_if-requires
number-if-requires c κs = search rules

returns : tie.Need-returns-then-at-forced
unfolding noted mark
returns c =
    let e = c.before.before.args.e in
    ap (mark e.ends) c.number_if.ensures ∙ kept e.ends e.number.0 ∙ ap (pick e.ends e) (sym (pick-false _ _ _ (ne_eqb _ _ c.before.if-at-forced.true)))

returns-2 : tie.Need-returns-then-e
unfolding noted
returns-2 c = sym (pick_true _ _ _ c.if-e.true)

returns-3 : tie.Need-returns
unfolding noted
returns-3 c = sym (pick-false _ _ _ c.if-e.false ∙ pick_true _ _ _ (eq-eqb _ _ c.before.if-at-forced.false))

pub noted_spec : {M : Type 1} → statement M
noted_spec = tie.close (tie.spec number-if-requires returns returns-2 returns-3)
