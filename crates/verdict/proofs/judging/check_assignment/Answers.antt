-- Each way through the function is one case of what the claim asks.
use Rattle.std.proofs.Common.{ap, eq-eqb, ne_eqb}
use Rattle.std.proofs.lemmas.Result.{err_from_is_err_and}
use Rattle.instance.specs.declared.answers.Checked.{Checked}
use Rattle.derivation.specs.Check.{shown, claimed}
use Rattle.verdict.proofs.judging.check_assignment.Goals as goal

pub returns-in_default : goal.returns-in_default
unfolding claimed
returns-in_default c proof I given = rw c.in_default.is

pub returns-in_err-worth : goal.returns-in_err-worth
unfolding claimed shown
returns-in_err-worth c proof I given =
    let exit = err_from_is_err_and c.from_residual.result c.from_residual.ensures.1 in
    let refused = rw c.in_err-worth.was at (c.valued.ensures I given) in
    rw (c.in-Minimum.is, ← refused, exit.1, exit.2)

pub returns-then-worth-ne0 : goal.returns-then-worth-ne0
unfolding claimed shown
returns-then-worth-ne0 c proof I given =
    let worth = rw c.in_ok-worth.was at (c.valued.ensures I given) in
    rw (c.in-Minimum.is, ← worth, ne_eqb _ 0 c.if-worth-ne0.true, shown) (ap Checked.Refused c.at.ensures)

pub returns-then-worth-m : goal.returns-then-worth-m
unfolding claimed shown
returns-then-worth-m c proof I given =
    let worth = rw c.in_ok-worth.was at (c.valued.ensures I given) in
    rw (c.in-Minimum.is, ← worth, eq-eqb _ 0 c.if-worth-ne0.false, ne_eqb _ _ c.if-worth-m.true, shown) (ap Checked.Refused c.at-then-worth-m.ensures)

pub returns : goal.returns
unfolding claimed shown
returns c proof I given =
    let worth = rw c.in_ok-worth.was at (c.valued.ensures I given) in
    rw (c.in-Minimum.is, ← worth, eq-eqb _ 0 c.if-worth-ne0.false, eq-eqb _ _ c.if-worth-m.false, shown)
