use Rattle.std.proofs.Common.{◌≡◌, rules, arith}
use Rattle.instance.specs.Faults.{numbered}
use Rattle.instance.specs.Refusals.{staged}
use Rattle.std.proofs.lemmas.Result.{err_from_is_err_and}
use Rattle.checker.proofs.Running.{next_later}
use Rattle.checker.proofs.Turns.{answer_end, answer_broken, answer_stop, answer_accepted, answer_more, running_on, ok_at, err_at}
use Rattle.checker.proofs.walk.Walk.run.Goals as goal

pub returns-in_default : goal.returns-in_default
returns-in_default c = rw c.at.ensures (answer_broken c.loop-at.invariant c.loop-at-test.true c.in_default.ensures)

pub returns-in_err-map_err : goal.returns-in_err-map_err
returns-in_err-map_err c =
    let p = err_from_is_err_and c.from_residual.result c.from_residual.ensures.1 in
    let q = err_at _ c.step.result c.map_err.result _ c.map_err.ensures.cases c.in_err-map_err.was in
    let (f, was, post) = q in
    let told : c.in_err-map_err.field-0.0 ≡ staged (numbered f) c.loop-at.at = search rules in
    rw (p.1, p.2, told) (answer_stop c.loop-at.invariant c.loop-at-test.true _ _ c.in-Some.ensures c.step.new.self f (rw was at c.step.ensures))

pub loop-at-smaller : goal.loop-at-smaller
loop-at-smaller c = omega (arith, next_later c.args.proof.now c.loop-at.at _ _ c.in-Some.ensures)

pub loop-at-preserved : goal.loop-at-preserved
loop-at-preserved c =
    running_on c.loop-at.invariant c.loop-at-test.true _ _ c.in-Some.ensures c.step.new.self (rw (ok_at _ c.step.result c.map_err.result _ c.map_err.ensures.cases c.in_ok-map_err.was, c.in-GoesOn.is) at c.step.ensures)

pub returns-in-AllClosed : goal.returns-in-AllClosed
returns-in-AllClosed c =
    rw c.at-in-AllClosed.ensures
    (answer_more c.loop-at.invariant c.loop-at-test.true _ _ c.in-Some.ensures c.step.new.self (rw (ok_at _ c.step.result c.map_err.result _ c.map_err.ensures.cases c.in_ok-map_err.was, c.in-AllClosed.is) at c.step.ensures) c.if-next-proof.true)

pub returns-in-AllClosed-2 : goal.returns-in-AllClosed-2
returns-in-AllClosed-2 c =
    answer_accepted c.loop-at.invariant c.loop-at-test.true _ _ c.in-Some.ensures c.step.new.self (rw (ok_at _ c.step.result c.map_err.result _ c.map_err.ensures.cases c.in_ok-map_err.was, c.in-AllClosed-2.is) at c.step.ensures) c.if-next-proof.false

pub returns : goal.returns
returns c = rw c.at-2.ensures (answer_end c.loop-at.invariant c.loop-at-test.false)
