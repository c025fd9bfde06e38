-- The reader's promise gives the instance in the store, or the refusal.
use Rattle.std.proofs.Common.{ap}
use Rattle.std.proofs.lemmas.Result.{err_from_is_err_and}
use Rattle.instance.specs.declared.answers.Valued.{Valued}
use Rattle.reader.specs.Theorems.Promise.{read_lies, read_turned}
use Rattle.valuation.specs.Value.{value_of}
use Rattle.valuation.proofs.valuing.value_left.Goals as goal

pub returns-in_err-counts : goal.returns-in_err-counts
unfolding value_of
returns-in_err-counts c =
    let turned = read_turned _ _ _ _ c.read.ensures _ c.in_err-counts.was in
    let exit = err_from_is_err_and c.from_residual.result c.from_residual.ensures.1 in
    rw (turned.reads, value_of, exit.1, exit.2) (ap Valued.Refused turned.told)

pub invariant_of-valued : goal.invariant_of-valued
invariant_of-valued c = record { holds = (read_lies _ _ _ _ c.read.ensures _ c.in_ok-counts.was).holds }

pub returns : goal.returns
unfolding value_of
returns c =
    let lies = read_lies _ _ _ _ c.read.ensures _ c.in_ok-counts.was in
    rw (lies.reads, value_of) (c.valued.ensures lies.problem lies.given)
