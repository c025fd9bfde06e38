-- The reader's promise gives the instance in the store, or the refusal.
use Rattle.std.proofs.Common.{ap₂, ◌∙◌}
use Rattle.std.proofs.lemmas.Result.{err_from_is_err_and}
use Rattle.reader.specs.Theorems.Promise.{read_lies, read_turned}
use Rattle.valuation.specs.Better.{chosen, better_of}
use Rattle.valuation.specs.Value.{value_of}
use Rattle.valuation.proofs.choosing.choice_left.Goals as goal

pub returns-in_err-counts : goal.returns-in_err-counts
unfolding better_of value_of chosen
returns-in_err-counts c =
    let turned = read_turned _ _ _ _ c.read.ensures _ c.in_err-counts.was in
    let exit = err_from_is_err_and c.from_residual.result c.from_residual.ensures.1 in
    rw (turned.reads, value_of, exit.1)

pub invariant_of-held : goal.invariant_of-held
invariant_of-held c = record { holds = (read_lies _ _ _ _ c.read.ensures _ c.in_ok-counts.was).holds }

pub returns-in_err-valued : goal.returns-in_err-valued
unfolding better_of value_of chosen
returns-in_err-valued c =
    let lies = read_lies _ _ _ _ c.read.ensures _ c.in_ok-counts.was in
    let exit = err_from_is_err_and c.from_residual-in_err-valued.result c.from_residual-in_err-valued.ensures.1 in
    let first = rw c.in_err-valued.was at (c.valued.ensures lies.problem lies.given) in
    rw (lies.reads, value_of, exit.1, ← first)

pub returns-in_err-valued-2 : goal.returns-in_err-valued-2
unfolding better_of value_of chosen
returns-in_err-valued-2 c =
    let lies = read_lies _ _ _ _ c.read.ensures _ c.in_ok-counts.was in
    let exit = err_from_is_err_and c.from_residual-in_err-valued-2.result c.from_residual-in_err-valued-2.ensures.1 in
    let first = rw c.in_ok-valued.was at (c.valued.ensures lies.problem lies.given) in
    let second = rw c.in_err-valued-2.was at (c.valued-2.ensures lies.problem lies.given) in
    rw (lies.reads, value_of, exit.1, ← first, ← second)

pub returns : goal.returns
unfolding better_of value_of
returns c =
    let lies = read_lies _ _ _ _ c.read.ensures _ c.in_ok-counts.was in
    let first = rw c.in_ok-valued.was at (c.valued.ensures lies.problem lies.given) in
    let second = rw c.in_ok-valued-2.was at (c.valued-2.ensures lies.problem lies.given) in
    c.cheaper.ensures ∙ rw (lies.reads, value_of) (ap₂ chosen first second)
