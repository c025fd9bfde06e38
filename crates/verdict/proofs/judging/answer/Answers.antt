-- The text is refused, or read; then the claim, the assignment and the records decide in turn.
use Rattle.std.proofs.Common.{ap, sym, ◌∙◌}
use Rattle.std.proofs.lemmas.Result.{err_from_is_err_and}
use Rattle.instance.specs.declared.answers.Checked.{Checked}
use Rattle.reader.specs.Theorems.Promise.{read_lies, read_turned}
use Rattle.derivation.specs.Check.{check_of}
use Rattle.verdict.proofs.Verdicts.{unclaimed, claim_checked, claim_followed}
use Rattle.verdict.proofs.judging.answer.Goals as goal

pub returns-in_err-counts-clause-judged : goal.returns-in_err-counts-clause-judged
unfolding check_of
returns-in_err-counts-clause-judged c =
    let turned = read_turned _ _ _ _ c.read.ensures _ c.in_err-counts.was in
    let exit = err_from_is_err_and c.from_residual.result c.from_residual.ensures.1 in
    rw (turned.reads, check_of, exit.1, exit.2) (ap Checked.Refused turned.told)

pub invariant_of-held : goal.invariant_of-held
invariant_of-held c = record { holds = (read_lies _ _ _ _ c.read.ensures _ c.in_ok-counts.was).holds }

pub returns-in_err-claim-clause-judged : goal.returns-in_err-claim-clause-judged
returns-in_err-claim-clause-judged c =
    let lies = read_lies _ _ _ _ c.read.ensures _ c.in_ok-counts.was in
    let exit = err_from_is_err_and c.from_residual-in_err-claim.result c.from_residual-in_err-claim.ensures.1 in
    let none = c.in_err-claim.ensures.ok_part in
    let fault = rw none at c.in_err-claim.ensures.value in
    rw (exit.1, exit.2) (ap Checked.Refused (cc) ∙ unclaimed _ _ _ lies.problem lies.reads (sym none ∙ c.claim_of.ensures))

pub returns-in_err-check_assignment-clause-judged : goal.returns-in_err-check_assignment-clause-judged
returns-in_err-check_assignment-clause-judged c =
    let lies = read_lies _ _ _ _ c.read.ensures _ c.in_ok-counts.was in
    let exit = err_from_is_err_and c.from_residual-in_err-check_assignment.result c.from_residual-in_err-check_assignment.ensures.1 in
    let claim = sym c.in_ok-claim.ensures.ok_part ∙ c.claim_of.ensures in
    rw (exit.1, exit.2)
    (c.in_err-check_assignment.ensures _ lies.problem lies.given ∙ claim_checked _ _ _ _ claim _ _ lies.reads)

pub returns-in_err-records-clause-judged : goal.returns-in_err-records-clause-judged
returns-in_err-records-clause-judged c =
    let lies = read_lies _ _ _ _ c.read.ensures _ c.in_ok-counts.was in
    let exit = err_from_is_err_and c.from_residual-in_err-records.result c.from_residual-in_err-records.ensures.1 in
    let claim = sym c.in_ok-claim.ensures.ok_part ∙ c.claim_of.ensures in
    rw (exit.1, exit.2)
    (c.in_err-records.ensures.shown lies.problem lies.given ∙ claim_followed _ lies.problem _ _ claim ∙ c.in_ok-check_assignment.ensures _ lies.problem lies.given ∙ claim_checked _ _ _ _ claim _ _ lies.reads)

pub returns-clause-judged : goal.returns-clause-judged
returns-clause-judged c =
    let lies = read_lies _ _ _ _ c.read.ensures _ c.in_ok-counts.was in
    let claim = sym c.in_ok-claim.ensures.ok_part ∙ c.claim_of.ensures in
    c.in_ok-records.ensures.shown lies.problem lies.given ∙ claim_followed _ lies.problem _ _ claim ∙ c.in_ok-check_assignment.ensures _ lies.problem lies.given ∙ claim_checked _ _ _ _ claim _ _ lies.reads
