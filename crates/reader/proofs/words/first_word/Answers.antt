-- Each answer is what `first_word` says of a weight so spelled, after clauses cs of that number and total.
use Rattle.std.proofs.Common.{Option, Result, ◌∙◌, ℕ, List, ◌≡◌, ◌≤◌, arith, length}
use Rattle.std.specs.Option.{ok_or}
use Rattle.std.proofs.lemmas.Result.{err_from_is_err_and}
use Rattle.instance.specs.Limits.{most_weight}
use Rattle.instance.specs.Clause.{Clause, total_of}
use Rattle.instance.specs.declared.faults.Fault.{Fault}
use Rattle.instance.specs.declared.faults.Fault.TheVariants.{WeightOutOfRange}
use Rattle.instance.specs.declared.weights.Weight.{Weight}
use Rattle.reader.specs.Words.{weight_spelled, first_word}
use Rattle.reader.specs.Said.{spelled_as}
use Rattle.reader.proofs.FirstWords.{weighed_by, first_by, first_many, first_few, first_over, first_weighs, first_says, weight_light}
use Rattle.reader.proofs.words.first_word.Goals as goal
use Rattle.reader.proofs.words.first_word.Goals.{Else-clauses-ge-CLAUSES}

by_spelling : (t : List ℕ) (clauses total : ℕ) → total ≤ most_weight → (cs : List Clause) → clauses ≡ length cs
    → total ≡ total_of cs → {r : Result (Option Weight) Fault} → r ≡ spelled_as (weight_spelled t)
    → first_by clauses total r ≡ first_word cs t
by_spelling t clauses total light cs k m e = rw (e, k, m) (first_says cs t (rw m at light))

pub returns-in_err-spelled : goal.returns-in_err-spelled
returns-in_err-spelled c cs k m =
    let p = err_from_is_err_and c.from_residual.result c.from_residual.ensures.1 in
    rw (p.1, p.2) (by_spelling _ _ _ c.requires cs k m c.in_err-spelled.ensures)

pub returns-then-clauses-ge-CLAUSES : goal.returns-then-clauses-ge-CLAUSES
returns-then-clauses-ge-CLAUSES c cs k m =
    first_many _ _ c.in_ok-spelled.spelled c.if-clauses-ge-CLAUSES.true
    ∙ by_spelling _ _ _ c.requires cs k m c.in_ok-spelled.ensures

-- with a clause left, the weight says the rest
by_weight : (c : Else-clauses-ge-CLAUSES) (cs : List Clause) → c.args.clauses ≡ length cs → c.args.total ≡ total_of cs
    → {r : Result Weight Fault} → r ≡ ok_or c.in_ok-spelled.spelled WeightOutOfRange
    → weighed_by c.args.total r ≡ first_word cs c.args.token.now
by_weight c cs k m e =
    first_few _ _ _ c.if-clauses-ge-CLAUSES.false e ∙ by_spelling _ _ _ c.requires cs k m c.in_ok-spelled.ensures

pub returns-in_err-weight : goal.returns-in_err-weight
returns-in_err-weight c cs k m =
    let p = err_from_is_err_and c.from_residual-in_err-weight.result c.from_residual-in_err-weight.ensures.1 in
    rw (p.1, p.2) (by_weight (goal.at.returns-in_err-weight c).Else-clauses-ge-CLAUSES cs k m c.in_err-weight.ensures.value)

pub overflow_add-total : goal.overflow_add-total
overflow_add-total c =
    let t = weight_spelled c.args.token.now in
    omega (arith, weight_light t _ c.in_ok-weight.weight c.in_ok-spelled.ensures c.in_ok-weight.ensures.value)

pub returns-then-total-from-gt-WEIGHT : goal.returns-then-total-from-gt-WEIGHT
returns-then-total-from-gt-WEIGHT c cs k m =
    first_over c.args.total c.in_ok-weight.weight (omega arith)
    ∙ by_weight (goal.at.returns-then-total-from-gt-WEIGHT c).Else-clauses-ge-CLAUSES cs k m c.in_ok-weight.ensures.value

pub returns : goal.returns
returns c cs k m =
    first_weighs c.args.total c.in_ok-weight.weight (omega arith)
    ∙ by_weight (goal.at.returns c).Else-clauses-ge-CLAUSES cs k m c.in_ok-weight.ensures.value
