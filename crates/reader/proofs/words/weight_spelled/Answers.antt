use Rattle.std.proofs.Common.{ℕ, Option, Result, ◌≡◌, arith, rules}
use Rattle.std.specs.Option.{option_map}
use Rattle.std.proofs.lemmas.Result.{err_from_is_err_and}
use Rattle.instance.specs.declared.weights.Weight.TheVariants.{Soft}
use Rattle.instance.specs.Limits.{most_weight}
use Rattle.instance.specs.declared.faults.Fault.{Fault}
use Rattle.reader.specs.Numbers.{zero_digit}
use Rattle.reader.specs.Said.{number_of, spelled_as}
use Rattle.reader.specs.Words.{letter_h, weight_spelled}
use Rattle.reader.proofs.Bytes.{is_alone, not_alone}
use Rattle.reader.proofs.FirstWords.{spelled_by, spells_hard, spells_zero, spells_number}
use Rattle.reader.proofs.words.weight_spelled.Goals as goal
use Rattle.reader.proofs.words.weight_spelled.Goals.{After-read_number}

pub returns-in-h : goal.returns-in-h
returns-in-h c = spells_hard _ (is_alone letter_h c.args.token.now (omega arith) (omega arith))

pub returns-in-48 : goal.returns-in-48
returns-in-48 c =
    let t = c.args.token.now in
    spells_zero t (not_alone letter_h t (λ e f. omega arith)) (is_alone zero_digit t (omega arith) (omega arith))

-- neither `h` nor `0`
by_number : (c : After-read_number) {r : Result (Option ℕ) Fault} → r ≡ number_of most_weight c.args.token.now
    → spelled_by r ≡ spelled_as (weight_spelled c.args.token.now)
by_number c e =
    let t = c.args.token.now in
    spells_number t (not_alone letter_h t (λ e f. grind arith)) (not_alone zero_digit t (λ e f. grind arith)) e

pub returns-in_err-read_number-in_default : goal.returns-in_err-read_number-in_default
returns-in_err-read_number-in_default c =
    let p = err_from_is_err_and c.from_residual.result c.from_residual.ensures.1 in
    rw (p.1, p.2)
    (by_number (goal.at.returns-in_err-read_number-in_default c).After-read_number c.in_err-read_number-in_default.ensures)

pub returns-in_ok-read_number-in_default : goal.returns-in_ok-read_number-in_default
returns-in_ok-read_number-in_default c =
    let h : c.map.result ≡ option_map Soft c.in_ok-read_number-in_default.field-0 = search rules in
    rw h
    (by_number (goal.at.returns-in_ok-read_number-in_default c).After-read_number c.in_ok-read_number-in_default.ensures)
