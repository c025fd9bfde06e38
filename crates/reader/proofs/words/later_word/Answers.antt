-- Each answer is what `later_word` says of the token: its end, or a literal of a sign.
use Rattle.std.proofs.Common.{ℕ, Option, Result, ◌≤◌, ◌≡◌, sym, ap, ◌∙◌, arith, get_or}
use Rattle.std.specs.Option.{ok_or}
use Rattle.std.proofs.lemmas.Result.{err_from_is_err_and}
use Rattle.instance.specs.Limits.{most_variables}
use Rattle.instance.specs.declared.faults.Fault.{Fault}
use Rattle.instance.specs.declared.faults.Fault.TheVariants.{VariableTooLarge}
use Rattle.reader.specs.Numbers.{zero_digit}
use Rattle.reader.specs.Said.{number_of}
use Rattle.reader.specs.Words.{minus, later_word}
use Rattle.reader.proofs.Bytes.{is_alone}
use Rattle.reader.proofs.LaterWords.{
  literal_by,
  variable_by,
  literal_many,
  literal_few,
  variable_most,
  signs,
  sign_coded,
  sign_small,
  later_ends,
  Signed,
  signed_minus,
  signed_plain,
}
use Rattle.reader.proofs.words.later_word.Goals as goal
use Rattle.reader.proofs.words.later_word.Goals.{
  After-read_number,
  In_ok-read_number,
  Else-written-ge-LITERALS,
  else-token-lt1+in-45,
  in_default,
}

-- the digits and the sign
signed : (c : After-read_number) → Signed c.args.token.now c.if-token-lt1.is_opposite.0.now c.if-token-lt1.is_opposite.1
signed c =
    let t = c.args.token.now in
    elim c.if-token-lt1.branch [
      | else-token-lt1+in-45 w ↦
          let first : get_or t 0 0 ≡ minus = grind arith in
          rw w.is_opposite-is (signed_minus t c.requires first)
      | in_default w ↦
          rw w.is_opposite-is (signed_plain t c.requires (λ e. grind arith) (λ e f. grind arith))
    ]

pub returns-in-48 : goal.returns-in-48
returns-in-48 c = later_ends _ _ (is_alone zero_digit c.args.token.now (omega arith) (omega arith))

-- what the number says of the token
by_number : (c : After-read_number) {r : Result (Option ℕ) Fault} → r ≡ number_of most_variables c.if-token-lt1.is_opposite.0.now
    → literal_by c.args.written (signs c.if-token-lt1.is_opposite.1) r ≡ later_word c.args.written c.args.token.now
by_number c e = ap (literal_by c.args.written (signs c.if-token-lt1.is_opposite.1)) e ∙ sym (signed c c.args.written)

pub returns-in_err-read_number : goal.returns-in_err-read_number
returns-in_err-read_number c =
    let p = err_from_is_err_and c.from_residual.result c.from_residual.ensures.1 in
    rw (p.1, p.2) (by_number (goal.at.returns-in_err-read_number c).After-read_number c.in_err-read_number.ensures)

-- what the variable says
by_variable : (c : In_ok-read_number) {r : Result ℕ Fault} → r ≡ ok_or c.in_ok-read_number.field-0 VariableTooLarge
    → variable_by c.args.written (signs c.if-token-lt1.is_opposite.1) r ≡ later_word c.args.written c.args.token.now
by_variable c e =
    ap (variable_by c.args.written (signs c.if-token-lt1.is_opposite.1)) e
    ∙ by_number (goal.at.In_ok-read_number c).After-read_number c.in_ok-read_number.ensures

pub returns-in_err-variable : goal.returns-in_err-variable
returns-in_err-variable c =
    let p = err_from_is_err_and c.from_residual-in_err-variable.result c.from_residual-in_err-variable.ensures.1 in
    rw (p.1, p.2) (by_variable (goal.at.returns-in_err-variable c).In_ok-read_number c.in_err-variable.ensures.value)

pub returns-then-written-ge-LITERALS : goal.returns-then-written-ge-LITERALS
returns-then-written-ge-LITERALS c =
    literal_many c.args.written (signs c.if-token-lt1.is_opposite.1) c.in_ok-variable.variable (omega arith)
    ∙ by_variable (goal.at.returns-then-written-ge-LITERALS c).In_ok-read_number c.in_ok-variable.ensures.value

most : (c : Else-written-ge-LITERALS) → c.in_ok-variable.variable ≤ most_variables
most c = variable_most c.if-token-lt1.is_opposite.0.now _ _ c.in_ok-read_number.ensures c.in_ok-variable.ensures.value

pub overflow_mul-result : goal.overflow_mul-result
overflow_mul-result c = omega (arith, most c)

pub overflow_add-result : goal.overflow_add-result
overflow_add-result c =
    omega (arith, most (goal.at.overflow_add-result c).Else-written-ge-LITERALS, sign_small c.if-token-lt1.is_opposite.1)

pub returns : goal.returns
returns c =
    let o = c.if-token-lt1.is_opposite.1 in
    let x = c.in_ok-variable.variable in
    rw (c.from.ensures, sign_coded o x)
    (literal_few c.args.written (signs o) x (omega arith)
    ∙ by_variable (goal.at.returns c).In_ok-read_number c.in_ok-variable.ensures.value)
