use Rattle.std.proofs.Common.{sym, ◌∙◌, arith}
use Rattle.std.proofs.lemmas.Bool.Decides.{nat_tests}
use Rattle.reader.specs.Numbers.{digit}
use Rattle.reader.proofs.Digits.{spelled_nil, spelled_zero, number_misspelled, read_none, read_more, read_other, read_said}
use Rattle.reader.proofs.numbers.read_number.Goals as goal
use Rattle.reader.proofs.numbers.read_number.Goals.{
  then-is_empty-via-then-is_empty,
  then-is_empty-via-else-is_empty+then-token-eq48,
}

pub returns-then-is_empty : goal.returns-then-is_empty
returns-then-is_empty c =
    elim c.then-is_empty.branch [
      | then-is_empty-via-then-is_empty w ↦ number_misspelled _ _ (spelled_nil _ (grind (arith, nat_tests)))
      | then-is_empty-via-else-is_empty+then-token-eq48 w ↦ number_misspelled _ _ (spelled_zero _ w.if-token-eq48.true)
    ]

pub loop-b-init : goal.loop-b-init
loop-b-init c = read_none _ _

pub loop-b-preserved : goal.loop-b-preserved
unfolding digit
loop-b-preserved c =
    let e = sym c.is_ascii_digit.ensures.value ∙ c.if-not-is_ascii_digit.false in
    read_more c.loop-b.invariant c.loop-b-test.true e _ (omega arith)

pub returns-then-not-is_ascii_digit : goal.returns-then-not-is_ascii_digit
unfolding digit
returns-then-not-is_ascii_digit c =
    let e = sym c.is_ascii_digit.ensures.value ∙ c.if-not-is_ascii_digit.true in
    read_other c.loop-b.invariant (λ none. omega arith) c.if-token-eq48.false c.loop-b-test.true e

pub returns : goal.returns
returns c =
    rw c.then_some.ensures
    (read_said c.loop-b.invariant (grind (arith, nat_tests)) c.if-token-eq48.false (omega arith))
