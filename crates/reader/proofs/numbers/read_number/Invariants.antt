-- The loop reads digit by digit; the value never passes one over the limit.
use Rattle.reader.proofs.Digits.{ReadTo}
use Rattle.reader.proofs.numbers.read_number.Given as goal

abbrev pub invariant-loop-b : goal.invariant-loop-b
invariant-loop-b l = ReadTo l.token l.limit l.value l.b-index
