-- What the loop has passed changes no reading.
use Rattle.std.proofs.Common.{◌-◌, ◌≤◌, ◌≡◌, length}
use Rattle.instance.specs.Clause.{Problem}
use Rattle.reader.specs.Reading.{lines_read}
use Rattle.reader.proofs.Lexing.{from}
use Rattle.reader.proofs.tokens.next_line.Given as goal

abbrev pub invariant-loop-i : goal.invariant-loop-i
invariant-loop-i l = record {
  after : l.from ≤ l.i;
  here : l.i ≤ length l.text;
  same : (I : Problem) → lines_read I (from l.text l.from) ≡ lines_read I (from l.text l.i);
}

abbrev pub decreases-loop-i : goal.decreases-loop-i
decreases-loop-i l = length l.text - l.i
