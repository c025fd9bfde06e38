-- The loop's invariant is Running: whatever branches are open, what is left of the derivation gives the whole answer.
use Rattle.std.proofs.Common.{◌-◌, length}
use Rattle.checker.proofs.Turns.{Running}
use Rattle.checker.proofs.walk.Walk.run.Given as goal

abbrev pub invariant-loop-at : goal.invariant-loop-at
invariant-loop-at l = Running l.claim l.proof l.fn.from l.fn.self l.self l.at l.records

abbrev pub decreases-loop-at : goal.decreases-loop-at
decreases-loop-at l = length l.proof - l.at
