-- The loop: what the clauses gone through make of it.
use Rattle.valuation.specs.Tally.{Tallied}
use Rattle.valuation.proofs.tally.tallied.Given as goal

abbrev pub invariant-loop-k : goal.invariant-loop-k
invariant-loop-k l = Tallied l.held.store.now l.bytes l.k l.worth
