-- the first k clauses have been entered
use Rattle.branch.specs.Roots.{Rooted}
use Rattle.branch.proofs.start.root.Given as goal

abbrev pub invariant-loop-k : goal.invariant-loop-k
invariant-loop-k l = Rooted l.held.store.now l.held.counts.clauses l.k l.cells
