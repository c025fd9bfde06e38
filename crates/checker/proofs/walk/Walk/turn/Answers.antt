use Rattle.std.proofs.Common.{List, ◌-◌, arith}
use Rattle.instance.specs.Clause.{Problem}
use Rattle.instance.specs.Theorems.Decoded.{meant_decoded}
use Rattle.journal.specs.Theorems.Stores.{rewound_length}
use Rattle.calculus.specs.Branch.{Branch}
use Rattle.checker.proofs.Entering.{Poised, clause_low, next_low, next_coded, coming}
use Rattle.checker.proofs.Walks.{rewindable, poised_last, turned_last, turned_more}
use Rattle.checker.proofs.walk.Walk.turn.Goals as goal
use Rattle.checker.proofs.walk.Walk.turn.Goals.{After-rewind}

-- the state that the last extension left
poised : (c : After-rewind) → (I : Problem) × (state : Branch) × (rest : List Branch)
    × Poised I c.args.self.now.held.store.now c.args.self.now.frames.words.now c.last-frame.result c.rewind.new.self.cells.now c.rewind.new.self.log.now (c.args.self.now.frames.depth - 1) state rest
poised c =
    let (I, b, bs, s) = c.requires.standing in
    let (state, rest, open_is, p) = poised_last c.args.self.now s c.requires.deep c.last-frame.result c.last-frame.ensures c.rewind.new.self c.rewind.ensures.cells c.rewind.ensures.log in
    (I, state, rest, p)

pub rewind-requires : goal.rewind-requires
rewind-requires c =
    let (I, b, bs, s) = c.requires.standing in
    rewindable c.args.self.now s c.requires.deep c.last-frame.result c.last-frame.ensures

pub invariant_of-branch-clause-enough_cells : goal.invariant_of-branch-clause-enough_cells
invariant_of-branch-clause-enough_cells c =
    let self = c.args.self.now in
    rw (c.rewind.ensures.cells, rewound_length self.branch.journal.cells.now self.branch.journal.log.now self.branch.journal.top c.last-frame.result.height) self.branch.enough_cells

pub literal_at-literal-requires : goal.literal_at-literal-requires
literal_at-literal-requires c = next_low (poised (goal.at.literal_at-literal-requires c).After-rewind).3

pub weight_of-weight-requires : goal.weight_of-weight-requires
weight_of-weight-requires c = clause_low (poised (goal.at.weight_of-weight-requires c).After-rewind).3

pub gain-requires-clause-coming : goal.gain-requires-clause-coming
gain-requires-clause-coming c =
    rw (c.rewind.ensures.top, c.weight_of-weight.ensures, meant_decoded) (coming (poised (goal.at.gain-requires-clause-coming c).After-rewind).3)

pub gain-requires-clause-in_range : goal.gain-requires-clause-in_range
gain-requires-clause-in_range c = rw c.literal_at-literal.ensures (next_coded (poised (goal.at.gain-requires-clause-in_range c).After-rewind).3)

pub overflow_add-frame : goal.overflow_add-frame
overflow_add-frame c = omega (arith, next_low (poised (goal.at.overflow_add-frame c).After-rewind).3)

pub end_of-requires : goal.end_of-requires
end_of-requires c = clause_low (poised (goal.at.end_of-requires c).After-rewind).3

pub overflow_add-frame-else-frame-end_of : goal.overflow_add-frame-else-frame-end_of
overflow_add-frame-else-frame-end_of c = omega (arith, next_low (poised (goal.at.overflow_add-frame-else-frame-end_of c).After-rewind).3)

pub returns-then-frame-end_of : goal.returns-then-frame-end_of
returns-then-frame-end_of c I b bs s =
    turned_last c.args.self.now s c.requires.deep c.last-frame.result c.last-frame.ensures c.rewind.new.self c.rewind.ensures.cells c.rewind.ensures.log c.gain.new.self
    (rw (c.rewind.ensures.top, c.literal_at-literal.ensures, c.weight_of-weight.ensures, meant_decoded) at c.gain.ensures.gained) c.pop.new.self
    (rw c.end_of.ensures at c.if-frame-end_of.true) c.pop.ensures.words c.pop.ensures.depth

pub returns-else-frame-end_of : goal.returns-else-frame-end_of
returns-else-frame-end_of c I b bs s =
    turned_more c.args.self.now s c.requires.deep c.last-frame.result c.last-frame.ensures c.rewind.new.self c.rewind.ensures.cells c.rewind.ensures.log c.gain.new.self
    (rw (c.rewind.ensures.top, c.literal_at-literal.ensures, c.weight_of-weight.ensures, meant_decoded) at c.gain.ensures.gained) c.advance.new.self
    (rw c.end_of.ensures at c.if-frame-end_of.false) c.advance.ensures.words c.advance.ensures.depth
