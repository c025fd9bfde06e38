use Rattle.std.proofs.Common.{suc, List, arith}
use Rattle.instance.specs.Clause.{soft, Problem}
use Rattle.instance.specs.Theorems.Decoded.{meant_decoded}
use Rattle.calculus.specs.Branch.{Branch, put}
use Rattle.checker.proofs.Entering.{Poised, next_low, next_coded, coming}
use Rattle.checker.proofs.Walks.{poised_first, frame_room, extended}
use Rattle.checker.proofs.walk.Walk.extend.Goals as goal
use Rattle.checker.proofs.walk.Walk.extend.Goals.{After-spend}

-- the state that the extension leaves
poised : (c : After-spend) → (I : Problem) × (b : Branch) × (bs : List Branch)
    × Poised I c.args.self.now.held.store.now c.args.self.now.frames.words.now (record { clause = c.args.k; next = c.start_of-first.result; height = c.spend.new.self.journal.top }) c.spend.new.self.journal.cells.now c.spend.new.self.journal.log.now c.args.self.now.frames.depth b bs
poised c =
    let (I, b, bs, s, can) = c.requires.extending in
    (I, put (suc c.args.k) (soft 0) b, bs, rw c.start_of-first.ensures (poised_first c.args.self.now s c.args.k can c.spend.new.self c.spend.ensures.spent))

pub overflow_add-first : goal.overflow_add-first
overflow_add-first c = omega (arith, next_low (poised (goal.at.overflow_add-first c).After-spend).3)

pub push-requires : goal.push-requires
push-requires c =
    let (I, b, bs, s, can) = c.requires.extending in
    frame_room c.args.self.now s c.args.k can c.spend.new.self c.spend.ensures.spent

pub literal_at-literal-requires : goal.literal_at-literal-requires
literal_at-literal-requires c = next_low (poised (goal.at.literal_at-literal-requires c).After-spend).3

pub gain-requires-clause-coming : goal.gain-requires-clause-coming
gain-requires-clause-coming c = rw (c.weight_of-weight.ensures, meant_decoded) (coming (poised (goal.at.gain-requires-clause-coming c).After-spend).3)

pub gain-requires-clause-in_range : goal.gain-requires-clause-in_range
gain-requires-clause-in_range c = rw c.literal_at-literal.ensures (next_coded (poised (goal.at.gain-requires-clause-in_range c).After-spend).3)

pub returns : goal.returns
returns c I b bs s can =
    extended c.args.self.now s c.args.k can c.spend.new.self c.spend.ensures.spent c.gain.new.self
    (rw (c.literal_at-literal.ensures, c.start_of-first.ensures, c.weight_of-weight.ensures, meant_decoded) at c.gain.ensures.gained) c.push.new.self
    (rw c.start_of-first.ensures at c.push.ensures.words) c.push.ensures.depth
