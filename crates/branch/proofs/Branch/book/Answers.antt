use Rattle.branch.proofs.Contradicting.{settled}
use Rattle.branch.proofs.Branch.book.Goals as goal

pub returns-clause-settled : goal.returns-clause-settled
returns-clause-settled c =
    let (lp, lq, room) = c.requires.in_bounds in
    settled c.put.ensures.stored c.put-2.ensures.stored c.put-3.ensures.stored c.args.self.now.enough_cells lp lq room
