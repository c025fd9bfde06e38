use Rattle.std.proofs.Common.{arith}
use Rattle.branch.proofs.Extending.{gains_mark, gains_weight, coming_small}
use Rattle.branch.proofs.Branch.gain.Goals as goal

pub returns-in-Hard-clause-gained : goal.returns-in-Hard-clause-gained
returns-in-Hard-clause-gained c =
    let room = c.requires.coming.3.room in
    rw c.in-Hard.is (gains_mark c.args.self.now.enough_cells (omega arith) c.requires.in_range c.put.ensures.stored)

pub overflow_add-gained : goal.overflow_add-gained
overflow_add-gained c = omega (arith, coming_small _ _ c.in-Soft.w c.args.literal (rw c.in-Soft.is at c.requires.coming) c.requires.in_range)

pub returns-in-Soft-clause-gained : goal.returns-in-Soft-clause-gained
returns-in-Soft-clause-gained c =
    let room = c.requires.coming.3.room in
    rw c.in-Soft.is (gains_weight c.args.self.now.enough_cells (omega arith) c.requires.in_range c.put-in-Soft.ensures.stored)
