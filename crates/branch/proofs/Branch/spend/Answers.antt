use Rattle.std.proofs.Common.{arith}
use Rattle.branch.proofs.Extending.{open_room, spends}
use Rattle.branch.proofs.Branch.spend.Goals as goal

pub put-requires : goal.put-requires
put-requires c =
    let room = open_room _ _ _ c.requires.open_clause c.requires.in_range in
    (omega arith, omega arith)

pub returns-clause-spent : goal.returns-clause-spent
returns-clause-spent c =
    let self = c.args.self.now in
    let room = open_room _ _ _ c.requires.open_clause c.requires.in_range in
    spends self.enough_cells (omega arith) c.requires.in_range c.put.ensures.stored
