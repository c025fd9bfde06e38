use Rattle.std.proofs.Common.{arith}
use Rattle.branch.proofs.Rules.{kill_room}
use Rattle.branch.proofs.Contradicting.{frees, clash_small, clash_room, clash_dead, clash_nothing, clash_settled}
use Rattle.branch.proofs.Branch.contradict.Goals as goal

pub put-requires : goal.put-requires
put-requires c =
    let (cs, d, b, h, alive) = c.requires.alive in
    (omega arith, omega (arith, kill_room h alive))

pub returns-then-q_hard-clause-clashed : goal.returns-then-q_hard-clause-clashed
returns-then-q_hard-clause-clashed c cs d b h alive =
    let (lo, hi) = c.requires.in_range in
    clash_dead lo hi h c.is_hard-p_hard.ensures c.is_hard-q_hard.ensures alive c.if-p_hard.true c.if-q_hard.true c.put.ensures.stored c.args.self.now.enough_log

pub returns-then-s-eq0-clause-clashed : goal.returns-then-s-eq0-clause-clashed
returns-then-s-eq0-clause-clashed c cs d b h alive =
    let (lo, hi) = c.requires.in_range in
    clash_nothing lo hi h c.is_hard-p_hard.ensures c.is_hard-q_hard.ensures _ c.else-p_hard.either c.settle-s.ensures _ c.if-s-eq0.true

pub book-requires-clause-in_bounds : goal.book-requires-clause-in_bounds
book-requires-clause-in_bounds c =
    let (cs, d, b, h, alive) = c.requires.alive in
    let (lo, hi) = c.requires.in_range in
    let (most, fewer) = frees c.settle-s.ensures in
    let top = clash_room lo hi h (omega (arith, c.if-s-eq0.false)) in
    (omega arith, omega arith, omega arith)

pub book-requires-clause-booking_fits : goal.book-requires-clause-booking_fits
book-requires-clause-booking_fits c =
    let (cs, d, b, h, alive) = c.requires.alive in
    let (lo, hi) = c.requires.in_range in
    let (most, fewer) = frees c.settle-s.ensures in
    let small = clash_small lo hi h in
    (omega arith, omega arith, omega arith)

pub returns-clause-clashed : goal.returns-clause-clashed
returns-clause-clashed c cs d b h alive =
    let (lo, hi) = c.requires.in_range in
    clash_settled lo hi h c.is_hard-p_hard.ensures c.is_hard-q_hard.ensures _ c.else-p_hard.either c.settle-s.ensures c.if-s-eq0.false c.book.ensures.settled
