use Rattle.std.proofs.Common.{arith}
use Rattle.valuation.proofs.Tallies.{tally_none, tally_kept, tally_soft, tally_first, tally_again, tally_light}
use Rattle.valuation.proofs.tally.tallied.Goals as goal
use Rattle.valuation.proofs.tally.tallied.Goals.{then-falsifies+in-Soft, then-falsifies+in-Hard, then-falsifies+in-Hard+else-worth-eq0, else-falsifies}

pub loop-k-init : goal.loop-k-init
loop-k-init c = tally_none _ _ _ (cc) (cc)

pub overflow_add-worth : goal.overflow_add-worth
overflow_add-worth c =
    omega (arith, tally_light c.args.held.now.counts.clauses (tally_soft c.loop-k.invariant c.in-Soft.w (cc) (cc)) (omega arith) c.args.held.now.holds.within.light)

pub loop-k-preserved : goal.loop-k-preserved
loop-k-preserved c =
    elim c.if-falsifies.branch [
      | then-falsifies+in-Soft w ↦ rw w.worth-is (tally_soft c.loop-k.invariant _ (cc) (cc))
      | then-falsifies+in-Hard w ↦ rw w.worth-is (tally_first c.loop-k.invariant (cc) (cc) w.if-worth-eq0.true)
      | then-falsifies+in-Hard+else-worth-eq0 w ↦ rw w.worth-is (tally_again c.loop-k.invariant (cc) (cc) w.if-worth-eq0.false)
      | else-falsifies w ↦ rw w.worth-is (tally_kept c.loop-k.invariant (cc))
    ]
