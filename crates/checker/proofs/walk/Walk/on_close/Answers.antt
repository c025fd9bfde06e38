use Rattle.std.proofs.Common.{refl}
use Rattle.calculus.specs.Derivation.{closing}
use Rattle.checker.specs.Frames.{Stack}
use Rattle.checker.proofs.walk.Walk.on_close.Goals as goal

pub returns-then-not-can_close : goal.returns-then-not-can_close
unfolding closing
returns-then-not-can_close c I b bs s = rw (← c.if-not-can_close.ensures _ b s.works.shows, closing) refl

pub returns-then-self-eq0 : goal.returns-then-self-eq0
unfolding closing Stack
returns-then-self-eq0 c I b bs s = rw (← c.if-not-can_close.ensures _ b s.works.shows, closing) (rw c.if-self-eq0.true at s.stack)

pub returns : goal.returns
unfolding closing
returns c I b bs s = rw (← c.if-not-can_close.ensures _ b s.works.shows, closing) (c.turn.ensures I b bs s)
