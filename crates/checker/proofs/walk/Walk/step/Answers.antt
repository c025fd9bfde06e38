use Rattle.std.proofs.Common.{refl, sym}
use Rattle.calculus.specs.Derivation.{step}
use Rattle.checker.proofs.walk.Walk.step.Goals as goal

pub returns-in-E : goal.returns-in-E
unfolding step
returns-in-E c I b bs s = rw (c.in-E.is, ← c.if-not-is_dead.ensures _ b s.works.shows, step) (c.on_extend.ensures I b bs s)

pub returns-in-C : goal.returns-in-C
unfolding step
returns-in-C c I b bs s =
    let alive = sym (c.if-not-is_dead-2.ensures _ b s.works.shows) in
    rw (c.in-C.is, alive, step) (c.on_contradict.ensures I b bs s alive)

pub returns-in-Q : goal.returns-in-Q
unfolding step
returns-in-Q c I b bs s = rw c.in-Q.is (c.on_close.ensures I b bs s)

pub returns-in-E-2 : goal.returns-in-E-2
unfolding step
returns-in-E-2 c I b bs s = rw (c.in-E.is, ← c.if-not-is_dead.ensures _ b s.works.shows, step) refl

pub returns-in-E-2-2 : goal.returns-in-E-2-2
unfolding step
returns-in-E-2-2 c I b bs s = rw (c.in-C.is, ← c.if-not-is_dead-2.ensures _ b s.works.shows, step) refl
