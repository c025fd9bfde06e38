use Rattle.std.proofs.Common.{arith, length-take, length-drop, length-append}
use Rattle.branch.proofs.Rooting.{blank_filled, rooted_none, rooted_all}
use Rattle.branch.proofs.start.root.Goals as goal

pub slice_bounds-fill-end-2 : goal.slice_bounds-fill-end-2
slice_bounds-fill-end-2 c = omega (arith, length-take 2002 c.args.cells.now)

pub loop-k-init : goal.loop-k-init
loop-k-init c =
    let size = length-take 2002 c.args.cells.now in
    let low = c.fill.ensures.len in
    rooted_none
    (blank_filled _ _ _ _ _ _ (c.fill.ensures.after (λ y e. e)) (c.fill-2.ensures.after (λ y e. e)) (omega arith)
    (simp (length-take, length-drop, length-append) (omega arith)))
    _ _

pub returns : goal.returns
returns c =
    let end = c.loop-k.auto.k-end in
    let done = c.loop-k-test.false in
    rooted_all c.args.held.now.holds c.loop-k.invariant (omega arith)
