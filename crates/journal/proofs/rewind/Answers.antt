use Rattle.std.proofs.Common.{◌∙◌, sym, ap, ◌≡◌, ℕ, arith}
use Rattle.std.proofs.Math.ListN.{length-set}
use Rattle.journal.specs.Undo.{rewound}
use Rattle.journal.specs.Theorems.Stores.{rewound_none, rewound_step}
use Rattle.journal.proofs.rewind.Goals as goal

pub loop-t-preserved : goal.loop-t-preserved
loop-t-preserved c =
    let l = c.loop-t in
    let low = l.invariant.low in
    record {
      low = omega (arith, c.loop-t-test.true);
      size = length-set _ _ _ ∙ l.invariant.size;
      left = sym (rewound_step l.cells c.args.log.now c.args.height l.t (omega (arith, c.loop-t-test.true))) ∙ l.invariant.left;
    }

pub returns : goal.returns
returns c =
    let l = c.loop-t in
    let low = l.invariant.low in
    let e : l.t ≡ c.args.height = omega (arith, c.loop-t-test.false) in
    sym (rewound_none l.cells c.args.log.now c.args.height)
    ∙ ap (λ (t : ℕ). rewound l.cells c.args.log.now t c.args.height) (sym e)
    ∙ l.invariant.left
