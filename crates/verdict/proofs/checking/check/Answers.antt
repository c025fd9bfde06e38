-- Only the parts up to the constants are lent on, and then cleared; that an accepted claim is true follows from the answer.
use Rattle.std.proofs.Common.{ap, arith, ◌∙◌, rules}
use Rattle.std.proofs.lemmas.Bool.Decides.{nat_tests}
use Rattle.instance.specs.Memory.{store_size, cells_size, log_size, frames_size, ample}
use Rattle.instance.specs.declared.answers.Checked.{Checked}
use Rattle.derivation.specs.Check.{roomy, CheckAnswers}
use Rattle.derivation.proofs.Theorems.Sound.{answers_meant}
use Rattle.verdict.specs.Workspaces.{desk}
use Rattle.verdict.proofs.Desks.{part_whole, whole_cleared, desk_kept, desk_cleared}
use Rattle.verdict.proofs.checking.check.Goals as goal

pub returns-then-store-lt-STORE-clause-answers : goal.returns-then-store-lt-STORE-clause-answers
unfolding roomy ample
returns-then-store-lt-STORE-clause-answers c = desk_kept _ _ _ _ _ (grind (arith, nat_tests)) (ap Checked.Refused c.at.ensures)

pub invariant_of-desk : goal.invariant_of-desk
invariant_of-desk c = record {
  enough_cells = part_whole cells_size _ c.if-cells-lt-CELLS.false;
  enough_log = part_whole log_size _ c.if-log-lt-LOG.false;
  enough_frames = part_whole frames_size _ c.if-frames-lt-FRAMES.false;
}

pub returns : goal.returns
unfolding roomy ample
returns c =
    let a = c.args in
    let answers : CheckAnswers a.text.now a.bytes.now a.proof.now (desk a.store.now a.cells.now a.log.now a.frames.now) c.from.result (desk c.clear.new.part c.clear-2.new.part c.clear-3.new.part c.clear-4.new.part) =
    desk_cleared _ _ _ _ _ (grind (arith, nat_tests)) (c.from.ensures ∙ c.answer-verdict.ensures.judged)
    (whole_cleared store_size a.store.now _ _ c.if-store-lt-STORE.false c.clear.ensures c.answer-verdict.auto.store)
    (whole_cleared cells_size a.cells.now _ _ c.if-cells-lt-CELLS.false c.clear-2.ensures (search rules))
    (whole_cleared log_size a.log.now _ _ c.if-log-lt-LOG.false c.clear-3.ensures (search rules))
    (whole_cleared frames_size a.frames.now _ _ c.if-frames-lt-FRAMES.false c.clear-4.ensures (search rules)) in
    record { answers = answers; meant = answers_meant answers }
