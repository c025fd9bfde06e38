use Rattle.std.proofs.Common.{◌∙◌, arith}
use Rattle.reader.specs.Spans.{in_line}
use Rattle.reader.proofs.Bytes.{is_comment, not_comment}
use Rattle.reader.proofs.Modes.{empty_goes, comment_goes}
use Rattle.reader.proofs.Spans.{past_within}
use Rattle.reader.proofs.tokens.next_line.Goals as goal

pub loop-i-preserved-then-token-text : goal.loop-i-preserved-then-token-text
loop-i-preserved-then-token-text c =
    let k = c.loop-i.invariant in
    let t = c.next_token-token.ensures in
    record {
      after = omega (arith, k.after, t.starts);
      here = omega arith;
      same = λ I. k.same I ∙ empty_goes t I (omega arith) (omega arith);
    }

pub loop-i-preserved : goal.loop-i-preserved
loop-i-preserved c =
    let k = c.loop-i.invariant in
    let t = c.next_token-token.ensures in
    let e = rw c.end.ensures at c.past_line-i.ensures in
    record {
      after = omega (arith, k.after, t.starts, e);
      here = rw e (past_within in_line _ _ t.within);
      same = λ I. rw e (k.same I ∙ comment_goes I t (omega arith) (is_comment _ (omega arith) (omega arith)));
    }

pub returns-in_default : goal.returns-in_default
returns-in_default c =
    let k = c.loop-i.invariant in
    let t = c.next_token-token.ensures in
    record {
      line = c.loop-i.i;
      after = k.after;
      same = k.same;
      token = t;
      plain = not_comment _ (λ h e. omega arith);
      last = λ _. omega (arith, t.within, c.if-token-text.false);
    }

pub returns-in_default-2 : goal.returns-in_default-2
returns-in_default-2 c =
    let k = c.loop-i.invariant in
    record {
      line = c.loop-i.i;
      after = k.after;
      same = k.same;
      token = c.next_token-token.ensures;
      plain = not_comment _ (λ h e. omega arith);
      last = λ e. absurd (omega arith);
    }
