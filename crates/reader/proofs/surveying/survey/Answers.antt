-- What reading answers, or the refusal of too small a store.
use Rattle.std.proofs.Common.{rules, ◌∙◌}
use Rattle.instance.specs.Answers.{surveyed}
use Rattle.instance.specs.Theorems.Memory.{on_size}
use Rattle.reader.proofs.surveying.survey.Goals as goal

pub returns : goal.returns
returns c =
    let over = c.over_store.ensures in
    record {
      answer = c.from.ensures ∙ on_size surveyed _ over.refused (λ large. let worked = over.worked large in search rules);
      after = over.after;
    }
