-- The answer of the work, or the refusal of too small a store.
use Rattle.std.proofs.Common.{rules, ◌∙◌}
use Rattle.instance.specs.Answers.{valued as as_answer}
use Rattle.instance.specs.Theorems.Memory.{on_size}
use Rattle.valuation.proofs.valuing.value.Goals as goal

pub returns : goal.returns
returns c =
    let over = c.over_store.ensures in
    record {
      answer = c.from.ensures ∙ on_size as_answer _ over.refused (λ large. let worked = over.worked large in search rules);
      after = over.after;
    }
