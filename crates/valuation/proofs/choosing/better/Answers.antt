-- The part that the work's choice names, or neither where the store is too small.
use Rattle.std.proofs.Common.{rules, ◌≡◌, ◌∙◌}
use Rattle.std.specs.Result.{result_unwrap_or}
use Rattle.instance.specs.Theorems.Memory.{on_size}
use Rattle.valuation.specs.Better.{chosen_with}
use Rattle.valuation.specs.declared.choosing.Choice.TheVariants.{Neither}
use Rattle.valuation.proofs.choosing.better.Goals as goal

pub returns : goal.returns
unfolding chosen_with
returns c =
    let a = c.args in
    let over = c.over_store-choice.ensures in
    let choice : c.unwrap_or.result ≡ chosen_with a.store.now a.text.now a.first.now a.second.now =
    c.unwrap_or.ensures
    ∙ on_size (λ r. result_unwrap_or r Neither) _ over.refused (λ large. let worked = over.worked large in search rules) in
    record { answer = rw (← choice) c.part.ensures; after = over.after }
