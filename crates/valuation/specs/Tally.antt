-- What an assignment is worth where the walk over the clauses stands.
use Rattle.std.specs.Prelude.{ℕ, List, ◌≡◌}
use Rattle.instance.specs.Meaning.{assigned, first_broken, cost}
use Rattle.instance.specs.Store.{clauses_in}
use Rattle.instance.specs.declared.answers.Worth.{Worth}

-- of the first k clauses of the store: the first broken hard one, and the weight falsified
pub record Tallied (store bytes : List ℕ) (k : ℕ) (worth : Worth) : Type 0 where
  pub breaks : worth.first_broken ≡ first_broken (assigned bytes) (clauses_in store k)
  pub falsifies : worth.falsified ≡ cost (assigned bytes) (clauses_in store k)
