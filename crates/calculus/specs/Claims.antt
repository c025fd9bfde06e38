-- What a claim says of the assignments, and which assignment refutes it (01, "Derivation records" and refusal 22).
use Rattle.std.specs.Prelude.{ℕ, ◌≤◌, ◌<◌, true, false, ◌≡◌}
use Rattle.instance.specs.Clause.{Problem}
use Rattle.instance.specs.Meaning.{Assignment, feasible, cost}
use Rattle.instance.specs.declared.answers.Claim.{Claim}
use Rattle.instance.specs.declared.answers.Claim.TheVariants.{Minimum, Infeasible}

-- M: no assignment that meets the hard clauses falsifies less than m. N: "no assignment meets the hard clauses".
abbrev pub True : Problem → Claim → Type 0
True I (Minimum m) = (σ : Assignment) → feasible σ I.clauses ≡ true → m ≤ cost σ I.clauses
True I Infeasible = (σ : Assignment) → feasible σ I.clauses ≡ false

-- under M less than m
abbrev pub Below : Claim → ℕ → Type 0
Below (Minimum m) v = v < m
Below Infeasible v = Unit {0}

-- "a layout that meets the hard clauses and, under M, falsifies less than m"
pub record Refutes (I : Problem) (k : Claim) (σ : Assignment) : Type 0 where
  pub meets : feasible σ I.clauses ≡ true
  pub less : Below k (cost σ I.clauses)
