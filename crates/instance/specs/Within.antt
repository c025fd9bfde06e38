-- What holds of every instance that a text is read as: its literals are of the variables 1 to n, and it keeps the limits
-- (01, "What is built").
use Rattle.std.specs.Prelude.{ℕ, ◌≤◌, List, [], ◌∷◌, length}
use Rattle.instance.specs.Limits.{most_variables, most_clauses, most_literals, most_weight}
use Rattle.instance.specs.Clause.{Literal, Weight, hard, soft, Body, clause, Problem, variable_of, total_of}

abbrev pub Every : {A : Type 0} → (A → Type 0) → List A → Type 0
Every P [] = Unit {0}
Every P (x ∷ xs) = P x × Every P xs

-- a literal of one of the variables 1 to n
abbrev pub In : ℕ → Literal → Type 0
In n l = (1 ≤ variable_of l) × (variable_of l ≤ n)

abbrev pub InBody : ℕ → Body → Type 0
InBody n (clause ls) = Every (In n) ls

abbrev pub Fits : Problem → Type 0
Fits I = Every (λ c. InBody I.variables c.body) I.clauses

-- a soft clause weighs something
abbrev pub Weighty : Weight → Type 0
Weighty hard = Unit {0}
Weighty (soft w) = 1 ≤ w

pub record Within (I : Problem) : Type 0 where
  pub top : I.variables ≤ most_variables
  pub few : length I.clauses ≤ most_clauses
  pub many : I.written ≤ most_literals
  pub light : total_of I.clauses ≤ most_weight
  pub fits : Fits I
  pub weighty : Every (λ c. Weighty c.weight) I.clauses
