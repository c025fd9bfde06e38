-- The limits (01, "What is built"): each number has this one name.
use Rattle.std.specs.Prelude.{ℕ}

abbrev pub most_variables : ℕ
most_variables = 500

abbrev pub most_clauses : ℕ
most_clauses = 1_000

-- literals as written
abbrev pub most_literals : ℕ
most_literals = 4_000

-- of one soft clause, and of all together
abbrev pub most_weight : ℕ
most_weight = 1_000_000_000_000
