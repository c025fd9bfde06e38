-- The cells of a branch: what it has booked, whether it is dead, the weight and the mark of each literal by its code, and for
-- each clause whether it can't be extended any more.
use Rattle.std.specs.Prelude.{ℕ, ◌+◌, ◌*◌, ◌-◌, ◌<◌, true, false, List, eqb, ltb, get_or}
use Rattle.instance.specs.Limits.{most_variables, most_clauses}
use Rattle.instance.specs.Clause.{Literal}
use Rattle.instance.specs.Within.{In}
use Rattle.instance.specs.Store.{literal_of, code_of}

-- a clause goes by its place in the list, one less than its number
pub data Cell : Type 0 where
  booked dead : Cell
  weight marked : Literal → Cell
  shut : ℕ → Cell

-- where the cells begin: a literal's weight lies at its code, which is at least 2
abbrev pub booked_at : ℕ
booked_at = 0

abbrev pub dead_at : ℕ
dead_at = 1

abbrev pub marks_at : ℕ
marks_at = 2 * most_variables

abbrev pub shuts_at : ℕ
shuts_at = 4 * most_variables + 2

-- the place of a cell
unfoldable pub at : Cell → ℕ
at booked = booked_at
at dead = dead_at
at (weight l) = code_of l
at (marked l) = marks_at + code_of l
at (shut k) = shuts_at + k

-- the cell at a place
unfoldable pub cell_at : ℕ → Cell
cell_at p =
    elim (eqb p booked_at) [
      | true ↦ booked
      | false ↦ elim (eqb p dead_at) [
        | true ↦ dead
        | false ↦ elim (ltb p (marks_at + 2)) [
          | true ↦ weight (literal_of p)
          | false ↦ elim (ltb p shuts_at) [
            | true ↦ marked (literal_of (p - marks_at))
            | false ↦ shut (p - shuts_at)
          ]
        ]
      ]
    ]

-- there is such a cell
abbrev pub Real : Cell → Type 0
Real booked = Unit {0}
Real dead = Unit {0}
Real (weight l) = In most_variables l
Real (marked l) = In most_variables l
Real (shut k) = k < most_clauses

-- what a cell holds
abbrev pub held : List ℕ → Cell → ℕ
held cells c = get_or cells (at c) 0
