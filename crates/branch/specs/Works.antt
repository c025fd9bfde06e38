-- What may still come on a branch: entries of the log, extensions, and weight. None of the three grows along a path, so what
-- the root allows is enough for every branch.
use Rattle.std.specs.Prelude.{ℕ, zero, suc, ◌+◌, ◌*◌, ◌≤◌, List, [], ◌∷◌, get_or}
use Rattle.instance.specs.Limits.{most_clauses, most_weight}
use Rattle.instance.specs.Memory.{cells_size}
use Rattle.instance.specs.Clause.{Clause, soft_of}
use Rattle.calculus.specs.Branch.{Branch}
use Rattle.branch.specs.Cells.{Cell, booked, dead, weight, marked, shut, cell_at}
use Rattle.branch.specs.Shows.{Shows}

-- a sum over the first n cells
unfoldable pub sum_to : (Cell → ℕ → ℕ) → ℕ → List ℕ → ℕ
sum_to f zero cells = 0
sum_to f (suc n) cells = sum_to f n cells + f (cell_at n) (get_or cells n 0)

unfoldable pub sum : (Cell → ℕ → ℕ) → List ℕ → ℕ
sum f cells = sum_to f cells_size cells

-- The entries of the log: 5 for a clause that can be extended (its flag, the gain, and the 3 of a contradiction that spends the
-- gain), 3 for a weight, 1 for the branch's death.
unfoldable pub entries_of : Cell → ℕ → ℕ
entries_of booked v = 0
entries_of dead zero = 1
entries_of dead (suc v) = 0
entries_of (weight l) zero = 0
entries_of (weight l) (suc v) = 3
entries_of (marked l) v = 0
entries_of (shut k) zero = 5
entries_of (shut k) (suc v) = 0

-- the extensions
unfoldable pub extensions_of : Cell → ℕ → ℕ
extensions_of booked v = 0
extensions_of dead v = 0
extensions_of (weight l) v = 0
extensions_of (marked l) v = 0
extensions_of (shut k) zero = 1
extensions_of (shut k) (suc v) = 0

-- the soft weight of the clause at a place of the list
unfoldable pub soft_at : List Clause → ℕ → ℕ
soft_at [] k = 0
soft_at (c ∷ cs) zero = soft_of c.weight
soft_at (c ∷ cs) (suc k) = soft_at cs k

-- the weight: booked, in units, and of the clauses that can be extended
unfoldable pub weights_of : List Clause → Cell → ℕ → ℕ
weights_of cs booked v = v
weights_of cs dead v = 0
weights_of cs (weight l) v = v
weights_of cs (marked l) v = 0
weights_of cs (shut k) zero = soft_at cs k
weights_of cs (shut k) (suc v) = 0

-- two words of the log for each
abbrev pub most_entries : ℕ
most_entries = 5 * most_clauses + 1

-- The cells show the branch, with so many entries, extensions and so much weight taken.
pub record Works (cs : List Clause) (cells : List ℕ) (entries extensions weight : ℕ) (b : Branch) : Type 0 where
  pub shows : Shows cs cells b
  pub room : entries + sum entries_of cells ≤ most_entries
  pub deep : extensions + sum extensions_of cells ≤ most_clauses
  pub light : weight + sum (weights_of cs) cells ≤ most_weight
