-- How an instance lies in the lent store: for each clause the place after its last literal, its weight and its flag, then the
-- kept literals of all clauses, one behind the other.
use Rattle.std.specs.Prelude.{ℕ, zero, suc, ◌+◌, ◌*◌, ◌-◌, ◌/◌, ◌%◌, ◌<◌, ◌≤◌, Bool, true, false, List, [], ◌∷◌, ◌++◌, map, ◌≡◌, eqb, length, get_or, take, drop}
use Rattle.instance.specs.Limits.{most_clauses, most_literals}
use Rattle.instance.specs.Memory.{store_size}
use Rattle.instance.specs.Clause.{Literal, pos, neg, Weight, hard, soft, clause, Clause, Problem, tautology}
use Rattle.instance.specs.Within.{Every, Within}
use Rattle.instance.specs.declared.Instance.{Instance}

-- where the weights, the flags and the literals begin; the ends begin at 0
abbrev pub weights_at : ℕ
weights_at = most_clauses

abbrev pub flags_at : ℕ
flags_at = 2_000

abbrev pub literals_at : ℕ
literals_at = 3_000

-- a literal's code: 2x is x, 2x + 1 is its opposite
unfoldable pub literal_of : ℕ → Literal
literal_of c = elim (eqb (c % 2) 0) [ true ↦ pos (c / 2) | false ↦ neg (c / 2) ]

unfoldable pub code_of : Literal → ℕ
code_of (pos x) = 2 * x
code_of (neg x) = 2 * x + 1

-- a weight's code: 0 is hard
unfoldable pub weight_of : ℕ → Weight
weight_of zero = hard
weight_of (suc w) = soft (suc w)

-- a clause's flag: 1 for a tautology
unfoldable pub flag_of : Bool → ℕ
flag_of true = 1
flag_of false = 0

-- ---- what is read off a store, for the clause of number k + 1
abbrev pub start_in : List ℕ → ℕ → ℕ
start_in store zero = 0
start_in store (suc k) = get_or store k 0

abbrev pub end_in : List ℕ → ℕ → ℕ
end_in store k = get_or store k 0

abbrev pub codes_in : List ℕ → ℕ → List ℕ
codes_in store k = take (end_in store k - start_in store k) (drop (literals_at + start_in store k) store)

abbrev pub literals_in : List ℕ → ℕ → List Literal
literals_in store k = map literal_of (codes_in store k)

unfoldable pub clause_in : List ℕ → ℕ → Clause
clause_in store k = record { weight = weight_of (get_or store (weights_at + k) 0); body = clause (literals_in store k) }

-- the first K clauses
unfoldable pub clauses_in : List ℕ → ℕ → List Clause
clauses_in store zero = []
clauses_in store (suc k) = clauses_in store k ++ (clause_in store k ∷ [])

-- the rows of K clauses over the variables 1 to n lie within the store
pub record Laid (store : List ℕ) (n K : ℕ) : Type 0 where
  pub room : store_size ≤ length store
  pub few : K ≤ most_clauses
  pub order : (k : ℕ) → k < K → start_in store k ≤ end_in store k
  pub within : (k : ℕ) → k < K → end_in store k ≤ most_literals
  pub codes : (k : ℕ) → k < K → Every (λ c. (2 ≤ c) × (c / 2 ≤ n)) (codes_in store k)
  pub flags : (k : ℕ) → k < K → get_or store (flags_at + k) 0 ≡ flag_of (tautology (literals_in store k))

-- the store holds exactly this instance: the reader's promise
pub record Stored (store : List ℕ) (I : Problem) : Type 0 where
  pub clauses : clauses_in store (length I.clauses) ≡ I.clauses
  pub laid : Laid store I.variables (length I.clauses)
  pub within : Within I

-- the store holds this instance, which has n variables and K clauses
pub record Given (store : List ℕ) (n K : ℕ) (I : Problem) : Type 0 where
  pub stored : Stored store I
  pub variables : n ≡ I.variables
  pub clauses : K ≡ length I.clauses

-- ---- the instance that a store holds, by its numbers
abbrev pub problem_in : List ℕ → Instance → Problem
problem_in store counts = record { variables = counts.variables; written = counts.written; clauses = clauses_in store counts.clauses }

pub record Holds (store : List ℕ) (counts : Instance) : Type 0 where
  pub laid : Laid store counts.variables counts.clauses
  pub within : Within (problem_in store counts)
