-- What an extension does in cells: its clause is spent, and each branch gains a literal.
use Rattle.std.specs.Prelude.{ℕ, suc, ◌+◌, ◌*◌, ◌≤◌, true, List, ◌≡◌}
use Rattle.instance.specs.Limits.{most_variables}
use Rattle.instance.specs.Clause.{Weight, soft, soft_of, Clause}
use Rattle.instance.specs.Store.{literal_of}
use Rattle.journal.specs.Undo.{Later}
use Rattle.calculus.specs.Branch.{Branch, put, unit_of}
use Rattle.branch.specs.Shows.{open_in}
use Rattle.branch.specs.Works.{soft_at, Works}

-- the cells show a branch on which the clause at k can be extended
abbrev pub Open : List ℕ → ℕ → ℕ → Type 0
Open cells top k = (cs : List Clause) × (d : ℕ) × (b : Branch) × Works cs cells top d 0 b × (open_in b.rules k ≡ true)

-- The cells show a branch that is to gain a weight. 4 entries are kept for it: its own, and the 3 of a contradiction that spends
-- the gain.
abbrev pub Coming : List ℕ → ℕ → Weight → Type 0
Coming cells top weight = (cs : List Clause) × (d : ℕ) × (b : Branch) × Works cs cells (top + 4) d (soft_of weight) b

-- the code of a literal
abbrev pub Coded : ℕ → Type 0
Coded c = (2 ≤ c) × (c ≤ 2 * most_variables + 1)

pub record Spent (cells log : List ℕ) (top k : ℕ) (cells' log' : List ℕ) (top' : ℕ) : Type 0 where
  pub height : top' ≡ top + 1
  pub later : Later cells log top cells' log' top'
  pub works : (cs : List Clause) (d : ℕ) (b : Branch) → Works cs cells top d 0 b → open_in b.rules k ≡ true
      → Works cs cells' (top + 5) (d + 1) (soft_at cs k) (put (suc k) (soft 0) b)

pub record Gained (cells log : List ℕ) (top literal : ℕ) (weight : Weight) (cells' log' : List ℕ) (top' : ℕ) : Type 0 where
  pub height : top' ≡ top + 1
  pub later : Later cells log top cells' log' top'
  pub works : (cs : List Clause) (d : ℕ) (b : Branch) → Works cs cells (top + 4) d (soft_of weight) b
      → Works cs cells' (top + 1) d 0 (unit_of weight (literal_of literal) b)
