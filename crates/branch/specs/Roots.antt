-- The root's cells, clause by clause.
use Rattle.std.specs.Prelude.{ℕ, ◌+◌, ◌*◌, ◌≤◌, List, get_or, set}
use Rattle.instance.specs.Clause.{Weight, hard, soft, total_of}
use Rattle.instance.specs.Store.{clauses_in}
use Rattle.calculus.specs.Branch.{root}
use Rattle.branch.specs.Shows.{Shows}
use Rattle.branch.specs.Works.{sum, entries_of, extensions_of, weights_of}

-- a soft weight goes to the place `sum`; hard sets the place `mark`
unfoldable pub given : List ℕ → ℕ → ℕ → Weight → List ℕ
given cells mark sum hard = set cells mark 1
given cells mark sum (soft w) = set cells sum (get_or cells sum 0 + w)

-- what holds after the first k of the store's n clauses
pub record Rooted (store : List ℕ) (n k : ℕ) (cells : List ℕ) : Type 0 where
  pub shows : Shows (clauses_in store k) cells (root (clauses_in store k))
  pub room : sum entries_of cells ≤ 5 * k + 1
  pub deep : sum extensions_of cells ≤ k
  pub light : sum (weights_of (clauses_in store n)) cells ≤ total_of (clauses_in store k)
