-- The walk's memory stands for the list of open branches; what each step does to that list.
use Rattle.std.specs.Prelude.{suc, true, false, List, ◌∷◌, ◌++◌, ◌≡◌, ℕ, length}
use Rattle.instance.specs.Clause.{Problem}
use Rattle.instance.specs.Store.{Given}
use Rattle.journal.specs.Undo.{Places}
use Rattle.calculus.specs.Branch.{Branch}
use Rattle.calculus.specs.Derivation.{go, extending}
use Rattle.branch.specs.Shows.{open_in}
use Rattle.branch.specs.Works.{Works}
use Rattle.checker.specs.Frames.{Stack}
use Rattle.checker.specs.declared.walk.Walk.{Walk}

-- the branch at work, and the others that are open
pub record Stands (I : Problem) (w : Walk) (b : Branch) (bs : List Branch) : Type 0 where
  pub given : Given w.held.store.now w.held.counts.variables w.held.counts.clauses I
  pub works : Works I.clauses w.branch.journal.cells.now w.branch.journal.top w.frames.depth 0 b
  pub places : Places w.branch.journal.log.now 0 w.branch.journal.top (length w.branch.journal.cells.now)
  pub stack : Stack w.frames.depth I w.held.store.now w.frames.words.now
      w.branch.journal.cells.now w.branch.journal.log.now w.branch.journal.top bs

-- the memory stands for some list of open branches
abbrev pub Standing : Walk → Type 0
Standing w = (I : Problem) × (b : Branch) × (bs : List Branch) × Stands I w b bs

-- and the one at work is not dead
abbrev pub Alive : Walk → Type 0
Alive w = (I : Problem) × (b : Branch) × (bs : List Branch) × Stands I w b bs × (b.dead ≡ false)

-- ---- an extension of the clause at k
abbrev pub Extending : Walk → ℕ → Type 0
Extending w k = (I : Problem) × (b : Branch) × (bs : List Branch) × Stands I w b bs × (open_in b.rules k ≡ true)

abbrev pub Extended : Walk → ℕ → Walk → Type 0
Extended w k w' =
    (I : Problem) (b : Branch) (bs : List Branch) → Stands I w b bs → open_in b.rules k ≡ true
    → (b' : Branch) × (new : List Branch) × (extending (suc k) b ≡ go (b' ∷ new)) × Stands I w' b' (new ++ bs)

-- ---- going to the next open branch
abbrev pub Turned : Walk → Walk → Type 0
Turned w w' =
    (I : Problem) (b : Branch) (bs : List Branch) → Stands I w b bs
    → (b' : Branch) × (rest : List Branch) × (bs ≡ b' ∷ rest) × Stands I w' b' rest
