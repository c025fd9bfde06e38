-- Cells show a branch of the calculus: each holds what the branch has there.
use Rattle.std.specs.Prelude.{ℕ, zero, suc, ◌≤◌, Bool, true, false, not, List, [], ◌∷◌, ◌≡◌, length}
use Rattle.std.proofs.Math.Option.{Option, some, none}
use Rattle.instance.specs.Memory.{cells_size}
use Rattle.instance.specs.Clause.{Clause}
use Rattle.instance.specs.Store.{flag_of}
use Rattle.calculus.specs.Branch.{Branch, spent, disjuncts, unless}
use Rattle.branch.specs.Cells.{Cell, booked, dead, weight, marked, shut, Real, held}

unfoldable pub is_some : {A : Type 0} → Option A → Bool
is_some none = false
is_some (some x) = true

-- a clause can be extended
unfoldable pub extendable : Clause → Bool
extendable c = is_some (unless (spent c.weight) (disjuncts c.body))

-- the clause at a place of the list, if there is one, can be extended
unfoldable pub open_in : List Clause → ℕ → Bool
open_in [] k = false
open_in (c ∷ cs) zero = extendable c
open_in (c ∷ cs) (suc k) = open_in cs k

unfoldable pub has : Branch → Cell → ℕ
has b booked = b.booked
has b dead = flag_of b.dead
has b (weight l) = b.weight l
has b (marked l) = flag_of (b.marked l)
has b (shut k) = flag_of (not (open_in b.rules k))

-- what a branch has left of a clause: all of its weight, unless it is spent
pub record Left (c d : Clause) : Type 0 where
  pub body : d.body ≡ c.body
  pub whole : spent d.weight ≡ false → d.weight ≡ c.weight

abbrev pub Remain : List Clause → List Clause → Type 0
Remain [] [] = Unit {0}
Remain [] (d ∷ ds) = ⊥
Remain (c ∷ cs) [] = ⊥
Remain (c ∷ cs) (d ∷ ds) = Left c d × Remain cs ds

-- of an instance with the clauses cs
pub record Shows (cs : List Clause) (cells : List ℕ) (b : Branch) : Type 0 where
  pub size : cells_size ≤ length cells
  pub holds : (c : Cell) → Real c → held cells c ≡ has b c
  pub rules : Remain cs b.rules
