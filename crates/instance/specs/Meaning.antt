-- What an assignment makes of an instance (01, "Instance text" and "What is built", Value).
use Rattle.std.specs.Prelude.{ℕ, suc, ◌+◌, Bool, true, false, not, ◌&&◌, List, [], ◌∷◌, eqb, get_or}
use Rattle.instance.specs.Clause.{Literal, pos, neg, Weight, hard, soft, Body, clause, Clause}

-- each variable's truth value
abbrev pub Assignment : Type 0
Assignment = ℕ → Bool

-- "An assignment is n bytes, 0 false or 1 true, variable 1 first." The 0 in front is no variable's.
unfoldable pub assigned : List ℕ → Assignment
assigned bytes x = eqb (get_or (0 ∷ bytes) x 0) 1

unfoldable pub holds : Assignment → Literal → Bool
holds σ (pos x) = σ x
holds σ (neg x) = not (σ x)

-- All literals are false. So "an empty clause is falsified by every assignment", and a tautology "is never falsified".
unfoldable pub falsified : Assignment → List Literal → Bool
falsified σ [] = true
falsified σ (l ∷ ls) = not (holds σ l) && falsified σ ls

unfoldable pub broken : Assignment → Body → Bool
broken σ (clause ls) = falsified σ ls

-- a hard clause is met; of a soft one nothing is asked
unfoldable pub fine : Assignment → Weight → Body → Bool
fine σ hard b = not (broken σ b)
fine σ (soft w) b = true

-- all hard clauses are met
unfoldable pub feasible : Assignment → List Clause → Bool
feasible σ [] = true
feasible σ (c ∷ cs) = fine σ c.weight c.body && feasible σ cs

-- the weight of a soft clause, where it is falsified
unfoldable pub priced : Weight → Bool → ℕ
priced hard f = 0
priced (soft w) true = w
priced (soft w) false = 0

-- the soft weight falsified
unfoldable pub cost : Assignment → List Clause → ℕ
cost σ [] = 0
cost σ (c ∷ cs) = priced c.weight (broken σ c.body) + cost σ cs

-- the number of the first broken hard clause, counted from i; 0 if none
unfoldable pub first_broken_from : ℕ → Assignment → List Clause → ℕ
first_broken_from i σ [] = 0
first_broken_from i σ (c ∷ cs) = elim (fine σ c.weight c.body) [ true ↦ first_broken_from (suc i) σ cs | false ↦ i ]

unfoldable pub first_broken : Assignment → List Clause → ℕ
first_broken σ cs = first_broken_from 1 σ cs
