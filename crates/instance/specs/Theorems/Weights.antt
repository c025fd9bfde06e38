-- What is falsified weighs no more than all.
use Rattle.std.specs.Prelude.{◌+◌, ◌≤◌, Bool, true, false, List, [], ◌∷◌, ◌++◌, ◌≡◌}
use Rattle.std.proofs.Common.{arith}
use Rattle.instance.specs.Clause.{Weight, hard, soft, Clause, soft_of, total_of}
use Rattle.instance.specs.Meaning.{Assignment, broken, priced, cost}

priced_most : (w : Weight) (t : Bool) → priced w t ≤ soft_of w
unfolding priced soft_of
priced_most hard t = omega arith
priced_most (soft w) true = omega arith
priced_most (soft w) false = omega arith

pub cost_most : (σ : Assignment) (cs : List Clause) → cost σ cs ≤ total_of cs
unfolding cost total_of
cost_most σ [] = omega arith
cost_most σ (c ∷ cs) = omega (arith, priced_most c.weight (broken σ c.body), cost_most σ cs)

pub cost_snoc : (σ : Assignment) (cs : List Clause) (c : Clause) → cost σ (cs ++ (c ∷ [])) ≡ cost σ cs + priced c.weight (broken σ c.body)
unfolding cost
cost_snoc σ [] c = omega arith
cost_snoc σ (d ∷ cs) c = omega (arith, cost_snoc σ cs c)
