-- "An assignment is n bytes": only the variables 1 to n count, for the bytes of an assignment and for those that Write finds.
use Rattle.std.specs.Prelude.{ℕ, ◌≤◌, ◌≡◌, List, [], ◌∷◌}
use Rattle.std.proofs.Math.Bool.{not}
use Rattle.std.proofs.Math.Path.{refl, ap}
use Rattle.instance.specs.Clause.{Literal, pos, neg, Weight, hard, soft, Body, clause, Clause, variable_of}
use Rattle.instance.specs.Meaning.{Assignment, holds, falsified, broken, fine, feasible, cost}
use Rattle.instance.specs.Within.{Every, In, InBody}
use Rattle.calculus.proofs.Theorems.Root.{Covered}

module _ (n : ℕ) (σ τ : Assignment) (agree : (x : ℕ) → 1 ≤ x → x ≤ n → σ x ≡ τ x) where
  holds_agree : (l : Literal) → In n l → holds σ l ≡ holds τ l
  unfolding holds variable_of
  holds_agree (pos x) h = agree x h.0 h.1
  holds_agree (neg x) h = ap not (agree x h.0 h.1)

  falsified_agree : (ls : List Literal) → Every (In n) ls → falsified σ ls ≡ falsified τ ls
  unfolding falsified
  falsified_agree [] h = refl
  falsified_agree (l ∷ ls) h = rw (holds_agree l h.0, falsified_agree ls h.1)

  broken_agree : (p : Body) → InBody n p → broken σ p ≡ broken τ p
  unfolding broken
  broken_agree (clause ls) h = falsified_agree ls h

  fine_agree : (w : Weight) (p : Body) → InBody n p → fine σ w p ≡ fine τ w p
  unfolding fine
  fine_agree hard p h = ap not (broken_agree p h)
  fine_agree (soft w) p h = refl

  pub feasible_agree : (cs : List Clause) → Covered n cs → feasible σ cs ≡ feasible τ cs
  unfolding feasible
  feasible_agree [] h = refl
  feasible_agree (c ∷ cs) h = rw (fine_agree c.weight c.body h.0, feasible_agree cs h.1)

  pub cost_agree : (cs : List Clause) → Covered n cs → cost σ cs ≡ cost τ cs
  unfolding cost
  cost_agree [] h = refl
  cost_agree (c ∷ cs) h = rw (broken_agree c.body h.0, cost_agree cs h.1)
