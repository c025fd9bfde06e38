-- Value's "number of the first broken hard clause (0 if none)" is 0 exactly where the hard clauses are met.
use Rattle.std.specs.Prelude.{ℕ, suc, ◌≤◌, Bool, ◌&&◌, ◌≡◌, ◌↔◌, List, [], ◌∷◌}
use Rattle.std.proofs.Math.Bool.{true, false}
use Rattle.std.proofs.Math.Path.{refl}
use Rattle.std.proofs.Common.{arith}
use Rattle.instance.specs.Clause.{Clause}
use Rattle.instance.specs.Meaning.{Assignment, fine, feasible, first_broken_from, first_broken}
use Rattle.calculus.proofs.Theorems.Basics.{clash}

module _ (σ : Assignment) where
  none_broken : (i : ℕ) (cs : List Clause) → 1 ≤ i → (first_broken_from i σ cs ≡ 0) ↔ (feasible σ cs ≡ true)
  unfolding first_broken_from feasible
  none_broken i [] h = (λ e. refl, λ f. refl)
  none_broken i (c ∷ cs) h = by (fine σ c.weight c.body) (none_broken (suc i) cs (omega arith))
    where
      by : (t : Bool) → (first_broken_from (suc i) σ cs ≡ 0) ↔ (feasible σ cs ≡ true) →
          (◌≡◌ {A = ℕ} (elim t as (λ _. ℕ) [ true ↦ first_broken_from (suc i) σ cs | false ↦ i ]) 0) ↔ ((t && feasible σ cs) ≡ true)
      by true r = r
      by false r = (λ e. absurd (omega arith), λ f. clash f refl)

  pub first_broken_lem : (cs : List Clause) → (first_broken σ cs ≡ 0) ↔ (feasible σ cs ≡ true)
  unfolding first_broken
  first_broken_lem cs = none_broken 1 cs (omega arith)
