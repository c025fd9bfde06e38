-- "A clause with some variable in both signs is a tautology: it .. is never falsified."
use Rattle.std.specs.Prelude.{Bool, not, ◌&&◌, ◌||◌, ◌≡◌, List, [], ◌∷◌}
use Rattle.std.proofs.Math.Bool.{true, false, and-false}
use Rattle.std.proofs.Math.Path.{refl, sym}
use Rattle.std.proofs.Common.{◌∙◌}
use Rattle.instance.specs.Clause.{Literal, same, opposite, occurs, tautology}
use Rattle.instance.specs.Meaning.{Assignment, holds, falsified}
use Rattle.calculus.proofs.Theorems.Literals.{same_true, opposite_holds}

module _ (σ : Assignment) where
  occurs_holds : (k : Literal) (ls : List Literal) → occurs k ls ≡ true → holds σ k ≡ true → falsified σ ls ≡ false
  unfolding occurs falsified
  occurs_holds k [] e h = sym e
  occurs_holds k (l ∷ ls) e h = by (same k l) refl e (λ q. occurs_holds k ls q h)
    where
      by : (t : Bool) → same k l ≡ t → (t || occurs k ls) ≡ true → (occurs k ls ≡ true → falsified σ ls ≡ false) →
          (not (holds σ l) && falsified σ ls) ≡ false
      by true q e r = rw (← same_true k l q, h)
      by false q e r = rw (r e, and-false)

  pub tautology_holds : (ls : List Literal) → tautology ls ≡ true → falsified σ ls ≡ false
  unfolding tautology falsified
  tautology_holds [] e = sym e
  tautology_holds (l ∷ ls) e = by (holds σ l) refl (occurs (opposite l) ls) refl e (tautology_holds ls)
    where
      by : (t : Bool) → holds σ l ≡ t → (o : Bool) → occurs (opposite l) ls ≡ o → (o || tautology ls) ≡ true →
          (tautology ls ≡ true → falsified σ ls ≡ false) → (not t && falsified σ ls) ≡ false
      by true q o p e r = refl
      by false q true p e r = occurs_holds (opposite l) ls p (opposite_holds σ l ∙ rw q)
      by false q false p e r = r e
