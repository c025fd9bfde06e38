-- A contradiction is fair.
use Rattle.std.specs.Prelude.{ℕ, ◌+◌, ◌≤◌, Bool, not, [], ◌∷◌, ◌≡◌}
use Rattle.std.proofs.Math.Bool.{true, false}
use Rattle.std.proofs.Math.Option.{some}
use Rattle.std.proofs.Common.{ap, sym, subst, ◌∙◌, arith}
use Rattle.instance.specs.Clause.{Literal, pos, neg, variable_of, opposite}
use Rattle.instance.specs.Meaning.{Assignment, holds}
use Rattle.instance.specs.Within.{Every, In}
use Rattle.calculus.specs.Branch.{Branch}
use Rattle.calculus.proofs.Theorems.Basics.{due}
use Rattle.calculus.proofs.Theorems.Literals.{opposite_holds, opposite_in}
use Rattle.calculus.proofs.Theorems.Cases.{Dies, Takes, Contradiction, both_hard, one_hard, both_soft}
use Rattle.calculus.proofs.Theorems.Worth.{raw, worth, least, raw_dead, raw_marked, raw_takes}
use Rattle.calculus.proofs.Theorems.Fair.{Whole, Sane, Fair}

module _ (H n : ℕ) where
  -- both literals hard: no assignment meets both marks
  both_level : (x : ℕ) (b d : Branch) → In n (pos x) → b.marked (pos x) ≡ true → b.marked (neg x) ≡ true → Dies b d →
      (σ : Assignment) →
      worth H n σ b ≡ worth H n σ d
  unfolding holds variable_of
  both_level x b d h p q t σ = by (σ x) (raw_marked H n σ (pos x) b h p) (raw_marked H n σ (neg x) b h q)
    where
      by : (t : Bool) → due (not t) H ≤ raw H n σ b → due (not (not t)) H ≤ raw H n σ b → worth H n σ b ≡ worth H n σ d
      by true u v = unfold due in (omega (arith, raw_dead H n σ d t.dead))
      by false u v = unfold due in (omega (arith, raw_dead H n σ d t.dead))

  -- one literal hard: where l is true that mark is not met, where it is false its weight was live
  one_level : (l : Literal) (b d : Branch) → In n l → b.marked (opposite l) ≡ true → Takes l (b.weight l) 0 b d →
      (σ : Assignment) → worth H n σ b ≡ worth H n σ d
  one_level l b d h m t σ =
      by (holds σ l) (raw_takes H n σ l (b.weight l) 0 b d h t)
      (rw (opposite_holds σ l) at (raw_marked H n σ (opposite l) b (opposite_in n l h) m))
      (rw (opposite_holds σ l) at (raw_marked H n σ (opposite l) d (opposite_in n l h) (ap (λ f. f (opposite l)) t.marked ∙ m)))
    where
      by : (p : Bool) → raw H n σ d + due p 0 ≡ raw H n σ b + due p (b.weight l) →
          due (not (not p)) H ≤ raw H n σ b → due (not (not p)) H ≤ raw H n σ d → worth H n σ b ≡ worth H n σ d
      by true e u v = unfold due in (omega arith)
      by false e u v = unfold due in (omega arith)

  -- neither is hard: one of the two is false, so what was taken from both was live once
  soft_level : (l : Literal) (s : ℕ) (b d : Branch) → In n l → Takes l s s b d → (σ : Assignment) → worth H n σ b ≡ worth H n σ d
  soft_level l s b d h t σ = omega (arith, raw_takes H n σ l s s b d h t)

  one_place : (b d : Branch) → Sane n b → d.rules ≡ b.rules → ((σ : Assignment) → worth H n σ b ≡ worth H n σ d) →
      Fair H n b (d ∷ [])
  one_place b d s r h =
      record { even = λ σ. unfold least in (omega (arith, h σ)); sane = (subst (Every (Whole n)) (sym r) s, tt) }

  pub contradict_fair : (x : ℕ) (b d : Branch) → 1 ≤ x → x ≤ n → Sane n b → Contradiction x b (some d) → Fair H n b (d ∷ [])
  unfolding variable_of
  contradict_fair x b d lo hi s (both_hard p q t) = one_place b d s t.rules (both_level x b d (lo, hi) p q t)
  contradict_fair x b d lo hi s (one_hard l v m w t) = one_place b d s t.rules (one_level l b d (rw v (lo, hi)) m t)
  contradict_fair x b d lo hi s (both_soft c e p t) = one_place b d s t.rules (soft_level (pos x) c b d (lo, hi) t)
