-- An extension is fair.
use Rattle.std.specs.Prelude.{Bool, not, ◌&&◌, ◌≡◌, refl, ℕ, ◌+◌, min, List, [], ◌∷◌, map}
use Rattle.std.proofs.Math.Bool.{true, false, and-true}
use Rattle.std.proofs.Math.Option.{some}
use Rattle.std.proofs.Common.{arith}
use Rattle.instance.specs.Clause.{Literal, Weight, soft, Clause, clause_at}
use Rattle.instance.specs.Meaning.{Assignment, holds, falsified, broken}
use Rattle.instance.specs.Within.{Every, In}
use Rattle.calculus.specs.Branch.{Branch, put, unit_of, gain, several, numbered, branches}
use Rattle.calculus.proofs.Theorems.Basics.{due, due_zero}
use Rattle.calculus.proofs.Theorems.Cases.{single, Extension, opens, branches_each}
use Rattle.calculus.proofs.Theorems.Worth.{toll, charge, raw, worth, least, raw_put, adds_unit}
use Rattle.calculus.proofs.Theorems.Fair.{Sane, Fair, literals_in_lem, sane_unit, sane_put}

module _ (H n : ℕ) where
  -- of the branches that gain a literal each, the least gains what the clause comes to
  spread : (σ : Assignment) (w : Weight) (l : Literal) (ls : List Literal) (b : Branch) → Every (In n) (l ∷ ls) →
      least H n σ (branches w (map single (l ∷ ls)) b) ≡ min H (raw H n σ b + due (falsified σ (l ∷ ls)) (toll H w))
  unfolding branches gain least falsified
  spread σ w l [] b h = rw (and-true (not (holds σ l))) (omega (arith, adds_unit H n σ w l b h.0))
  spread σ w l (k ∷ ks) b h =
      by (not (holds σ l)) (falsified σ (k ∷ ks)) (adds_unit H n σ w l b h.0) (spread σ w k ks b h.1)
    where
      rest : ℕ
      rest = least H n σ (branches w (map single (k ∷ ks)) b)

      by : (t u : Bool) → worth H n σ (unit_of w l b) ≡ min H (raw H n σ b + due t (toll H w)) →
          rest ≡ min H (raw H n σ b + due u (toll H w)) →
          min (worth H n σ (unit_of w l b)) rest ≡ min H (raw H n σ b + due (t && u) (toll H w))
      by true true e f = unfold due in (omega arith)
      by true false e f = unfold due in (omega arith)
      by false u e f = unfold due in (omega arith)

  pub extend_fair : (b : Branch) (i : ℕ) (c : Clause) (bs : List Branch) → Sane n b → clause_at b.rules i ≡ some c →
      Extension b i c (some bs) → Fair H n b bs
  extend_fair b i c bs s e (opens l k ks q t u) = record {
    even = λ σ. omega (arith, spread σ c.weight l (k ∷ ks) after (literals_in_lem n b i c (l ∷ k ∷ ks) s e q), spent_clause σ);
    sane = branches_each (Sane n) c.weight after (l ∷ k ∷ ks)
        (λ j m. sane_unit n c.weight j after (sane_put n i c (soft 0) b e (rw q (unfold numbered several in refl)) s));
  }
    where
      after : Branch
      after = put i (soft 0) b

      -- with the clause spent the branch is worth less by what the clause came to
      spent_clause : (σ : Assignment) → raw H n σ after + due (falsified σ (l ∷ k ∷ ks)) (toll H c.weight) ≡ raw H n σ b
      spent_clause σ = unfold toll in (omega (arith, rw whole at (raw_put H n σ i c (soft 0) b e), due_zero (broken σ c.body)))
        where
          whole : charge H σ c ≡ due (falsified σ (l ∷ k ∷ ks)) (toll H c.weight)
          whole = unfold charge broken in (rw q)
