-- What a record leaves as it was.
use Rattle.std.specs.Prelude.{ℕ, true, List, ◌∷◌, ◌≡◌, refl}
use Rattle.std.proofs.Math.Bool.{or-true}
use Rattle.std.proofs.Math.Option.{some}
use Rattle.instance.specs.Clause.{Literal, Weight, hard, soft, Clause, same}
use Rattle.instance.specs.Within.{Every}
use Rattle.calculus.specs.Branch.{Branch, set_weight, mark, book, kill, put, unit_of, nothing}
use Rattle.calculus.proofs.Theorems.Cases.{Contradiction, both_hard, one_hard, both_soft, Extension, opens, branches_each}

-- a contradiction: the clauses and the marks
pub record Settled (b d : Branch) : Type 0 where
  pub rules : d.rules ≡ b.rules
  pub marked : d.marked ≡ b.marked

pub contradiction_leaves : (x : ℕ) (b d : Branch) → Contradiction x b (some d) → Settled b d
contradiction_leaves x b d (both_hard p q t) = record { rules = t.rules; marked = t.marked }
contradiction_leaves x b d (one_hard l v m w t) = record { rules = t.rules; marked = t.marked }
contradiction_leaves x b d (both_soft s e p t) = record { rules = t.rules; marked = t.marked }

-- a unit gained: the clauses, whether the branch is dead, and the marks that there were
pub record Gained (b d : Branch) : Type 0 where
  pub rules : d.rules ≡ b.rules
  pub dead : d.dead ≡ b.dead
  pub marked : (l : Literal) → b.marked l ≡ true → d.marked l ≡ true

pub unit_leaves : (w : Weight) (l : Literal) (b : Branch) → Gained b (unit_of w l b)
unfolding unit_of mark set_weight
unit_leaves hard l b = record { rules = refl; dead = refl; marked = λ k m. rw m (or-true (same k l)) }
unit_leaves (soft w) l b = record { rules = refl; dead = refl; marked = λ k m. m }

pub nothing_leaves : (w : Weight) (b : Branch) → (nothing w b).rules ≡ b.rules
unfolding nothing kill book
nothing_leaves hard b = refl
nothing_leaves (soft w) b = refl

pub extension_leaves : (b : Branch) (i : ℕ) (c : Clause) (bs : List Branch) → Extension b i c (some bs) →
    Every (Gained (put i (soft 0) b)) bs
extension_leaves b i c bs (opens l k ks q t u) =
    branches_each (Gained (put i (soft 0) b)) c.weight (put i (soft 0) b) (l ∷ k ∷ ks)
    (λ j m. unit_leaves c.weight j (put i (soft 0) b))
