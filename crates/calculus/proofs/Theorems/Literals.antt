-- Literals, sums over the literals of the variables 1 to n, and what one literal's new weight or mark does to them.
use Rattle.std.specs.Prelude.{ℕ, zero, suc, ◌+◌, ◌≤◌, Bool, true, false, not, ◌≡◌, refl}
use Rattle.std.proofs.Math.Bool.{not-not}
use Rattle.std.proofs.Common.{ap, ap₂, sym, ◌∙◌, arith, eqb-true, eq-eqb}
use Rattle.std.proofs.Math.Nat.{suc_inj}
use Rattle.instance.specs.Clause.{Literal, pos, neg, variable_of, same, opposite}
use Rattle.instance.specs.Meaning.{Assignment, holds}
use Rattle.instance.specs.Within.{In}
use Rattle.calculus.specs.Branch.{Branch, set_weight, mark}
use Rattle.calculus.proofs.Theorems.Basics.{clash, false_unless, due}
use Rattle.calculus.proofs.Theorems.Sum.{sum_to, sum_to_same, sum_to_at, sum_to_zero}

pub same_true : (k l : Literal) → same k l ≡ true → k ≡ l
unfolding same
same_true (pos x) (pos y) e = ap pos (eqb-true x y e)
same_true (pos x) (neg y) e = clash e refl
same_true (neg x) (pos y) e = clash e refl
same_true (neg x) (neg y) e = ap neg (eqb-true x y e)

pub same_self : (l : Literal) → same l l ≡ true
unfolding same
same_self (pos x) = eq-eqb x x refl
same_self (neg x) = eq-eqb x x refl

pub same_false : (k l : Literal) → (k ≡ l → ⊥) → same k l ≡ false
same_false k l h = false_unless (same k l) (λ e. h (same_true k l e))

pub opposite_holds : (σ : Assignment) (l : Literal) → holds σ (opposite l) ≡ not (holds σ l)
unfolding holds opposite
opposite_holds σ (pos x) = refl
opposite_holds σ (neg x) = sym (not-not (σ x))

pub opposite_in : (n : ℕ) (l : Literal) → In n l → In n (opposite l)
unfolding opposite variable_of
opposite_in n (pos x) h = h
opposite_in n (neg x) h = h

pub opposite_apart : (l : Literal) → opposite l ≡ l → ⊥
unfolding opposite
opposite_apart (pos x) e = let z : ◌≡◌ {A = ℕ} 0 1 = cc in omega arith
opposite_apart (neg x) e = let z : ◌≡◌ {A = ℕ} 0 1 = cc in omega arith

-- ---- sums over the literals
unfoldable pub lit_sum : ℕ → (Literal → ℕ) → ℕ
lit_sum n f = sum_to n (λ x. f (pos (suc x)) + f (neg (suc x)))

-- f and g differ at l and its opposite only
pub lit_sum_pair : (n : ℕ) (f g : Literal → ℕ) (l : Literal) → In n l →
    ((k : Literal) → (variable_of k ≡ variable_of l → ⊥) → f k ≡ g k) →
    lit_sum n f + (g l + g (opposite l)) ≡ lit_sum n g + (f l + f (opposite l))
unfolding lit_sum variable_of opposite
lit_sum_pair n f g (pos zero) h d = absurd (omega arith)
lit_sum_pair n f g (neg zero) h d = absurd (omega arith)
lit_sum_pair n f g (pos (suc x)) h d =
    sum_to_at n _ _ x (omega arith) (λ y u. ap₂ ◌+◌ (d (pos (suc y)) (λ q. u (suc_inj q))) (d (neg (suc y)) (λ q. u (suc_inj q))))
lit_sum_pair n f g (neg (suc x)) h d =
    omega (arith, sum_to_at n _ _ x (omega arith) (λ y u. ap₂ ◌+◌ (d (pos (suc y)) (λ q. u (suc_inj q))) (d (neg (suc y)) (λ q. u (suc_inj q)))))

-- f and g differ at l only
lit_sum_at : (n : ℕ) (f g : Literal → ℕ) (l : Literal) → In n l → ((k : Literal) → (k ≡ l → ⊥) → f k ≡ g k) →
    lit_sum n f + g l ≡ lit_sum n g + f l
lit_sum_at n f g l h d =
    omega (arith, lit_sum_pair n f g l h (λ k u. d k (λ q. u (ap variable_of q))), d (opposite l) (opposite_apart l))

pub lit_sum_same : (n : ℕ) (f g : Literal → ℕ) → ((k : Literal) → In n k → f k ≡ g k) → lit_sum n f ≡ lit_sum n g
unfolding lit_sum variable_of
lit_sum_same n f g h = sum_to_same n _ _ (λ y l. ap₂ ◌+◌ (h (pos (suc y)) (omega arith)) (h (neg (suc y)) (omega arith)))

pub lit_sum_zero : (n : ℕ) (f : Literal → ℕ) → ((k : Literal) → In n k → f k ≡ 0) → lit_sum n f ≡ 0
lit_sum_zero n f h = lit_sum_same n f (λ k. 0) h ∙ none
  where
    none : lit_sum n (λ k. 0) ≡ 0
    none = unfold lit_sum in (sum_to_zero n)

pub lit_sum_ge : (n : ℕ) (f : Literal → ℕ) (l : Literal) → In n l → f l ≤ lit_sum n f
lit_sum_ge n f l h = omega (arith, lit_sum_at n f g l h (λ k d. sym (off k (same_false k l d))), on (same_self l))
  where
    g : Literal → ℕ
    g k = due (not (same k l)) (f k)

    off : (k : Literal) → same k l ≡ false → g k ≡ f k
    off k e = unfold due in (rw e)

    on : same l l ≡ true → g l ≡ 0
    on e = unfold due in (rw e)

-- ---- one literal's weight, one literal's mark
module _ (l : Literal) (v : ℕ) (b : Branch) where
  pub set_own : (set_weight l v b).weight l ≡ v
  unfolding set_weight
  set_own = rw (same_self l, set_weight)

  pub set_other : (k : Literal) → (k ≡ l → ⊥) → (set_weight l v b).weight k ≡ b.weight k
  unfolding set_weight
  set_other k d = rw (same_false k l d, set_weight)

module _ (n : ℕ) (l : Literal) (b : Branch) (h : In n l) where
  pub lit_sum_weight : (F : Literal → ℕ → ℕ) (v : ℕ) →
      lit_sum n (λ k. F k ((set_weight l v b).weight k)) + F l (b.weight l) ≡ lit_sum n (λ k. F k (b.weight k)) + F l v
  lit_sum_weight F v =
      rw (set_own l v b) at
      (lit_sum_at n (λ k. F k ((set_weight l v b).weight k)) (λ k. F k (b.weight k)) l h (λ k d. ap (F k) (set_other l v b k d)))

  pub lit_sum_mark : (F : Literal → Bool → ℕ) →
      lit_sum n (λ k. F k ((mark l b).marked k)) + F l (b.marked l) ≡ lit_sum n (λ k. F k (b.marked k)) + F l true
  lit_sum_mark F =
      rw own at
      (lit_sum_at n (λ k. F k ((mark l b).marked k)) (λ k. F k (b.marked k)) l h (λ k d. ap (F k) (other k (same_false k l d))))
    where
      own : (mark l b).marked l ≡ true
      own = unfold mark in (rw (same_self l))

      other : (k : Literal) → same k l ≡ false → (mark l b).marked k ≡ b.marked k
      other k e = unfold mark in (rw e)
