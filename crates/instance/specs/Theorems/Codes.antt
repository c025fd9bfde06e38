-- Laws of the store's codes of literals and weights.
use Rattle.std.specs.Prelude.{ℕ, zero, suc, ◌+◌, ◌-◌, ◌*◌, ◌/◌, ◌%◌, ◌≤◌, ◌≡◌, refl, eqb}
use Rattle.std.proofs.Common.{sym, ap, ◌∙◌, arith, eq-eqb, ne_eqb}
use Rattle.std.proofs.Math.Decide.{ℕ_discrete}
use Rattle.instance.specs.Clause.{Literal, pos, neg, Weight, hard, soft, variable_of, same, opposite, soft_of}
use Rattle.instance.specs.Within.{In, Weighty}
use Rattle.instance.specs.Store.{literal_of, code_of, weight_of}
use Rattle.instance.specs.Theorems.Choices.{eqb_same}

-- ---- a literal and its code
pub literal_even : (c : ℕ) → c % 2 ≡ 0 → literal_of c ≡ pos (c / 2)
unfolding literal_of
literal_even c e = rw (eq-eqb (c % 2) 0 e, literal_of)

pub literal_odd : (c : ℕ) → (c % 2 ≡ 0 → ⊥) → literal_of c ≡ neg (c / 2)
unfolding literal_of
literal_odd c n = rw (ne_eqb (c % 2) 0 n, literal_of)

pub literal_code : (l : Literal) → literal_of (code_of l) ≡ l
unfolding code_of
literal_code (pos x) = literal_even (2 * x) (omega arith) ∙ ap pos (omega arith)
literal_code (neg x) = literal_odd (2 * x + 1) (λ e. omega arith) ∙ ap neg (omega arith)

pub code_literal : (c : ℕ) → code_of (literal_of c) ≡ c
unfolding code_of
code_literal c = go (ℕ_discrete (c % 2) 0)
  where
    go : Dec (c % 2 ≡ 0) → code_of (literal_of c) ≡ c
    go (yes e) = ap code_of (literal_even c e) ∙ omega arith
    go (no n) = ap code_of (literal_odd c n) ∙ omega (arith, n)

pub variable_in : (c : ℕ) → variable_of (literal_of c) ≡ c / 2
unfolding variable_of
variable_in c = go (ℕ_discrete (c % 2) 0)
  where
    go : Dec (c % 2 ≡ 0) → variable_of (literal_of c) ≡ c / 2
    go (yes e) = ap variable_of (literal_even c e)
    go (no n) = ap variable_of (literal_odd c n)

-- the codes of the literals of the variables 1 to n are 2 to 2n + 1
pub code_low : (n : ℕ) (l : Literal) → In n l → 2 ≤ code_of l
unfolding variable_of code_of
code_low n (pos x) h = omega arith
code_low n (neg x) h = omega arith

pub code_high : (n : ℕ) (l : Literal) → In n l → code_of l ≤ 2 * n + 1
unfolding variable_of code_of
code_high n (pos x) h = omega arith
code_high n (neg x) h = omega arith

-- ---- the same and the opposite
same_code : (l k : Literal) → same l k ≡ eqb (code_of l) (code_of k)
unfolding same code_of
same_code (pos x) (neg y) = sym (ne_eqb (2 * x) (2 * y + 1) (λ e. omega arith))
same_code (neg x) (pos y) = sym (ne_eqb (2 * x + 1) (2 * y) (λ e. omega arith))
same_code (pos x) (pos y) = eqb_same x y (2 * x) (2 * y) (λ e. omega arith) (λ e. omega arith)
same_code (neg x) (neg y) = eqb_same x y (2 * x + 1) (2 * y + 1) (λ e. omega arith) (λ e. omega arith)

pub same_literals : (c d : ℕ) → same (literal_of c) (literal_of d) ≡ eqb c d
same_literals c d = same_code (literal_of c) (literal_of d) ∙ rw (code_literal c, code_literal d)

pub opposite_even : (c : ℕ) → c % 2 ≡ 0 → literal_of (c + 1) ≡ opposite (literal_of c)
unfolding opposite
opposite_even c e = literal_odd (c + 1) (λ z. omega arith) ∙ ap neg (omega arith) ∙ sym (ap opposite (literal_even c e))

pub opposite_odd : (c : ℕ) → (c % 2 ≡ 0 → ⊥) → literal_of (c - 1) ≡ opposite (literal_of c)
unfolding opposite
opposite_odd c n = literal_even (c - 1) (omega (arith, n)) ∙ ap pos (omega (arith, n)) ∙ sym (ap opposite (literal_odd c n))

-- ---- weights
pub soft_weight_lem : (c : ℕ) → soft_of (weight_of c) ≡ c
unfolding soft_of weight_of
soft_weight_lem zero = refl
soft_weight_lem (suc c) = refl

pub weight_soft : (w : Weight) → Weighty w → weight_of (soft_of w) ≡ w
unfolding soft_of weight_of
weight_soft hard h = refl
weight_soft (soft zero) h = absurd (omega arith)
weight_soft (soft (suc w)) h = refl
