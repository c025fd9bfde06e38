-- Finite sums and products, and what a change at one place does to them.
use Rattle.std.proofs.Math.Option.{some, some-injective, none-ne-some}
use Rattle.std.specs.Prelude.{◌≡◌, ℕ, zero, suc, ◌+◌, ◌<◌, List, [], ◌∷◌, ◌++◌}
use Rattle.std.proofs.Math.Path.{refl, ap}
use Rattle.std.proofs.Common.{◌∙◌, arith}
use Rattle.std.proofs.Math.Decide.{ℕ_discrete}
use Rattle.instance.specs.Clause.{Weight, Clause, clause_at}
use Rattle.instance.specs.Within.{Every}
use Rattle.calculus.specs.Branch.{put_at}

-- ---- f 0 + .. + f (n - 1)
unfoldable pub sum_to : ℕ → (ℕ → ℕ) → ℕ
sum_to zero f = 0
sum_to (suc n) f = sum_to n f + f n

pub sum_to_same : (n : ℕ) (f g : ℕ → ℕ) → ((y : ℕ) → y < n → f y ≡ g y) → sum_to n f ≡ sum_to n g
unfolding sum_to
sum_to_same zero f g h = refl
sum_to_same (suc n) f g h = omega (arith, sum_to_same n f g (λ y l. h y (omega arith)), h n (omega arith))

-- f and g differ at x only
pub sum_to_at : (n : ℕ) (f g : ℕ → ℕ) (x : ℕ) → x < n → ((y : ℕ) → (y ≡ x → ⊥) → f y ≡ g y) → sum_to n f + g x ≡ sum_to n g + f x
unfolding sum_to
sum_to_at zero f g x l h = absurd (omega arith)
sum_to_at (suc n) f g x l h = split (ℕ_discrete n x) (λ k. sum_to_at n f g x k h)
  where
    split : Dec (n ≡ x) → (x < n → sum_to n f + g x ≡ sum_to n g + f x) → sum_to n f + f n + g x ≡ sum_to n g + g n + f x
    split (yes e) ih = rw (← e) (omega (arith, sum_to_same n f g (λ y k. h y (λ q. omega arith))))
    split (no d) ih = omega (arith, ih (omega arith), h n d)

pub sum_to_zero : (n : ℕ) → sum_to n (λ y. 0) ≡ 0
unfolding sum_to
sum_to_zero zero = refl
sum_to_zero (suc n) = omega (arith, sum_to_zero n)

-- ---- f x₁ ⊕ .. ⊕ f xₙ ⊕ z over a list: a sum, or a product
unfoldable pub fold : {A : Type 0} → (ℕ → ℕ → ℕ) → ℕ → (A → ℕ) → List A → ℕ
fold op z f [] = z
fold op z f (x ∷ xs) = op (f x) (fold op z f xs)

abbrev pub sum_of : {A : Type 0} → (A → ℕ) → List A → ℕ
sum_of f xs = fold ◌+◌ 0 f xs

-- a clause with another weight
abbrev pub at_weight : Weight → Clause → Clause
at_weight w c = record { weight = w; body = c.body }

-- Over an operation whose operands may change places.
module _ (op : ℕ → ℕ → ℕ) (swap : (a b c : ℕ) → op a (op b c) ≡ op b (op a c)) (z : ℕ) where
  pub fold_snoc : {A : Type 0} (f : A → ℕ) (xs : List A) (x : A) → fold op z f (xs ++ (x ∷ [])) ≡ op (f x) (fold op z f xs)
  unfolding fold
  fold_snoc f [] x = refl
  fold_snoc f (y ∷ xs) x = ap (op (f y)) (fold_snoc f xs x) ∙ swap (f y) (f x) (fold op z f xs)

  -- clause i is left at weight w
  pub fold_put : (f : Clause → ℕ) (cs : List Clause) (i : ℕ) (c : Clause) (w : Weight) → clause_at cs i ≡ some c →
      op (f c) (fold op z f (put_at cs i w)) ≡ op (f (at_weight w c)) (fold op z f cs)
  unfolding fold put_at clause_at
  fold_put f [] i c w e = absurd (none-ne-some _ e)
  fold_put f (d ∷ cs) zero c w e = absurd (none-ne-some _ e)
  fold_put f (d ∷ cs) (suc zero) c w e = rw (some-injective _ _ e) (swap (f c) (f (at_weight w c)) (fold op z f cs))
  fold_put f (d ∷ cs) (suc (suc i)) c w e =
      swap (f c) (f d) (fold op z f (put_at cs (suc i) w)) ∙
      (ap (op (f d)) (fold_put f cs (suc i) c w e) ∙ swap (f d) (f (at_weight w c)) (fold op z f cs))

pub sum_append : {A : Type 0} (f : A → ℕ) (xs ys : List A) → sum_of f (xs ++ ys) ≡ sum_of f xs + sum_of f ys
unfolding fold
sum_append f [] ys = omega arith
sum_append f (x ∷ xs) ys = omega (arith, sum_append f xs ys)

pub sum_zero : {A : Type 0} (f : A → ℕ) (xs : List A) → Every (λ x. f x ≡ 0) xs → sum_of f xs ≡ 0
unfolding fold
sum_zero f [] h = refl
sum_zero f (x ∷ xs) h = omega (arith, h.0, sum_zero f xs h.1)
