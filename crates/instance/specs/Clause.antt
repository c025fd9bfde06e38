-- Literals, clauses and instances (01, "Instance text").
use Rattle.std.specs.Prelude.{ℕ, zero, suc, ◌+◌, Bool, true, false, ◌||◌, List, [], ◌∷◌, ◌++◌, eqb}
use Rattle.std.proofs.Math.Option.{Option, some, none}

-- a variable, or its opposite
pub data Literal : Type 0 where
  pos neg : ℕ → Literal

-- a clause is hard, or soft with a weight
pub data Weight : Type 0 where
  hard : Weight
  soft : ℕ → Weight

-- what stands on a line after the weight: the literals of a clause, in kept order
pub data Body : Type 0 where
  clause : List Literal → Body

pub record Clause : Type 0 where
  pub weight : Weight
  pub body : Body

-- What a text is read as: n, the largest variable number written (0 if none); the number of literals as written;
-- the clauses, numbered from 1 in text order.
pub record Problem : Type 0 where
  pub variables : ℕ
  pub written : ℕ
  pub clauses : List Clause

unfoldable pub variable_of : Literal → ℕ
variable_of (pos x) = x
variable_of (neg x) = x

unfoldable pub same : Literal → Literal → Bool
same (pos x) (pos y) = eqb x y
same (pos x) (neg y) = false
same (neg x) (pos y) = false
same (neg x) (neg y) = eqb x y

unfoldable pub opposite : Literal → Literal
opposite (pos x) = neg x
opposite (neg x) = pos x

unfoldable pub occurs : Literal → List Literal → Bool
occurs l [] = false
occurs l (k ∷ ks) = same l k || occurs l ks

-- "A repeated literal is kept once, at its first place."
unfoldable pub kept_with : List Literal → Literal → List Literal
kept_with ls l = elim (occurs l ls) [ true ↦ ls | false ↦ ls ++ (l ∷ []) ]

-- "A clause with some variable in both signs is a tautology."
unfoldable pub tautology : List Literal → Bool
tautology [] = false
tautology (l ∷ ls) = occurs (opposite l) ls || tautology ls

-- the clause of a number, counted from 1
unfoldable pub clause_at : List Clause → ℕ → Option Clause
clause_at [] i = none
clause_at (c ∷ cs) zero = none
clause_at (c ∷ cs) (suc zero) = some c
clause_at (c ∷ cs) (suc (suc i)) = clause_at cs (suc i)

-- a hard clause has no soft weight
unfoldable pub soft_of : Weight → ℕ
soft_of hard = 0
soft_of (soft w) = w

-- the total soft weight: "all soft clauses, tautologies included" (01, "What is built")
unfoldable pub total_of : List Clause → ℕ
total_of [] = 0
total_of (c ∷ cs) = soft_of c.weight + total_of cs
