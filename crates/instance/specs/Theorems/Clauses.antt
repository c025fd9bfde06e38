-- Laws of clauses by their number, and of their total weight.
use Rattle.std.specs.Prelude.{ℕ, zero, suc, ◌+◌, ◌<◌, List, [], ◌∷◌, ◌++◌, ◌≡◌, refl, length, get_or}
use Rattle.std.proofs.Math.Option.{some, none}
use Rattle.std.proofs.Common.{arith}
use Rattle.instance.specs.Clause.{Clause, clause_at, soft_of, total_of}

-- the clause of number k + 1
pub clause_at_lem : (cs : List Clause) (k : ℕ) (d : Clause) → k < length cs → clause_at cs (suc k) ≡ some (get_or cs k d)
unfolding clause_at
clause_at_lem [] k d h = absurd (omega arith)
clause_at_lem (c ∷ cs) zero d h = refl
clause_at_lem (c ∷ cs) (suc k) d h = clause_at_lem cs k d (omega arith)

pub no_clause : (cs : List Clause) (i : ℕ) → length cs < i → clause_at cs i ≡ none
unfolding clause_at
no_clause [] i h = refl
no_clause (c ∷ cs) zero h = refl
no_clause (c ∷ cs) (suc zero) h = absurd (omega arith)
no_clause (c ∷ cs) (suc (suc i)) h = no_clause cs (suc i) (omega arith)

pub total_snoc : (cs : List Clause) (c : Clause) → total_of (cs ++ (c ∷ [])) ≡ total_of cs + soft_of c.weight
unfolding total_of
total_snoc [] c = omega arith
total_snoc (d ∷ ds) c = omega (arith, total_snoc ds c)
