-- What the store of an instance holds of each clause.
use Rattle.std.specs.Prelude.{ℕ, zero, suc, ◌+◌, ◌-◌, ◌/◌, ◌<◌, ◌≤◌, List, [], ◌∷◌, ◌≡◌, length, get_or, take, drop}
use Rattle.std.proofs.Math.Option.{some}
use Rattle.std.proofs.Common.{ap, ◌∙◌, arith, length-take, length-drop, drop-cons, get_or-take, get_or-drop}
use Rattle.instance.specs.Limits.{most_clauses}
use Rattle.instance.specs.Clause.{Clause, Problem, clause_at, soft_of}
use Rattle.instance.specs.Store.{weights_at, literals_at, start_in, end_in, codes_in, clause_in, clauses_in, Stored}
use Rattle.instance.specs.Theorems.Clauses.{clause_at_lem}
use Rattle.instance.specs.Theorems.Codes.{soft_weight_lem}
use Rattle.instance.specs.Theorems.Every.{every_at}
use Rattle.instance.specs.Theorems.Store.{clauses_length, clauses_get}
use Rattle.branch.specs.Works.{soft_at}
use Rattle.branch.specs.Extensions.{Coded}

-- ---- the clause at a place of a list
pub at_low : (cs : List Clause) (k : ℕ) (c : Clause) → clause_at cs (suc k) ≡ some c → k < length cs
unfolding clause_at
at_low [] k c e = absurd (let z : ◌≡◌ {A = ℕ} 0 1 = cc in omega arith)
at_low (d ∷ ds) zero c e = omega arith
at_low (d ∷ ds) (suc k) c e = omega (arith, at_low ds k c e)

pub clause_in_lem : (store : List ℕ) (n k : ℕ) → k < n → clause_at (clauses_in store n) (suc k) ≡ some (clause_in store k)
clause_in_lem store n k lt =
    clause_at_lem (clauses_in store n) k (clause_in store k) (rw (clauses_length store n) lt)
    ∙ ap some (clauses_get store n k (clause_in store k) lt)

-- ---- weights
pub soft_at_lem : (cs : List Clause) (k : ℕ) (c : Clause) → clause_at cs (suc k) ≡ some c → soft_at cs k ≡ soft_of c.weight
unfolding soft_at clause_at
soft_at_lem [] k c e = cc
soft_at_lem (d ∷ ds) zero c e = let z : d ≡ c = cc in ap (λ x. soft_of x.weight) z
soft_at_lem (d ∷ ds) (suc k) c e = soft_at_lem ds k c e

-- ---- a part of the store
-- a part that is not empty begins with the element at its place
pub part_cons : (s : List ℕ) (p n : ℕ) → p < length s → take (suc n) (drop p s) ≡ get_or s p 0 ∷ take n (drop (suc p) s)
part_cons s p n lt = rw (drop-cons s p 0 lt)

module _ (store : List ℕ) (I : Problem) (st : Stored store I) (k : ℕ) (lt : k < length I.clauses) where
  pub clause_low : k < most_clauses
  clause_low = omega (arith, st.laid.few)

  pub clause_stored : clause_at I.clauses (suc k) ≡ some (clause_in store k)
  clause_stored = rw (← st.clauses) (clause_in_lem store (length I.clauses) k lt)

  pub soft_stored : soft_at I.clauses k ≡ get_or store (weights_at + k) 0
  unfolding clause_in
  soft_stored = soft_at_lem I.clauses k (clause_in store k) clause_stored ∙ soft_weight_lem (get_or store (weights_at + k) 0)

  -- each literal's code is that of a variable up to n
  pub literal_fits : (j : ℕ) → start_in store k ≤ j → j < end_in store k
      → (2 ≤ get_or store (literals_at + j) 0) × (get_or store (literals_at + j) 0 / 2 ≤ I.variables)
  literal_fits j lo hi =
      let room = st.laid.room in
      let within = st.laid.within k lt in
      let n : ℕ = end_in store k - start_in store k in
      let i : ℕ = j - start_in store k in
      let low : i < length (codes_in store k) = simp (length-take, length-drop) (omega arith) in
      let e : get_or (codes_in store k) i 0 ≡ get_or store (literals_at + j) 0 =
      get_or-take n (drop (literals_at + start_in store k) store) i 0 (omega arith)
      ∙ get_or-drop (literals_at + start_in store k) store i 0
      ∙ ap (λ p. get_or store p 0) (omega arith)
      in
      rw e at (every_at (λ c. (2 ≤ c) × (c / 2 ≤ I.variables)) 0 (codes_in store k) i (st.laid.codes k lt) low)

  pub literal_coded : (j : ℕ) → start_in store k ≤ j → j < end_in store k → Coded (get_or store (literals_at + j) 0)
  literal_coded j lo hi =
      let (two, most) = literal_fits j lo hi in
      (two, omega (arith, st.within.top))
