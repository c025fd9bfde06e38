-- Walking over a store that holds an instance: its clauses one by one, and where their literals lie.
use Rattle.std.specs.Prelude.{ℕ, zero, suc, ◌+◌, ◌-◌, ◌<◌, ◌≤◌, List, [], ◌∷◌, ◌++◌, ◌≡◌, refl, length, get_or, take, drop}
use Rattle.std.proofs.Math.Option.{some}
use Rattle.std.proofs.Common.{ap, ◌∙◌, arith, add-one, length-append, drop-cons}
use Rattle.std.proofs.Math.Decide.{ℕ_discrete}
use Rattle.std.proofs.Math.ListN.{get_or-append}
use Rattle.std.proofs.lemmas.List.{get_or_at}
use Rattle.instance.specs.Limits.{most_literals}
use Rattle.instance.specs.Clause.{Clause, Problem, clause_at}
use Rattle.instance.specs.Store.{literals_at, start_in, end_in, clause_in, clauses_in, Laid, Stored}
use Rattle.instance.specs.Theorems.Clauses.{clause_at_lem}

-- ---- the clauses by index
pub clauses_length : (store : List ℕ) (K : ℕ) → length (clauses_in store K) ≡ K
unfolding clauses_in
clauses_length store zero = refl
clauses_length store (suc K) =
    omega (arith, clauses_length store K, length-append (clauses_in store K) (clause_in store K ∷ []))

pub clauses_get : (store : List ℕ) (K k : ℕ) (d : Clause) → k < K → get_or (clauses_in store K) k d ≡ clause_in store k
unfolding clauses_in
clauses_get store zero k d h = absurd (omega arith)
clauses_get store (suc K) k d h = go (ℕ_discrete k K) (clauses_get store K k d)
  where
    go : Dec (k ≡ K) → (k < K → get_or (clauses_in store K) k d ≡ clause_in store k)
        → get_or (clauses_in store K ++ (clause_in store K ∷ [])) k d ≡ clause_in store k
    go (yes e) ih = rw e (get_or_at (clauses_in store K) (clause_in store K) [] d K (clauses_length store K))
    go (no n) ih =
        let l : k < K = omega (arith, n) in
        get_or-append (clauses_in store K) (clause_in store K ∷ []) d k (omega (arith, clauses_length store K)) ∙ ih l

module _ {store : List ℕ} {I : Problem} (s : Stored store I) (k : ℕ) (h : k < length I.clauses) where
  stored_get : get_or I.clauses k (clause_in store k) ≡ clause_in store k
  stored_get = rw s.clauses at (clauses_get store (length I.clauses) k (clause_in store k) h)

  pub stored_clause : clause_at I.clauses (k + 1) ≡ some (clause_in store k)
  stored_clause = rw add-one (clause_at_lem I.clauses k (clause_in store k) h ∙ ap some stored_get)

  -- what is left of the clauses at index k
  pub stored_rest : drop k I.clauses ≡ clause_in store k ∷ drop (k + 1) I.clauses
  stored_rest =
      rw add-one
      (drop-cons I.clauses k (clause_in store k) h ∙ ap (λ (c : Clause). c ∷ drop (suc k) I.clauses) stored_get)

-- ---- where the literals lie
-- the part of the store that is lent for the literals from s to e; codes_in of a clause, at its start and end
pub codes_lent : (store : List ℕ) (s e : ℕ)
    → take (literals_at + e - (literals_at + s)) (drop (literals_at + s) store) ≡ take (e - s) (drop (literals_at + s) store)
codes_lent store s e =
    let same : literals_at + e - (literals_at + s) ≡ e - s = omega arith in
    rw same

module _ {store : List ℕ} {n K : ℕ} (laid : Laid store n K) where
  pub start_within : (k : ℕ) → k ≤ K → start_in store k ≤ most_literals
  start_within zero h = omega arith
  start_within (suc k) h = laid.within k h

  pub ends_rise : (k m : ℕ) → k < m → m ≤ K → end_in store k ≤ start_in store m
  ends_rise k zero h l = absurd (omega arith)
  ends_rise k (suc m) h l = go (ℕ_discrete k m) (ends_rise k m)
    where
      go : Dec (k ≡ m) → (k < m → m ≤ K → end_in store k ≤ start_in store m) → end_in store k ≤ end_in store m
      go (yes e) ih = rw e (omega arith)
      go (no n) ih = omega (arith, ih (omega (arith, n)) (omega arith), laid.order m l)
