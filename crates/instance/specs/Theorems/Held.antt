-- What a store holds by its numbers, and as an instance.
use Rattle.std.specs.Prelude.{ℕ, Bool, true, false, List, ◌≡◌, refl, eqb, length}
use Rattle.std.proofs.Common.{sym, ap, subst}
use Rattle.instance.specs.Clause.{Problem}
use Rattle.instance.specs.Within.{Within}
use Rattle.instance.specs.Store.{flag_of, clauses_in, problem_in, Laid, Holds, Stored, Given}
use Rattle.instance.specs.Theorems.Store.{clauses_length}
use Rattle.instance.specs.declared.Instance.{Instance}

-- a flag, read
pub flag_read : (b : Bool) → eqb (flag_of b) 1 ≡ b
unfolding flag_of
flag_read true = refl
flag_read false = refl

pub stored_in : (store : List ℕ) (counts : Instance) → Holds store counts → Stored store (problem_in store counts)
stored_in store counts h =
    let e = clauses_length store counts.clauses in
    record {
      clauses = ap (clauses_in store) e;
      laid = subst (λ (K : ℕ). Laid store counts.variables K) (sym e) h.laid;
      within = h.within;
    }

pub given_in : (store : List ℕ) (counts : Instance)
    → Holds store counts → Given store counts.variables counts.clauses (problem_in store counts)
given_in store counts h = record {
  stored = stored_in store counts h;
  variables = refl;
  clauses = sym (clauses_length store counts.clauses);
}

-- the numbers of an instance
pub record Counts (counts : Instance) (I : Problem) : Type 0 where
  pub variables : counts.variables ≡ I.variables
  pub written : counts.written ≡ I.written
  pub clauses : counts.clauses ≡ length I.clauses

-- they and the store's clauses are all there is of it
pub problem_is : (store : List ℕ) (counts : Instance) (I : Problem) → Stored store I → Counts counts I → problem_in store counts ≡ I
problem_is store counts I s c = rw (c.variables, c.written, c.clauses, s.clauses) refl

pub holds_stored : (store : List ℕ) (counts : Instance) (I : Problem) → Stored store I → Counts counts I → Holds store counts
holds_stored store counts I s c =
    let e : problem_in store counts ≡ I = problem_is store counts I s c in
    record {
      laid = rw (c.variables, c.clauses) s.laid;
      within = subst Within (sym e) s.within;
    }
