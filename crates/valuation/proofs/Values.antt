-- Value's refusals and its answer, case by case.
use Rattle.std.proofs.Common.{ℕ, suc, ◌+◌, Bool, true, false, not, cond, leb, nat_lt, Option, Some, None, List, [], ◌∷◌, length, ◌≡◌, refl, sym, ap, ap₂, ◌∙◌, add-one, eq-eqb, ne_eqb, arith}
use Rattle.std.proofs.Math.Option as maybe
use Rattle.std.proofs.Math.Option.{some, none}
use Rattle.std.proofs.lemmas.Iterator.Adapters.{position_from-zero}
use Rattle.std.proofs.lemmas.Bool.Decides.{nat_tests}
use Rattle.std.specs.List.{position, position_from}
use Rattle.instance.specs.Clause.{Problem}
use Rattle.instance.specs.Meaning.{assigned, first_broken, cost}
use Rattle.instance.specs.Refusals.{staged}
use Rattle.instance.specs.Store.{clauses_in, Given}
use Rattle.instance.specs.declared.answers.Valued.{Valued}
use Rattle.instance.specs.declared.answers.Worth.{Worth}
use Rattle.valuation.specs.Value.{first_over, worth_of, valued}
use Rattle.valuation.specs.Tally.{Tallied}

-- ---- the first byte over 1, as a search for a place finds it
abbrev pub found : Option ℕ → maybe.Option ℕ
found None = none
found (Some i) = some i

over_from : (i : ℕ) (bytes : List ℕ) → found (position_from (nat_lt 1) i bytes) ≡ first_over i bytes
unfolding first_over
over_from i [] = refl
over_from i (b ∷ bs) = by (nat_lt 1 b) (leb b 1) (grind (arith, nat_tests)) (rw add-one (over_from (suc i) bs))
  where
    by : (t u : Bool) → t ≡ not u → found (position_from (nat_lt 1) (i + 1) bs) ≡ first_over (suc i) bs →
        found (cond t (Some i) (position_from (nat_lt 1) (i + 1) bs)) ≡ elim u as (λ _. maybe.Option ℕ) [ true ↦ first_over (suc i) bs | false ↦ some i ]
    by t true e h = rw e h
    by t false e h = rw e refl

pub over_found : (bytes : List ℕ) (r : Option ℕ) → r ≡ position (nat_lt 1) bytes → first_over 0 bytes ≡ found r
over_found bytes r e = sym (ap found (e ∙ position_from-zero (nat_lt 1) bytes) ∙ over_from 0 bytes)

-- ---- the answer
module _ (store : List ℕ) (n K : ℕ) (bytes : List ℕ) (I : Problem) (g : Given store n K I) where
  pub wrong_length : (length bytes ≡ n → ⊥) → Valued.Refused (staged 9 0) ≡ valued I bytes
  unfolding valued
  wrong_length h = rw (ne_eqb (length bytes) I.variables (λ e. h (e ∙ sym g.variables)), valued)

  pub wrong_byte : (i : ℕ) → length bytes ≡ n → first_over 0 bytes ≡ some i → Valued.Refused (staged 10 i) ≡ valued I bytes
  unfolding valued
  wrong_byte i e h = rw (eq-eqb (length bytes) I.variables (e ∙ g.variables), valued, h)

  pub worth_right : (worth : Worth) → length bytes ≡ n → first_over 0 bytes ≡ none → Tallied store bytes K worth → Valued.Worth worth.first_broken worth.falsified ≡ valued I bytes
  unfolding valued worth_of
  worth_right worth e h t =
      let whole : clauses_in store K ≡ I.clauses = rw g.clauses g.stored.clauses in
      rw (eq-eqb (length bytes) I.variables (e ∙ g.variables), valued, h)
      (ap₂ Valued.Worth (t.breaks ∙ ap (first_broken (assigned bytes)) whole) (t.falsifies ∙ ap (cost (assigned bytes)) whole))
