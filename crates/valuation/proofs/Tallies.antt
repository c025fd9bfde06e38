-- One clause more: how the first broken hard clause and the falsified weight grow.
use Rattle.std.proofs.Common.{ℕ, zero, suc, ◌+◌, ◌≤◌, Bool, true, false, List, [], ◌∷◌, ◌++◌, ◌≡◌, refl, sym, ap, ◌∙◌, length, get_or, add-one, arith}
use Rattle.std.proofs.Math.Decide.{le_ind}
use Rattle.instance.specs.Clause.{Literal, clause, Clause, total_of}
use Rattle.instance.specs.Limits.{most_weight}
use Rattle.instance.specs.Meaning.{Assignment, assigned, falsified, broken, fine, priced, cost, first_broken_from, first_broken}
use Rattle.instance.specs.Store.{weights_at, weight_of, literals_in, clause_in, clauses_in}
use Rattle.instance.specs.Theorems.Clauses.{total_snoc}
use Rattle.instance.specs.Theorems.Store.{clauses_length}
use Rattle.instance.specs.Theorems.Weights.{cost_most, cost_snoc}
use Rattle.instance.specs.Theorems.Decoded.{meant_decoded}
use Rattle.instance.specs.Weights.{meant, decoded}
use Rattle.instance.specs.declared.answers.Worth.{Worth}
use Rattle.instance.specs.declared.weights.Weight.{Weight}
use Rattle.instance.specs.declared.weights.Weight.TheVariants.{Hard, Soft}
use Rattle.valuation.specs.Tally.{Tallied}

-- the first broken one, with one more clause at this place that is met or not
abbrev or_last : ℕ → Bool → ℕ → ℕ
or_last zero true place = 0
or_last zero false place = place
or_last (suc n) met place = suc n

last_met : (n place : ℕ) → n ≡ or_last n true place
last_met zero place = refl
last_met (suc n) place = refl

last_kept : (n : ℕ) (met : Bool) (place : ℕ) → (n ≡ 0 → ⊥) → n ≡ or_last n met place
last_kept zero met place h = absurd (h refl)
last_kept (suc n) met place h = refl

first_more : (σ : Assignment) (i : ℕ) (cs : List Clause) (c : Clause) →
    first_broken_from (suc i) σ (cs ++ (c ∷ [])) ≡ or_last (first_broken_from (suc i) σ cs) (fine σ c.weight c.body) (length cs + suc i)
unfolding first_broken_from
first_more σ i [] c = by (fine σ c.weight c.body)
  where
    by : (u : Bool) → ◌≡◌ {A = ℕ} (elim u [ true ↦ 0 | false ↦ suc i ]) (or_last 0 u (0 + suc i))
    by true = refl
    by false = omega arith
first_more σ i (d ∷ cs) c = by (fine σ d.weight d.body) (first_more σ (suc i) cs c)
  where
    by : (u : Bool) →
        first_broken_from (suc (suc i)) σ (cs ++ (c ∷ [])) ≡ or_last (first_broken_from (suc (suc i)) σ cs) (fine σ c.weight c.body) (length cs + suc (suc i)) →
        ◌≡◌ {A = ℕ} (elim u [ true ↦ first_broken_from (suc (suc i)) σ (cs ++ (c ∷ [])) | false ↦ suc i ])
        (or_last (elim u [ true ↦ first_broken_from (suc (suc i)) σ cs | false ↦ suc i ]) (fine σ c.weight c.body) (length (d ∷ cs) + suc i))
    by true h = h ∙ ap (or_last (first_broken_from (suc (suc i)) σ cs) (fine σ c.weight c.body)) (omega arith)
    by false h = refl

-- a clause that is not falsified is met and costs nothing
fine_kept : (σ : Assignment) (w : Weight) (ls : List Literal) → false ≡ falsified σ ls → fine σ (meant w) (clause ls) ≡ true
unfolding fine broken
fine_kept σ Hard ls q = rw (← q) refl
fine_kept σ (Soft v) ls q = refl

priced_kept : (w : Weight) → priced (meant w) false ≡ 0
unfolding priced
priced_kept Hard = refl
priced_kept (Soft v) = refl

-- ---- what an assignment is worth, with one clause more
module _ {store bytes : List ℕ} {k : ℕ} {worth : Worth} (t : Tallied store bytes k worth) where
  abbrev code : ℕ
  code = get_or store (weights_at + k) 0

  abbrev Falsified : Bool → Type 0
  Falsified b = b ≡ falsified (assigned bytes) (literals_in store k)

  grown : (w : Weight) → w ≡ decoded code → (b : Bool) → Falsified b → (after : Worth) →
      after.first_broken ≡ or_last worth.first_broken (fine (assigned bytes) (meant w) (clause (literals_in store k))) (k + 1) →
      after.falsified ≡ worth.falsified + priced (meant w) b → Tallied store bytes (k + 1) after
  unfolding clauses_in clause_in first_broken broken
  grown w e b q after f p =
      let weighs : meant w ≡ weight_of code = ap meant e ∙ meant_decoded code in
      let more = first_more (assigned bytes) 0 (clauses_in store k) (clause_in store k) in
      rw add-one (record {
        breaks = f ∙ rw (weighs, t.breaks) (sym (rw (clauses_length store k) at more));
        falsifies = p ∙ rw (weighs, q, t.falsifies) (sym (cost_snoc (assigned bytes) (clauses_in store k) (clause_in store k)));
      })

  -- not falsified: nothing changes
  pub tally_kept : Falsified false → Tallied store bytes (k + 1) worth
  tally_kept q =
      let w = decoded code in
      grown w refl false q worth (rw (fine_kept (assigned bytes) w (literals_in store k) q) (last_met _ _)) (omega (arith, priced_kept w))

  -- a soft clause falsified: its weight is added
  pub tally_soft : (v : ℕ) → Falsified true → Soft v ≡ decoded code → Tallied store bytes (k + 1) (record worth { falsified = worth.falsified + v })
  unfolding fine priced
  tally_soft v q e = grown (Soft v) e true q _ (last_met _ _) refl

  -- the first hard clause broken
  pub tally_first : Falsified true → Hard ≡ decoded code → worth.first_broken ≡ 0 → Tallied store bytes (k + 1) (record worth { first_broken = k + 1 })
  unfolding fine priced broken
  tally_first q e z = grown Hard e true q _ (rw (← q, z)) (omega arith)

  -- a hard clause broken, and one was before
  pub tally_again : Falsified true → Hard ≡ decoded code → (worth.first_broken ≡ 0 → ⊥) → Tallied store bytes (k + 1) worth
  unfolding fine priced broken
  tally_again q e n = grown Hard e true q worth (last_kept _ _ _ n) (omega arith)

-- no clause
pub tally_none : (store bytes : List ℕ) (worth : Worth) → worth.first_broken ≡ 0 → worth.falsified ≡ 0 → Tallied store bytes 0 worth
unfolding clauses_in first_broken first_broken_from cost
tally_none store bytes worth f p = record { breaks = f; falsifies = p }

-- ---- what is falsified weighs no more than all clauses
total_within : (store : List ℕ) (j K : ℕ) → j ≤ K → total_of (clauses_in store j) ≤ total_of (clauses_in store K)
unfolding clauses_in
total_within store j K h =
    le_ind (λ (m : ℕ). total_of (clauses_in store j) ≤ total_of (clauses_in store m)) (omega arith)
    (λ m l e. omega (arith, total_snoc (clauses_in store m) (clause_in store m))) K h

pub tally_light : {store bytes : List ℕ} {j : ℕ} {worth : Worth} (K : ℕ) → Tallied store bytes j worth → j ≤ K → total_of (clauses_in store K) ≤ most_weight →
    worth.falsified ≤ most_weight
tally_light {store} {bytes} {j} K t h l = omega (arith, t.falsifies, cost_most (assigned bytes) (clauses_in store j), total_within store j K h)
