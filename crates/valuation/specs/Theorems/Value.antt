-- What an assignment that is not refused is: n bytes, each 0 or 1, and its worth.
use Rattle.std.specs.Prelude.{ℕ, suc, ◌≤◌, Bool, true, false, List, [], ◌∷◌, ◌≡◌, refl, eqb, leb, length}
use Rattle.std.proofs.Math.Option.{Option, some, none}
use Rattle.std.proofs.Common.{arith, eqb-true, leb-true, eq-eqb, le-leb}
use Rattle.instance.specs.Clause.{Problem}
use Rattle.instance.specs.Meaning.{assigned, first_broken, cost}
use Rattle.instance.specs.Refusals.{staged}
use Rattle.instance.specs.Within.{Every}
use Rattle.instance.specs.declared.answers.Valued.{Valued}
use Rattle.valuation.specs.Value.{first_over, worth_of, valued}

pub record Weighed (I : Problem) (bytes : List ℕ) (first weight : ℕ) : Type 0 where
  pub size : length bytes ≡ I.variables
  pub bits : Every (λ b. b ≤ 1) bytes
  pub breaks : first ≡ first_broken (assigned bytes) I.clauses
  pub costs : weight ≡ cost (assigned bytes) I.clauses

-- of an answer that is no refusal
abbrev pub OnWorth : (ℕ → ℕ → Type 0) → Valued → Type 0
OnWorth P (Valued.Worth first weight) = P first weight
OnWorth P (Valued.Refused s) = Unit {0}

no_byte_over : (i : ℕ) (bytes : List ℕ) → first_over i bytes ≡ none → Every (λ b. b ≤ 1) bytes
unfolding first_over
no_byte_over i [] e = tt
no_byte_over i (b ∷ bs) e = go (leb b 1) refl e (no_byte_over (suc i) bs)
  where
    go : (t : Bool) → leb b 1 ≡ t → ◌≡◌ {A = Option ℕ} (elim t [ true ↦ first_over (suc i) bs | false ↦ some i ]) none →
        (first_over (suc i) bs ≡ none → Every (λ b. b ≤ 1) bs) → (b ≤ 1) × Every (λ b. b ≤ 1) bs
    go true q e h = (leb-true b 1 q, h e)
    go false q e h = absurd (let z : ◌≡◌ {A = ℕ} 0 1 = cc in omega arith)

pub valued_weighed : (I : Problem) (bytes : List ℕ) → OnWorth (Weighed I bytes) (valued I bytes)
unfolding valued worth_of
valued_weighed I bytes = on_length (eqb (length bytes) I.variables) refl
  where
    on_bytes : length bytes ≡ I.variables → (o : Option ℕ) → first_over 0 bytes ≡ o →
        OnWorth (Weighed I bytes) (elim o as (λ _. Valued) [ some i ↦ Valued.Refused (staged 10 i) | none ↦ worth_of I bytes ])
    on_bytes e (some i) q = tt
    on_bytes e none q = record { size = e; bits = no_byte_over 0 bytes q; breaks = refl; costs = refl }

    on_length : (t : Bool) → eqb (length bytes) I.variables ≡ t →
        OnWorth (Weighed I bytes) (elim t as (λ _. Valued) [
          | false ↦ Valued.Refused (staged 9 0)
          | true ↦ elim (first_over 0 bytes) as (λ _. Valued) [ some i ↦ Valued.Refused (staged 10 i) | none ↦ worth_of I bytes ]
        ])
    on_length false q = tt
    on_length true q = on_bytes (eqb-true (length bytes) I.variables q) (first_over 0 bytes) refl

-- n bytes of 0 and 1 are not refused
all_bits : (i : ℕ) (bytes : List ℕ) → Every (λ b. b ≤ 1) bytes → first_over i bytes ≡ none
unfolding first_over
all_bits i [] h = refl
all_bits i (b ∷ bs) h = rw (le-leb b 1 h.0, first_over) (all_bits (suc i) bs h.1)

pub valued_worth : (I : Problem) (bytes : List ℕ) → length bytes ≡ I.variables → Every (λ b. b ≤ 1) bytes → valued I bytes ≡ worth_of I bytes
unfolding valued
valued_worth I bytes e h = rw (eq-eqb (length bytes) I.variables e, valued, all_bits 0 bytes h)
