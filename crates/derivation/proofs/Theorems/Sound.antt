-- Demand 2 over bytes: what Check accepts is true of the text and the layout.
use Rattle.std.specs.Prelude.{ℕ, Bool, List, [], ◌∷◌, ◌≡◌, drop}
use Rattle.std.proofs.Math.Bool.{true, false}
use Rattle.std.proofs.Math.Option.{Option, some, none}
use Rattle.std.proofs.Math.Path.{refl}
use Rattle.std.proofs.Common.{subst, sym, ◌∙◌, eqb-true}
use Rattle.std.proofs.Math.Dec.{eqb}
use Rattle.instance.specs.Clause.{Problem}
use Rattle.instance.specs.Meaning.{assigned}
use Rattle.instance.specs.Refusals.{staged}
use Rattle.instance.specs.declared.answers.Claim.{Claim}
use Rattle.instance.specs.declared.answers.Claim.TheVariants.{Minimum, Infeasible}
use Rattle.instance.specs.declared.answers.Checked.{Checked}
use Rattle.instance.specs.declared.answers.Checked.TheVariants.{Accepted, Refused}
use Rattle.instance.specs.declared.answers.Valued.{Valued}
use Rattle.reader.specs.Reading.{Reading, read, refused, read_of}
use Rattle.reader.proofs.Theorems.Limits.{read_within}
use Rattle.valuation.specs.Value.{valued}
use Rattle.valuation.specs.Theorems.Value.{Weighed, OnWorth, valued_weighed}
use Rattle.calculus.specs.Branch.{root}
use Rattle.calculus.specs.Claims.{True}
use Rattle.calculus.specs.Derivation.{walk}
use Rattle.calculus.proofs.Theorems.Broken.{first_broken_lem}
use Rattle.calculus.proofs.Theorems.Sound.{sound}
use Rattle.calculus.proofs.Theorems.Walked.{accepted_counted}
use Rattle.derivation.specs.Bytes.{claim_size, claim_at, items}
use Rattle.derivation.specs.Check.{followed, shown, claimed, check_of, Desk, roomy, CheckAnswers}
use Rattle.derivation.specs.Demands.{Meant}

module _ (text bytes proof : List ℕ) (I : Problem) (reads : read_of text ≡ read I) where
  -- the answer of an accepted derivation is its claim, and the claim is true
  abbrev Said : Claim → Checked → Type 0
  Said k (Accepted c records) = (c ≡ k) × True I k
  Said k (Refused s) = Unit {0}

  followed_said : (k : Claim) → Said k (followed I proof k)
  unfolding followed
  followed_said k = by (walk I k (items (drop (claim_size k) proof)) (claim_size k) 0 (root I.clauses ∷ [])) refl
    where
      by : (o : Checked) → walk I k (items (drop (claim_size k) proof)) (claim_size k) 0 (root I.clauses ∷ []) ≡ o → Said k o
      by (Accepted c records) e = (
        (accepted_counted I k (items (drop (claim_size k) proof)) (claim_size k) 0 (root I.clauses ∷ []) c records e).claim,
        sound I (read_within text I reads).fits k (items (drop (claim_size k) proof)) (claim_size k) 0 c records e,
      )
      by (Refused s) e = tt

  -- under M the layout was valued before
  minimum_meant : (m first weight : ℕ) → Weighed I bytes first weight → first ≡ 0 → weight ≡ m → (o : Checked) → Said (Minimum m) o → Meant text bytes o
  minimum_meant m first weight w f e (Accepted c records) h = subst (λ k. Meant text bytes (Accepted k records)) (sym h.0) (
    I,
    reads,
    record {
      layout = record { size = w.size; bits = w.bits; meets = (first_broken_lem (assigned bytes) I.clauses).0 (sym w.breaks ∙ f) };
      exact = sym w.costs ∙ e;
      least = h.1;
    },
  )
  minimum_meant m first weight w f e (Refused s) h = tt

  infeasible_meant : (o : Checked) → Said Infeasible o → Meant text bytes o
  infeasible_meant (Accepted c records) h = subst (λ k. Meant text bytes (Accepted k records)) (sym h.0) (I, reads, h.1)
  infeasible_meant (Refused s) h = tt

  shown_meant : (m : ℕ) (v : Valued) → OnWorth (Weighed I bytes) v → Meant text bytes (shown I proof m v)
  unfolding shown
  shown_meant m (Valued.Refused s) w = tt
  shown_meant m (Valued.Worth first weight) w = by (eqb first 0) refl (eqb weight m) refl
    where
      by : (t : Bool) → eqb first 0 ≡ t → (u : Bool) → eqb weight m ≡ u → Meant text bytes (elim t as (λ _. Checked) [
        | false ↦ Refused (staged 12 first)
        | true ↦ elim u as (λ _. Checked) [ false ↦ Refused (staged 13 0) | true ↦ followed I proof (Minimum m) ]
      ])
      by false p u q = tt
      by true p false q = tt
      by true p true q = minimum_meant m first weight w (eqb-true first 0 p) (eqb-true weight m q) (followed I proof (Minimum m)) (followed_said (Minimum m))

  claimed_meant : (k : Claim) → Meant text bytes (claimed I bytes proof k)
  unfolding claimed
  claimed_meant (Minimum m) = shown_meant m (valued I bytes) (valued_weighed I bytes)
  claimed_meant Infeasible = infeasible_meant (followed I proof Infeasible) (followed_said Infeasible)

-- Demand 2: "An accepted minimum m means: the shown layout meets all hard clauses and falsifies soft weight exactly m, and no
-- layout that meets them falsifies less. Accepted as infeasible means that none meets them."
pub accepted_meant : (text bytes proof : List ℕ) → Meant text bytes (check_of text bytes proof)
unfolding check_of
accepted_meant text bytes proof = by_reading (read_of text) refl
  where
    by_claim : (I : Problem) → read_of text ≡ read I → (o : Option Claim) →
        Meant text bytes (elim o as (λ _. Checked) [ none ↦ Refused (staged 11 0) | some k ↦ claimed I bytes proof k ])
    by_claim I e none = tt
    by_claim I e (some k) = claimed_meant text bytes proof I e k

    by_reading : (r : Reading) → read_of text ≡ r → Meant text bytes (elim r as (λ _. Checked) [
      | refused n p ↦ Refused (staged n p)
      | read I ↦ elim (claim_at proof) as (λ _. Checked) [ none ↦ Refused (staged 11 0) | some k ↦ claimed I bytes proof k ]
    ])
    by_reading (refused n p) e = tt
    by_reading (read I) e = by_claim I e (claim_at proof)

-- The same at the contract: whatever memory was lent, and whatever the answer.
pub answers_meant : {text bytes proof : List ℕ} {lent : Desk} {r : Checked} {later : Desk} → CheckAnswers text bytes proof lent r later → Meant text bytes r
answers_meant {text} {bytes} {proof} {lent} h = subst (Meant text bytes) (sym h.answer) (by (roomy lent))
  where
    by : (t : Bool) → Meant text bytes (elim t as (λ _. Checked) [ true ↦ check_of text bytes proof | false ↦ Refused (staged 1 0) ])
    by true = accepted_meant text bytes proof
    by false = tt
