-- Check of a text that is read: without a claim, and with one.
use Rattle.std.proofs.Common.{ℕ, List, [], ◌∷◌, drop, Some, None, ◌≡◌, refl, sym, ap, ◌∙◌}
use Rattle.std.proofs.Math.Option as maybe
use Rattle.std.proofs.Math.Option.{some, none}
use Rattle.instance.specs.Clause.{Problem}
use Rattle.instance.specs.Refusals.{staged}
use Rattle.instance.specs.declared.answers.Claim.{Claim}
use Rattle.instance.specs.declared.answers.Checked.TheVariants.{Refused}
use Rattle.reader.specs.Reading.{read, read_of}
use Rattle.calculus.specs.Branch.{root}
use Rattle.calculus.specs.Derivation.{walk}
use Rattle.derivation.specs.Bytes.{claim_size, claim_at, items}
use Rattle.derivation.specs.Check.{followed, claimed, check_of}
use Rattle.verdict.specs.Claims.{claimed_as}

claim_none : (o : maybe.Option Claim) → None ≡ claimed_as o → o ≡ none
unfolding claimed_as
claim_none none e = refl
claim_none (some k) e = cc

claim_some : (o : maybe.Option Claim) (k : Claim) (from : ℕ) → Some (k, from) ≡ claimed_as o → (o ≡ some k) × (from ≡ claim_size k)
unfolding claimed_as
claim_some none k from e = cc
claim_some (some j) k from e =
    let same : ◌≡◌ {A = Claim × ℕ} (k, from) (j, claim_size j) = cc in
    (ap some (ap (λ p. p.0) (sym same)), ap (λ p. p.1) same ∙ ap claim_size (ap (λ p. p.0) (sym same)))

pub unclaimed : (text bytes proof : List ℕ) (I : Problem) → read_of text ≡ read I → None ≡ claimed_as (claim_at proof) → Refused (staged 11 0) ≡ check_of text bytes proof
unfolding check_of
unclaimed text bytes proof I reads e = rw (reads, claim_none (claim_at proof) e, check_of)

module _ (proof : List ℕ) (I : Problem) (k : Claim) (from : ℕ) (e : Some (k, from) ≡ claimed_as (claim_at proof)) where
  pub claim_checked : (text bytes : List ℕ) → read_of text ≡ read I → claimed I bytes proof k ≡ check_of text bytes proof
  unfolding check_of
  claim_checked text bytes reads = rw (reads, (claim_some (claim_at proof) k from e).0, check_of)

  pub claim_followed : walk I k (items (drop from proof)) from 0 (root I.clauses ∷ []) ≡ followed I proof k
  unfolding followed
  claim_followed = rw (claim_some (claim_at proof) k from e).1
