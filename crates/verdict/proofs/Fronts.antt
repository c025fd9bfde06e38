-- The claim at the front of a derivation, case by case.
use Rattle.std.proofs.Common.{ℕ, ◌<◌, ◌≤◌, List, [], ◌∷◌, Some, None, ◌≡◌, refl, ap, length, get_or, take, drop, w64, sym, ◌-◌, ◌∙◌, arith, le-leb, ne_eqb}
use Rattle.std.proofs.lemmas.Bool.{lt-leb}
use Rattle.std.proofs.lemmas.List.{take_rest}
use Rattle.std.specs.Array.{IsFirstChunk}
use Rattle.std.specs.Int.{from_be_bytes}
use Rattle.instance.specs.Answers.{kind_m, kind_n}
use Rattle.instance.specs.declared.answers.Claim.TheVariants.{Minimum, Infeasible}
use Rattle.derivation.specs.Bytes.{number_from, number, body, claim_size, claim_at}
use Rattle.verdict.specs.Claims.{claimed_as}

number_eight : (xs : List ℕ) → 8 ≤ length xs → number (take 8 xs) ≡ from_be_bytes w64 (take 8 xs)
unfolding number number_from
number_eight [] h = absurd (omega arith)
number_eight (a ∷ []) h = absurd (omega arith)
number_eight (a ∷ b ∷ []) h = absurd (omega arith)
number_eight (a ∷ b ∷ c ∷ []) h = absurd (omega arith)
number_eight (a ∷ b ∷ c ∷ d ∷ []) h = absurd (omega arith)
number_eight (a ∷ b ∷ c ∷ d ∷ e ∷ []) h = absurd (omega arith)
number_eight (a ∷ b ∷ c ∷ d ∷ e ∷ f ∷ []) h = absurd (omega arith)
number_eight (a ∷ b ∷ c ∷ d ∷ e ∷ f ∷ g ∷ []) h = absurd (omega arith)
number_eight (a ∷ b ∷ c ∷ d ∷ e ∷ f ∷ g ∷ i ∷ xs) h = omega arith

pub no_byte : (proof : List ℕ) → length proof < 1 → None ≡ claimed_as (claim_at proof)
unfolding claimed_as claim_at
no_byte [] h = refl
no_byte (b ∷ bs) h = absurd (omega arith)

pub no_claim : (proof : List ℕ) → (get_or proof 0 0 ≡ kind_n → ⊥) → (get_or proof 0 0 ≡ kind_m → ⊥) → None ≡ claimed_as (claim_at proof)
unfolding claimed_as claim_at
no_claim [] n m = refl
no_claim (b ∷ bs) n m = rw (ne_eqb b kind_m m, ne_eqb b kind_n n, claim_at)

pub claim_infeasible : (proof : List ℕ) → get_or proof 0 0 ≡ kind_n → 1 ≤ length proof → Some (Infeasible, 1) ≡ claimed_as (claim_at proof)
unfolding claimed_as claim_at claim_size
claim_infeasible [] e l = absurd (omega arith)
claim_infeasible (b ∷ bs) e l = rw e

pub claim_cut : (proof : List ℕ) → get_or proof 0 0 ≡ kind_m → length proof < 9 → None ≡ claimed_as (claim_at proof)
unfolding claimed_as claim_at body
claim_cut [] e l = refl
claim_cut (b ∷ bs) e l = rw (e, lt-leb 8 (length bs) (omega arith), claim_at)

pub ruleset fronts = (no_byte, no_claim, claim_infeasible, claim_cut)

pub claim_minimum : (proof chunk : List ℕ) (m : ℕ) → get_or proof 0 0 ≡ kind_m → IsFirstChunk (take (length proof - 1) (drop 1 proof)) chunk 8 →
    m ≡ from_be_bytes w64 chunk → Some (Minimum m, 9) ≡ claimed_as (claim_at proof)
unfolding claimed_as claim_at body claim_size
claim_minimum [] chunk m e c p = absurd (omega (arith, c.enough))
claim_minimum (k ∷ bs) chunk m e c p =
    let chunk_is : IsFirstChunk bs chunk 8 = rw take_rest at c in
    rw (e, le-leb 8 (length bs) chunk_is.enough, claim_at)
    (ap (λ m. Some (Minimum m, 9)) (p ∙ ap (from_be_bytes w64) chunk_is.same ∙ sym (number_eight bs chunk_is.enough)))
