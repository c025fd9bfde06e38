-- A literal's code and the byte of its variable.
use Rattle.std.proofs.Common.{ℕ, zero, suc, ◌-◌, ◌/◌, ◌%◌, ◌≤◌, not, List, ◌≡◌, eqb, get_or, ap, arith}
use Rattle.instance.specs.Meaning.{assigned, holds}
use Rattle.instance.specs.Store.{literal_of}
use Rattle.instance.specs.Theorems.Codes.{literal_even, literal_odd}

bit_of : (bytes : List ℕ) (x : ℕ) → 1 ≤ x → eqb (get_or bytes (x - 1) 0) 1 ≡ assigned bytes x
unfolding assigned
bit_of bytes zero h = absurd (omega arith)
bit_of bytes (suc x) h = ap (λ i. eqb (get_or bytes i 0) 1) (omega arith)

module _ (bytes : List ℕ) (code : ℕ) (low : 2 ≤ code) where
  pub even_code : code % 2 ≡ 0 → eqb (get_or bytes (code / 2 - 1) 0) 1 ≡ holds (assigned bytes) (literal_of code)
  unfolding holds
  even_code e = rw (literal_even code e) (bit_of bytes (code / 2) (omega arith))

  pub odd_code : (code % 2 ≡ 0 → ⊥) → not (eqb (get_or bytes (code / 2 - 1) 0) 1) ≡ holds (assigned bytes) (literal_of code)
  unfolding holds
  odd_code n = rw (literal_odd code n) (ap not (bit_of bytes (code / 2) (omega arith)))
