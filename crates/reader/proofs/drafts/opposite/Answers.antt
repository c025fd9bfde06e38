use Rattle.std.proofs.Common.{ℕ, ◌+◌, ◌*◌, ◌/◌, ◌%◌, ◌≡◌, ap, ◌∙◌, arith}
use Rattle.std.proofs.Math.Decide.{ℕ_discrete}
use Rattle.std.proofs.lemmas.Nat.{xor_block}
use Rattle.std.specs.Int.Bits.{bit_xor, xor_zero_r}
use Rattle.instance.specs.Clause.{opposite}
use Rattle.instance.specs.Store.{literal_of}
use Rattle.instance.specs.Theorems.Codes.{opposite_even, opposite_odd}
use Rattle.reader.proofs.drafts.opposite.Goals as goal

-- the last bit is turned, and the others stay
turned : (c : ℕ) → bit_xor c 1 ≡ c / 2 * 2 + bit_xor (c % 2) 1
turned c =
    ap (λ (n : ℕ). bit_xor n 1) (omega arith)
    ∙ xor_block 1 (c / 2) 0 (c % 2) 1 (omega arith) (omega arith)
    ∙ ap (λ (n : ℕ). n * 2 + bit_xor (c % 2) 1) (xor_zero_r (c / 2))

opposite_is : (c : ℕ) → literal_of (bit_xor c 1) ≡ opposite (literal_of c)
opposite_is c = go (ℕ_discrete (c % 2) 0)
  where
    turned_at : (b : ℕ) → c % 2 ≡ b → bit_xor c 1 ≡ c / 2 * 2 + bit_xor b 1
    turned_at b e = turned c ∙ ap (λ (n : ℕ). c / 2 * 2 + bit_xor n 1) e

    go : Dec (c % 2 ≡ 0) → literal_of (bit_xor c 1) ≡ opposite (literal_of c)
    go (yes e) = ap literal_of (turned_at 0 e ∙ omega arith) ∙ opposite_even c e
    go (no n) = ap literal_of (turned_at 1 (omega (arith, n)) ∙ omega (arith, n)) ∙ opposite_odd c n

pub returns : goal.returns
returns c = opposite_is c.args.code
