-- What a token's length and its first byte tell: whether it is this byte alone, and whether it begins a comment.
use Rattle.std.specs.Prelude.{ℕ, true, false, List, [], ◌∷◌, ◌≡◌, ◌<◌, refl, length, get_or}
use Rattle.std.proofs.Common.{arith, eq-eqb, ne_eqb}
use Rattle.reader.specs.Words.{letter_c, alone}
use Rattle.reader.specs.Reading.{comment}

pub is_alone : (x : ℕ) (t : List ℕ) → length t ≡ 1 → get_or t 0 0 ≡ x → alone x t ≡ true
unfolding alone
is_alone x [] h e = absurd (omega arith)
is_alone x (b ∷ []) h e = eq-eqb b x e
is_alone x (b ∷ d ∷ bs) h e = absurd (omega arith)

pub not_alone : (x : ℕ) (t : List ℕ) → (length t ≡ 1 → get_or t 0 0 ≡ x → ⊥) → alone x t ≡ false
unfolding alone
not_alone x [] n = refl
not_alone x (b ∷ []) n = ne_eqb b x (n refl)
not_alone x (b ∷ d ∷ bs) n = refl

pub is_comment : (t : List ℕ) → 0 < length t → get_or t 0 0 ≡ letter_c → comment t ≡ true
unfolding comment
is_comment [] h e = absurd (omega arith)
is_comment (b ∷ bs) h e = eq-eqb b letter_c e

pub not_comment : (t : List ℕ) → (0 < length t → get_or t 0 0 ≡ letter_c → ⊥) → comment t ≡ false
unfolding comment
not_comment [] n = refl
not_comment (b ∷ bs) n = ne_eqb b letter_c (n (omega arith))
