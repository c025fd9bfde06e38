-- How numbers are spelled, and their values (01, "Instance text").
use Rattle.std.specs.Prelude.{ℕ, ◌+◌, ◌*◌, ◌-◌, Bool, true, false, not, ◌&&◌, List, [], ◌∷◌, eqb, leb}

-- the bytes of 0 and 9
abbrev pub zero_digit : ℕ
zero_digit = 48

abbrev pub nine_digit : ℕ
nine_digit = 57

unfoldable pub digit : ℕ → Bool
digit b = leb zero_digit b && leb b nine_digit

unfoldable pub all_digits : List ℕ → Bool
all_digits [] = true
all_digits (b ∷ bs) = digit b && all_digits bs

-- "decimal digits without a leading zero"
unfoldable pub spelled : List ℕ → Bool
spelled [] = false
spelled (b ∷ bs) = not (eqb b zero_digit) && all_digits (b ∷ bs)

-- the value of digits that follow digits of the value v
unfoldable pub value_from : ℕ → List ℕ → ℕ
value_from v [] = v
value_from v (b ∷ bs) = value_from (10 * v + (b - zero_digit)) bs

unfoldable pub decimal : List ℕ → ℕ
decimal bs = value_from 0 bs
