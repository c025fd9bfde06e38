-- What a token says where it stands, or the number of its refusal (01, "Instance text" and "Turned away").
use Rattle.std.specs.Prelude.{ℕ, ◌+◌, Bool, true, false, ◌||◌, List, [], ◌∷◌, eqb, leb, ltb, length}
use Rattle.std.proofs.Math.Option.{Option, some, none}
use Rattle.instance.specs.Limits.{most_variables, most_clauses, most_literals, most_weight}
use Rattle.instance.specs.Clause.{Literal, pos, neg, Weight, hard, soft, Clause, variable_of, total_of}
use Rattle.reader.specs.Numbers.{zero_digit, spelled, decimal}

-- the bytes of c, h and -
abbrev pub letter_c : ℕ
letter_c = 99

abbrev pub letter_h : ℕ
letter_h = 104

abbrev pub minus : ℕ
minus = 45

-- the token of this byte alone
unfoldable pub alone : ℕ → List ℕ → Bool
alone x [] = false
alone x (b ∷ []) = eqb b x
alone x (b ∷ c ∷ bs) = false

-- "`h` (hard) or a weight"; "the single digit `0` is a weight token"
unfoldable pub weight_spelled : List ℕ → Option Weight
weight_spelled t =
    elim (alone letter_h t) [
      | true ↦ some hard
      | false ↦ elim (spelled t || alone zero_digit t) [
        | true ↦ some (soft (decimal t))
        | false ↦ none
      ]
    ]

unfoldable pub signed : (ℕ → Literal) → List ℕ → Option Literal
signed sign t = elim (spelled t) [ true ↦ some (sign (decimal t)) | false ↦ none ]

-- "a literal is a variable or `-` and a variable"
unfoldable pub literal_spelled : List ℕ → Option Literal
literal_spelled [] = none
literal_spelled (b ∷ bs) = elim (eqb b minus) [ true ↦ signed neg bs | false ↦ signed pos (b ∷ bs) ]

-- what a clause's first token says
pub data First : Type 0 where
  weighs : Weight → First
  bad_first : ℕ → First

-- weight 0 or over the limit is 5; a total over the limit, with the clauses before it, is 6
unfoldable pub weighed : List Clause → Weight → First
weighed cs hard = weighs hard
weighed cs (soft w) =
    elim (eqb w 0 || ltb most_weight w) [
      | true ↦ bad_first 5
      | false ↦ elim (ltb most_weight (total_of cs + w)) [
        | true ↦ bad_first 6
        | false ↦ weighs (soft w)
      ]
    ]

-- "At a first token: spelling (2), clause count (4), weight (5), total (6)." cs are the clauses before it.
unfoldable pub first_word : List Clause → List ℕ → First
first_word cs t =
    elim (weight_spelled t) [
      | none ↦ bad_first 2
      | some w ↦ elim (leb most_clauses (length cs)) [
        | true ↦ bad_first 4
        | false ↦ weighed cs w
      ]
    ]

-- what a later token of a clause says
pub data Later : Type 0 where
  ends : Later
  holds : Literal → Later
  bad_later : ℕ → Later

-- "At a literal: spelling (2), variable (7), literal count (8)." `written` literals stand before it.
unfoldable pub later_word : ℕ → List ℕ → Later
later_word written t =
    elim (alone zero_digit t) [
      | true ↦ ends
      | false ↦ elim (literal_spelled t) [
        | none ↦ bad_later 2
        | some l ↦ elim (ltb most_variables (variable_of l)) [
          | true ↦ bad_later 7
          | false ↦ elim (leb most_literals written) [
            | true ↦ bad_later 8
            | false ↦ holds l
          ]
        ]
      ]
    ]
