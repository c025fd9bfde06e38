-- What a later token of a clause says, by what the code learns of its sign and its number.
use Rattle.std.specs.Prelude.{ℕ, suc, ◌+◌, ◌*◌, ◌-◌, ◌<◌, ◌≤◌, Bool, true, false, List, [], ◌∷◌, ◌≡◌, leb, ltb, length, get_or, take, drop, Option, Some, None, Result, Ok, Err}
use Rattle.std.specs.Int.{from_bool}
use Rattle.std.specs.Option.{ok_or}
use Rattle.std.proofs.Common.{sym, ap, refl, subst, ◌∙◌, arith, eq-eqb, ne_eqb, le-leb, lt-ltb, le-ltb}
use Rattle.std.proofs.lemmas.Bool.{lt-leb}
use Rattle.std.proofs.lemmas.List.{take_all}
use Rattle.std.proofs.Math.Option.{some, none}
use Rattle.std.proofs.Math.Option as math
use Rattle.instance.specs.Limits.{most_variables, most_literals}
use Rattle.instance.specs.Clause.{Literal, pos, neg, variable_of}
use Rattle.instance.specs.Faults.{numbered}
use Rattle.instance.specs.Store.{literal_of, code_of}
use Rattle.instance.specs.Theorems.Codes.{literal_code}
use Rattle.instance.specs.declared.faults.Fault.{Fault}
use Rattle.instance.specs.declared.faults.Fault.TheVariants.{VariableTooLarge}
use Rattle.reader.specs.Numbers.{zero_digit, decimal}
use Rattle.reader.specs.Words.{minus, alone, signed, literal_spelled, Later, ends, holds, bad_later, later_word}
use Rattle.reader.specs.Said.{number_of}
use Rattle.reader.proofs.Bytes.{not_alone}
use Rattle.reader.proofs.Digits.{on_number, AtMost, number_most}

-- ---- a literal, by its variable
abbrev pub variable_by : ℕ → (ℕ → Literal) → Result ℕ Fault → Later
variable_by written sign (Err f) = bad_later (numbered f)
variable_by written sign (Ok x) = elim (leb most_literals written) [ true ↦ bad_later 8 | false ↦ holds (sign x) ]

-- by its number
abbrev pub literal_by : ℕ → (ℕ → Literal) → Result (Option ℕ) Fault → Later
literal_by written sign (Err f) = bad_later (numbered f)
literal_by written sign (Ok o) = variable_by written sign (ok_or o VariableTooLarge)

pub variable_most : (t : List ℕ) (o : Option ℕ) (x : ℕ) → Ok o ≡ number_of most_variables t → Ok x ≡ ok_or o VariableTooLarge
    → x ≤ most_variables
variable_most t None x e f = cc
variable_most t (Some y) x e f =
    let same : x ≡ y = cc in rw same (subst (AtMost most_variables) (sym e) (number_most most_variables t))

literal_says : ℕ → math.Option Literal → Later
literal_says written o =
    elim o [
      | none ↦ bad_later 2
      | some l ↦ elim (ltb most_variables (variable_of l)) [
        | true ↦ bad_later 7
        | false ↦ elim (leb most_literals written) [ true ↦ bad_later 8 | false ↦ holds l ]
      ]
    ]

module _ (written : ℕ) (sign : ℕ → Literal) where
  pub literal_many : (x : ℕ) → most_literals ≤ written → bad_later 8 ≡ variable_by written sign (Ok x)
  literal_many x h = rw (le-leb most_literals written h, variable_by)

  pub literal_few : (x : ℕ) → written < most_literals → holds (sign x) ≡ variable_by written sign (Ok x)
  literal_few x h = rw (lt-leb most_literals written h, variable_by)

  literal_said : ((x : ℕ) → variable_of (sign x) ≡ x) → (t : List ℕ)
      → literal_by written sign (number_of most_variables t) ≡ literal_says written (signed sign t)
  unfolding signed literal_says
  literal_said variable t =
      let x = decimal t in
      let v = variable_of (sign x) in
      let Says : Result (Option ℕ) Fault → Type 0 = λ n. literal_by written sign n ≡ literal_says written (signed sign t) in
      on_number Says most_variables t
      (λ e. rw (e, signed))
      (λ e h. rw (e, signed, lt-ltb most_variables v (omega (arith, variable x)), literal_says))
      (λ e h. rw (e, signed, le-ltb most_variables v (omega (arith, variable x)), literal_says))

-- ---- a literal, by its sign
abbrev pub signs : Bool → ℕ → Literal
signs true = neg
signs false = pos

pub sign_coded : (is_opposite : Bool) (x : ℕ) → literal_of (2 * x + from_bool is_opposite) ≡ signs is_opposite x
unfolding code_of
sign_coded true x = literal_code (neg x)
sign_coded false x = ap literal_of (omega arith) ∙ literal_code (pos x)

pub sign_small : (is_opposite : Bool) → from_bool is_opposite < 2
sign_small true = omega arith
sign_small false = omega arith

sign_variable : (is_opposite : Bool) (x : ℕ) → variable_of (signs is_opposite x) ≡ x
unfolding variable_of
sign_variable true x = refl
sign_variable false x = refl

spelled_minus : (t : List ℕ) → 0 < length t → get_or t 0 0 ≡ minus
    → literal_spelled t ≡ signed neg (take (length t - 1) (drop 1 t))
unfolding literal_spelled
spelled_minus [] h e = absurd (omega arith)
spelled_minus (b ∷ bs) h e = rw (eq-eqb b minus e, literal_spelled, take_all (suc (length bs) - 1) bs (omega arith))

spelled_plain : (t : List ℕ) → 0 < length t → (get_or t 0 0 ≡ minus → ⊥) → literal_spelled t ≡ signed pos t
unfolding literal_spelled
spelled_plain [] h n = absurd (omega arith)
spelled_plain (b ∷ bs) h n = rw (ne_eqb b minus n, literal_spelled)

-- ---- the token
pub later_ends : (written : ℕ) (t : List ℕ) → alone zero_digit t ≡ true → ends ≡ later_word written t
unfolding later_word
later_ends written t e = rw (e, later_word)

-- a token that is not the end has these digits and this sign
abbrev pub Signed : List ℕ → List ℕ → Bool → Type 0
Signed t digits is_opposite =
    (written : ℕ) → later_word written t ≡ literal_by written (signs is_opposite) (number_of most_variables digits)

module _ (t : List ℕ) (some : 0 < length t) where
  literal_signed : (digits : List ℕ) (is_opposite : Bool) → alone zero_digit t ≡ false
      → literal_spelled t ≡ signed (signs is_opposite) digits → Signed t digits is_opposite
  unfolding later_word literal_says
  literal_signed digits is_opposite more e written =
      rw (more, later_word)
      (ap (literal_says written) e ∙ sym (literal_said written (signs is_opposite) (sign_variable is_opposite) digits))

  pub signed_minus : get_or t 0 0 ≡ minus → Signed t (take (length t - 1) (drop 1 t)) true
  signed_minus e =
      literal_signed (take (length t - 1) (drop 1 t)) true (not_alone zero_digit t (λ _ f. omega arith))
      (spelled_minus t some e)

  pub signed_plain : (get_or t 0 0 ≡ minus → ⊥) → (length t ≡ 1 → get_or t 0 0 ≡ zero_digit → ⊥) → Signed t t false
  signed_plain n more = literal_signed t false (not_alone zero_digit t more) (spelled_plain t some n)
