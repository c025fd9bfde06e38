-- What a clause's first token says, by what the code learns of its weight.
use Rattle.std.specs.Prelude.{ℕ, ◌+◌, ◌<◌, ◌≤◌, Bool, true, false, ◌||◌, List, [], ◌∷◌, ◌≡◌, refl, eqb, leb, ltb, length, Option, Some, None, Result, Ok, Err}
use Rattle.std.specs.Option.{ok_or, option_map}
use Rattle.std.proofs.Common.{sym, ap, subst, ◌∙◌, arith, ne_eqb, eqb-true, ltb-false, le-leb, lt-ltb, le-ltb}
use Rattle.std.proofs.Math.Bool.{or-true}
use Rattle.std.proofs.Math.Option.{some, none}
use Rattle.std.proofs.Math.Option as math
use Rattle.std.proofs.lemmas.Bool.{lt-leb}
use Rattle.instance.specs.Limits.{most_clauses, most_weight}
use Rattle.instance.specs.Clause.{hard, soft, Clause, total_of}
use Rattle.instance.specs.Clause as clause
use Rattle.instance.specs.Faults.{numbered}
use Rattle.instance.specs.Weights.{meant, coded}
use Rattle.instance.specs.Theorems.Choices.{on_test, never, neither}
use Rattle.instance.specs.declared.faults.Fault.{Fault}
use Rattle.instance.specs.declared.faults.Fault.TheVariants.{WrongToken, WeightOutOfRange}
use Rattle.instance.specs.declared.weights.Weight.{Weight}
use Rattle.instance.specs.declared.weights.Weight.TheVariants.{Hard, Soft}
use Rattle.reader.specs.Numbers.{zero_digit, spelled, value_from, decimal}
use Rattle.reader.specs.Words.{letter_h, alone, weight_spelled, First, weighs, bad_first, weighed, first_word}
use Rattle.reader.specs.Said.{number_of, spelled_as}
use Rattle.reader.proofs.Theorems.Limits.{spelled_some}
use Rattle.reader.proofs.Digits.{on_number}

-- ---- the weight
abbrev pub spelled_by : Result (Option ℕ) Fault → Result (Option Weight) Fault
spelled_by (Err f) = Err f
spelled_by (Ok o) = Ok (option_map Soft o)

soft_zero : spelled_as (some (soft 0)) ≡ Ok None
unfolding spelled_as
soft_zero = refl

soft_over : (w : ℕ) → most_weight < w → spelled_as (some (soft w)) ≡ Ok None
unfolding spelled_as
soft_over w h = rw (ne_eqb w 0 (λ e. omega arith), lt-ltb most_weight w h, spelled_as)

soft_within : (w : ℕ) → 1 ≤ w → w ≤ most_weight → spelled_as (some (soft w)) ≡ Ok (Some (Soft w))
unfolding spelled_as
soft_within w h l = rw (ne_eqb w 0 (λ e. omega arith), le-ltb most_weight w l, spelled_as)

zero_worth : (t : List ℕ) → alone zero_digit t ≡ true → decimal t ≡ 0
unfolding alone decimal value_from
zero_worth [] e = never (sym e)
zero_worth (b ∷ []) e = omega (arith, eqb-true b zero_digit e)
zero_worth (b ∷ d ∷ bs) e = never (sym e)

module _ (t : List ℕ) where
  pub spells_hard : alone letter_h t ≡ true → Ok (Some Hard) ≡ spelled_as (weight_spelled t)
  unfolding weight_spelled spelled_as
  spells_hard e = rw (e, weight_spelled)

  module _ (other : alone letter_h t ≡ false) where
    weight_number : (spelled t || alone zero_digit t) ≡ true → weight_spelled t ≡ some (soft (decimal t))
    unfolding weight_spelled
    weight_number e = rw (other, e, weight_spelled)

    weight_none : (spelled t || alone zero_digit t) ≡ false → spelled_as (weight_spelled t) ≡ Err WrongToken
    unfolding weight_spelled spelled_as
    weight_none e = rw (other, e, weight_spelled)

    pub spells_zero : alone zero_digit t ≡ true → Ok None ≡ spelled_as (weight_spelled t)
    spells_zero e = sym (ap spelled_as (weight_number (rw e (or-true (spelled t)))) ∙ rw (zero_worth t e) soft_zero)

    pub spells_number : alone zero_digit t ≡ false → {r : Result (Option ℕ) Fault} → r ≡ number_of most_weight t
        → spelled_by r ≡ spelled_as (weight_spelled t)
    spells_number e g =
        ap spelled_by g
        ∙ on_number (λ (n : Result (Option ℕ) Fault). spelled_by n ≡ spelled_as (weight_spelled t)) most_weight t
        (λ f. sym (weight_none (rw (f, e))))
        (λ f h. sym (ap spelled_as (weight_number (rw f)) ∙ soft_over (decimal t) h))
        (λ f h. sym (ap spelled_as (weight_number (rw f)) ∙ soft_within (decimal t) (spelled_some t f) h))

-- a weight that the code takes
Light : Result (Option Weight) Fault → Type 0
Light (Ok (Some w)) = coded w ≤ most_weight
Light (Ok None) = Unit {0}
Light (Err f) = Unit {0}

spelled_light : (s : math.Option clause.Weight) → Light (spelled_as s)
unfolding spelled_as Light
spelled_light none = tt
spelled_light (some hard) = omega arith
spelled_light (some (soft w)) =
    on_test Light (eqb w 0 || ltb most_weight w) (λ _. tt)
    (λ h. ltb-false most_weight w (neither (eqb w 0) (ltb most_weight w) h).1)

pub weight_light : (s : math.Option clause.Weight) (o : Option Weight) (w : Weight) → Ok o ≡ spelled_as s
    → Ok w ≡ ok_or o WeightOutOfRange → coded w ≤ most_weight
unfolding Light
weight_light s None w e f = cc
weight_light s (Some v) w e f = let same : w ≡ v = cc in rw same (subst Light (sym e) (spelled_light s))

-- ---- the token, after k clauses of a total weight
abbrev pub weighed_by : ℕ → Result Weight Fault → First
weighed_by total (Err f) = bad_first (numbered f)
weighed_by total (Ok w) = elim (ltb most_weight (total + coded w)) [ true ↦ bad_first 6 | false ↦ weighs (meant w) ]

abbrev pub first_by : ℕ → ℕ → Result (Option Weight) Fault → First
first_by k total (Err f) = bad_first (numbered f)
first_by k total (Ok o) = elim (leb most_clauses k) [ true ↦ bad_first 4 | false ↦ weighed_by total (ok_or o WeightOutOfRange) ]

module _ (k total : ℕ) (o : Option Weight) where
  pub first_many : most_clauses ≤ k → bad_first 4 ≡ first_by k total (Ok o)
  first_many h = rw (le-leb most_clauses k h, first_by)

  pub first_few : k < most_clauses → {r : Result Weight Fault} → r ≡ ok_or o WeightOutOfRange
      → weighed_by total r ≡ first_by k total (Ok o)
  first_few h e = rw (lt-leb most_clauses k h, first_by, e)

pub first_over : (total : ℕ) (w : Weight) → most_weight < total + coded w → bad_first 6 ≡ weighed_by total (Ok w)
first_over total w h = rw (lt-ltb most_weight (total + coded w) h, weighed_by)

pub first_weighs : (total : ℕ) (w : Weight) → total + coded w ≤ most_weight → weighs (meant w) ≡ weighed_by total (Ok w)
first_weighs total w h = rw (le-ltb most_weight (total + coded w) h, weighed_by)

-- a weight that is rightly spelled, as the code has it
abbrev Weighing : List Clause → clause.Weight → Type 0
Weighing cs w =
    (o : Option Weight) × (spelled_as (some w) ≡ Ok o) × (weighed cs w ≡ weighed_by (total_of cs) (ok_or o WeightOutOfRange))

weighing : (cs : List Clause) → total_of cs ≤ most_weight → (w : clause.Weight) → Weighing cs w
unfolding weighed spelled_as
weighing cs light hard = (Some Hard, refl, rw (le-ltb most_weight (total_of cs + 0) (omega arith), weighed_by))
weighing cs light (soft w) = go (eqb w 0 || ltb most_weight w) refl
  where
    go : (b : Bool) → (eqb w 0 || ltb most_weight w) ≡ b → Weighing cs (soft w)
    go true e = (None, rw (e, spelled_as), rw (e, weighed))
    go false e = (Some (Soft w), rw (e, spelled_as), rw (e, weighed))

pub first_says : (cs : List Clause) (t : List ℕ) → total_of cs ≤ most_weight
    → first_by (length cs) (total_of cs) (spelled_as (weight_spelled t)) ≡ first_word cs t
unfolding first_word spelled_as
first_says cs t light = go (weight_spelled t)
  where
    counted : First → First
    counted f = elim (leb most_clauses (length cs)) [ true ↦ bad_first 4 | false ↦ f ]

    go : (o : math.Option clause.Weight)
        → first_by (length cs) (total_of cs) (spelled_as o)
        ≡ elim o as (λ _. First) [ none ↦ bad_first 2 | some w ↦ counted (weighed cs w) ]
    go none = refl
    go (some w) = let (d, e, f) = weighing cs light w in ap (first_by (length cs) (total_of cs)) e ∙ ap counted (sym f)
