-- Laws of spelling and value, by the index that a loop has reached.
use Rattle.std.specs.Prelude.{ℕ, ◌+◌, ◌*◌, ◌-◌, ◌<◌, ◌≤◌, min, true, false, List, [], ◌∷◌, ◌≡◌, refl, leb, length, get_or, drop, Option, Some, None, Result, Ok, Err}
use Rattle.std.proofs.Common.{◌∙◌, arith, eq-eqb, ne_eqb, le-leb, leb-true, leb-false}
use Rattle.std.specs.Bool.{then_some}
use Rattle.std.proofs.Math.Decide.{dec_le}
use Rattle.std.proofs.lemmas.Bool.{lt-leb}
use Rattle.std.proofs.lemmas.List.{at_drop_more, at_drop_all}
use Rattle.instance.specs.Theorems.Choices.{on_test}
use Rattle.instance.specs.declared.faults.Fault.{Fault}
use Rattle.instance.specs.declared.faults.Fault.TheVariants.{WrongToken}
use Rattle.reader.specs.Numbers.{zero_digit, digit, all_digits, spelled, value_from, decimal}
use Rattle.reader.specs.Said.{number_of}

-- ---- spelling
all_more : (b : ℕ) (bs : List ℕ) → digit b ≡ true → all_digits (b ∷ bs) ≡ all_digits bs
unfolding all_digits
all_more b bs e = rw (e, all_digits)

all_stop : (b : ℕ) (bs : List ℕ) → digit b ≡ false → all_digits (b ∷ bs) ≡ false
unfolding all_digits
all_stop b bs e = rw (e, all_digits)

pub spelled_nil : (t : List ℕ) → length t ≡ 0 → spelled t ≡ false
unfolding spelled
spelled_nil [] h = refl
spelled_nil (b ∷ bs) h = absurd (omega arith)

pub spelled_zero : (t : List ℕ) → get_or t 0 0 ≡ zero_digit → spelled t ≡ false
unfolding spelled
spelled_zero [] h = refl
spelled_zero (b ∷ bs) h = rw (eq-eqb b zero_digit h, spelled)

spelled_rest : (t : List ℕ) → (length t ≡ 0 → ⊥) → (get_or t 0 0 ≡ zero_digit → ⊥) → spelled t ≡ all_digits t
unfolding spelled
spelled_rest [] h n = absurd (h refl)
spelled_rest (b ∷ bs) h n = rw (ne_eqb b zero_digit n, spelled)

-- ---- the value, held at one over the limit
capped : (top v w : ℕ) (bs : List ℕ) → min v top ≡ min w top → min (value_from v bs) top ≡ min (value_from w bs) top
unfolding value_from
capped top v w [] h = h
capped top v w (b ∷ bs) h = capped top (10 * v + (b - zero_digit)) (10 * w + (b - zero_digit)) bs (omega arith)

-- ---- the answer
pub number_misspelled : (limit : ℕ) (t : List ℕ) → spelled t ≡ false → Err WrongToken ≡ number_of limit t
unfolding number_of
number_misspelled limit t e = rw (e, number_of)

-- what holds in each case of a number
pub on_number : (P : Result (Option ℕ) Fault → Type 0) (limit : ℕ) (t : List ℕ) → (spelled t ≡ false → P (Err WrongToken))
    → (spelled t ≡ true → limit < decimal t → P (Ok None))
    → (spelled t ≡ true → decimal t ≤ limit → P (Ok (Some (decimal t)))) → P (number_of limit t)
unfolding number_of
on_number P limit t f g h =
    let v = decimal t in
    on_test P (spelled t)
    (λ e. on_test P (leb v limit) (λ l. h e (leb-true v limit l)) (λ l. g e (leb-false v limit l))) f

abbrev pub AtMost : ℕ → Result (Option ℕ) Fault → Type 0
AtMost limit (Ok (Some v)) = v ≤ limit
AtMost limit (Ok None) = Unit {0}
AtMost limit (Err f) = Unit {0}

pub number_most : (limit : ℕ) (t : List ℕ) → AtMost limit (number_of limit t)
number_most limit t = on_number (AtMost limit) limit t (λ _. tt) (λ _ _. tt) (λ _ h. h)

-- ---- the loop: what the bytes before i were read as
pub record ReadTo (t : List ℕ) (limit value i : ℕ) : Type 0 where
  pub held : value ≤ limit + 1
  pub digits : all_digits t ≡ all_digits (drop i t)
  pub worth : min (decimal t) (limit + 1) ≡ min (value_from value (drop i t)) (limit + 1)

pub read_none : (t : List ℕ) (limit : ℕ) → ReadTo t limit 0 0
unfolding decimal
read_none t limit = record { held = omega arith; digits = refl; worth = refl }

module _ {t : List ℕ} {limit value i : ℕ} (r : ReadTo t limit value i) where
  pub read_more : i < length t → digit (get_or t i 0) ≡ true → (v : ℕ)
      → v ≡ min (10 * value + (get_or t i 0 - zero_digit)) (limit + 1) → ReadTo t limit v (i + 1)
  unfolding value_from
  read_more h e v f =
      record {
        held = omega arith;
        digits = r.digits ∙ at_drop_more all_digits t i 0 h ∙ all_more (get_or t i 0) (drop (i + 1) t) e;
        worth =
            r.worth
            ∙ at_drop_more (λ (bs : List ℕ). min (value_from value bs) (limit + 1)) t i 0 h
            ∙ capped (limit + 1) (10 * value + (get_or t i 0 - zero_digit)) v (drop (i + 1) t) (omega arith);
      }

  module _ (some : length t ≡ 0 → ⊥) (front : get_or t 0 0 ≡ zero_digit → ⊥) where
    pub read_other : i < length t → digit (get_or t i 0) ≡ false → Err WrongToken ≡ number_of limit t
    read_other h e =
        number_misspelled limit t
        (spelled_rest t some front ∙ r.digits ∙ at_drop_more all_digits t i 0 h ∙ all_stop (get_or t i 0) (drop (i + 1) t) e)

    module _ (all : length t ≤ i) where
      read_all : spelled t ≡ true
      unfolding all_digits
      read_all = spelled_rest t some front ∙ r.digits ∙ at_drop_all all_digits t i all

      read_worth : min (decimal t) (limit + 1) ≡ value
      unfolding value_from
      read_worth = omega (arith, r.worth, r.held, at_drop_all (value_from value) t i all)

      -- a value at one over the limit is none
      pub read_said : Ok (then_some (leb value limit) value) ≡ number_of limit t
      unfolding number_of
      read_said = go (dec_le value limit)
        where
          go : Dec (value ≤ limit) → Ok (then_some (leb value limit) value) ≡ number_of limit t
          go (yes h) =
              let same : value ≡ decimal t = omega (arith, read_worth) in
              rw (read_all, le-leb value limit h, le-leb (decimal t) limit (omega arith), number_of, same)
          go (no h) =
              let over : limit < decimal t = omega (arith, read_worth) in
              rw (read_all, lt-leb value limit (omega arith), lt-leb (decimal t) limit over, number_of)
