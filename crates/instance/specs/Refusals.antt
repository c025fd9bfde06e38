-- Refusals (01, "Turned away"): each number has its stage, and a stage holds the number and the place.
use Rattle.std.specs.Prelude.{ℕ, Bool, true, false, ◌≡◌, refl, leb}
use Rattle.instance.specs.declared.refusals.Stage.{Stage}
use Rattle.instance.specs.declared.refusals.Stage.TheVariants.{Memory, Text, Assignment, Derivation, Writing}

-- "The stages are memory (1), text (2 to 8), assignment (9, 10, 12, 13), derivation (11, 14 to 20) and writing (21, 22)."
unfoldable pub staged : ℕ → ℕ → Stage
staged n p =
    elim (leb n 1) [
      | true ↦ Memory n p
      | false ↦ elim (leb n 8) [
        | true ↦ Text n p
        | false ↦ elim (leb n 10) [
          | true ↦ Assignment n p
          | false ↦ elim (leb n 11) [
            | true ↦ Derivation n p
            | false ↦ elim (leb n 13) [
              | true ↦ Assignment n p
              | false ↦ elim (leb n 20) [
                | true ↦ Derivation n p
                | false ↦ Writing n p
              ]
            ]
          ]
        ]
      ]
    ]

-- the number and the place of a refusal
unfoldable pub number_of : Stage → ℕ
number_of (Memory n p) = n
number_of (Text n p) = n
number_of (Assignment n p) = n
number_of (Derivation n p) = n
number_of (Writing n p) = n

unfoldable pub place_of : Stage → ℕ
place_of (Memory n p) = p
place_of (Text n p) = p
place_of (Assignment n p) = p
place_of (Derivation n p) = p
place_of (Writing n p) = p

-- A stage says the number and the place that it was given.
pub record Says (n p : ℕ) (s : Stage) : Type 0 where
  pub number : number_of s ≡ n
  pub place : place_of s ≡ p

pub staged_says : (n p : ℕ) → Says n p (staged n p)
unfolding staged number_of place_of
staged_says n p =
    either (leb n 1) (says refl refl)
    (either (leb n 8) (says refl refl)
    (either (leb n 10) (says refl refl)
    (either (leb n 11) (says refl refl)
    (either (leb n 13) (says refl refl)
    (either (leb n 20) (says refl refl) (says refl refl))))))
  where
    says : {s : Stage} → number_of s ≡ n → place_of s ≡ p → Says n p s
    says e f = record { number = e; place = f }

    either : {s t : Stage} (b : Bool) → Says n p s → Says n p t → Says n p (elim b as (λ _. Stage) [ true ↦ s | false ↦ t ])
    either true h k = h
    either false h k = k
