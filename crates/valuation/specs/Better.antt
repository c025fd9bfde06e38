-- Better of two (01, "Turned away").
use Rattle.std.specs.Prelude.{ℕ, Bool, true, false, not, ◌&&◌, ◌||◌, List, [], ◌≡◌, eqb, ltb}
use Rattle.std.specs.Borrow.{Bor}
use Rattle.instance.specs.Memory.{store_size, ample, returned}
use Rattle.instance.specs.declared.answers.Valued.{Valued}
use Rattle.valuation.specs.Value.{value_of}
use Rattle.valuation.specs.declared.choosing.Choice.{Choice}
use Rattle.valuation.specs.declared.choosing.Choice.TheVariants.{First, Second, Neither}

-- "One that meets the hard clauses comes before one that doesn't; then less weight; equal, or both breaking a hard clause:
-- the first." The second, with its first broken hard clause g and its weight w, comes before the first, with f and v.
unfoldable pub beats : ℕ → ℕ → ℕ → ℕ → Bool
beats g w f v = eqb g 0 && (not (eqb f 0) || ltb w v)

-- a refusal for either gives neither
unfoldable pub chosen : Valued → Valued → Choice
chosen (Valued.Refused s) second = Neither
chosen (Valued.Worth f v) (Valued.Refused s) = Neither
chosen (Valued.Worth f v) (Valued.Worth g w) = elim (beats g w f v) [ true ↦ Second | false ↦ First ]

unfoldable pub better_of : List ℕ → List ℕ → List ℕ → Choice
better_of text first second = chosen (value_of text first) (value_of text second)

-- "hands back the cheaper of the two lent assignments": the part itself, which has its place in memory and its bytes; on a
-- refusal "the empty part at the start of the first"
abbrev pub Handed : Choice → Bor (List ℕ) → Bor (List ℕ) → Bor (List ℕ) → Type 0
Handed First first second part = part ≡ first
Handed Second first second part = part ≡ second
Handed Neither first second part = (part.ref_ptr ≡ first.ref_ptr) × (part.now ≡ [])

-- a store too small is a refusal too
unfoldable pub chosen_with : List ℕ → List ℕ → List ℕ → List ℕ → Choice
chosen_with store text first second = elim (ample store_size store) [ true ↦ better_of text first second | false ↦ Neither ]

-- the part and the store on return
pub record BetterAnswers (text : List ℕ) (first second : Bor (List ℕ)) (store : List ℕ) (part : Bor (List ℕ)) (store' : List ℕ) : Type 0 where
  pub answer : Handed (chosen_with store text first.now second.now) first second part
  pub after : store' ≡ returned (ample store_size store) store_size store
