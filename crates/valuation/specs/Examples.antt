-- Value and Better of two over 01's sheet pair.
use Rattle.std.specs.Prelude.{ℕ, List, [], ◌∷◌, ◌≡◌, refl}
use Rattle.instance.specs.Answers.{Told, values, refused, value_told}
use Rattle.instance.specs.Meaning.{assigned, holds, falsified, broken, fine, priced, cost, first_broken_from, first_broken}
use Rattle.reader.specs.Examples.{told}
use Rattle.reader.specs.Quoted.{text, sheet_pair}
use Rattle.valuation.specs.Value.{first_over, worth_of, valued, value_of}
use Rattle.valuation.specs.Better.{beats, chosen, better_of}
use Rattle.valuation.specs.declared.choosing.Choice.{Choice}
use Rattle.valuation.specs.declared.choosing.Choice.TheVariants.{First, Second, Neither}

-- Whoever names `value_tells` on an `unfolding` line opens reading and Value.
unfoldable pub value_tells : List ℕ → Told
unfolding told value_told value_of valued worth_of first_over assigned holds falsified broken fine priced cost first_broken_from first_broken
value_tells bytes = value_told (value_of (text sheet_pair) bytes)

-- the four layouts, then 9 and 10
values_hold :
    value_tells (0 ∷ 1 ∷ []) ∷ value_tells (1 ∷ 0 ∷ []) ∷ value_tells (1 ∷ 1 ∷ []) ∷ value_tells (0 ∷ 0 ∷ []) ∷
    value_tells (0 ∷ []) ∷ value_tells (1 ∷ 2 ∷ 3 ∷ []) ∷ value_tells (1 ∷ 2 ∷ []) ∷ [] ≡
    values (0 ∷ 2 ∷ []) ∷ values (0 ∷ 3 ∷ []) ∷ values (0 ∷ 9 ∷ []) ∷ values (1 ∷ 0 ∷ []) ∷
    refused 9 0 ∷ refused 9 0 ∷ refused 10 1 ∷ []
unfolding value_tells
values_hold = refl

better : List ℕ → List ℕ → Choice
unfolding value_tells better_of chosen beats
better first second = better_of (text sheet_pair) first second

-- the cheaper; the first on a tie; one that meets the hard clauses; the first where both break one; neither on a refusal
choices_hold :
    better (1 ∷ 0 ∷ []) (0 ∷ 1 ∷ []) ∷ better (0 ∷ 1 ∷ []) (1 ∷ 0 ∷ []) ∷ better (0 ∷ 1 ∷ []) (0 ∷ 1 ∷ []) ∷
    better (0 ∷ 0 ∷ []) (1 ∷ 1 ∷ []) ∷ better (1 ∷ 1 ∷ []) (0 ∷ 0 ∷ []) ∷ better (0 ∷ 0 ∷ []) (0 ∷ 0 ∷ []) ∷
    better (0 ∷ 1 ∷ []) (0 ∷ []) ∷ better (2 ∷ 1 ∷ []) (0 ∷ 1 ∷ []) ∷ [] ≡
    Second ∷ First ∷ First ∷ Second ∷ First ∷ First ∷ Neither ∷ Neither ∷ []
unfolding better
choices_hold = refl
