-- What some texts are surveyed as: each refusal of a text, at its place and in its order.
use Rattle.std.specs.Prelude.{ℕ, List, [], ◌∷◌, map, ◌≡◌, refl, replicate}
use Prim.Native.String.{String}
use Rattle.instance.specs.Answers.{Told, values, refused, survey_told}
use Rattle.instance.specs.Clause.{pos, hard, clause, Clause, variable_of, same, occurs, kept_with, soft_of, total_of}
use Rattle.instance.specs.Refusals.{staged, number_of, place_of}
use Rattle.reader.specs.Lines.{blank, in_token, on_first, begun, widened, starts_in_token, lines}
use Rattle.reader.specs.Numbers.{digit, all_digits, spelled, value_from, decimal}
use Rattle.reader.specs.Words.{bad_first, holds, bad_later, alone, weight_spelled, signed, literal_spelled, weighed, first_word, later_word}
use Rattle.reader.specs.Reading.{nothing, with_literal, with_clause, ended, clause_from, comment, line_read, lines_read, read_of}
use Rattle.reader.specs.Survey.{counts, survey_of}
use Rattle.reader.specs.Quoted.{text, sheet_pair}

pub record Row : Type 0 where
  pub quoted : String
  pub outcome : Told

row : String → Told → Row
row t o = record { quoted = t; outcome = o }

survey : ℕ → ℕ → ℕ → ℕ → Told
survey n K literals total = values (n ∷ K ∷ literals ∷ total ∷ [])

table : List Row
table =
    row "" (survey 0 0 0 0) ∷
    row sheet_pair (survey 2 4 6 9) ∷
    row "c 1 x//  cat 1 0/ \t/h 3 0" (survey 3 1 1 0) ∷
    row "4 1 1 0/2 -1 7 1 0" (survey 7 2 5 6) ∷
    row "007 1 0" (refused 2 0) ∷
    row "1 2 0/ +3 1 0" (refused 2 7) ∷
    row "1 2 -0 0" (refused 2 4) ∷
    row "1 2 00" (refused 2 4) ∷
    row "h 1 0\r/" (refused 2 4) ∷
    row "h 1 0 0" (refused 2 6) ∷
    row "h 1 0  c" (refused 2 7) ∷
    row "1 2" (refused 3 3) ∷
    row "1 2 /1 0" (refused 3 4) ∷
    row "h" (refused 3 1) ∷
    row "0 x" (refused 5 0) ∷
    row "1000000000001 0" (refused 5 0) ∷
    row "999999999999999999999999999999 0" (refused 5 0) ∷
    row "1000000000000 0" (survey 0 1 0 1_000_000_000_000) ∷
    row "1000000000000 1 -1 0/1 0" (refused 6 21) ∷
    row "1 500 -500 0" (survey 500 1 2 1) ∷
    row "1 501 x" (refused 7 2) ∷
    row "1 -99999999999999999999 0" (refused 7 2) ∷ []

-- Whoever names `told` on an `unfolding` line opens all of reading.
unfoldable pub told : Row → Told
unfolding text survey_of counts survey_told number_of place_of staged read_of lines_read line_read comment clause_from ended with_clause with_literal nothing later_word first_word weighed variable_of literal_spelled signed weight_spelled alone decimal value_from spelled all_digits digit lines starts_in_token widened begun on_first in_token blank same occurs kept_with soft_of total_of
told r = survey_told (survey_of (text r.quoted))

expected : Row → Told
expected r = r.outcome

examples_hold : map told table ≡ map expected table
unfolding table row survey told expected
examples_hold = refl

-- At clause 1,001 a misspelled token is 2, and `h`, 0 or any weight is 4.
thousand : List Clause
thousand = replicate 1_000 (record { weight = hard; body = clause [] })

at_clause_1001 : map (λ t. first_word thousand (text t)) ("x" ∷ "h" ∷ "0" ∷ "1000000000001" ∷ []) ≡ bad_first 2 ∷ bad_first 4 ∷ bad_first 4 ∷ bad_first 4 ∷ []
unfolding thousand told
at_clause_1001 = refl

-- At literal 4,001 spelling and variable come before the count.
at_literal_4001 : map (λ t. later_word 4_000 (text t)) ("-" ∷ "501" ∷ "500" ∷ []) ≡ bad_later 2 ∷ bad_later 7 ∷ bad_later 8 ∷ []
unfolding told
at_literal_4001 = refl

at_literal_4000 : later_word 3_999 (text "500") ≡ holds (pos 500)
unfolding told
at_literal_4000 = refl
