-- What a text is read as (01, "Instance text"): line by line, token by token, up to the first token at fault.
use Rattle.std.specs.Prelude.{ℕ, suc, max, Bool, true, false, List, [], ◌∷◌, ◌++◌, eqb}
use Rattle.instance.specs.Clause.{Literal, Weight, clause, Problem, variable_of, kept_with}
use Rattle.reader.specs.Lines.{Token, Line, lines}
use Rattle.reader.specs.Words.{letter_c, weighs, bad_first, first_word, ends, holds, bad_later, later_word}

-- an instance, or a refusal's number and place
pub data Reading : Type 0 where
  read : Problem → Reading
  refused : ℕ → ℕ → Reading

unfoldable pub nothing : Problem
nothing = record { variables = 0; written = 0; clauses = [] }

-- one more literal is written
unfoldable pub with_literal : Problem → Literal → Problem
with_literal I l = record { variables = max I.variables (variable_of l); written = suc I.written; clauses = I.clauses }

-- one more clause is done
unfoldable pub with_clause : Problem → Weight → List Literal → Problem
with_clause I w ls = record {
  variables = I.variables;
  written = I.written;
  clauses = I.clauses ++ (record { weight = w; body = clause ls } ∷ []);
}

-- after a clause's end: "a token after the end" is refusal 2
unfoldable pub ended : Problem → List Token → Reading
ended I [] = read I
ended I (t ∷ ts) = refused 2 t.place

-- The rest of a clause of weight w with the literals ls kept so far, on a line that ends at `end`.
-- "A line that finishes without `0` is 3."
unfoldable pub clause_from : Problem → Weight → List Literal → ℕ → List Token → Reading
clause_from I w ls end [] = refused 3 end
clause_from I w ls end (t ∷ ts) =
    elim (later_word I.written t.bytes) [
      | bad_later n ↦ refused n t.place
      | ends ↦ ended (with_clause I w ls) ts
      | holds l ↦ clause_from (with_literal I l) w (kept_with ls l) end ts
    ]

-- "A line whose first non-blank byte is `c` is skipped with all its bytes."
unfoldable pub comment : List ℕ → Bool
comment [] = false
comment (b ∷ bs) = eqb b letter_c

-- "A line without tokens is skipped." "Any other line is one clause."
unfoldable pub line_read : Problem → ℕ → List Token → Reading
line_read I end [] = read I
line_read I end (t ∷ ts) =
    elim (comment t.bytes) [
      | true ↦ read I
      | false ↦ elim (first_word I.clauses t.bytes) [
        | bad_first n ↦ refused n t.place
        | weighs w ↦ clause_from I w [] end ts
      ]
    ]

-- "Reading stops at the first token at fault."
unfoldable pub lines_read : Problem → List Line → Reading
lines_read I [] = read I
lines_read I (l ∷ ls) = elim (line_read I l.end l.tokens) [ refused n p ↦ refused n p | read J ↦ lines_read J ls ]

unfoldable pub read_of : List ℕ → Reading
read_of text = lines_read nothing (lines 0 text)
