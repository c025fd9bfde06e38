-- What the code says of a token: each answer in terms of the definitions.
use Rattle.std.specs.Prelude.{ℕ, true, false, ◌||◌, List, ◌≡◌, eqb, leb, ltb, length, Option, Some, None, Result, Ok, Err}
use Rattle.std.proofs.Math.Option.{some, none}
use Rattle.std.proofs.Math.Option as math
use Rattle.instance.specs.Limits.{most_weight}
use Rattle.instance.specs.Clause.{hard, soft, Clause, total_of}
use Rattle.instance.specs.Clause as clause
use Rattle.instance.specs.Faults.{numbered}
use Rattle.instance.specs.Store.{literal_of}
use Rattle.instance.specs.Weights.{meant}
use Rattle.instance.specs.declared.faults.Fault.{Fault}
use Rattle.instance.specs.declared.faults.Fault.TheVariants.{WrongToken}
use Rattle.instance.specs.declared.weights.Weight.{Weight}
use Rattle.instance.specs.declared.weights.Weight.TheVariants.{Hard, Soft}
use Rattle.reader.specs.Numbers.{spelled, decimal}
use Rattle.reader.specs.Words.{First, weighs, bad_first, first_word, Later, ends, holds, bad_later}

-- a token as a number, or none where it is over a limit
unfoldable pub number_of : ℕ → List ℕ → Result (Option ℕ) Fault
number_of limit t =
    elim (spelled t) [
      | false ↦ Err WrongToken
      | true ↦ elim (leb (decimal t) limit) [ true ↦ Ok (Some (decimal t)) | false ↦ Ok None ]
    ]

-- a weight's spelling, with 5 foreseen
unfoldable pub spelled_as : math.Option clause.Weight → Result (Option Weight) Fault
spelled_as none = Err WrongToken
spelled_as (some hard) = Ok (Some Hard)
spelled_as (some (soft w)) = elim (eqb w 0 || ltb most_weight w) [ true ↦ Ok None | false ↦ Ok (Some (Soft w)) ]

abbrev pub opening_says : Result Weight Fault → First
opening_says (Ok w) = weighs (meant w)
opening_says (Err f) = bad_first (numbered f)

-- what the code says of a clause's first token, after clauses of this number and total
abbrev pub FirstSaid : List ℕ → ℕ → ℕ → Result Weight Fault → Type 0
FirstSaid t clauses total r =
    (cs : List Clause) → clauses ≡ length cs → total ≡ total_of cs → opening_says r ≡ first_word cs t

abbrev pub word_says : Result (Option ℕ) Fault → Later
word_says (Ok None) = ends
word_says (Ok (Some code)) = holds (literal_of code)
word_says (Err f) = bad_later (numbered f)
