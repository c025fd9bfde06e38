-- What each answer says in 01's numbers: the values that 01 names, in its order, or the refusal's number and place.
use Rattle.std.specs.Prelude.{ℕ, List, [], ◌∷◌, Result, Ok, Err}
use Rattle.instance.specs.declared.Instance.{Instance}
use Rattle.instance.specs.declared.refusals.Stage.{Stage}
use Rattle.instance.specs.declared.answers.Worth.{Worth}
use Rattle.instance.specs.Refusals.{number_of, place_of}
use Rattle.instance.specs.declared.answers.Claim.{Claim}
use Rattle.instance.specs.declared.answers.Surveyed.{Surveyed}
use Rattle.instance.specs.declared.answers.Valued.{Valued}
use Rattle.instance.specs.declared.answers.Checked.{Checked}
use Rattle.instance.specs.declared.answers.Written.{Written}

pub data Told : Type 0 where
  values : List ℕ → Told
  refused : ℕ → ℕ → Told

-- "n, K, literals written, total soft weight"
unfoldable pub survey_told : Surveyed → Told
survey_told (Surveyed.Counted i) = values (i.variables ∷ i.clauses ∷ i.written ∷ i.total ∷ [])
survey_told (Surveyed.Refused s) = refused (number_of s) (place_of s)

-- "the number of the first broken hard clause (0 if none) and the soft weight falsified"
unfoldable pub value_told : Valued → Told
value_told (Valued.Worth first weight) = values (first ∷ weight ∷ [])
value_told (Valued.Refused s) = refused (number_of s) (place_of s)

-- the byte of a claim's record
abbrev pub kind_m : ℕ
kind_m = 0x4D

abbrev pub kind_n : ℕ
kind_n = 0x4E

-- "the claim, m (0 under N) and the number of records after the claim"
unfoldable pub check_told : Checked → Told
check_told (Checked.Accepted (Claim.Minimum m) records) = values (kind_m ∷ m ∷ records ∷ [])
check_told (Checked.Accepted Claim.Infeasible records) = values (kind_n ∷ 0 ∷ records ∷ [])
check_told (Checked.Refused s) = refused (number_of s) (place_of s)

-- "length and record count"
unfoldable pub write_told : Written → Told
write_told (Written.Derivation length records) = values (length ∷ records ∷ [])
write_told (Written.Refused s) = refused (number_of s) (place_of s)

-- ---- the same answers, as the functions below the five questions give them
abbrev pub surveyed : Result Instance Stage → Surveyed
surveyed (Ok i) = Surveyed.Counted i
surveyed (Err s) = Surveyed.Refused s

abbrev pub valued : Result Worth Stage → Valued
valued (Ok w) = Valued.Worth w.first_broken w.falsified
valued (Err s) = Valued.Refused s

abbrev pub shown_by : Claim → Result ℕ Stage → Checked
shown_by k (Ok records) = Checked.Accepted k records
shown_by k (Err s) = Checked.Refused s

abbrev pub checked : Result (Claim × ℕ) Stage → Checked
checked (Ok shown) = Checked.Accepted shown.0 shown.1
checked (Err s) = Checked.Refused s
