-- Survey (01, "What is built"): n, K, literals written, total soft weight.
use Rattle.std.specs.Prelude.{true, false, List, ◌≡◌, ℕ, length}
use Rattle.instance.specs.Clause.{Problem, total_of}
use Rattle.instance.specs.Refusals.{staged}
use Rattle.instance.specs.Memory.{store_size, ample, returned}
use Rattle.instance.specs.declared.Instance.{Instance}
use Rattle.instance.specs.declared.answers.Surveyed.{Surveyed}
use Rattle.reader.specs.Reading.{read, refused, read_of}

unfoldable pub counts : Problem → Instance
counts I = record {
  variables = I.variables;
  clauses = length I.clauses;
  written = I.written;
  total = total_of I.clauses;
}

unfoldable pub survey_of : List ℕ → Surveyed
survey_of text = elim (read_of text) [ refused n p ↦ Surveyed.Refused (staged n p) | read I ↦ Surveyed.Counted (counts I) ]

-- the answer and the store on return, the store too small included
pub record SurveyAnswers (text store : List ℕ) (r : Surveyed) (store' : List ℕ) : Type 0 where
  pub answer : r ≡ elim (ample store_size store) as (λ _. Surveyed) [ true ↦ survey_of text | false ↦ Surveyed.Refused (staged 1 0) ]
  pub after : store' ≡ returned (ample store_size store) store_size store
