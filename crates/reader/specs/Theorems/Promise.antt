-- What follows from the reader's promise: the instance that lies in the store, or the refusal.
use Rattle.std.specs.Prelude.{ℕ, List, Result, Ok, Err}
use Rattle.std.proofs.Math.Path.{◌≡◌, refl, ap}
use Rattle.std.proofs.Common.{sym, ◌∙◌, arith}
use Rattle.instance.specs.Clause.{Problem}
use Rattle.instance.specs.Refusals.{staged}
use Rattle.instance.specs.Answers.{surveyed}
use Rattle.instance.specs.Store.{Holds, Given}
use Rattle.instance.specs.Theorems.Held.{Counts, holds_stored}
use Rattle.instance.specs.declared.Instance.{Instance}
use Rattle.instance.specs.declared.answers.Surveyed.{Surveyed}
use Rattle.instance.specs.declared.refusals.Stage.{Stage}
use Rattle.reader.specs.Reading.{Reading, read, refused, read_of}
use Rattle.reader.specs.Survey.{counts, survey_of}
use Rattle.reader.specs.Promise.{ReadAnswers}

-- the text is read as an instance, which lies in the store
pub record Lies (text store : List ℕ) (i : Instance) : Type 0 where
  pub problem : Problem
  pub reads : read_of text ≡ read problem
  pub given : Given store i.variables i.clauses problem
  pub holds : Holds store i

-- the text is refused
pub record Turned (text : List ℕ) (s : Stage) : Type 0 where
  pub number : ℕ
  pub place : ℕ
  pub reads : read_of text ≡ refused number place
  pub told : s ≡ staged number place

module _ (text store : List ℕ) (r : Result Instance Stage) (store' : List ℕ) (a : ReadAnswers text store r store') where
  pub read_lies : (i : Instance) → r ≡ Ok i → Lies text store' i
  unfolding survey_of counts
  read_lies i e = by (read_of text) refl (sym a.answer ∙ ap surveyed e)
    where
      by : (o : Reading) → read_of text ≡ o →
          ◌≡◌ {A = Surveyed} (elim o [ refused n p ↦ Surveyed.Refused (staged n p) | read I ↦ Surveyed.Counted (counts I) ]) (Surveyed.Counted i) → Lies text store' i
      by (refused n p) q f = absurd (let z : ◌≡◌ {A = ℕ} 0 1 = cc in omega arith)
      by (read I) q f = record {
        problem = I;
        reads = q;
        given = record { stored = a.stored I q; variables = counted.variables; clauses = counted.clauses };
        holds = holds_stored store' i I (a.stored I q) counted;
      }
        where
          same : i ≡ counts I
          same = cc

          counted : Counts i I
          counted = record {
            variables = ap (λ (j : Instance). j.variables) same;
            written = ap (λ (j : Instance). j.written) same;
            clauses = ap (λ (j : Instance). j.clauses) same;
          }

  pub read_turned : (s : Stage) → r ≡ Err s → Turned text s
  unfolding survey_of
  read_turned s e = by (read_of text) refl (sym a.answer ∙ ap surveyed e)
    where
      by : (o : Reading) → read_of text ≡ o →
          ◌≡◌ {A = Surveyed} (elim o [ refused n p ↦ Surveyed.Refused (staged n p) | read I ↦ Surveyed.Counted (counts I) ]) (Surveyed.Refused s) → Turned text s
      by (refused n p) q f = record { number = n; place = p; reads = q; told = cc }
      by (read I) q f = absurd (let z : ◌≡◌ {A = ℕ} 0 1 = cc in omega arith)
