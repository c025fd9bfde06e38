-- What reading a text into the store promises.
use Rattle.std.specs.Prelude.{ℕ, List, ◌≡◌, length, drop, Result}
use Rattle.instance.specs.Answers.{surveyed}
use Rattle.instance.specs.Clause.{Problem}
use Rattle.instance.specs.Memory.{store_size}
use Rattle.instance.specs.Store.{Stored}
use Rattle.instance.specs.declared.Instance.{Instance}
use Rattle.instance.specs.declared.refusals.Stage.{Stage}
use Rattle.reader.specs.Reading.{read, read_of}
use Rattle.reader.specs.Survey.{survey_of}

-- the answer, and the store afterwards: it holds the instance that the text is read as, and is as before beyond its constant
pub record ReadAnswers (text store : List ℕ) (r : Result Instance Stage) (store' : List ℕ) : Type 0 where
  pub answer : surveyed r ≡ survey_of text
  pub stored : (I : Problem) → read_of text ≡ read I → Stored store' I
  pub beyond : drop store_size store' ≡ drop store_size store
  pub long : length store' ≡ length store
