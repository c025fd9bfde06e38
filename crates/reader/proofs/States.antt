-- Where the reader stands: between lines, or inside a clause. What it has read, what the store holds of it, and what is still
-- to be read; the promise when reading ends.
use Rattle.std.specs.Prelude.{ℕ, ◌+◌, ◌<◌, ◌≤◌, List, ◌≡◌, refl, length, drop, set, Result, Ok, Err}
use Rattle.std.proofs.Common.{ap, subst, ◌∙◌, arith, length-set}
use Rattle.std.proofs.lemmas.List.{drop-set-lt}
use Rattle.instance.specs.Limits.{most_clauses}
use Rattle.instance.specs.Clause.{Literal, Problem, tautology}
use Rattle.instance.specs.Memory.{store_size}
use Rattle.instance.specs.Refusals.{staged}
use Rattle.instance.specs.Store.{weights_at, flags_at, flag_of, Stored}
use Rattle.instance.specs.Weights.{meant, coded}
use Rattle.instance.specs.declared.Instance.{Instance}
use Rattle.instance.specs.declared.answers.Surveyed.{Surveyed}
use Rattle.instance.specs.declared.refusals.Stage.{Stage}
use Rattle.instance.specs.declared.weights.Weight.{Weight}
use Rattle.reader.specs.Reading.{read, refused, nothing, lines_read, read_of}
use Rattle.reader.specs.Survey.{counts, survey_of}
use Rattle.reader.specs.Promise.{ReadAnswers}
use Rattle.reader.specs.declared.drafts.Draft.{Draft}
use Rattle.reader.proofs.Theorems.Limits.{Sound, Open, nothing_sound}
use Rattle.reader.proofs.Rows.{Rows, rows_none}
use Rattle.reader.proofs.AtWork.{Row}
use Rattle.reader.proofs.Lexing.{from}
use Rattle.reader.proofs.Modes.{inside, on_text}

-- ---- the lent store is the caller's beyond its constant
pub record Lent (before store : List ℕ) : Type 0 where
  pub long : length store ≡ length before
  pub beyond : drop store_size store ≡ drop store_size before

lent_same : (store : List ℕ) → Lent store store
lent_same store = record { long = refl; beyond = refl }

pub lent_set : {before store : List ℕ} → Lent before store → (j v : ℕ) → j < store_size → Lent before (set store j v)
lent_set {before} {store} l j v h = record {
  long = length-set store j v ∙ l.long;
  beyond = drop-set-lt store_size store j v h ∙ l.beyond;
}

-- a clause's row begins
pub lent_begun : {before store store' : List ℕ} {k : ℕ} (w : ℕ) → Lent before store → k < most_clauses
    → store' ≡ set (set store (weights_at + k) w) (flags_at + k) 0 → Lent before store'
lent_begun {k = k} w l h e =
    rw e (lent_set (lent_set l (weights_at + k) w (omega arith)) (flags_at + k) 0 (omega arith))

-- ---- between lines: the instance I is read, and the lines from i on are still to be read
pub record Between (text before : List ℕ) (d : Draft) (i : ℕ) : Type 0 where
  pub I : Problem
  pub counts_to : d.counts ≡ counts I
  pub sound : Sound I
  pub rows : Rows d.store.now I.variables I.clauses d.kept
  pub here : i ≤ length text
  pub lent : Lent before d.store.now
  pub goes : read_of text ≡ lines_read I (from text i)

pub begins : {text before : List ℕ} {d : Draft} → d.store.now ≡ before → d.counts ≡ counts nothing → d.kept ≡ 0
    → Between text before d 0
unfolding read_of nothing
begins {text} {d = d} s e none = record {
  I = nothing;
  counts_to = e;
  sound = nothing_sound;
  rows = rw none (rows_none d.store.now d.room);
  here = omega arith;
  lent = subst (λ (b : List ℕ). Lent b d.store.now) s (lent_same d.store.now);
  goes = refl;
}

-- ---- inside a clause: beside the instance I, the literals ls of a clause of some weight are read
-- its weight is counted, and itself not yet
abbrev pub opened : Instance → Weight → Instance
opened i w = record i { total = i.total + coded w }

pub record Inside (text before : List ℕ) (i₀ : ℕ) (d : Draft) (i : ℕ) : Type 0 where
  pub I : Problem
  pub weight : Weight
  pub ls : List Literal
  pub counts_to : d.counts ≡ opened (counts I) weight
  pub work : Open I (meant weight) ls
  pub row : Row d.store.now I.variables I.clauses d.start d.kept (meant weight) (flag_of (tautology ls)) ls
  pub further : i₀ ≤ i
  pub here : i ≤ length text
  pub lent : Lent before d.store.now
  pub goes : read_of text ≡ on_text (inside I (meant weight) ls) (from text i)

-- ---- the promise
pub refuses : {text before store : List ℕ} {n p : ℕ} → read_of text ≡ refused n p → Lent before store
    → ReadAnswers text before (Err (staged n p)) store
unfolding survey_of
refuses {n = n} {p = p} e l = record {
  answer = rw (e, survey_of);
  stored = λ I f. absurd (let z : ◌≡◌ {A = ℕ} 0 1 = cc in omega arith);
  beyond = l.beyond;
  long = l.long;
}

pub accepts : {text before : List ℕ} {d : Draft} {i : ℕ} (b : Between text before d i) → read_of text ≡ read b.I
    → ReadAnswers text before (Ok d.counts) d.store.now
unfolding survey_of
accepts {d = d} b e =
    let I = b.I in
    let store = d.store.now in
    let stored : Stored store I = record { clauses = b.rows.clauses; laid = b.rows.laid; within = b.sound.within } in
    record {
      answer = rw (e, survey_of) (ap Surveyed.Counted b.counts_to);
      stored = λ J f. let same : I ≡ J = cc in subst (Stored store) same stored;
      beyond = b.lent.beyond;
      long = b.lent.long;
    }

-- the lent store is as the draft leaves it
pub given_back : {text before store now : List ℕ} {r : Result Instance Stage} → store ≡ now → ReadAnswers text before r now
    → ReadAnswers text before r store
given_back e a = rw e a
