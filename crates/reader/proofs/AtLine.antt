-- The steps at the front of a clause's line: the text ends, or its first token is at fault or a weight.
use Rattle.std.specs.Prelude.{ℕ, ◌+◌, ◌<◌, ◌≤◌, List, [], ◌≡◌, length, Result, Ok, Err}
use Rattle.std.proofs.Common.{sym, ap, ◌∙◌, arith}
use Rattle.instance.specs.Limits.{most_clauses, most_weight}
use Rattle.instance.specs.Clause.{Problem, tautology, total_of}
use Rattle.instance.specs.Faults.{numbered}
use Rattle.instance.specs.Store.{flag_of}
use Rattle.instance.specs.Weights.{meant, coded}
use Rattle.instance.specs.Theorems.Decoded.{soft_meant}
use Rattle.instance.specs.declared.Instance.{Instance}
use Rattle.instance.specs.declared.faults.Fault.{Fault}
use Rattle.instance.specs.declared.weights.Weight.{Weight}
use Rattle.reader.specs.Words.{First, weighs, first_word}
use Rattle.reader.specs.Reading.{refused, line_read, read_of}
use Rattle.reader.specs.Survey.{counts}
use Rattle.reader.specs.Spans.{LineAt}
use Rattle.reader.specs.Said.{opening_says, FirstSaid}
use Rattle.reader.specs.Drafts.{Begins}
use Rattle.reader.specs.Promise.{ReadAnswers}
use Rattle.reader.specs.declared.drafts.Draft.{Draft}
use Rattle.reader.proofs.Theorems.Limits.{Opens, first_taken, open_begun}
use Rattle.reader.proofs.AtWork.{row_begun}
use Rattle.reader.proofs.Lexing.{from}
use Rattle.reader.proofs.Modes.{between, inside, on_text, text_lines, token_goes, token_stops, last_line}
use Rattle.reader.proofs.States.{lent_begun, Between, opened, Inside, accepts}

-- a clause's first token, and what the code says of it
pub record Front (text : List ℕ) (counts : Instance) (i place : ℕ) (bytes : List ℕ) (r : Result Weight Fault) : Type 0 where
  pub line : LineAt text i place bytes
  pub some : 0 < length bytes
  pub says : FirstSaid bytes counts.clauses counts.total r

module _ {text before : List ℕ} {d : Draft} {i : ℕ} (b : Between text before d i) where
  abbrev I : Problem
  I = b.I

  same_clauses : d.counts.clauses ≡ length I.clauses
  unfolding counts
  same_clauses = ap (λ (k : Instance). k.clauses) b.counts_to

  same_total : d.counts.total ≡ total_of I.clauses
  unfolding counts
  same_total = ap (λ (k : Instance). k.total) b.counts_to

  pub light : d.counts.total ≤ most_weight
  light = omega (arith, same_total, b.sound.within.light)

  pub text_ends : {place : ℕ} {bytes : List ℕ} → LineAt text i place bytes → length bytes ≡ 0
      → ReadAnswers text before (Ok d.counts) d.store.now
  text_ends l none = accepts b (b.goes ∙ l.same I ∙ last_line l.token I (omega (arith, l.last none)))

  module _ {place : ℕ} {bytes : List ℕ} {r : Result Weight Fault} (f : Front text d.counts i place bytes r) where
    goes : read_of text ≡ on_text (between I) (from text f.line.line)
    goes = b.goes ∙ f.line.same I ∙ text_lines I (from text f.line.line)

    first_is : {word : First} → opening_says r ≡ word → first_word I.clauses bytes ≡ word
    first_is e = sym (f.says I.clauses same_clauses same_total) ∙ e

    pub first_stops : {fault : Fault} → r ≡ Err fault → read_of text ≡ refused (numbered fault) place
    unfolding line_read
    first_stops {fault} e =
        goes
        ∙ token_stops f.line.token (between I) f.some (numbered fault) place
        (λ _ ts. rw (f.line.plain, first_is (ap opening_says e), line_read))

    weight_opens : {w : Weight} → r ≡ Ok w → Opens I.clauses (meant w)
    weight_opens {w} e = first_taken I.clauses bytes (meant w) b.sound.within.light (first_is (ap opening_says e))

    pub clause_fits : {w : Weight} → r ≡ Ok w → (d.counts.clauses < most_clauses) × (d.counts.total + coded w ≤ most_weight)
    clause_fits {w} e =
        let o = weight_opens e in
        (omega (arith, same_clauses, o.fewer), omega (arith, same_total, o.lighter, soft_meant w))

    pub clause_opens : {w : Weight} {d' : Draft} → r ≡ Ok w → Begins d w d'
        → Inside text before (place + length bytes) d' (place + length bytes)
    unfolding line_read flag_of tautology
    clause_opens {w} {d'} e s =
        let o = weight_opens e in
        let word : first_word I.clauses bytes ≡ weighs (meant w) = first_is (ap opening_says e) in
        record {
          I = I;
          weight = w;
          ls = [];
          counts_to = s.counts ∙ ap (λ (k : Instance). opened k w) b.counts_to;
          work = open_begun b.sound o;
          row = row_begun b.rows w o same_clauses s.store s.start s.kept;
          further = omega arith;
          here = f.line.token.within;
          lent = lent_begun (coded w) b.lent (clause_fits e).0 s.store;
          goes =
              goes
              ∙ token_goes f.line.token (between I) f.some (inside I (meant w) []) (λ _ ts. rw (f.line.plain, word, line_read));
        }
