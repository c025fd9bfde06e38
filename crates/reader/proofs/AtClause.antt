-- The steps inside a clause: the line ends, a token is at fault, a literal, or the clause's 0 and what follows it.
use Rattle.std.specs.Prelude.{ℕ, ◌+◌, ◌/◌, ◌<◌, ◌≤◌, max, Bool, false, ◌||◌, List, [], ◌∷◌, ◌++◌, ◌≡◌, refl, length, Option, Some, None, Result, Ok, Err}
use Rattle.std.proofs.Common.{sym, ap, ◌∙◌, arith, add-one, length-append}
use Rattle.instance.specs.Limits.{most_clauses, most_literals}
use Rattle.instance.specs.Clause.{Literal, clause, Clause, Problem, variable_of, occurs, opposite, kept_with, tautology}
use Rattle.instance.specs.Clause as spec
use Rattle.instance.specs.Faults.{numbered}
use Rattle.instance.specs.Store.{flags_at, literals_at, literal_of, flag_of}
use Rattle.instance.specs.Weights.{meant}
use Rattle.instance.specs.Theorems.Clauses.{total_snoc}
use Rattle.instance.specs.Theorems.Codes.{variable_in}
use Rattle.instance.specs.Theorems.Literals.{kept_again, kept_new, tautology_snoc}
use Rattle.instance.specs.Theorems.Decoded.{soft_meant}
use Rattle.instance.specs.declared.Instance.{Instance}
use Rattle.instance.specs.declared.faults.Fault.{Fault}
use Rattle.reader.specs.declared.drafts.Draft.{Draft}
use Rattle.reader.specs.Words.{Later, later_word}
use Rattle.reader.specs.Reading.{refused, with_literal, with_clause, ended, clause_from, line_read, lines_read, read_of}
use Rattle.reader.specs.Survey.{counts}
use Rattle.reader.specs.Spans.{TokenAt}
use Rattle.reader.specs.Said.{word_says}
use Rattle.reader.specs.Drafts.{Keeps, Closes, literals_from, Kept, again, opposed, new}
use Rattle.reader.proofs.Theorems.Limits.{Taken, later_taken, open_literal, open_clause}
use Rattle.reader.proofs.AtWork.{Row, row_more, row_flagged, row_coded, row_closed}
use Rattle.reader.proofs.Lexing.{from, from_blanks}
use Rattle.reader.proofs.Modes.{between, inside, after, on_text, text_lines, token_goes, token_stops, line_stops, line_goes}
use Rattle.reader.proofs.States.{Lent, lent_set, Between, Inside}

-- ---- a literal is kept
-- what the row of a clause is with the literals ls
record Grown (before store : List ℕ) (n : ℕ) (cs : List Clause) (start kept : ℕ) (w : spec.Weight) (ls : List Literal)
    : Type 0 where
  row : Row store n cs start kept w (flag_of (tautology ls)) ls
  lent : Lent before store

module _ {before store : List ℕ} {n : ℕ} {cs : List Clause} {start kept : ℕ} {w : spec.Weight} {ls : List Literal}
    (r : Row store n cs start kept w (flag_of (tautology ls)) ls) (lent : Lent before store)
    (few : length cs < most_clauses) (room : kept < most_literals) (code : ℕ) (fits : (2 ≤ code) × (code / 2 ≤ n)) where
  abbrev l : Literal
  l = literal_of code

  has : (k : Literal) {answer : Bool} → occurs k (literals_from store start kept) ≡ answer → occurs k ls ≡ answer
  has k e = ap (occurs k) (sym r.literals) ∙ e

  new_row : {later : List ℕ}
      → Row later n cs start (kept + 1) w (flag_of (occurs (opposite l) ls || tautology ls)) (ls ++ (l ∷ []))
      → Lent before later → occurs l ls ≡ false → Grown before later n cs start (kept + 1) w (kept_with ls l)
  new_row row k e = rw (kept_new ls l e) (record { row = rw (tautology_snoc ls l) row; lent = k })

  grown : {kept' : ℕ} {store' : List ℕ} → Kept store (length cs) start kept code kept' store'
      → Grown before store' n cs start kept' w (kept_with ls l)
  unfolding flag_of
  grown (again e) = rw (kept_again ls l (has l e)) (record { row = r; lent = lent })
  grown (opposed e f) =
      new_row (rw (has (opposite l) f) (row_flagged (row_coded r few code room fits) few 1))
      (lent_set (lent_set lent (literals_at + kept) code (omega arith)) (flags_at + length cs) 1 (omega arith)) (has l e)
  grown (new e f) =
      new_row (rw (has (opposite l) f) (row_coded r few code room fits))
      (lent_set lent (literals_at + kept) code (omega arith)) (has l e)

-- ---- a later token, and what the code says of it
pub record Following (text : List ℕ) (written i place : ℕ) (bytes : List ℕ) (r : Result (Option ℕ) Fault) : Type 0 where
  pub token : TokenAt text i place bytes
  pub some : 0 < length bytes
  pub says : word_says r ≡ later_word written bytes

module _ {text before : List ℕ} {i₀ : ℕ} {d : Draft} {i : ℕ} (a : Inside text before i₀ d i) where
  abbrev I : Problem
  I = a.I

  abbrev ls : List Literal
  ls = a.ls

  abbrev w : spec.Weight
  w = meant a.weight

  few : length I.clauses < most_clauses
  few = a.work.opens.fewer

  number : d.counts.clauses ≡ length I.clauses
  unfolding counts
  number = ap (λ (k : Instance). k.clauses) a.counts_to

  written : d.counts.written ≡ I.written
  unfolding counts
  written = ap (λ (k : Instance). k.written) a.counts_to

  pub inside_fits : d.counts.clauses < most_clauses
  inside_fits = rw number few

  -- "A line that finishes without `0` is 3."
  pub no_zero : {place : ℕ} {bytes : List ℕ} → TokenAt text i place bytes → length bytes ≡ 0 → read_of text ≡ refused 3 place
  unfolding clause_from
  no_zero {place} t h = a.goes ∙ line_stops t (inside I w ls) h 3 place refl

  module _ {place : ℕ} {bytes : List ℕ} {r : Result (Option ℕ) Fault} (f : Following text d.counts.written i place bytes r) where
    later_is : {word : Later} → word_says r ≡ word → later_word I.written bytes ≡ word
    later_is e = ap (λ (n : ℕ). later_word n bytes) (sym written) ∙ sym f.says ∙ e

    pub word_stops : {fault : Fault} → r ≡ Err fault → read_of text ≡ refused (numbered fault) place
    unfolding clause_from
    word_stops {fault} e =
        a.goes
        ∙ token_stops f.token (inside I w ls) f.some (numbered fault) place
        (λ _ ts. rw (later_is (ap word_says e), clause_from))

    -- ---- a literal
    word_held : {code : ℕ} → r ≡ Ok (Some code) → Taken I.written (literal_of code)
    word_held {code} e = later_taken I.written bytes (literal_of code) (later_is (ap word_says e))

    pub word_fits : {code : ℕ} → r ≡ Ok (Some code) → d.counts.written < most_literals
    word_fits e = rw written (word_held e).fewer

    pub clause_grows : {code : ℕ} {d' : Draft} → r ≡ Ok (Some code) → Keeps d code d'
        → Inside text before i₀ d' (place + length bytes)
    unfolding clause_from with_literal counts
    clause_grows {code} {d'} e k =
        let l = literal_of code in
        let m = max I.variables (variable_of l) in
        let taken = word_held e in
        let x = variable_in code in
        let grows = grown (row_more a.row few m (omega arith)) a.lent few (omega (arith, d.shorter, written, taken)) code
        (omega (arith, taken), omega arith) (rw number at k.store) in
        record {
          I = with_literal I l;
          weight = a.weight;
          ls = kept_with ls l;
          counts_to =
              k.counts
              ∙ ap (λ (c : Instance). record c { variables = max c.variables (code / 2); written = c.written + 1 }) a.counts_to
              ∙ rw (add-one, variable_in);
          work = open_literal a.work taken;
          row = rw k.start grows.row;
          further = omega (arith, a.further, f.token.starts, f.some);
          here = f.token.within;
          lent = grows.lent;
          goes =
              a.goes
              ∙ token_goes f.token (inside I w ls) f.some (inside (with_literal I l) w (kept_with ls l))
              (λ _ ts. rw (later_is (ap word_says e), clause_from));
        }

    -- ---- the clause's 0
    abbrev done : Problem
    done = with_clause I w ls

    word_ends : r ≡ Ok None → read_of text ≡ on_text (after done) (from text (place + length bytes))
    unfolding clause_from
    word_ends e =
        a.goes
        ∙ token_goes f.token (inside I w ls) f.some (after done) (λ _ ts. rw (later_is (ap word_says e), clause_from))

    -- "a token after the end"
    pub more_stops : {q : ℕ} {more : List ℕ} → r ≡ Ok None → TokenAt text (place + length bytes) q more → 0 < length more
        → read_of text ≡ refused 2 q
    unfolding ended
    more_stops {q} e u h = word_ends e ∙ token_stops u (after done) h 2 q (λ _ ts. refl)

    pub clause_closes : {q : ℕ} {more : List ℕ} {d' : Draft} → r ≡ Ok None → TokenAt text (place + length bytes) q more
        → length more ≡ 0 → Closes d d' → Between text before d' q
    unfolding ended line_read with_clause counts
    clause_closes {d' = d'} e u none c =
        let s : spec.Clause = record { weight = w; body = clause ls } in
        record {
          I = done;
          counts_to =
              c.counts
              ∙ ap (λ (k : Instance). record k { clauses = k.clauses + 1 }) a.counts_to
              ∙ rw (length-append I.clauses (s ∷ []), total_snoc I.clauses s, soft_meant);
          sound = open_clause a.work;
          rows = row_closed a.row few (omega (arith, d.shorter, d.many)) number c.store c.kept;
          here = omega (arith, u.within);
          lent = rw c.store (lent_set a.lent d.counts.clauses d.kept (omega (arith, inside_fits)));
          goes = word_ends e ∙ line_goes u (after done) none (between done) refl
              ∙ sym (text_lines done _) ∙ ap (lines_read done) (from_blanks u);
        }
