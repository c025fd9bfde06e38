use Rattle.std.proofs.Common.{Some, Ok, ◌≡◌, refl, ◌∙◌, arith, rules}
use Rattle.std.proofs.lemmas.Bool.Decides.{nat_tests}
use Rattle.reader.proofs.States.{begins, refuses, given_back}
use Rattle.reader.proofs.AtLine.{Front, light, text_ends, first_stops, clause_fits, clause_opens}
use Rattle.reader.proofs.AtClause.{Following, inside_fits, no_zero, word_stops, word_fits, clause_grows, more_stops, clause_closes}
use Rattle.reader.proofs.reading.read.Goals as goal
use Rattle.reader.proofs.reading.read.Goals.{After-first_word, After-later_word, In-Ok-Some}

-- ---- between lines
pub text-init : goal.text-init
text-init c =
    let made = c.new-draft.ensures in
    record { lent = refl; between = begins made.store made.counts made.kept }

pub returns-then-is_empty : goal.returns-then-is_empty
returns-then-is_empty c =
    let same = c.text.invariant.lent in
    given_back (search rules) (text_ends c.text.invariant.between c.next_line-first.ensures (grind (arith, nat_tests)))

pub first_word-requires : goal.first_word-requires
first_word-requires c = light c.text.invariant.between

-- a clause's first token, and what it says
front : (c : After-first_word) → let first = c.next_line-first.result in
    Front c.args.text.now c.text.draft.counts c.text.i first.place first.bytes.now c.first_word.result
front c = record { line = c.next_line-first.ensures; some = grind (arith, nat_tests); says = c.first_word.ensures }

pub begin-requires-clause-clause_left : goal.begin-requires-clause-clause_left
begin-requires-clause-clause_left c =
    let f = front (goal.at.begin-requires-clause-clause_left c).After-first_word in
    (clause_fits c.text.invariant.between f c.in-Ok.is).0

pub begin-requires-clause-weight_left : goal.begin-requires-clause-weight_left
begin-requires-clause-weight_left c =
    let f = front (goal.at.begin-requires-clause-weight_left c).After-first_word in
    (clause_fits c.text.invariant.between f c.in-Ok.is).1

pub clause-init : goal.clause-init
clause-init c =
    let f = front (goal.at.clause-init c).After-first_word in
    record {
      lent = refl;
      inside = rw c.end-i.ensures (clause_opens c.text.invariant.between f c.in-Ok.is c.begin.ensures);
    }

pub returns-in-Err : goal.returns-in-Err
returns-in-Err c =
    let b = c.text.invariant in
    let same = b.lent in
    let stops = first_stops b.between (front (goal.at.returns-in-Err c).After-first_word) c.in-Err.is in
    rw c.at.ensures (given_back (search rules) (refuses stops b.between.lent))

-- ---- inside a clause
pub returns-then-is_empty-2 : goal.returns-then-is_empty-2
returns-then-is_empty-2 c =
    let a = c.clause.invariant.inside in
    let same = c.clause.invariant.lent ∙ c.begin.ensures.lent ∙ c.text.invariant.lent in
    let stops = no_zero a c.next_token-token.ensures (grind (arith, nat_tests)) in
    rw c.at-then-is_empty-2.ensures (given_back (search rules) (refuses stops a.lent))

-- a later token, and what it says
following : (c : After-later_word) → let token = c.next_token-token.result in
    Following c.args.text.now c.clause.draft.counts.written c.clause.i token.place token.bytes.now c.later_word.result
following c = record { token = c.next_token-token.ensures; some = grind (arith, nat_tests); says = c.later_word.ensures }

pub returns-in-Err-later_word : goal.returns-in-Err-later_word
returns-in-Err-later_word c =
    let a = c.clause.invariant.inside in
    let same = c.clause.invariant.lent ∙ c.begin.ensures.lent ∙ c.text.invariant.lent in
    let stops = word_stops a (following (goal.at.returns-in-Err-later_word c).After-later_word) c.in-Err-later_word.is in
    rw c.at-in-Err-later_word.ensures (given_back (search rules) (refuses stops a.lent))

taken : (c : In-Ok-Some) → c.later_word.result ≡ Ok (Some c.in-Ok-Some.code)
taken c = cc

pub keep-requires-clause-clause_left : goal.keep-requires-clause-clause_left
keep-requires-clause-clause_left c = inside_fits c.clause.invariant.inside

pub keep-requires-clause-literal_left : goal.keep-requires-clause-literal_left
keep-requires-clause-literal_left c =
    let at = goal.at.keep-requires-clause-literal_left c in
    word_fits c.clause.invariant.inside (following at.After-later_word) (taken at.In-Ok-Some)

pub clause-preserved : goal.clause-preserved
clause-preserved c =
    let a = c.clause.invariant in
    let at = goal.at.clause-preserved c in
    let kept = rw c.in-Ok-Some.code-is at c.keep.ensures in
    record {
      lent = c.keep.ensures.lent ∙ a.lent;
      inside = rw c.end-i-in-clause.ensures (clause_grows a.inside (following at.After-later_word) (taken at.In-Ok-Some) kept);
    }

-- ---- after the clause's 0
pub close-requires : goal.close-requires
close-requires c = inside_fits c.clause.invariant.inside

pub returns-then-not-is_empty : goal.returns-then-not-is_empty
returns-then-not-is_empty c =
    let a = c.clause.invariant.inside in
    let same = c.clause.invariant.lent ∙ c.begin.ensures.lent ∙ c.text.invariant.lent in
    let f = following (goal.at.returns-then-not-is_empty c).After-later_word in
    let u = rw c.end-i-in-clause.ensures at c.next_token-after.ensures in
    rw c.at-then-not-is_empty.ensures
    (given_back (search rules) (refuses (more_stops a f (cc) u (grind (arith, nat_tests))) a.lent))

pub text-preserved : goal.text-preserved
text-preserved c =
    let a = c.clause.invariant in
    let f = following (goal.at.text-preserved c).After-later_word in
    let u = rw c.end-i-in-clause.ensures at c.next_token-after.ensures in
    record {
      lent = c.close.ensures.lent ∙ a.lent ∙ c.begin.ensures.lent ∙ c.text.invariant.lent;
      between = clause_closes a.inside f (cc) u (grind (arith, nat_tests)) c.close.ensures;
    }
