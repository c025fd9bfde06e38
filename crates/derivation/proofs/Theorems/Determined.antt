-- Each contract determines the answer and the later content of all lent memory: two that it allows are equal.
use Rattle.std.specs.Prelude.{ℕ, List, ◌≡◌}
use Rattle.std.proofs.Common.{ap, sym, ◌∙◌}
use Rattle.std.specs.Borrow.{Bor}
use Rattle.instance.specs.declared.answers.Aim.{Aim}
use Rattle.instance.specs.declared.answers.Checked.{Checked}
use Rattle.instance.specs.declared.answers.Surveyed.{Surveyed}
use Rattle.instance.specs.declared.answers.Valued.{Valued}
use Rattle.instance.specs.declared.answers.Written.{Written}
use Rattle.reader.specs.Survey.{SurveyAnswers}
use Rattle.valuation.specs.Value.{ValueAnswers}
use Rattle.valuation.specs.Better.{Handed, chosen_with, BetterAnswers}
use Rattle.valuation.specs.declared.choosing.Choice.{Choice}
use Rattle.valuation.specs.declared.choosing.Choice.TheVariants.{First, Second, Neither}
use Rattle.derivation.specs.Check.{Desk, CheckAnswers}
use Rattle.derivation.specs.Write.{Press, WriteAnswers}

pub survey_determined : {text store : List ℕ} {r r' : Surveyed} {s s' : List ℕ} →
    SurveyAnswers text store r s → SurveyAnswers text store r' s' → (r ≡ r') × (s ≡ s')
survey_determined p q = (p.answer ∙ sym q.answer, p.after ∙ sym q.after)

pub value_determined : {text bytes store : List ℕ} {r r' : Valued} {s s' : List ℕ} →
    ValueAnswers text bytes store r s → ValueAnswers text bytes store r' s' → (r ≡ r') × (s ≡ s')
value_determined p q = (p.answer ∙ sym q.answer, p.after ∙ sym q.after)

-- A part is its place in memory and its bytes.
handed_same : (c : Choice) (first second p q : Bor (List ℕ)) → Handed c first second p → Handed c first second q → (p.ref_ptr ≡ q.ref_ptr) × (p.now ≡ q.now)
handed_same First first second p q h k = (ap (λ r. r.ref_ptr) (h ∙ sym k), ap (λ r. r.now) (h ∙ sym k))
handed_same Second first second p q h k = (ap (λ r. r.ref_ptr) (h ∙ sym k), ap (λ r. r.now) (h ∙ sym k))
handed_same Neither first second p q h k = (h.0 ∙ sym k.0, h.1 ∙ sym k.1)

pub better_determined : {text : List ℕ} {first second : Bor (List ℕ)} {store : List ℕ} {p q : Bor (List ℕ)} {s s' : List ℕ} →
    BetterAnswers text first second store p s → BetterAnswers text first second store q s' → (p.ref_ptr ≡ q.ref_ptr) × (p.now ≡ q.now) × (s ≡ s')
better_determined {text} {first} {second} {store} {p} {q} h k =
    let r = handed_same (chosen_with store text first.now second.now) first second p q h.answer k.answer in
    (r.0, r.1, h.after ∙ sym k.after)

pub check_determined : {text bytes proof : List ℕ} {lent : Desk} {r r' : Checked} {d d' : Desk} →
    CheckAnswers text bytes proof lent r d → CheckAnswers text bytes proof lent r' d' → (r ≡ r') × (d ≡ d')
check_determined p q = (p.answer ∙ sym q.answer, p.after ∙ sym q.after)

pub write_determined : {a : Aim} {text bytes : List ℕ} {lent : Press} {r r' : Written} {l l' : Press} →
    WriteAnswers a text bytes lent r l → WriteAnswers a text bytes lent r' l' → (r ≡ r') × (l ≡ l')
write_determined p q = (p.answer ∙ sym q.answer, p.after ∙ sym q.after)
