-- Each way through the function is one law of Value.
use Rattle.std.proofs.Common.{ap, nat_lt, ◌∙◌, rules, tests}
use Rattle.std.proofs.lemmas.Iterator.{YieldsList-from_slice}
use Rattle.std.proofs.lemmas.Iterator.Search.{position_from_yields_List}
use Rattle.instance.specs.declared.answers.Valued.{Valued}
use Rattle.valuation.proofs.Values.{over_found, wrong_length, wrong_byte, worth_right}
use Rattle.valuation.proofs.valuing.valued.Goals as goal

pub returns-then-bytes-held : goal.returns-then-bytes-held
returns-then-bytes-held c I g = ap Valued.Refused c.at.ensures ∙ wrong_length _ _ _ _ I g c.if-bytes-held.true

pub returns-in-Some : goal.returns-in-Some
returns-in-Some c I g =
    let bytes = c.args.bytes.now in
    let place = over_found bytes _ (position_from_yields_List (nat_lt 1) _ _ _ c.position.ensures.ran (YieldsList-from_slice bytes (cc)) (λ x b q k. search (rules, tests))) in
    ap Valued.Refused c.at-in-Some.ensures ∙ wrong_byte _ _ _ _ I g _ c.if-bytes-held.false (rw c.in-Some.is at place)

pub returns : goal.returns
returns c I g =
    let bytes = c.args.bytes.now in
    let place = over_found bytes _ (position_from_yields_List (nat_lt 1) _ _ _ c.position.ensures.ran (YieldsList-from_slice bytes (cc)) (λ x b q k. search (rules, tests))) in
    worth_right _ _ _ _ I g _ c.if-bytes-held.false (rw c.in_default.is at place) c.tallied.ensures
