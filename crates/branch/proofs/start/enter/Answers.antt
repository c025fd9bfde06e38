use Rattle.std.proofs.Common.{arith, sym, ◌∙◌}
use Rattle.std.proofs.lemmas.List.{nil_from_length}
use Rattle.instance.specs.Theorems.Decoded.{meant_decoded}
use Rattle.branch.proofs.Rooting.{next_none, next_one, next_shut, next_open, small_booked, small_weight, code_coded, single}
use Rattle.branch.proofs.start.enter.Goals as goal

pub give-requires : goal.give-requires
give-requires c =
    let (r, lt) = c.requires in
    let size = r.shows.size in
    let small = small_booked c.args.held.now.holds r lt in
    (omega arith, omega arith, rw (c.weight_of-weight.ensures, meant_decoded) (omega arith))

pub returns-in-empty : goal.returns-in-empty
returns-in-empty c =
    let (r, lt) = c.requires in
    rw (c.give.ensures, c.weight_of-weight.ensures, meant_decoded)
    (next_none c.args.held.now.holds r lt (sym c.codes_of.ensures ∙ nil_from_length _ (omega arith)))

pub give-requires-in-len1 : goal.give-requires-in-len1
give-requires-in-len1 c =
    let (r, lt) = c.requires in
    let size = r.shows.size in
    let one = sym c.codes_of.ensures ∙ single c.codes_of.result.now (omega arith) in
    let coded = code_coded c.args.held.now.holds r lt one in
    let small = small_weight c.args.held.now.holds r lt one in
    (omega arith, omega arith, rw (c.weight_of-weight.ensures, meant_decoded) (omega arith))

pub returns-in-len1 : goal.returns-in-len1
returns-in-len1 c =
    let (r, lt) = c.requires in
    rw (c.give-in-len1.ensures, c.weight_of-weight.ensures, meant_decoded)
    (next_one c.args.held.now.holds r lt (sym c.codes_of.ensures ∙ single _ (omega arith)))

pub returns-then-not-is_tautology : goal.returns-then-not-is_tautology
returns-then-not-is_tautology c =
    let (r, lt) = c.requires in
    next_open c.args.held.now.holds r lt (rw c.codes_of.ensures at c.in_default.len_at_least)
    (sym c.is_tautology.ensures ∙ c.if-not-is_tautology.true)

pub returns-else-not-is_tautology : goal.returns-else-not-is_tautology
returns-else-not-is_tautology c =
    let (r, lt) = c.requires in
    next_shut c.args.held.now.holds r lt (rw c.codes_of.ensures at c.in_default.len_at_least)
    (sym c.is_tautology.ensures ∙ c.if-not-is_tautology.false)
