-- What the programs print of a refusal and of Check's answer (01, "Examples to prove").
use Rattle.std.specs.Prelude.{ℕ, List, ◌++◌, codes}
use Rattle.std.specs.Fmt.{decimal}
use Rattle.instance.specs.Refusals.{number_of, place_of}
use Rattle.instance.specs.declared.refusals.Stage.{Stage}
use Rattle.instance.specs.declared.answers.Claim.{Claim}
use Rattle.instance.specs.declared.answers.Checked.{Checked}

-- "`refused 18 at 19` (number, place)"
abbrev pub refusal_line : Stage → List ℕ
refusal_line s = codes "refused " ++ decimal (number_of s) ++ codes " at " ++ decimal (place_of s)

abbrev pub claim_words : Claim → List ℕ
claim_words (Claim.Minimum m) = codes "minimum " ++ decimal m
claim_words Claim.Infeasible = codes "infeasible"

-- "`accepted minimum 2 steps 5`", "`accepted infeasible steps 1`"
abbrev pub checked_line : Checked → List ℕ
checked_line (Checked.Accepted k steps) = codes "accepted " ++ claim_words k ++ codes " steps " ++ decimal steps
checked_line (Checked.Refused s) = refusal_line s
