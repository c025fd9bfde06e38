-- What the claim at the front of a derivation is decoded to.
use Rattle.std.specs.Prelude.{ℕ, Option, Some, None, Result, Ok, Err}
use Rattle.std.proofs.Math.Option as maybe
use Rattle.std.proofs.Math.Option.{some, none}
use Rattle.instance.specs.declared.answers.Claim.{Claim}
use Rattle.instance.specs.declared.answers.Checked.{Checked}
use Rattle.instance.specs.declared.answers.Checked.TheVariants.{Refused}
use Rattle.instance.specs.declared.refusals.Stage.{Stage}
use Rattle.derivation.specs.Bytes.{claim_size}

-- a whole claim and the place after it
unfoldable pub claimed_as : maybe.Option Claim → Option (Claim × ℕ)
claimed_as none = None
claimed_as (some k) = Some (k, claim_size k)

-- what goes before the records: a refusal, or they decide
abbrev pub before : Result (Unit {0}) Stage → Checked → Checked
before (Ok u) after = after
before (Err s) after = Refused s
