-- The eight bytes after M are the number.
use Rattle.std.proofs.Common.{rules}
use Rattle.verdict.proofs.Fronts.{claim_minimum}
use Rattle.verdict.proofs.claims.claim_of.Goals as goal

pub returns-in_ok-first_chunk-in-77 : goal.returns-in_ok-first_chunk-in-77
returns-in_ok-first_chunk-in-77 c =
    claim_minimum _ _ _ (search rules) c.in_ok-first_chunk-in-77.ensures.cases c.from_be_bytes-m.ensures
