-- What the loop has passed is not the literal.
use Rattle.instance.specs.Theorems.Scan.{Same}
use Rattle.instance.specs.Clause.{occurs}
use Rattle.instance.specs.Store.{literal_of}
use Rattle.std.proofs.Common.{ℕ, List, Bool, map}
use Rattle.reader.proofs.drafts.has.Given as goal

abbrev pub occurs_in : ℕ → List ℕ → Bool
occurs_in code codes = occurs (literal_of code) (map literal_of codes)

abbrev pub invariant-loop-c : goal.invariant-loop-c
invariant-loop-c l = Same (occurs_in l.code) l.codes l.c-index
