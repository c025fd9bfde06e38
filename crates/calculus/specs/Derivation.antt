-- Derivations over the list of open branches (01, "Derivation records" and "Turned away").
use Rattle.std.specs.Prelude.{ℕ, suc, ◌+◌, Bool, true, false, ◌&&◌, ◌||◌, List, [], ◌∷◌, ◌++◌, leb}
use Rattle.std.proofs.Math.Option.{Option, some, none}
use Rattle.instance.specs.Clause.{Problem, clause_at}
use Rattle.instance.specs.Refusals.{staged}
use Rattle.instance.specs.declared.answers.Claim.{Claim}
use Rattle.instance.specs.declared.answers.Claim.TheVariants.{Minimum, Infeasible}
use Rattle.instance.specs.declared.answers.Checked.{Checked}
use Rattle.instance.specs.declared.answers.Checked.TheVariants.{Accepted, Refused}
use Rattle.calculus.specs.Branch.{Branch, extend, contradict}
use Rattle.calculus.specs.declared.Record.{Record}
use Rattle.calculus.specs.declared.Record.TheVariants.{E, C, Q}

-- what stands after the claim: a whole record, or anything else ("unknown kind, second claim, record cut short")
pub data Item : Type 0 where
  whole : Record → Item
  other : Item

-- one byte of kind, then the body
unfoldable pub size : Record → ℕ
size (E i) = 3
size (C x) = 3
size Q = 1

-- a record on a branch: refused by a number, or the branches that come in its place
pub data Step : Type 0 where
  stop : ℕ → Step
  go : List Branch → Step

-- "Q needs a dead branch or, under M, booked cost at least m."
unfoldable pub closable : Claim → Branch → Bool
closable (Minimum m) b = b.dead || leb m b.booked
closable Infeasible b = b.dead

unfoldable pub closing : Claim → Branch → Step
closing k b = elim (closable k b) [ true ↦ go [] | false ↦ stop 18 ]

unfoldable pub offered : Option (List Branch) → Step
offered none = stop 15
offered (some bs) = go bs

-- 15: "clause can't be extended here, or no such clause"
unfoldable pub extending : ℕ → Branch → Step
extending i b = elim (clause_at b.rules i) [ none ↦ stop 15 | some c ↦ offered (extend b i c) ]

unfoldable pub settled : Option Branch → Step
settled none = stop 16
settled (some b) = go (b ∷ [])

-- 16: "nothing to contradict, or no such variable"
unfoldable pub contradicting : Problem → ℕ → Branch → Step
contradicting I x b = elim (leb 1 x && leb x I.variables) [ true ↦ settled (contradict x b) | false ↦ stop 16 ]

-- 17: "E or C on a dead branch", before 15 and 16
unfoldable pub step : Problem → Claim → Record → Branch → Step
step I k (E i) b = elim b.dead [ true ↦ stop 17 | false ↦ extending i b ]
step I k (C x) b = elim b.dead [ true ↦ stop 17 | false ↦ contradicting I x b ]
step I k Q b = closing k b

-- The records from place `at` on, with n taken before them. "Branches are visited depth first": the first open branch is the
-- one at work, and the branches of an extension come before those that were open. With a branch open an item that is no whole
-- record is 14 and the end 19; with none open any byte is 20.
unfoldable pub walk : Problem → Claim → List Item → ℕ → ℕ → List Branch → Checked
walk I k [] at n [] = Accepted k n
walk I k [] at n (b ∷ bs) = Refused (staged 19 at)
walk I k (i ∷ is) at n [] = Refused (staged 20 at)
walk I k (other ∷ is) at n (b ∷ bs) = Refused (staged 14 at)
walk I k (whole r ∷ is) at n (b ∷ bs) =
    elim (step I k r b) [ stop e ↦ Refused (staged e at) | go new ↦ walk I k is (at + size r) (suc n) (new ++ bs) ]
