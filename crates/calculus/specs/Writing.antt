-- What Write does after the claim (01, "Write").
use Rattle.std.specs.Prelude.{ℕ, zero, suc, ◌+◌, true, false, ◌||◌, List, [], ◌∷◌, ◌++◌, map, leb, ltb, length}
use Rattle.std.proofs.Math.Option.{Option, some, none}
use Rattle.instance.specs.Clause.{pos, Problem}
use Rattle.instance.specs.Meaning.{Assignment}
use Rattle.instance.specs.declared.answers.Claim.{Claim}
use Rattle.calculus.specs.Branch.{Branch}
use Rattle.calculus.specs.Derivation.{stop, go, size, step}
use Rattle.calculus.specs.declared.Record.{Record}
use Rattle.calculus.specs.declared.Record.TheVariants.{E, C, Q}

-- x, x + 1, ..: d numbers
unfoldable pub from : ℕ → ℕ → List ℕ
from x zero = []
from x (suc d) = x ∷ from (suc x) d

-- "if Q is allowed, Q; else C at the lowest variable that has one; else E of the lowest extendable clause"
unfoldable pub candidates : Problem → Branch → List Record
candidates I b = Q ∷ (map C (from 1 I.variables) ++ map E (from 1 (length b.rules)))

-- a record that is allowed, and the branches that come in place of the branch
pub record Move : Type 0 where
  pub chosen : Record
  pub places : List Branch

-- the first candidate that is not refused
unfoldable pub first : Problem → Claim → List Record → Branch → Option Move
first I k [] b = none
first I k (r ∷ rs) b = elim (step I k r b) [ go new ↦ some (record { chosen = r; places = new }) | stop e ↦ first I k rs b ]

-- the records; or 21 with the bytes written so far; or 22 with the branch where nothing is allowed
pub data Draft : Type 0 where
  wrote : List Record → Draft
  no_room : ℕ → Draft
  stuck : Branch → Draft

unfoldable pub also : Record → Draft → Draft
also r (wrote rs) = wrote (r ∷ rs)
also r (no_room at) = no_room at
also r (stuck b) = stuck b

-- The records for the open branches, with `at` bytes written of `room`. Each record takes at least a byte, so a fuel of more
-- than the bytes left never runs out, and how much more does not matter (proofs/Theorems/Written `fuel_enough`).
unfoldable pub write_from : Problem → Claim → ℕ → ℕ → ℕ → List Branch → Draft
write_from I k zero room at [] = wrote []
write_from I k zero room at (b ∷ bs) = no_room at
write_from I k (suc fuel) room at [] = wrote []
write_from I k (suc fuel) room at (b ∷ bs) =
    elim (first I k (candidates I b) b) [
      | none ↦ stuck b
      | some m ↦ elim (leb (at + size m.chosen) room) [
        | true ↦ also m.chosen (write_from I k fuel room (at + size m.chosen) (m.places ++ bs))
        | false ↦ no_room at
      ]
    ]

-- the layout of a branch where nothing is allowed: "1 where the positive literal is hard or has weight left, else 0"
unfoldable pub found : Branch → Assignment
found b x = b.marked (pos x) || ltb 0 (b.weight (pos x))
