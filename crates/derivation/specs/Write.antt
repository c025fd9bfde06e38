-- Write (01, "Write"): the claim, then the records that Write chooses, as bytes.
use Rattle.std.specs.Prelude.{ℕ, suc, ◌-◌, Bool, true, false, ◌&&◌, List, [], ◌∷◌, ◌++◌, map, ◌≡◌, eqb, leb, length, drop}
use Rattle.instance.specs.Clause.{Problem}
use Rattle.instance.specs.Memory.{links_size, found_size, ample, zeros, cleared, returned}
use Rattle.instance.specs.Refusals.{staged}
use Rattle.instance.specs.declared.answers.Aim.{Aim}
use Rattle.instance.specs.declared.answers.Claim.{Claim}
use Rattle.instance.specs.declared.answers.Claim.TheVariants.{Minimum, Infeasible}
use Rattle.instance.specs.declared.answers.Valued.{Valued}
use Rattle.instance.specs.declared.answers.Written.{Written}
use Rattle.instance.specs.declared.refusals.Stage.{Stage}
use Rattle.reader.specs.Reading.{read, refused, read_of}
use Rattle.valuation.specs.Value.{valued}
use Rattle.calculus.specs.Branch.{Branch, root}
use Rattle.calculus.specs.Writing.{from, Draft, wrote, no_room, stuck, write_from, found}
use Rattle.derivation.specs.Bytes.{claim_size, claim_bytes, all_bytes}
use Rattle.derivation.specs.Check.{Desk, roomy, desk_after}

-- the derivation's bytes and its records after the claim; a refusal; or 22 with the layout found
pub data Outcome : Type 0 where
  derivation : List ℕ → ℕ → Outcome
  turned_away : Stage → Outcome
  refuted : List ℕ → Outcome

-- 0 false or 1 true
unfoldable pub bit : Bool → ℕ
bit true = 1
bit false = 0

-- "the first n found bytes hold 1 where the positive literal is hard or has weight left, else 0"
unfoldable pub found_bytes : ℕ → Branch → List ℕ
found_bytes n b = map (λ x. bit (found b x)) (from 1 n)

unfoldable pub finished : Problem → Claim → Draft → Outcome
finished I k (wrote rs) = derivation (claim_bytes k ++ all_bytes rs) (length rs)
finished I k (no_room at) = turned_away (staged 21 at)
finished I k (stuck b) = refuted (found_bytes I.variables b)

-- the claim is a record too: without room for it 21 at 0
unfoldable pub written : Problem → ℕ → Claim → Outcome
written I room k =
    elim (leb (claim_size k) room) [
      | false ↦ turned_away (staged 21 0)
      | true ↦ finished I k (write_from I k (suc room) room (claim_size k) (root I.clauses ∷ []))
    ]

-- "Write takes M with an assignment (m is its weight; 9, 10, 12 as above, no 13)"
unfoldable pub cheapest : Problem → ℕ → Valued → Outcome
cheapest I room (Valued.Refused s) = turned_away s
cheapest I room (Valued.Worth first weight) =
    elim (eqb first 0) [ false ↦ turned_away (staged 12 first) | true ↦ written I room (Minimum weight) ]

-- "or N"
unfoldable pub aimed : Problem → List ℕ → ℕ → Aim → Outcome
aimed I bytes room Aim.Cheapest = cheapest I room (valued I bytes)
aimed I bytes room Aim.Infeasible = written I room Infeasible

unfoldable pub write_of : Aim → List ℕ → List ℕ → ℕ → Outcome
write_of a text bytes room = elim (read_of text) [ refused n p ↦ turned_away (staged n p) | read I ↦ aimed I bytes room a ]

-- "Success .. returns length and record count"
unfoldable pub answered : Outcome → Written
answered (derivation bs n) = Written.Derivation (length bs) n
answered (turned_away s) = Written.Refused s
answered (refuted bs) = Written.Refused (staged 22 0)

-- "Success leaves output after the derivation unchanged"; "any refusal but 1 leaves the output all zero"
unfoldable pub output_after : Outcome → List ℕ → List ℕ
output_after (derivation bs n) out = bs ++ drop (length bs) out
output_after (turned_away s) out = zeros (length out)
output_after (refuted bs) out = zeros (length out)

-- on 22 the layout and zeros up to 500, "otherwise the first 500 found bytes are zero"; "the rest of found is unchanged"
unfoldable pub found_after : Outcome → List ℕ → List ℕ
found_after (derivation bs n) buffer = cleared found_size buffer
found_after (turned_away s) buffer = cleared found_size buffer
found_after (refuted bs) buffer = bs ++ zeros (found_size - length bs) ++ drop found_size buffer

-- what Write borrows: Check's workspaces, its own, the output and the found buffer
pub record Press : Type 0 where
  pub desk : Desk
  pub links : List ℕ
  pub output : List ℕ
  pub buffer : List ℕ

unfoldable pub equipped : Press → Bool
equipped l = roomy l.desk && ample links_size l.links && ample found_size l.buffer

unfoldable pub press_after : Bool → Outcome → Press → Press
press_after false o l = l
press_after true o l = record {
  desk = desk_after true l.desk;
  links = returned true links_size l.links;
  output = output_after o l.output;
  buffer = found_after o l.buffer;
}

-- the answer and all lent memory on return, memory too small included
pub record WriteAnswers (a : Aim) (text bytes : List ℕ) (lent : Press) (r : Written) (later : Press) : Type 0 where
  pub answer : r ≡ elim (equipped lent) as (λ _. Written) [
    | true ↦ answered (write_of a text bytes (length lent.output))
    | false ↦ Written.Refused (staged 1 0)
  ]
  pub after : later ≡ press_after (equipped lent) (write_of a text bytes (length lent.output)) lent
