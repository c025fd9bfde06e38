-- Check (01, "Derivation records" and "Turned away"): text, assignment and derivation are bytes that nobody has checked.
use Rattle.std.specs.Prelude.{ℕ, Bool, true, false, ◌&&◌, List, [], ◌∷◌, ◌≡◌, eqb, drop}
use Rattle.std.proofs.Math.Option.{some, none}
use Rattle.instance.specs.Clause.{Problem}
use Rattle.instance.specs.Memory.{store_size, cells_size, log_size, frames_size, ample, returned}
use Rattle.instance.specs.Refusals.{staged}
use Rattle.instance.specs.declared.answers.Claim.{Claim}
use Rattle.instance.specs.declared.answers.Claim.TheVariants.{Minimum, Infeasible}
use Rattle.instance.specs.declared.answers.Checked.{Checked}
use Rattle.instance.specs.declared.answers.Checked.TheVariants.{Refused}
use Rattle.instance.specs.declared.answers.Valued.{Valued}
use Rattle.reader.specs.Reading.{read, refused, read_of}
use Rattle.valuation.specs.Value.{valued}
use Rattle.calculus.specs.Branch.{root}
use Rattle.calculus.specs.Derivation.{walk}
use Rattle.derivation.specs.Bytes.{claim_size, claim_at, items}

-- the records after the claim, from the root on
unfoldable pub followed : Problem → List ℕ → Claim → Checked
followed I proof k = walk I k (items (drop (claim_size k) proof)) (claim_size k) 0 (root I.clauses ∷ [])

-- 12: "assignment breaks a hard clause"; 13: "its falsified weight is not m"
unfoldable pub shown : Problem → List ℕ → ℕ → Valued → Checked
shown I proof m (Valued.Refused s) = Refused s
shown I proof m (Valued.Worth first weight) =
    elim (eqb first 0) [
      | false ↦ Refused (staged 12 first)
      | true ↦ elim (eqb weight m) [
        | false ↦ Refused (staged 13 0)
        | true ↦ followed I proof (Minimum m)
      ]
    ]

-- "Under N the assignment is not read."
unfoldable pub claimed : Problem → List ℕ → List ℕ → Claim → Checked
claimed I bytes proof (Minimum m) = shown I proof m (valued I bytes)
claimed I bytes proof Infeasible = followed I proof Infeasible

-- "Order: 1, text, then in Check the claim (11), then under M 9, 10, 12, 13, then records in turn."
unfoldable pub check_of : List ℕ → List ℕ → List ℕ → Checked
check_of text bytes proof =
    elim (read_of text) [
      | refused n p ↦ Refused (staged n p)
      | read I ↦ elim (claim_at proof) [
        | none ↦ Refused (staged 11 0)
        | some k ↦ claimed I bytes proof k
      ]
    ]

-- the workspaces that Check borrows
pub record Desk : Type 0 where
  pub store : List ℕ
  pub cells : List ℕ
  pub log : List ℕ
  pub frames : List ℕ

unfoldable pub roomy : Desk → Bool
roomy d = ample store_size d.store && ample cells_size d.cells && ample log_size d.log && ample frames_size d.frames

unfoldable pub desk_after : Bool → Desk → Desk
desk_after enough d = record {
  store = returned enough store_size d.store;
  cells = returned enough cells_size d.cells;
  log = returned enough log_size d.log;
  frames = returned enough frames_size d.frames;
}

-- the answer and the workspaces on return, a workspace too small included
pub record CheckAnswers (text bytes proof : List ℕ) (lent : Desk) (r : Checked) (later : Desk) : Type 0 where
  pub answer : r ≡ elim (roomy lent) as (λ _. Checked) [ true ↦ check_of text bytes proof | false ↦ Refused (staged 1 0) ]
  pub after : later ≡ desk_after (roomy lent) lent
