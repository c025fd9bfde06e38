-- What is asked of Check and Write over bytes, in words of layouts (demands 2 and 3, and refusal 22).
use Rattle.std.specs.Prelude.{ℕ, ◌+◌, ◌*◌, ◌-◌, ◌<◌, ◌≤◌, true, false, List, ◌≡◌, length}
use Rattle.instance.specs.Clause.{Problem}
use Rattle.instance.specs.Meaning.{Assignment, assigned, feasible, cost}
use Rattle.instance.specs.Within.{Every}
use Rattle.instance.specs.declared.answers.Aim.{Aim}
use Rattle.instance.specs.declared.answers.Claim.{Claim}
use Rattle.instance.specs.declared.answers.Claim.TheVariants.{Minimum, Infeasible}
use Rattle.instance.specs.declared.answers.Checked.{Checked}
use Rattle.instance.specs.declared.answers.Checked.TheVariants.{Accepted, Refused}
use Rattle.reader.specs.Reading.{read, read_of}
use Rattle.calculus.specs.Bounds.{product_of}
use Rattle.derivation.specs.Check.{check_of}
use Rattle.derivation.specs.Write.{Outcome, derivation}

-- n bytes, each 0 or 1, that meet all hard clauses
pub record Layout (I : Problem) (bytes : List ℕ) : Type 0 where
  pub size : length bytes ≡ I.variables
  pub bits : Every (λ b. b ≤ 1) bytes
  pub meets : feasible (assigned bytes) I.clauses ≡ true

-- "the shown layout meets all hard clauses and falsifies soft weight exactly m, and no layout that meets them falsifies less"
pub record Cheapest (I : Problem) (bytes : List ℕ) (m : ℕ) : Type 0 where
  pub layout : Layout I bytes
  pub exact : cost (assigned bytes) I.clauses ≡ m
  pub least : (σ : Assignment) → feasible σ I.clauses ≡ true → m ≤ cost σ I.clauses

-- "none meets them"
abbrev pub Hopeless : Problem → Type 0
Hopeless I = (σ : Assignment) → feasible σ I.clauses ≡ false

-- of the instance that the text is read as
abbrev pub Of : List ℕ → (Problem → Type 0) → Type 0
Of text P = (I : Problem) × (read_of text ≡ read I) × P I

-- Demand 2: what Check's answer says of the text and the layout
abbrev pub Meant : List ℕ → List ℕ → Checked → Type 0
Meant text bytes (Accepted (Minimum m) records) = Of text (λ I. Cheapest I bytes m)
Meant text bytes (Accepted Infeasible records) = Of text Hopeless
Meant text bytes (Refused s) = Unit {0}

-- "Given a cheapest layout, or the true claim that none is feasible": what Write is asked to show, and the claim that it makes
abbrev pub Due : Problem → List ℕ → Aim → Claim → Type 0
Due I bytes Aim.Cheapest (Minimum m) = Cheapest I bytes m
Due I bytes Aim.Cheapest Infeasible = ⊥
Due I bytes Aim.Infeasible (Minimum m) = ⊥
Due I bytes Aim.Infeasible Infeasible = Hopeless I

-- "at most P(K+2)-1 records after the claim"
abbrev pub most_records : Problem → ℕ
most_records I = product_of I.clauses * (length I.clauses + 2) - 1

-- "at least P(3K+4)+6 bytes of output"
abbrev pub most_bytes : Problem → ℕ
most_bytes I = product_of I.clauses * (3 * length I.clauses + 4) + 6

-- Demand 3: "Write gives a derivation of at most P(K+2)-1 records after the claim; Check accepts it and reports exactly its
-- record count." It takes at most P(3K+4)+6 bytes.
pub record Delivers (I : Problem) (text bytes : List ℕ) (k : Claim) (o : Outcome) : Type 0 where
  pub proof : List ℕ
  pub records : ℕ
  pub given : o ≡ derivation proof records
  pub few : records ≤ most_records I
  pub short : length proof ≤ most_bytes I
  pub taken : check_of text bytes proof ≡ Accepted k records

-- Refusal 22: "a layout that meets the hard clauses and, under M, falsifies less than m", where m is the lent layout's weight
abbrev pub Under : Problem → List ℕ → Aim → ℕ → Type 0
Under I bytes Aim.Cheapest v = v < cost (assigned bytes) I.clauses
Under I bytes Aim.Infeasible v = Unit {0}

pub record Refuted (I : Problem) (bytes : List ℕ) (a : Aim) (found : List ℕ) : Type 0 where
  pub layout : Layout I found
  pub cheaper : Under I bytes a (cost (assigned found) I.clauses)
