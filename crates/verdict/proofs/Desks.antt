-- The workspaces that Check borrows: only their parts up to the constants are lent on, and those are cleared.
use Rattle.std.proofs.Common.{ℕ, ◌≤◌, true, false, List, ◌++◌, length, take, drop, ◌≡◌, ◌∙◌, arith}
use Rattle.std.proofs.lemmas.List.{drop_at, length-take-le}
use Rattle.instance.specs.Memory.{store_size, cells_size, log_size, frames_size, cleared, returned}
use Rattle.instance.specs.Refusals.{staged}
use Rattle.instance.specs.Theorems.Memory.{cleared_beyond}
use Rattle.instance.specs.declared.answers.Checked.{Checked}
use Rattle.instance.specs.declared.answers.Checked.TheVariants.{Refused}
use Rattle.derivation.specs.Check.{Desk, roomy, desk_after, check_of, CheckAnswers}
use Rattle.verdict.specs.Workspaces.{desk}

pub part_whole : (size : ℕ) (w : List ℕ) → size ≤ length w → size ≤ length (take size w)
part_whole size w h = omega (arith, length-take-le size w h)

pub whole_cleared : (size : ℕ) (w part after : List ℕ) → size ≤ length w → after ≡ cleared size (part ++ drop size w) →
    length part ≡ length (take size w) → after ≡ cleared size w
whole_cleared size w part after h e l =
    e ∙ cleared_beyond size (part ++ drop size w) w (drop_at part (drop size w) size (l ∙ length-take-le size w h))

-- ---- the contract
module _ (text bytes proof : List ℕ) (d : Desk) (r : Checked) where
  pub desk_kept : roomy d ≡ false → r ≡ Refused (staged 1 0) → CheckAnswers text bytes proof d r d
  unfolding desk_after returned
  desk_kept q h = record { answer = h ∙ rw q; after = rw q }

  pub desk_cleared : {s c l f : List ℕ} → roomy d ≡ true → r ≡ check_of text bytes proof →
      s ≡ cleared store_size d.store → c ≡ cleared cells_size d.cells → l ≡ cleared log_size d.log → f ≡ cleared frames_size d.frames →
      CheckAnswers text bytes proof d r (desk s c l f)
  unfolding desk_after returned
  desk_cleared q h a b e g = record { answer = h ∙ rw q; after = rw q (λ i. desk (a i) (b i) (e i) (g i)) }
