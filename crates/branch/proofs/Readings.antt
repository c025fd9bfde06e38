-- What the cells say of the branch that they show.
use Rattle.std.proofs.Common.{ℕ, ◌+◌, ◌<◌, Bool, true, false, not, List, ◌≡◌, refl, ap, ◌∙◌, eqb, get_or}
use Rattle.instance.specs.Limits.{most_variables, most_clauses}
use Rattle.instance.specs.Clause.{Literal, Clause}
use Rattle.instance.specs.Within.{In}
use Rattle.instance.specs.Store.{code_of, flag_of}
use Rattle.instance.specs.Theorems.Held.{flag_read}
use Rattle.calculus.specs.Branch.{Branch}
use Rattle.branch.specs.Cells.{booked, dead, weight, marked, shut, booked_at, dead_at, marks_at, shuts_at, at}
use Rattle.branch.specs.Shows.{open_in, has, Shows}

clear_flag : (t : Bool) → eqb (flag_of (not t)) 0 ≡ t
unfolding flag_of
clear_flag true = refl
clear_flag false = refl

module _ {cs : List Clause} {cells : List ℕ} {b : Branch} (h : Shows cs cells b) where
  pub booked_is : get_or cells booked_at 0 ≡ b.booked
  unfolding at has
  booked_is = h.holds booked tt

  pub weight_is : (l : Literal) → In most_variables l → get_or cells (code_of l) 0 ≡ b.weight l
  unfolding at has
  weight_is l i = h.holds (weight l) i

  pub mark_test : (l : Literal) → In most_variables l → eqb (get_or cells (marks_at + code_of l) 0) 1 ≡ b.marked l
  unfolding at has
  mark_test l i = ap (λ n. eqb n 1) (h.holds (marked l) i) ∙ flag_read (b.marked l)

  pub dead_test : eqb (get_or cells dead_at 0) 1 ≡ b.dead
  unfolding at has
  dead_test = ap (λ n. eqb n 1) (h.holds dead tt) ∙ flag_read b.dead

  pub open_test : (k : ℕ) → k < most_clauses → eqb (get_or cells (shuts_at + k) 0) 0 ≡ open_in b.rules k
  unfolding at has
  open_test k lt = ap (λ n. eqb n 0) (h.holds (shut k) lt) ∙ clear_flag (open_in b.rules k)
