-- Each cell has a place of its own.
use Rattle.std.proofs.Common.{ℕ, ◌+◌, ◌-◌, ◌<◌, ◌≤◌, ◌≡◌, refl, ap, sym, ◌∙◌, arith, ne_eqb, lt-ltb, le-ltb}
use Rattle.std.proofs.Math.Decide.{dec_lt, ℕ_discrete}
use Rattle.instance.specs.Limits.{most_variables}
use Rattle.instance.specs.Memory.{cells_size}
use Rattle.instance.specs.Store.{literal_of, code_of}
use Rattle.instance.specs.Theorems.Codes.{code_literal, literal_code, code_low, code_high}
use Rattle.branch.specs.Cells.{Cell, booked, dead, weight, marked, shut, booked_at, dead_at, marks_at, shuts_at, at, cell_at, Real}
use Rattle.branch.proofs.Literals.{literal_in_lem}

pub at_low : (c : Cell) → Real c → at c < cells_size
unfolding at
at_low booked r = omega arith
at_low dead r = omega arith
at_low (weight l) r = omega (arith, code_high most_variables l r)
at_low (marked l) r = omega (arith, code_high most_variables l r)
at_low (shut k) r = omega arith

cell_weight : (p : ℕ) → 2 ≤ p → p < marks_at + 2 → cell_at p ≡ weight (literal_of p)
unfolding cell_at
cell_weight p lo hi = rw (ne_eqb p booked_at (λ e. omega arith), ne_eqb p dead_at (λ e. omega arith), lt-ltb p (marks_at + 2) hi, cell_at)

cell_mark : (p : ℕ) → marks_at + 2 ≤ p → p < shuts_at → cell_at p ≡ marked (literal_of (p - marks_at))
unfolding cell_at
cell_mark p lo hi =
    rw (ne_eqb p booked_at (λ e. omega arith), ne_eqb p dead_at (λ e. omega arith), le-ltb p (marks_at + 2) lo, lt-ltb p shuts_at hi, cell_at)

cell_shut : (p : ℕ) → shuts_at ≤ p → cell_at p ≡ shut (p - shuts_at)
unfolding cell_at
cell_shut p lo =
    rw (ne_eqb p booked_at (λ e. omega arith), ne_eqb p dead_at (λ e. omega arith), le-ltb p (marks_at + 2) (omega arith), le-ltb p shuts_at lo, cell_at)

pub cell_at_lem : (c : Cell) → Real c → cell_at (at c) ≡ c
unfolding at
cell_at_lem booked r = unfold cell_at in refl
cell_at_lem dead r = unfold cell_at in refl
cell_at_lem (weight l) r =
    cell_weight (code_of l) (code_low most_variables l r) (omega (arith, code_high most_variables l r)) ∙ ap weight (literal_code l)
cell_at_lem (marked l) r =
    let e : marks_at + code_of l - marks_at ≡ code_of l = omega arith in
    cell_mark (marks_at + code_of l) (omega (arith, code_low most_variables l r)) (omega (arith, code_high most_variables l r))
    ∙ ap (λ p. marked (literal_of p)) e ∙ ap marked (literal_code l)
cell_at_lem (shut k) r =
    let e : shuts_at + k - shuts_at ≡ k = omega arith in
    cell_shut (shuts_at + k) (omega arith) ∙ ap shut e

pub at_own : (c d : Cell) → Real c → Real d → at c ≡ at d → c ≡ d
at_own c d rc rd e = sym (cell_at_lem c rc) ∙ ap cell_at e ∙ cell_at_lem d rd

-- and each place has its cell
pub at_cell : (p : ℕ) → p < cells_size → (at (cell_at p) ≡ p) × Real (cell_at p)
unfolding at
at_cell p lt = go (ℕ_discrete p booked_at) (ℕ_discrete p dead_at) (dec_lt p (marks_at + 2)) (dec_lt p shuts_at)
  where
    go : Dec (p ≡ booked_at) → Dec (p ≡ dead_at) → Dec (p < marks_at + 2) → Dec (p < shuts_at) → (at (cell_at p) ≡ p) × Real (cell_at p)
    go (yes e) d w m = rw e (unfold cell_at in (refl, tt))
    go (no n) (yes e) w m = rw e (unfold cell_at in (refl, tt))
    go (no n) (no d) (yes w) m =
        let lo : 2 ≤ p = omega (arith, n, d) in
        rw (cell_weight p lo w) (code_literal p, literal_in_lem most_variables p lo (omega arith))
    go (no n) (no d) (no w) (yes m) =
        let lo : marks_at + 2 ≤ p = omega (arith, w) in
        let c : ℕ = p - marks_at in
        let e : marks_at + c ≡ p = omega arith in
        rw (cell_mark p lo m) (ap (λ x. marks_at + x) (code_literal c) ∙ e, literal_in_lem most_variables c (omega arith) (omega arith))
    go (no n) (no d) (no w) (no m) = rw (cell_shut p (omega (arith, m))) (omega (arith, m), omega (arith, m))
