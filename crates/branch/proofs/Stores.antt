-- What a store into a cell changes: that cell, and each sum by that cell.
use Rattle.std.proofs.Common.{ℕ, zero, suc, ◌+◌, ◌<◌, ◌≤◌, List, ◌≡◌, refl, ap, sym, ◌∙◌, arith, length, get_or, set, length-set, get_or-set_same, get_or-set_other}
use Rattle.std.proofs.Math.Decide.{ℕ_discrete}
use Rattle.instance.specs.Memory.{cells_size}
use Rattle.instance.specs.Clause.{Clause}
use Rattle.calculus.specs.Branch.{Branch}
use Rattle.branch.specs.Cells.{Cell, at, cell_at, Real, held}
use Rattle.branch.specs.Shows.{has, Remain, Shows}
use Rattle.branch.specs.Works.{sum_to, sum}
use Rattle.branch.proofs.Places.{at_low, at_cell, cell_at_lem, at_own}

-- ---- sums over the places
module _ (f : Cell → ℕ → ℕ) (cells : List ℕ) (p v : ℕ) where
  sum_below : (n : ℕ) → n ≤ p → sum_to f n (set cells p v) ≡ sum_to f n cells
  unfolding sum_to
  sum_below zero le = refl
  sum_below (suc n) le = rw (sum_below n (omega arith), get_or-set_other cells p n v 0 (λ e. omega arith))

  sum_store : (n : ℕ) → p < n → p < length cells → sum_to f n (set cells p v) + f (cell_at p) (get_or cells p 0) ≡ sum_to f n cells + f (cell_at p) v
  unfolding sum_to
  sum_store zero lt in_cells = absurd (omega arith)
  sum_store (suc n) lt in_cells = go (ℕ_discrete n p) (sum_store n)
    where
      go : Dec (n ≡ p) → (p < n → p < length cells → sum_to f n (set cells p v) + f (cell_at p) (get_or cells p 0) ≡ sum_to f n cells + f (cell_at p) v)
          → sum_to f n (set cells p v) + f (cell_at n) (get_or (set cells p v) n 0) + f (cell_at p) (get_or cells p 0) ≡ sum_to f n cells + f (cell_at n) (get_or cells n 0) + f (cell_at p) v
      go (yes e) ih = rw (e, get_or-set_same cells p v 0 in_cells) (omega (arith, sum_below p (omega arith)))
      go (no d) ih = rw (get_or-set_other cells p n v 0 d) (omega (arith, ih (omega (arith, d)) in_cells))

part_below : (f : Cell → ℕ → ℕ) (cells : List ℕ) (p n : ℕ) → p < n → f (cell_at p) (get_or cells p 0) ≤ sum_to f n cells
unfolding sum_to
part_below f cells p zero lt = absurd (omega arith)
part_below f cells p (suc n) lt = go (ℕ_discrete p n) (part_below f cells p n)
  where
    go : Dec (p ≡ n) → (p < n → f (cell_at p) (get_or cells p 0) ≤ sum_to f n cells) → f (cell_at p) (get_or cells p 0) ≤ sum_to f n cells + f (cell_at n) (get_or cells n 0)
    go (yes e) ih = rw e (omega arith)
    go (no d) ih = omega (arith, ih (omega (arith, d)))

-- a cell is part of each sum
pub sum_part : (f : Cell → ℕ → ℕ) (cells : List ℕ) (c : Cell) → Real c → f c (held cells c) ≤ sum f cells
unfolding sum
sum_part f cells c real = rw (cell_at_lem c real) at (part_below f cells (at c) cells_size (at_low c real))

-- ---- a store into a cell
module _ (cells : List ℕ) (size : cells_size ≤ length cells) (c : Cell) (real : Real c) (v : ℕ) where
  held_same : held (set cells (at c) v) c ≡ v
  held_same = get_or-set_same cells (at c) v 0 (omega (arith, at_low c real))

  held_other : (d : Cell) → Real d → (d ≡ c → ⊥) → held (set cells (at c) v) d ≡ held cells d
  held_other d r n = get_or-set_other cells (at c) (at d) v 0 (λ e. n (at_own d c r real e))

  pub sum_set : (f : Cell → ℕ → ℕ) → sum f (set cells (at c) v) + f c (held cells c) ≡ sum f cells + f c v
  unfolding sum
  sum_set f = rw (cell_at_lem c real) at (sum_store f cells (at c) v cells_size (at_low c real) (omega (arith, at_low c real)))

-- the branch after a change in one cell
pub shows_set : {cs cs' : List Clause} {cells : List ℕ} {b : Branch} → Shows cs cells b → (b' : Branch) (c : Cell) (v : ℕ) → Real c → has b' c ≡ v
    → ((d : Cell) → (d ≡ c → ⊥) → has b' d ≡ has b d) → Remain cs' b'.rules → Shows cs' (set cells (at c) v) b'
shows_set {cells = cells} {b = b} h b' c v real here there rules = record {
  size = rw length-set h.size;
  holds = λ d r. go d r (ℕ_discrete (at d) (at c));
  rules = rules;
}
  where
    go : (d : Cell) → Real d → Dec (at d ≡ at c) → held (set cells (at c) v) d ≡ has b' d
    go d r (yes e) = rw (at_own d c r real e) (held_same cells h.size c real v ∙ sym here)
    go d r (no n) =
        let apart : d ≡ c → ⊥ = λ e. n (ap at e) in
        held_other cells h.size c real v d r apart ∙ h.holds d r ∙ sym (there d apart)

-- a sum to which no cell adds
sum_none_below : (f : Cell → ℕ → ℕ) (cells : List ℕ) (n : ℕ) → ((p : ℕ) → p < n → f (cell_at p) (get_or cells p 0) ≡ 0) → sum_to f n cells ≡ 0
unfolding sum_to
sum_none_below f cells zero h = refl
sum_none_below f cells (suc n) h = omega (arith, sum_none_below f cells n (λ p lt. h p (omega arith)), h n (omega arith))

pub sum_none : (f : Cell → ℕ → ℕ) {cs : List Clause} {cells : List ℕ} {b : Branch} → Shows cs cells b → ((c : Cell) → f c (has b c) ≡ 0) → sum f cells ≡ 0
unfolding sum
sum_none f {cells = cells} {b = b} h none = sum_none_below f cells cells_size by_cell
  where
    by_cell : (p : ℕ) → p < cells_size → f (cell_at p) (get_or cells p 0) ≡ 0
    by_cell p lt =
        let (e, real) = at_cell p lt in
        let v : get_or cells p 0 ≡ has b (cell_at p) = ap (λ q. get_or cells q 0) (sym e) ∙ h.holds (cell_at p) real in
        ap (f (cell_at p)) v ∙ none (cell_at p)
