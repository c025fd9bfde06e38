-- What a contradiction does in cells.
use Rattle.std.specs.Prelude.{ℕ, ◌+◌, ◌-◌, min, Bool, true, false, List, ◌≡◌, get_or, set, Result, Ok, Err}
use Rattle.std.proofs.Math.Option.{Option, some, none}
use Rattle.instance.specs.Clause.{Clause}
use Rattle.journal.specs.Undo.{Later}
use Rattle.calculus.specs.Branch.{Branch}
use Rattle.branch.specs.Cells.{booked_at}
use Rattle.branch.specs.Works.{Works}
use Rattle.instance.specs.declared.faults.Fault.{Fault}
use Rattle.instance.specs.declared.faults.Fault.TheVariants.{NothingToContradict}
use Rattle.branch.specs.declared.contradiction.Settlement.{Settlement}

-- the cells show a branch that is not dead
abbrev pub Alive : List ℕ → ℕ → Type 0
Alive cells top = (cs : List Clause) × (d : ℕ) × (b : Branch) × Works cs cells top d 0 b × (b.dead ≡ false)

-- the weights a and b of two literals: p and q say whether each is hard
pub record Settles (a b : ℕ) (p q : Bool) (s : Settlement) : Type 0 where
  pub first_hard : p ≡ true → (s.booked ≡ b) × (s.first ≡ a) × (s.second ≡ 0)
  pub second_hard : p ≡ false → q ≡ true → (s.booked ≡ a) × (s.first ≡ 0) × (s.second ≡ b)
  pub both_soft : p ≡ false → q ≡ false → (s.booked ≡ min a b) × (s.first ≡ a - min a b) × (s.second ≡ b - min a b)

-- the cells with a settlement of the literals p and q stored
abbrev pub settled_in : List ℕ → ℕ → ℕ → Settlement → List ℕ
settled_in cells p q s = set (set (set cells q s.second) p s.first) booked_at (get_or cells booked_at 0 + s.booked)

pub record Settled (cells log : List ℕ) (top p q : ℕ) (s : Settlement) (cells' log' : List ℕ) (top' : ℕ) : Type 0 where
  pub height : top' ≡ top + 3
  pub stored : cells' ≡ settled_in cells p q s
  pub later : Later cells log top cells' log' top'

-- the answer, beside what the calculus says of the same contradiction
abbrev pub Clashed : List Clause → ℕ → List ℕ → List ℕ → ℕ → List ℕ → List ℕ → ℕ → Result Unit Fault → Option Branch → Type 0
Clashed cs d cells log top cells' log' top' (Ok done) (some b) = Works cs cells' top' d 0 b × Later cells log top cells' log' top'
Clashed cs d cells log top cells' log' top' (Ok done) none = ⊥
Clashed cs d cells log top cells' log' top' (Err fault) (some b) = ⊥
Clashed cs d cells log top cells' log' top' (Err fault) none =
    (fault ≡ NothingToContradict) × (cells' ≡ cells) × (log' ≡ log) × (top' ≡ top)
