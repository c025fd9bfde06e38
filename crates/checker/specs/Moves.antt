-- What a step answers, beside the calculus' step on the same branch.
use Rattle.std.specs.Prelude.{List, [], ◌∷◌, ◌++◌, ◌≡◌, Result, Ok, Err}
use Rattle.instance.specs.Clause.{Problem}
use Rattle.instance.specs.Faults.{numbered}
use Rattle.instance.specs.declared.faults.Fault.{Fault}
use Rattle.calculus.specs.Branch.{Branch}
use Rattle.calculus.specs.Derivation.{stop, go}
use Rattle.calculus.specs.Derivation as calculus
use Rattle.checker.specs.Walking.{Stands}
use Rattle.checker.specs.declared.walk.Walk.{Walk}
use Rattle.checker.specs.declared.steps.Step.{Step}
use Rattle.checker.specs.declared.steps.Step.TheVariants.{GoesOn, AllClosed}

-- bs are open behind the branch
abbrev pub Moved : Problem → Walk → List Branch → Result Step Fault → calculus.Step → Type 0
Moved I w bs (Ok GoesOn) (go new) =
    (b : Branch) × (rest : List Branch) × (new ++ bs ≡ b ∷ rest) × Stands I w b rest
Moved I w bs (Ok GoesOn) (stop e) = ⊥
Moved I w bs (Ok AllClosed) (go new) = new ++ bs ≡ []
Moved I w bs (Ok AllClosed) (stop e) = ⊥
Moved I w bs (Err fault) (go new) = ⊥
Moved I w bs (Err fault) (stop e) = numbered fault ≡ e

-- for every branch that the memory may stand for
abbrev pub Steps : (Problem → Branch → calculus.Step) → Walk → Walk → Result Step Fault → Type 0
Steps f w w' r =
    (I : Problem) (b : Branch) (bs : List Branch) → Stands I w b bs → Moved I w' bs r (f I b)
