use Rattle.std.proofs.Common.{ℕ, ◌≤◌, List, ◌≡◌, Result, Ok, Err, refl, ap, arith}
use Rattle.std.proofs.Math.Option.{Option, some, none}
use Rattle.std.proofs.lemmas.Bool.{le-leb, lt-leb}
use Rattle.std.proofs.lemmas.Result.{err_from_is_err_and}
use Rattle.instance.specs.Clause.{Problem}
use Rattle.instance.specs.Faults.{numbered}
use Rattle.instance.specs.declared.faults.Fault.{Fault}
use Rattle.journal.specs.Theorems.Stores.{later_places}
use Rattle.calculus.specs.Branch.{Branch, contradict}
use Rattle.calculus.specs.Derivation.{settled, contradicting}
use Rattle.branch.specs.declared.Branch as code
use Rattle.branch.specs.Contradictions.{Clashed}
use Rattle.checker.specs.declared.walk.Walk.{Walk}
use Rattle.checker.specs.declared.steps.Step.TheVariants.{GoesOn}
use Rattle.checker.specs.Walking.{Stands}
use Rattle.checker.specs.Moves.{Moved}
use Rattle.checker.proofs.Stacks.{stack_later}
use Rattle.checker.proofs.walk.Walk.on_contradict.Goals as goal
use Rattle.checker.proofs.walk.Walk.on_contradict.Goals.{then-x-eq0-via-then-x-eq0, then-x-eq0-via-else-x-eq0+then-n-x}

-- a variable that there is
contradict_in : (I : Problem) (b : Branch) (x : ℕ) → (x ≡ 0 → ⊥) → x ≤ I.variables → contradicting I x b ≡ settled (contradict x b)
unfolding contradicting
contradict_in I b x n le = rw (le-leb 1 x (omega (arith, n)), le-leb x I.variables le, contradicting)

module _ {I : Problem} (w : Walk) {b : Branch} {bs : List Branch} (s : Stands I w b bs) where
  module _ (branch : code.Branch) where
    abbrev After : Walk
    After = record { held = w.held; branch = branch; frames = w.frames }

    abbrev Clashes : Result Unit Fault → Option Branch → Type 0
    Clashes r o =
        Clashed I.clauses w.frames.depth w.branch.journal.cells.now w.branch.journal.log.now w.branch.journal.top
        branch.journal.cells.now branch.journal.log.now branch.journal.top r o

    clash_moves : (o : Option Branch) (done : Unit) → Clashes (Ok done) o → Moved I After bs (Ok GoesOn) (settled o)
    unfolding settled
    clash_moves (some b') done (works, later) = (
      b',
      bs,
      refl,
      record {
        given = s.given;
        works = works;
        places = rw later.same_cells (later_places later 0 s.places);
        stack = stack_later I w.held.store.now w.frames.depth w.frames.words.now bs later s.stack;
      },
    )
    clash_moves none done e = absurd e

    clash_stops : (o : Option Branch) (fault : Fault) → Clashes (Err fault) o → Moved I After bs (Err fault) (settled o)
    unfolding settled
    clash_stops none fault (e, cells, log, top) = ap numbered e
    clash_stops (some b') fault e = absurd e

pub returns-then-x-eq0 : goal.returns-then-x-eq0
unfolding contradicting
returns-then-x-eq0 c I b bs s alive =
    elim c.then-x-eq0.branch [
      | then-x-eq0-via-then-x-eq0 w ↦ rw (lt-leb 1 c.args.x (omega arith), contradicting) refl
      | then-x-eq0-via-else-x-eq0+then-n-x w ↦
          rw (le-leb 1 c.args.x (omega arith), lt-leb c.args.x I.variables (rw s.given.variables at w.if-n-x.true), contradicting) refl
    ]

pub returns-in_err-contradict : goal.returns-in_err-contradict
returns-in_err-contradict c I b bs s alive =
    let p = err_from_is_err_and c.from_residual.result c.from_residual.ensures.1 in
    rw (p.1, p.2, contradict_in I b _ c.if-x-eq0.false (rw s.given.variables at c.if-n-x.false))
    (clash_stops c.args.self.now s c.contradict.new.self (contradict _ b) _ (c.in_err-contradict.ensures.clashed I.clauses _ b s.works alive))

pub returns : goal.returns
returns c I b bs s alive =
    rw (contradict_in I b _ c.if-x-eq0.false (rw s.given.variables at c.if-n-x.false))
    (clash_moves c.args.self.now s c.contradict.new.self (contradict _ b) _ (c.in_ok-contradict.ensures.clashed I.clauses _ b s.works alive))
