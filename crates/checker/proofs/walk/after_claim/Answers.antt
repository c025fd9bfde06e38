use Rattle.std.proofs.Common.{[], ◌≡◌, refl, arith}
use Rattle.instance.specs.Clause.{Problem}
use Rattle.instance.specs.Store.{Given}
use Rattle.instance.specs.Theorems.Held.{given_in}
use Rattle.calculus.specs.Branch.{Branch, root}
use Rattle.branch.specs.Works.{Works}
use Rattle.checker.specs.declared.walk.Walk.{Walk}
use Rattle.checker.specs.Frames.{Stack}
use Rattle.checker.specs.Walking.{Stands}
use Rattle.checker.proofs.walk.after_claim.Goals as goal

-- at the root no other branch is open
stands_first : (I : Problem) (w : Walk) (b : Branch) → Given w.held.store.now w.held.counts.variables w.held.counts.clauses I
    → Works I.clauses w.branch.journal.cells.now 0 0 0 b → w.branch.journal.top ≡ 0 → w.frames.depth ≡ 0 → Stands I w b []
unfolding Stack
stands_first I w b given works top depth = record {
  given = given;
  works = rw (top, depth) works;
  places = λ e low hi. absurd (omega arith);
  stack = rw depth refl;
}

pub run-records-requires : goal.run-records-requires
run-records-requires c =
    let held = c.args.held.now in
    let given = given_in held.store.now held.counts held.holds in
    (_, root _, [], stands_first _ _ _ given (c.root.ensures.works _ given.stored given.clauses) c.root.ensures.height refl)

pub returns-clause-shown : goal.returns-clause-shown
returns-clause-shown c I given =
    c.run-records.ensures I (root I.clauses) [] (stands_first I _ _ given (c.root.ensures.works I given.stored given.clauses) c.root.ensures.height refl)
