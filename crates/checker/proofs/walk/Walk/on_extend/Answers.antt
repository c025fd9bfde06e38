use Rattle.std.proofs.Common.{suc, ◌-◌, ◌≡◌, refl, sym, arith}
use Rattle.branch.specs.Theorems.Extending.{extending_zero, extending_over, extending_shut}
use Rattle.checker.proofs.walk.Walk.on_extend.Goals as goal
use Rattle.checker.proofs.walk.Walk.on_extend.Goals.{then-number-eq0-via-then-number-eq0, then-number-eq0-via-else-number-eq0+then-number-gt-CLAUSES, then-number-eq0-via-else-number-eq0+else-number-gt-CLAUSES+then-not-can_extend}

pub returns-then-number-eq0 : goal.returns-then-number-eq0
returns-then-number-eq0 c I b bs s =
    elim c.then-number-eq0.branch [
      | then-number-eq0-via-then-number-eq0 w ↦ rw (w.if-number-eq0.true, extending_zero b) refl
      | then-number-eq0-via-else-number-eq0+then-number-gt-CLAUSES w ↦
          let number : c.args.number ≡ suc (c.args.number - 1) = omega (arith, w.if-number-eq0.false) in
          rw (number, extending_over I.clauses b (c.args.number - 1) s.works.shows.rules (omega (arith, s.given.stored.within.few, w.if-number-gt-CLAUSES.true))) refl
      | then-number-eq0-via-else-number-eq0+else-number-gt-CLAUSES+then-not-can_extend w ↦
          let number : c.args.number ≡ suc (c.args.number - 1) = omega (arith, w.if-number-eq0.false) in
          rw (number, extending_shut b (c.args.number - 1) (sym (w.if-not-can_extend.ensures _ b s.works.shows))) refl
    ]

pub returns : goal.returns
returns c I b bs s =
    let number : c.args.number ≡ suc (c.args.number - 1) = omega (arith, c.if-number-eq0.false) in
    let (b', new, e, s') = c.extend.ensures I b bs s (sym (c.if-not-can_extend.ensures _ b s.works.shows)) in
    rw (number, e) (b', _, refl, s')
