-- The work is lent the store up to its constant; beyond it nothing changes.
use Rattle.std.proofs.Common.{rules, ◌≤◌, length, take, refl, ◌∙◌, arith}
use Rattle.std.proofs.lemmas.List.{drop_at, length-take-le}
use Rattle.instance.specs.Memory.{store_size, returned}
use Rattle.instance.specs.Theorems.Memory.{ample_yes, ample_no, cleared_beyond}
use Rattle.instance.proofs.lending.over_store.Goals as goal

pub returns-then-store-lt-STORE-clause-after : goal.returns-then-store-lt-STORE-clause-after
unfolding returned
returns-then-store-lt-STORE-clause-after g c = rw (ample_no store_size _ c.if-store-lt-STORE.true, returned)

pub work-answer-requires : goal.work-answer-requires
work-answer-requires g c =
    let enough : store_size ≤ length (take store_size c.args.store.now) = omega (arith, length-take-le store_size c.args.store.now c.if-store-lt-STORE.false) in
    search (rules, c.requires)

pub returns-clause-worked : goal.returns-clause-worked
returns-clause-worked g c = λ h. (c.work-answer.new.arg2, record { shown = _; shows = refl; left = _; met = c.work-answer.ensures; leaves = refl })

pub returns-clause-after : goal.returns-clause-after
unfolding returned
returns-clause-after g c =
    let large = c.if-store-lt-STORE.false in
    c.clear.ensures ∙ cleared_beyond store_size _ c.args.store.now (drop_at c.work-answer.new.arg2 _ store_size (c.work-answer.auto.arg2 ∙ length-take-le store_size _ large)) ∙ rw (ample_yes store_size _ large, returned)
