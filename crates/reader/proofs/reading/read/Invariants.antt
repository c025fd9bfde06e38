-- The reader stands between lines or inside a clause as proofs/States.antt says, and each turn is a step of AtLine or AtClause.
use Rattle.std.proofs.Common.{◌-◌, ◌≡◌, length}
use Rattle.reader.proofs.States.{Between, Inside}
use Rattle.reader.proofs.reading.read.Given as goal

abbrev pub invariant-clause : goal.invariant-clause
invariant-clause l = record {
  lent : l.draft.store.ghost_name ≡ l.initial.draft.store.ghost_name;
  inside : Inside l.text l.fn.store l.initial.i l.draft l.i;
}

abbrev pub decreases-clause : goal.decreases-clause
decreases-clause l = length l.text - l.i

abbrev pub invariant-text : goal.invariant-text
invariant-text l = record {
  lent : l.draft.store.ghost_name ≡ l.initial.draft.store.ghost_name;
  between : Between l.text l.fn.store l.draft l.i;
}

abbrev pub decreases-text : goal.decreases-text
decreases-text l = length l.text - l.i
