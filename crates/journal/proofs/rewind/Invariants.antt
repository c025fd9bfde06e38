-- The entries above t are taken back: what is left to take back from t gives the same cells as all of it from `top`.
use Rattle.std.proofs.Common.{◌≡◌, ◌≤◌, length}
use Rattle.journal.specs.Undo.{rewound}
use Rattle.journal.proofs.rewind.Given as goal

abbrev pub invariant-loop-t : goal.invariant-loop-t
invariant-loop-t l = record {
  low : l.height ≤ l.t;
  size : length l.cells ≡ length l.fn.cells;
  left : rewound l.cells l.log l.t l.height ≡ rewound l.fn.cells l.log l.top l.height;
}
