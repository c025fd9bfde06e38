-- What was read lies within the room and is what the file gave, and each turn reads more.
use Rattle.std.proofs.Common.{◌-◌, ◌≤◌, length, take}
use Rattle.std.specs.Io.KnownBytes.{Consumes}
use Rattle.check_series.proofs.files.fill.Given as goal

abbrev pub invariant-loop-all : goal.invariant-loop-all
invariant-loop-all g l =
    (l.all ≤ length l.room) × Consumes (g.R.Read.remaining l.fn.file) (g.R.Read.remaining l.file) (take l.all l.room)

abbrev pub decreases-loop-all : goal.decreases-loop-all
decreases-loop-all g l = length l.initial.room - l.all
