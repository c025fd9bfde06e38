-- The faults that the code names, in the numbers of 01 ("Turned away").
use Rattle.std.specs.Prelude.{ℕ}
use Rattle.instance.specs.declared.faults.Fault.{Fault}
use Rattle.instance.specs.declared.faults.Fault.TheVariants.{MemoryTooSmall, WrongToken, ClauseWithoutEnd, TooManyClauses, WeightOutOfRange, TotalTooLarge, VariableTooLarge, TooManyLiterals, WrongLength, ByteOverOne, NoClaim, HardClauseBroken, OtherWeight, NoRecord, NotExtendable, NothingToContradict, DeadBranch, NotClosable, BranchOpen, BytesLeft, NoRoom, Refuted}

abbrev pub numbered : Fault → ℕ
numbered MemoryTooSmall = 1
numbered WrongToken = 2
numbered ClauseWithoutEnd = 3
numbered TooManyClauses = 4
numbered WeightOutOfRange = 5
numbered TotalTooLarge = 6
numbered VariableTooLarge = 7
numbered TooManyLiterals = 8
numbered WrongLength = 9
numbered ByteOverOne = 10
numbered NoClaim = 11
numbered HardClauseBroken = 12
numbered OtherWeight = 13
numbered NoRecord = 14
numbered NotExtendable = 15
numbered NothingToContradict = 16
numbered DeadBranch = 17
numbered NotClosable = 18
numbered BranchOpen = 19
numbered BytesLeft = 20
numbered NoRoom = 21
numbered Refuted = 22
