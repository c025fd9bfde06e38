-- What is promised of the next argument.
use Rattle.std.specs.Prelude.{ℕ, ◌^◌, ◌<◌, ◌≤◌, List, ◌++◌, length, Option, IfSome, Result, IfOk}
use Rattle.std.specs.Borrow.{Bor}
use Rattle.std.specs.Int.{w32, to_be_bytes, from_be_bytes}
use Rattle.std.specs.Io.KnownBytes.{Consumes}
use Rattle.asking.specs.declared.arguments.ArgumentError.{ArgumentError}

-- it lies within the memory lent for it
abbrev pub Within : ℕ → Result (Bor (List ℕ)) ArgumentError → Type 0
Within room result = IfOk result (λ argument. length argument.now ≤ room)

-- the input gave it whole, its length in front as a number of four bytes
abbrev pub Takes : Option (List ℕ) → Option (List ℕ) → List ℕ → Type 0
Takes old new argument = (length argument < 2 ^ 32) × Consumes old new (to_be_bytes w32 (length argument) ++ argument)

-- the number in front of it is over the room, where the input's bytes are known
abbrev pub IsOver : ℕ → Option (List ℕ) → Type 0
IsOver room input = IfSome input (λ bytes. room < from_be_bytes w32 bytes)
