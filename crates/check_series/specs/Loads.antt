-- What was read lies within the memory lent for it.
use Rattle.std.specs.Prelude.{ℕ, ◌≤◌, List, length, Option, IfSome}
use Rattle.std.specs.Borrow.{Bor}

abbrev pub Within : ℕ → Option (Bor (List ℕ)) → Type 0
Within room result = IfSome result (λ read. length read.now ≤ room)
