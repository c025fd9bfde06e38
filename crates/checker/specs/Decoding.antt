-- What decoding gives of the item at a place.
use Rattle.std.specs.Prelude.{ℕ, ◌+◌, Option, Some, None}
use Rattle.calculus.specs.Derivation.{Item, whole, other, size}
use Rattle.calculus.specs.declared.Record.{Record}

abbrev pub decoded_as : Item → ℕ → Option (Record × ℕ)
decoded_as (whole r) at = Some (r, at + size r)
decoded_as other at = None
