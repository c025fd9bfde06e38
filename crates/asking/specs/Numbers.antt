-- A number of four bytes.
use Rattle.std.specs.Prelude.{ℕ, ◌^◌, ◌<◌, Option, IfSome}

abbrev pub Below : Option ℕ → Type 0
Below result = IfSome result (λ number. number < 2 ^ 32)
