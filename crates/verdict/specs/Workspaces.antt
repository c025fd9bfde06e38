-- The workspaces of Check, by their contents.
use Rattle.std.specs.Prelude.{ℕ, List}
use Rattle.derivation.specs.Check.{Desk}

abbrev pub desk : List ℕ → List ℕ → List ℕ → List ℕ → Desk
desk s c l f = record { store = s; cells = c; log = l; frames = f }
