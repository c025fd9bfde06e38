-- A journal goes on in the memory that it was lent.
use Rattle.std.specs.Prelude.{◌≡◌}
use Rattle.journal.specs.declared.Journal.{Journal}

pub record Remains (old new : Journal) : Type 0 where
  pub cells : new.cells.ghost_name ≡ old.cells.ghost_name
  pub log : new.log.ghost_name ≡ old.log.ghost_name
