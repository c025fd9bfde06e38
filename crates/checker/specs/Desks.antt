-- A desk goes on in the memory that it was lent, and each part of it is as long as it was.
use Rattle.std.specs.Prelude.{◌≡◌, length}
use Rattle.checker.specs.declared.desk.Desk.{Desk}

pub record Remains (old new : Desk) : Type 0 where
  pub cells : new.cells.ghost_name ≡ old.cells.ghost_name
  pub log : new.log.ghost_name ≡ old.log.ghost_name
  pub frames : new.frames.ghost_name ≡ old.frames.ghost_name
  pub cells_length : length new.cells.now ≡ length old.cells.now
  pub log_length : length new.log.now ≡ length old.log.now
  pub frames_length : length new.frames.now ≡ length old.frames.now
