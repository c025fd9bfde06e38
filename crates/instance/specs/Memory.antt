-- The lent workspaces: their constants, and what they hold on return (01, "Turned away").
use Rattle.std.specs.Prelude.{ℕ, Bool, true, false, List, ◌++◌, leb, length, drop, replicate}
use Rattle.instance.specs.Limits.{most_variables}

-- the instance as it was read
abbrev pub store_size : ℕ
store_size = 7_000

-- the branch at work
abbrev pub cells_size : ℕ
cells_size = 3_002

-- what is to be taken back
abbrev pub log_size : ℕ
log_size = 10_002

-- the extensions with branches still to visit
abbrev pub frames_size : ℕ
frames_size = 3_000

-- for each clause, the next one that Write may extend
abbrev pub links_size : ℕ
links_size = 1_001

-- Write's found buffer
abbrev pub found_size : ℕ
found_size = most_variables

-- a workspace has at least its constant's elements
unfoldable pub ample : ℕ → List ℕ → Bool
ample size w = leb size (length w)

unfoldable pub zeros : ℕ → List ℕ
zeros size = replicate size 0

-- zero up to its constant and unchanged beyond
unfoldable pub cleared : ℕ → List ℕ → List ℕ
cleared size w = zeros size ++ drop size w

-- "On return every workspace is zero up to its constant and unchanged beyond; on 1 all lent memory is as before."
-- The Bool says that all the memory lent is large enough.
unfoldable pub returned : Bool → ℕ → List ℕ → List ℕ
returned true size w = cleared size w
returned false size w = w
