-- The examples of 01 ("Examples to prove") hold.
use Rattle.std.specs.Prelude.{[], ◌∷◌, map, ◌≡◌, refl}
use Rattle.instance.specs.Refusals.{staged}
use Rattle.derivation.specs.Write.{derivation, turned_away, refuted}
use Rattle.derivation.specs.Examples.{M, N, E, C, Q, minimum, infeasible, row, table, check_tells, expected, further, twenty, writes}

-- Check gives each row's outcome.
examples_hold : map check_tells table ≡ map expected table
unfolding table row M N E C Q minimum infeasible check_tells expected
examples_hold = refl

-- and so for the refusals that the fourteen don't show
further_hold : map check_tells further ≡ map expected further
unfolding further row M N E C Q check_tells expected
further_hold = refl

-- Write on the sheet pair: for 00 01 the twenty bytes, where there is room for them; with a byte less, 21 with the 19 bytes
-- written before the last record; for 01 00, with room enough, 22 and found 00 01.
sheet_pair_written :
    writes (0 ∷ 1 ∷ []) 20 ∷ writes (0 ∷ 1 ∷ []) 19 ∷ writes (1 ∷ 0 ∷ []) 100 ∷ [] ≡
    derivation twenty 5 ∷ turned_away (staged 21 19) ∷ refuted (0 ∷ 1 ∷ []) ∷ []
unfolding writes twenty
sheet_pair_written = refl
