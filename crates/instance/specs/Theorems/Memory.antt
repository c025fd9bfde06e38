-- Laws of lent memory: whether it is enough, and how it is cleared.
use Rattle.std.specs.Prelude.{ℕ, ◌+◌, ◌≤◌, ◌<◌, true, false, List, ◌≡◌, length, drop, set}
use Rattle.std.proofs.Math.Decide.{dec_lt}
use Rattle.std.proofs.lemmas.List.Edits.{fill_none, fill_more}
use Rattle.std.proofs.Common.{ap, le-leb, arith}
use Rattle.std.proofs.lemmas.Bool.{lt-leb}
use Rattle.instance.specs.Memory.{store_size, ample, zeros, cleared}

-- enough memory, or not
pub ample_yes : (size : ℕ) (w : List ℕ) → size ≤ length w → ample size w ≡ true
unfolding ample
ample_yes size w h = le-leb size (length w) h

pub ample_no : (size : ℕ) (w : List ℕ) → length w < size → ample size w ≡ false
unfolding ample
ample_no size w h = lt-leb size (length w) h

-- what a clearing loop comes to, element by element
pub cleared_none : (w : List ℕ) → w ≡ cleared 0 w
unfolding cleared zeros
cleared_none w = fill_none w 0

pub cleared_more : (n : ℕ) (w : List ℕ) → n < length w → set (cleared n w) n 0 ≡ cleared (n + 1) w
unfolding cleared zeros
cleared_more n w h = fill_more n 0 w h

-- memory that was used within its constant clears to the same
pub cleared_beyond : (size : ℕ) (v w : List ℕ) → drop size v ≡ drop size w → cleared size v ≡ cleared size w
unfolding cleared
cleared_beyond size v w e = rw e

-- what is told of an answer, for a store of either size
pub on_size : {R X : Type 0} (tell : R → X) {r small : R} {y : X} (store : List ℕ)
    → (length store < store_size → r ≡ small) → (store_size ≤ length store → tell r ≡ y)
    → tell r ≡ elim (ample store_size store) as (λ _. X) [ true ↦ y | false ↦ tell small ]
on_size {R} {X} tell {r} {small} {y} store refused worked = go (dec_lt (length store) store_size)
  where
    go : Dec (length store < store_size) → tell r ≡ elim (ample store_size store) as (λ _. X) [ true ↦ y | false ↦ tell small ]
    go (yes h) = rw (ample_no store_size store h) (ap tell (refused h))
    go (no h) = let l : store_size ≤ length store = omega (arith, h) in rw (ample_yes store_size store l) (worked l)
