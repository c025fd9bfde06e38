-- The pieces that were read stand one behind the other.
use Rattle.std.proofs.Common.{rules, ◌≡◌, ℕ, ◌+◌, ◌≤◌, List, ◌++◌, length, take, length-take-le}
use Rattle.std.proofs.KnownBytes.{Consumes-trans}
use Rattle.std.proofs.lemmas.List.{take-append-le}
use Rattle.std.proofs.Math.Seq.{take-append-add}
use Rattle.check_series.proofs.files.fill.Goals as goal

next_piece : (front piece rest : List ℕ) (all n : ℕ) → length front ≡ all → n ≤ length piece → take (all + n) (front ++ (piece ++ rest)) ≡ front ++ take n piece
next_piece front piece rest all n full fits = rw (← full, take-append-add, take-append-le)

pub loop-all-preserved : goal.loop-all-preserved
loop-all-preserved g c =
    let full = length-take-le c.loop-all.all c.loop-all.room c.loop-all.invariant.0 in
    let fits = c.in-Ok.ensures.bound.0 in
    (search rules, rw next_piece (Consumes-trans _ _ _ _ _ c.loop-all.invariant.1 c.in-Ok.ensures.bytes.0))
