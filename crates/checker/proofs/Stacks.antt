-- The frames stand for the same open branches, whatever is stored above them.
use Rattle.std.proofs.Common.{ℕ, zero, suc, ◌+◌, ◌*◌, ◌<◌, ◌≤◌, List, ◌++◌, ◌≡◌, refl, sym, subst, arith, length, get_or, set, length-set, get_or-set_same, get_or-set_other}
use Rattle.instance.specs.Clause.{Problem}
use Rattle.journal.specs.Undo.{Later}
use Rattle.journal.specs.Theorems.Stores.{later_log, later_rewound}
use Rattle.calculus.specs.Branch.{Branch}
use Rattle.checker.specs.declared.frames.Frame.{Frame}
use Rattle.checker.specs.Frames.{frame_at, framed, branches_from, base_of, Waits, Stack}

waits_up : {I : Problem} {s base : List ℕ} {f : Frame} {d top top' : ℕ} {b : Branch} → Waits I s f base d top b → top ≤ top' → Waits I s f base d top' b
waits_up w le = let low = w.low in record { low = omega arith; here = w.here; since = w.since; more = w.more; works = w.works }

-- the same words below a frame
abbrev pub Below : ℕ → List ℕ → List ℕ → Type 0
Below d words words' = (p : ℕ) → p < 3 * d → get_or words' p 0 ≡ get_or words p 0

module _ (I : Problem) (s : List ℕ) where
  -- a run of stores
  pub stack_later : (d : ℕ) (words : List ℕ) (bs : List Branch) {cells log cells' log' : List ℕ} {top top' : ℕ} → Later cells log top cells' log' top'
      → Stack d I s words cells log top bs → Stack d I s words cells' log' top' bs
  unfolding Stack
  stack_later zero words bs l st = st
  stack_later (suc d) words bs {cells} {log} {cells'} {log'} {top} {top'} l (b, rest, waits, e, st) =
      let f = frame_at words d in
      let low = waits.low in
      let same : base_of f cells' log' top' ≡ base_of f cells log top = later_rewound l f.height low in (
        b,
        rest,
        rw same (waits_up waits l.higher),
        e,
        rw same (stack_later d words rest (later_log (base_of f cells log top) log log' f.height l.same_log (λ k lt. l.below k (omega arith))) st),
      )

  -- d + 1 frames, of which the last one is f
  abbrev pub Last : Frame → ℕ → List ℕ → List ℕ → List ℕ → ℕ → List Branch → Type 0
  Last f d words cells log top bs =
      (b : Branch) × (rest : List Branch) × Waits I s f (base_of f cells log top) d top b × (bs ≡ branches_from s f b ++ rest)
      × Stack d I s words (base_of f cells log top) log f.height rest

  -- another frame above
  stack_below : (d : ℕ) (words words' cells log : List ℕ) (top : ℕ) (bs : List Branch) → Below d words words'
      → Stack d I s words cells log top bs → Stack d I s words' cells log top bs
  unfolding Stack
  stack_below zero words words' cells log top bs same st = st
  stack_below (suc d) words words' cells log top bs same (b, rest, waits, e, st) =
      let f : frame_at words d ≡ frame_at words' d =
      λ i. record { clause = sym (same (3 * d) (omega arith)) i; next = sym (same (3 * d + 1) (omega arith)) i; height = sym (same (3 * d + 2) (omega arith)) i }
      in
      subst (λ x. Last x d words' cells log top bs) f
      (b, rest, waits, e, stack_below d words words' (base_of (frame_at words d) cells log top) log (frame_at words d).height rest (λ k lt. same k (omega arith)) st)

  -- a frame over its state, and the work gone on above it
  pub stack_push : (d : ℕ) (words words' : List ℕ) (f : Frame) (b : Branch) (rest : List Branch) {base log cells log' : List ℕ} {top : ℕ}
      → Later base log f.height cells log' top → f ≡ frame_at words' d → Below d words words' → Waits I s f base d f.height b
      → Stack d I s words base log f.height rest → Stack (suc d) I s words' cells log' top (branches_from s f b ++ rest)
  unfolding Stack
  stack_push d words words' f b rest {base} {log} {cells} {log'} {top} l e same waits st =
      subst (λ x. Last x d words' cells log' top (branches_from s f b ++ rest)) e (
        b,
        rest,
        rw l.undoes (waits_up waits l.higher),
        refl,
        rw l.undoes (stack_later d words' rest (later_log base log log' f.height l.same_log l.below) (stack_below d words words' base log f.height rest same st)),
      )

-- ---- a frame that was written
-- the frame once its next branch is entered
abbrev pub passed : Frame → Frame
passed f = record { clause = f.clause; next = f.next + 1; height = f.height }

module _ (words : List ℕ) (d : ℕ) (f : Frame) (room : 3 * d + 2 < length words) where
  pub framed_here : f ≡ frame_at (framed words d f) d
  framed_here = grind (arith, get_or-set_same, get_or-set_other, length-set)

  pub framed_below : Below d words (framed words d f)
  framed_below p lt = grind (arith, get_or-set_other)

module _ (words : List ℕ) (d : ℕ) (f : Frame) (here : f ≡ frame_at words d) (room : 3 * d + 1 < length words) where
  pub passed_here : passed f ≡ frame_at (set words (3 * d + 1) (f.next + 1)) d
  passed_here = grind (arith, get_or-set_same, get_or-set_other)

  pub passed_below : Below d words (set words (3 * d + 1) (f.next + 1))
  passed_below p lt = grind (arith, get_or-set_other)
