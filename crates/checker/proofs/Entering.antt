-- A frame's next branch, entered from the state that its extension left: from the memory to the list of open branches.
use Rattle.std.proofs.Common.{ℕ, suc, ◌+◌, ◌-◌, ◌<◌, ◌≤◌, List, [], ◌∷◌, ◌++◌, map, ◌≡◌, ap, arith, add-one, length, get_or, take, drop}
use Rattle.instance.specs.Limits.{most_clauses, most_literals}
use Rattle.instance.specs.Clause.{Problem}
use Rattle.instance.specs.Store.{literals_at, literal_of, end_in, Stored, Given}
use Rattle.instance.specs.declared.held.Held.{Held}
use Rattle.journal.specs.Undo.{Places}
use Rattle.journal.specs.Theorems.Stores.{later_places}
use Rattle.calculus.specs.Branch.{Branch, gain, unit_of, branches}
use Rattle.branch.specs.declared.Branch as code
use Rattle.branch.specs.Extensions.{Coded, Coming, Gained}
use Rattle.branch.specs.Theorems.Stored.{part_cons, literal_coded}
use Rattle.checker.specs.declared.frames.Frame.{Frame}
use Rattle.checker.specs.declared.frames.Frames.{Frames}
use Rattle.checker.specs.declared.walk.Walk.{Walk}
use Rattle.checker.specs.Frames.{frame_at, weight_in, alone, branches_from, Waits, Stack}
use Rattle.checker.specs.Walking.{Stands}
use Rattle.checker.proofs.Stacks.{passed, Below, stack_later, stack_push}

-- the code of the literal at a place
abbrev pub literal_in : List ℕ → ℕ → ℕ
literal_in store next = get_or store (literals_at + next) 0

-- the frame's next branch
abbrev pub next_branch : List ℕ → Frame → Branch → Branch
next_branch store f b = unit_of (weight_in store f.clause) (literal_of (literal_in store f.next)) b

-- A frame's state: its extension's branches are still to come, and d frames stand for those behind them.
pub record Poised (I : Problem) (store words : List ℕ) (f : Frame) (cells log : List ℕ) (d : ℕ) (b : Branch) (rest : List Branch) : Type 0 where
  pub stored : Stored store I
  pub waits : Waits I store f cells d f.height b
  pub places : Places log 0 f.height (length cells)
  pub stack : Stack d I store words cells log f.height rest

module _ {I : Problem} {store words : List ℕ} {f : Frame} {cells log : List ℕ} {d : ℕ} {b : Branch} {rest : List Branch}
    (p : Poised I store words f cells log d b rest) where
  pub clause_low : f.clause < most_clauses
  clause_low = omega (arith, p.waits.here, p.stored.laid.few)

  pub next_low : f.next < most_literals
  next_low = omega (arith, p.waits.more, p.stored.laid.within f.clause p.waits.here)

  pub next_coded : Coded (literal_in store f.next)
  next_coded = literal_coded store I p.stored f.clause p.waits.here f.next p.waits.since p.waits.more

  pub coming : Coming cells f.height (weight_in store f.clause)
  coming = (I.clauses, d + 1, b, p.waits.works)

  -- the branch of the next literal comes first
  pub branches_more : branches_from store f b ≡ next_branch store f b ∷ branches_from store (passed f) b
  unfolding branches gain
  branches_more =
      let more = p.waits.more in
      let room = p.stored.laid.room in
      let n : end_in store f.clause - f.next ≡ suc (end_in store f.clause - (f.next + 1)) = omega arith in
      let next : literals_at + (f.next + 1) ≡ suc (literals_at + f.next) = omega arith in
      rw (n, next, part_cons store (literals_at + f.next) (end_in store f.clause - (f.next + 1)) (omega (arith, next_low)))

  pub branches_last : f.next + 1 ≡ end_in store f.clause → branches_from store (passed f) b ≡ []
  unfolding branches
  branches_last e =
      let n : end_in store f.clause - (f.next + 1) ≡ 0 = omega arith in
      ap (λ m. branches (weight_in store f.clause) (alone (map literal_of (take m (drop (literals_at + (f.next + 1)) store)))) b) n

-- ---- the branch entered
module _ {I : Problem} (held : Held) (given : Given held.store.now held.counts.variables held.counts.clauses I) {words : List ℕ} {f : Frame} {cells log : List ℕ} {d : ℕ}
    {b : Branch} {rest : List Branch} (p : Poised I held.store.now words f cells log d b rest) (branch : code.Branch)
    (g : Gained cells log f.height (literal_in held.store.now f.next) (weight_in held.store.now f.clause) branch.journal.cells.now branch.journal.log.now branch.journal.top)
    (frames : Frames) where
  abbrev after : Walk
  after = record { held = held; branch = branch; frames = frames }

  entered : frames.depth ≤ d + 1 → (bs : List Branch)
      → Stack frames.depth I held.store.now frames.words.now branch.journal.cells.now branch.journal.log.now branch.journal.top bs
      → Stands I after (next_branch held.store.now f b) bs
  entered le bs st =
      let works = g.works I.clauses (d + 1) b p.waits.works in
      record {
        given = given;
        works = record { shows = works.shows; room = rw g.height works.room; deep = omega (arith, works.deep); light = works.light };
        places = rw g.later.same_cells (later_places g.later 0 p.places);
        stack = st;
      }

  pub enter_last : frames.words.now ≡ words → frames.depth ≡ d → Stands I after (next_branch held.store.now f b) rest
  enter_last same e =
      entered (omega arith) rest (rw (same, e) (stack_later I held.store.now d words rest g.later p.stack))

  pub enter_more : passed f ≡ frame_at frames.words.now d → Below d words frames.words.now → frames.depth ≡ d + 1 → f.next + 1 < end_in held.store.now f.clause
      → Stands I after (next_branch held.store.now f b) (branches_from held.store.now (passed f) b ++ rest)
  enter_more here below e lt =
      let waits : Waits I held.store.now (passed f) cells d f.height b =
      record { low = p.waits.low; here = p.waits.here; since = omega (arith, p.waits.since); more = lt; works = p.waits.works }
      in
      entered (omega arith) _ (rw (e, add-one d) (stack_push I held.store.now d words frames.words.now (passed f) b rest g.later here below waits p.stack))
