-- An extension, and going to the next branch: each is poised on a frame, and enters its next branch.
use Rattle.std.proofs.Common.{suc, ◌+◌, ◌*◌, ◌-◌, ◌<◌, ◌≤◌, true, ℕ, List, ◌∷◌, ◌++◌, ◌≡◌, sym, ap, subst, ◌∙◌, arith, length, set}
use Rattle.instance.specs.Clause.{soft, soft_of, Problem}
use Rattle.instance.specs.Store.{start_in, end_in}
use Rattle.instance.specs.Theorems.Codes.{soft_weight_lem}
use Rattle.journal.specs.Undo.{Places, rewound}
use Rattle.journal.specs.declared.Journal.{Journal}
use Rattle.journal.specs.Theorems.Stores.{later_places, rewound_length}
use Rattle.calculus.specs.Branch.{Branch, put}
use Rattle.calculus.specs.Derivation.{go, extending}
use Rattle.branch.specs.declared.Branch as code
use Rattle.branch.specs.Shows.{open_in}
use Rattle.branch.specs.Works.{soft_at}
use Rattle.branch.specs.Extensions.{Spent, Gained}
use Rattle.branch.specs.Theorems.Stored.{soft_stored}
use Rattle.branch.specs.Theorems.Extending.{Extensible, extending_open}
use Rattle.checker.specs.declared.frames.Frame.{Frame}
use Rattle.checker.specs.declared.frames.Frames.{Frames}
use Rattle.checker.specs.declared.walk.Walk.{Walk}
use Rattle.checker.specs.Frames.{frame_at, framed, weight_in, branches_from, Stack}
use Rattle.checker.specs.Walking.{Stands}
use Rattle.checker.proofs.Stacks.{passed, Last, stack_later, framed_here, framed_below, passed_here, passed_below}
use Rattle.checker.proofs.Entering.{literal_in, next_branch, Poised, branches_more, branches_last, enter_last, enter_more}

module _ {I : Problem} (w : Walk) {b : Branch} {bs : List Branch} (s : Stands I w b bs) where
  -- ---- an extension
  module _ (k : ℕ) (can : open_in b.rules k ≡ true) where
    extensible : Extensible w.held.store.now I b k
    extensible = extending_open w.held.store.now I s.given.stored b k s.works.shows.rules can

    module _ (spent : code.Branch)
        (sp : Spent w.branch.journal.cells.now w.branch.journal.log.now w.branch.journal.top k spent.journal.cells.now spent.journal.log.now spent.journal.top) where
      -- the extension with all its branches still to come
      abbrev pub first : Frame
      first = record { clause = k; next = start_in w.held.store.now k; height = spent.journal.top }

      pub poised_first : Poised I w.held.store.now w.frames.words.now first spent.journal.cells.now spent.journal.log.now w.frames.depth (put (suc k) (soft 0) b) bs
      poised_first =
          let several = extensible.several in
          let height : w.branch.journal.top + 5 ≡ spent.journal.top + 4 = omega (arith, sp.height) in
          let weight : soft_at I.clauses k ≡ soft_of (weight_in w.held.store.now k) =
          soft_stored w.held.store.now I s.given.stored k extensible.here ∙ sym (soft_weight_lem _)
          in
          record {
            stored = s.given.stored;
            waits = record {
              low = omega arith;
              here = extensible.here;
              since = omega arith;
              more = omega arith;
              works = rw (height, weight) at (sp.works I.clauses w.frames.depth b s.works can);
            };
            places = rw sp.later.same_cells (later_places sp.later 0 s.places);
            stack = stack_later I w.held.store.now w.frames.depth w.frames.words.now bs sp.later s.stack;
          }

      pub frame_room : 3 * w.frames.depth + 2 < length w.frames.words.now
      frame_room = omega (arith, poised_first.waits.works.deep, w.frames.enough_words)

      module _ (entered : code.Branch)
          (g : Gained spent.journal.cells.now spent.journal.log.now spent.journal.top (literal_in w.held.store.now (start_in w.held.store.now k)) (weight_in w.held.store.now k) entered.journal.cells.now entered.journal.log.now entered.journal.top)
          (frames : Frames) (words : frames.words.now ≡ framed w.frames.words.now w.frames.depth (passed first)) (deep : frames.depth ≡ w.frames.depth + 1) where
        pub extended : (b' : Branch) × (new : List Branch) × (extending (suc k) b ≡ go (b' ∷ new))
            × Stands I (record { held = w.held; branch = entered; frames = frames }) b' (new ++ bs)
        extended =
            let several = extensible.several in
            let p = poised_first in (
              next_branch w.held.store.now first (put (suc k) (soft 0) b),
              branches_from w.held.store.now (passed first) (put (suc k) (soft 0) b),
              extensible.gives ∙ ap go (branches_more p),
              enter_more w.held s.given p entered g frames
                  (rw words (framed_here w.frames.words.now w.frames.depth (passed first) frame_room))
                  (rw words (framed_below w.frames.words.now w.frames.depth (passed first) frame_room))
                  deep
                  (omega arith),
            )

  -- ---- the next branch of the last frame
  module _ (deep : 1 ≤ w.frames.depth) (f : Frame) (last : f ≡ frame_at w.frames.words.now (w.frames.depth - 1)) where
    last_waits : Last I w.held.store.now f (w.frames.depth - 1) w.frames.words.now w.branch.journal.cells.now w.branch.journal.log.now w.branch.journal.top bs
    unfolding Stack
    last_waits =
        let depth : w.frames.depth ≡ suc (w.frames.depth - 1) = omega arith in
        subst (λ x. Last I w.held.store.now x (w.frames.depth - 1) w.frames.words.now w.branch.journal.cells.now w.branch.journal.log.now w.branch.journal.top bs) (sym last) (rw depth at s.stack)

    pub rewindable : (f.height ≤ w.branch.journal.top) × (2 * w.branch.journal.top ≤ length w.branch.journal.log.now)
        × Places w.branch.journal.log.now f.height w.branch.journal.top (length w.branch.journal.cells.now)
    rewindable =
        let (state, rest, waits, open_is, stack) = last_waits in
        (waits.low, omega (arith, s.works.room, w.branch.enough_log), λ e lo hi. s.places e (omega arith) hi)

    module _ (journal : Journal) (cells : journal.cells.now ≡ rewound w.branch.journal.cells.now w.branch.journal.log.now w.branch.journal.top f.height)
        (log : journal.log.now ≡ w.branch.journal.log.now) where
      pub poised_last : (state : Branch) × (rest : List Branch) × (bs ≡ branches_from w.held.store.now f state ++ rest)
          × Poised I w.held.store.now w.frames.words.now f journal.cells.now journal.log.now (w.frames.depth - 1) state rest
      poised_last =
          let (state, rest, waits, open_is, stack) = last_waits in
          let size = rewound_length w.branch.journal.cells.now w.branch.journal.log.now w.branch.journal.top f.height in
          let low = waits.low in (
            state,
            rest,
            open_is,
            rw (cells, log)
                (record {
                  stored = s.given.stored;
                  waits = record { low = omega arith; here = waits.here; since = waits.since; more = waits.more; works = waits.works };
                  places = rw size (λ e lo hi. s.places e lo (omega arith));
                  stack = stack;
                }),
          )

      module _ (entered : code.Branch)
          (g : Gained journal.cells.now journal.log.now f.height (literal_in w.held.store.now f.next) (weight_in w.held.store.now f.clause) entered.journal.cells.now entered.journal.log.now entered.journal.top)
          (frames : Frames) where
        abbrev Turned : Type 0
        Turned =
            (b' : Branch) × (rest : List Branch) × (bs ≡ b' ∷ rest)
            × Stands I (record { held = w.held; branch = entered; frames = frames }) b' rest

        pub turned_last : f.next + 1 ≡ end_in w.held.store.now f.clause → frames.words.now ≡ w.frames.words.now → frames.depth ≡ w.frames.depth - 1 → Turned
        turned_last e words depth =
            let (state, rest, open_is, p) = poised_last in (
              next_branch w.held.store.now f state,
              rest,
              rw (branches_more p, branches_last p e) at open_is,
              enter_last w.held s.given p entered g frames words depth,
            )

        pub turned_more : (f.next + 1 ≡ end_in w.held.store.now f.clause → ⊥) → frames.words.now ≡ set w.frames.words.now (3 * (w.frames.depth - 1) + 1) (f.next + 1)
            → frames.depth ≡ w.frames.depth → Turned
        turned_more n words depth =
            let (state, rest, open_is, p) = poised_last in
            let more = p.waits.more in
            let room : 3 * (w.frames.depth - 1) + 1 < length w.frames.words.now = omega (arith, w.frames.fits) in (
              next_branch w.held.store.now f state,
              branches_from w.held.store.now (passed f) state ++ rest,
              rw (branches_more p) at open_is,
              enter_more w.held s.given p entered g frames
                  (rw words (passed_here w.frames.words.now (w.frames.depth - 1) f last room))
                  (rw words (passed_below w.frames.words.now (w.frames.depth - 1) f last room))
                  (omega arith)
                  (omega (arith, n)),
            )
