-- A contradiction: its stores, and what the calculus has of them.
use Rattle.std.proofs.Common.{Ok, Err, ◌⊎◌, ⊎_elim, ℕ, ◌+◌, ◌*◌, ◌-◌, ◌<◌, ◌≤◌, min, Bool, true, false, List, ◌≡◌, refl, ap, sym, ◌∙◌, arith, lt-ltb, le-ltb, eqb, length, get_or, set, length-set, get_or-set_other}
use Rattle.std.proofs.Math.Option.{some, none}
use Rattle.instance.specs.Limits.{most_variables, most_weight}
use Rattle.instance.specs.Memory.{cells_size, log_size}
use Rattle.instance.specs.Clause.{Literal, pos, neg, same, variable_of, Clause}
use Rattle.instance.specs.Within.{In}
use Rattle.instance.specs.Store.{code_of}
use Rattle.instance.specs.Theorems.Choices.{on_test, never}
use Rattle.instance.specs.declared.faults.Fault.TheVariants.{NothingToContradict}
use Rattle.journal.specs.Undo.{Put}
use Rattle.journal.specs.Theorems.Stores.{later_put, later_join}
use Rattle.calculus.specs.Branch.{Branch, set_weight, book, spend, cancel_by, contradict_by, contradict}
use Rattle.branch.specs.Cells.{Cell, booked, weight, booked_at, dead_at, marks_at, at}
use Rattle.branch.specs.Works.{sum, entries_of, extensions_of, weights_of, most_entries, Works}
use Rattle.branch.specs.Contradictions.{Settles, Settled, settled_in, Clashed}
use Rattle.branch.specs.declared.contradiction.Settlement.{Settlement}
use Rattle.branch.proofs.Literals.{same_true}
use Rattle.branch.proofs.Stores.{sum_set}
use Rattle.branch.proofs.Changes.{shows_weight, shows_book}
use Rattle.branch.proofs.Readings.{booked_is, weight_is, mark_test}
use Rattle.branch.proofs.Rules.{weight_entries, kill_room, works_kill}

-- ---- the stores
pub settled : {cells log cells₁ log₁ cells₂ log₂ cells' log' : List ℕ} {top t₁ t₂ top' p q : ℕ} {s : Settlement}
    → Put cells log top q s.second cells₁ log₁ t₁ → Put cells₁ log₁ t₁ p s.first cells₂ log₂ t₂
    → Put cells₂ log₂ t₂ booked_at (get_or cells booked_at 0 + s.booked) cells' log' top'
    → cells_size ≤ length cells → p < cells_size → q < cells_size → 2 * top + 5 < length log → Settled cells log top p q s cells' log' top'
settled {cells} {p = p} {s = s} a b c size lp lq room =
    let la = later_put a (omega arith) (omega arith) in
    let ha = a.height in
    let lb = later_put b (omega (arith, la.same_cells)) (omega (arith, la.same_log)) in
    let hb = b.height in
    let lc = later_put c (omega (arith, la.same_cells, lb.same_cells)) (omega (arith, la.same_log, lb.same_log)) in
    let hc = c.height in
    record {
      height = omega arith;
      stored = c.stored ∙ ap (λ x. set x booked_at (get_or cells booked_at 0 + s.booked)) (b.stored ∙ ap (λ x. set x p s.first) a.stored);
      later = later_join (later_join la lb) lc;
    }

-- A settlement makes no weight, and what it books spends one of the two.
pub frees : {a b : ℕ} {p q : Bool} {s : Settlement} → Settles a b p q s
    → (s.booked + s.first + s.second ≤ a + b) × (0 < s.booked → min s.first 1 + min s.second 1 + 1 ≤ min a 1 + min b 1)
frees {p = true} st = let f = st.first_hard refl in (omega arith, λ lt. omega arith)
frees {p = false} {q = true} st = let f = st.second_hard refl refl in (omega arith, λ lt. omega arith)
frees {p = false} {q = false} st = let f = st.both_soft refl refl in (omega arith, λ lt. omega arith)

-- ---- the rules of the calculus, by their tests
spend_some : (l : Literal) (b : Branch) → 0 < b.weight l → spend l b ≡ some (book (b.weight l) (set_weight l 0 b))
unfolding spend
spend_some l b lt = rw (lt-ltb 0 (b.weight l) lt, spend)

spend_none : (l : Literal) (b : Branch) → b.weight l ≡ 0 → spend l b ≡ none
unfolding spend
spend_none l b e = rw (le-ltb 0 (b.weight l) (omega arith), spend)

cancel_some : (x s : ℕ) (b : Branch) → 0 < s → cancel_by x s b ≡ some (book s (set_weight (pos x) (b.weight (pos x) - s) (set_weight (neg x) (b.weight (neg x) - s) b)))
unfolding cancel_by
cancel_some x s b lt = rw (lt-ltb 0 s lt, cancel_by)

cancel_none : (x s : ℕ) (b : Branch) → s ≡ 0 → cancel_by x s b ≡ none
unfolding cancel_by
cancel_none x s b e = rw (le-ltb 0 s (omega arith), cancel_by)

-- a weight that is set to what it is
set_same : (l : Literal) (b : Branch) (v : ℕ) → v ≡ b.weight l → set_weight l v b ≡ b
unfolding set_weight
set_same l b v e = λ i. record { weight = λ k. go k i; marked = b.marked; rules = b.rules; booked = b.booked; dead = b.dead }
  where
    go : (k : Literal) → elim (same k l) as (λ _. ℕ) [ true ↦ v | false ↦ b.weight k ] ≡ b.weight k
    go k = on_test (λ n. n ≡ b.weight k) (same k l) (λ t. e ∙ ap b.weight (sym (same_true k l t))) (λ t. refl)

other_side : (x v : ℕ) (b : Branch) → b.weight (pos x) ≡ (set_weight (neg x) v b).weight (pos x)
unfolding set_weight same
other_side x v b = refl

-- the branch that a settlement leaves
abbrev settled_by : ℕ → Settlement → Branch → Branch
settled_by x s b = book s.booked (set_weight (pos x) s.first (set_weight (neg x) s.second b))

-- The calculus leaves that branch, unless nothing is booked.
module _ (x : ℕ) (b : Branch) (s : Settlement) where
  settled_some : (t u : Bool) → ((t ≡ true) × (u ≡ false) ⊎ (t ≡ false)) → Settles (b.weight (pos x)) (b.weight (neg x)) t u s → 0 < s.booked
      → contradict_by t u x b ≡ some (settled_by x s b)
  unfolding contradict_by
  settled_some true true n st lt = ⊎_elim (λ w. never w.1) never n
  settled_some true false n st lt =
      let (eb, ef, es) = st.first_hard refl in
      rw (eb, es, set_same (pos x) (set_weight (neg x) 0 b) s.first (ef ∙ other_side x 0 b)) (spend_some (neg x) b (omega arith))
  settled_some false true n st lt =
      let (eb, ef, es) = st.second_hard refl refl in
      rw (eb, ef, set_same (neg x) b s.second es) (spend_some (pos x) b (omega arith))
  settled_some false false n st lt =
      let (eb, ef, es) = st.both_soft refl refl in
      rw (eb, ef, es) (cancel_some x (min (b.weight (pos x)) (b.weight (neg x))) b (omega arith))

  settled_none : (t u : Bool) → ((t ≡ true) × (u ≡ false) ⊎ (t ≡ false)) → Settles (b.weight (pos x)) (b.weight (neg x)) t u s → s.booked ≡ 0
      → contradict_by t u x b ≡ none
  unfolding contradict_by
  settled_none true true n st z = ⊎_elim (λ w. never w.1) never n
  settled_none true false n st z = spend_none (neg x) b (omega (arith, st.first_hard refl))
  settled_none false true n st z = spend_none (pos x) b (omega (arith, st.second_hard refl refl))
  settled_none false false n st z = cancel_none x _ b (omega (arith, st.both_soft refl refl))

-- ---- the variable x in the cells
module _ {x : ℕ} (lo : 1 ≤ x) (hi : x ≤ most_variables) {cs : List Clause} {cells : List ℕ} {b : Branch} {top d : ℕ} (h : Works cs cells top d 0 b) where
  abbrev p_weight : ℕ
  p_weight = get_or cells (2 * x) 0

  abbrev q_weight : ℕ
  q_weight = get_or cells (2 * x + 1) 0

  p_in : In most_variables (pos x)
  unfolding variable_of
  p_in = (lo, hi)

  q_in : In most_variables (neg x)
  unfolding variable_of
  q_in = (lo, hi)

  p_is : p_weight ≡ b.weight (pos x)
  unfolding code_of
  p_is = weight_is h.shows (pos x) p_in

  q_is : q_weight ≡ b.weight (neg x)
  unfolding code_of
  q_is = weight_is h.shows (neg x) q_in

  -- the sums after three stores
  sums : (second first total : ℕ) (f : Cell → ℕ → ℕ)
      → sum f (set (set (set cells (2 * x + 1) second) (2 * x) first) booked_at total)
      + (f (weight (neg x)) q_weight + f (weight (pos x)) p_weight + f booked (get_or cells booked_at 0))
      ≡ sum f cells + (f (weight (neg x)) second + f (weight (pos x)) first + f booked total)
  unfolding at code_of
  sums second first total f =
      let size = h.shows.size in
      let cells₁ : List ℕ = set cells (2 * x + 1) second in
      let cells₂ : List ℕ = set cells₁ (2 * x) first in
      let size₁ : cells_size ≤ length cells₁ = rw length-set size in
      let size₂ : cells_size ≤ length cells₂ = rw length-set size₁ in
      let p : get_or cells₁ (2 * x) 0 ≡ get_or cells (2 * x) 0 = get_or-set_other cells (2 * x + 1) (2 * x) second 0 (λ e. omega arith) in
      let b : get_or cells₂ booked_at 0 ≡ get_or cells booked_at 0 =
      get_or-set_other cells₁ (2 * x) booked_at first 0 (λ e. omega arith) ∙ get_or-set_other cells (2 * x + 1) booked_at second 0 (λ e. omega arith)
      in
      omega (
        arith,
        sum_set cells size (weight (neg x)) q_in second f,
        rw p at (sum_set cells₁ size₁ (weight (pos x)) p_in first f),
        rw b at (sum_set cells₂ size₂ booked tt total f),
      )

  -- the weights that take part are part of the whole weight
  pub clash_small : get_or cells booked_at 0 + (p_weight + q_weight) ≤ most_weight
  unfolding weights_of
  clash_small = omega (arith, sums 0 0 0 (weights_of cs))

  -- one of the weights is not 0
  pub clash_room : 0 < p_weight + q_weight → top + 3 ≤ most_entries
  unfolding entries_of
  clash_room lt = omega (arith, sums 0 0 0 entries_of, weight_entries (pos x) p_weight, weight_entries (neg x) q_weight)

  -- ---- by which of the two literals are hard
  module _ {p_hard q_hard : Bool} (p_read : p_hard ≡ eqb (get_or cells (marks_at + 2 * x) 0) 1) (q_read : q_hard ≡ eqb (get_or cells (marks_at + (2 * x + 1)) 0) 1) where
    p_marked : p_hard ≡ b.marked (pos x)
    unfolding code_of
    p_marked = p_read ∙ mark_test h.shows (pos x) p_in

    q_marked : q_hard ≡ b.marked (neg x)
    unfolding code_of
    q_marked = q_read ∙ mark_test h.shows (neg x) q_in

    pub clash_dead : {log cells' log' : List ℕ} {t : ℕ} → b.dead ≡ false → p_hard ≡ true → q_hard ≡ true → Put cells log top dead_at 1 cells' log' t
        → log_size ≤ length log → Clashed cs d cells log top cells' log' t (Ok tt) (contradict x b)
    unfolding at contradict contradict_by
    clash_dead alive p q put room =
        let size = h.shows.size in
        rw (← p_marked, ← q_marked, p, q)
        (rw (put.stored, put.height) (works_kill h alive), later_put put (omega arith) (omega (arith, kill_room h alive)))

    module _ (s : Settlement) (soft : (p_hard ≡ true) × (q_hard ≡ false) ⊎ (p_hard ≡ false)) (st : Settles p_weight q_weight p_hard q_hard s) where
      meant : Settles (b.weight (pos x)) (b.weight (neg x)) p_hard q_hard s
      meant = rw (p_is, q_is) at st

      works_settled : 0 < s.booked → Works cs (settled_in cells (2 * x) (2 * x + 1) s) (top + 3) d 0 (settled_by x s b)
      unfolding at code_of set_weight entries_of extensions_of weights_of
      works_settled lt =
          let total : ℕ = get_or cells booked_at 0 + s.booked in
          let second = shows_weight h.shows (neg x) q_in s.second in
          let first = shows_weight second (pos x) p_in s.first in
          let (most, fewer) = frees st in
          record {
            shows = rw (booked_is h.shows) (shows_book first s.booked);
            room = omega (arith, h.room, sums s.second s.first total entries_of, fewer lt, weight_entries (pos x) p_weight, weight_entries (neg x) q_weight, weight_entries (pos x) s.first, weight_entries (neg x) s.second);
            deep = omega (arith, h.deep, sums s.second s.first total extensions_of);
            light = omega (arith, h.light, sums s.second s.first total (weights_of cs), most);
          }

      pub clash_nothing : (log : List ℕ) → s.booked ≡ 0 → Clashed cs d cells log top cells log top (Err NothingToContradict) (contradict x b)
      unfolding contradict
      clash_nothing log z = rw (← p_marked, ← q_marked, settled_none x b s _ _ soft meant z) (refl, refl, refl, refl)

      pub clash_settled : {log cells' log' : List ℕ} {t : ℕ} → (s.booked ≡ 0 → ⊥) → Settled cells log top (2 * x) (2 * x + 1) s cells' log' t
          → Clashed cs d cells log top cells' log' t (Ok tt) (contradict x b)
      unfolding contradict
      clash_settled n se =
          rw (← p_marked, ← q_marked, settled_some x b s _ _ soft meant (omega (arith, n))) (rw (se.stored, se.height) (works_settled (omega (arith, n))), se.later)
