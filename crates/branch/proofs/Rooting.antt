-- The root, one clause after another.
use Rattle.std.proofs.Common.{ℕ, zero, suc, ◌+◌, ◌-◌, ◌<◌, ◌≤◌, Bool, true, false, not, ◌&&◌, List, [], ◌∷◌, ◌++◌, map, ◌≡◌, refl, ap, sym, ◌∙◌, arith, length, get_or, set, take, replicate, length-append}
use Rattle.std.proofs.Math.ListN.{get_or-append}
use Rattle.std.proofs.Math.Option.{Option, some, none}
use Rattle.std.proofs.lemmas.List.{take_at, length-replicate, get_or-append_right, get_or-replicate}
use Rattle.std.proofs.Math.Decide.{ℕ_discrete}
use Rattle.instance.specs.Limits.{most_variables, most_clauses, most_weight}
use Rattle.instance.specs.Memory.{cells_size}
use Rattle.instance.specs.Clause.{Literal, Weight, hard, soft, Body, clause, Clause, Problem, tautology, soft_of, total_of}
use Rattle.instance.specs.Store.{weights_at, literal_of, code_of, weight_of, flag_of, codes_in, literals_in, clause_in, clauses_in, Holds, Stored}
use Rattle.instance.specs.Theorems.Choices.{never}
use Rattle.instance.specs.Theorems.Clauses.{total_snoc}
use Rattle.instance.specs.Theorems.Codes.{code_literal, code_high}
use Rattle.instance.specs.Theorems.Store.{clauses_length}
use Rattle.instance.specs.declared.Instance.{Instance}
use Rattle.calculus.specs.Branch.{Branch, blank, kill, keep, unit_of, nothing, gain, several, numbered, enter, root_from, root, spent, disjuncts, unless}
use Rattle.branch.specs.Cells.{Cell, booked, dead, weight, marked, shut, booked_at, dead_at, marks_at, shuts_at, at, Real, held}
use Rattle.branch.specs.Shows.{is_some, extendable, open_in, has, Left, Shows}
use Rattle.branch.specs.Works.{sum, entries_of, extensions_of, weights_of, soft_at, Works}
use Rattle.branch.specs.Extensions.{Coded}
use Rattle.branch.specs.Roots.{given, Rooted}
use Rattle.branch.specs.Theorems.Stored.{clause_in_lem, soft_at_lem}
use Rattle.branch.proofs.Stores.{sum_part, sum_set, sum_none}
use Rattle.branch.proofs.Changes.{shows_weight, shows_mark, shows_book, shows_kill, shows_keep_shut, shows_keep_open}
use Rattle.branch.proofs.Readings.{booked_is, weight_is}
use Rattle.branch.proofs.Rules.{weight_entries}
use Rattle.branch.proofs.Extending.{coded_in}

-- ---- the calculus' root, one clause more
root_last : (b : Branch) (cs : List Clause) (c : Clause) → root_from b (cs ++ (c ∷ [])) ≡ enter c.weight c.body (root_from b cs)
unfolding root_from
root_last b [] c = refl
root_last b (d ∷ ds) c = root_last (enter d.weight d.body b) ds c

enter_none : (w : Weight) (b : Branch) → enter w (clause []) b ≡ keep (soft 0) (clause []) (nothing w b)
unfolding enter numbered several gain
enter_none w b = refl

enter_one : (w : Weight) (l : Literal) (b : Branch) → enter w (clause (l ∷ [])) b ≡ keep (soft 0) (clause (l ∷ [])) (unit_of w l b)
unfolding enter numbered several gain
enter_one w l b = refl

enter_more : (w : Weight) (ls : List Literal) (b : Branch) → several ls ≡ true → enter w (clause ls) b ≡ keep w (clause ls) b
unfolding enter numbered several gain
enter_more w [] b e = never (sym e)
enter_more w (l ∷ []) b e = never (sym e)
enter_more w (l ∷ k ∷ ks) b e = refl

-- ---- what is left of a clause, and whether that can be extended
abbrev spent_of : Clause → Clause
spent_of c = record { weight = soft 0; body = c.body }

spent_left : (c : Clause) → Left c (spent_of c)
unfolding spent
spent_left c = record { body = refl; whole = λ e. cc }

whole_left : (c : Clause) → Left c c
whole_left c = record { body = refl; whole = λ e. refl }

spent_shut : (c : Clause) → extendable (spent_of c) ≡ false
unfolding extendable spent unless is_some
spent_shut c = refl

unspent : (v : ℕ) → spent (weight_of v) ≡ false
unfolding spent weight_of
unspent zero = refl
unspent (suc v) = refl

pub single : (xs : List ℕ) → length xs ≡ 1 → xs ≡ get_or xs 0 0 ∷ []
single [] e = absurd (omega arith)
single (x ∷ []) e = refl
single (x ∷ y ∷ ys) e = absurd (omega arith)

several_codes : (cs : List ℕ) → 2 ≤ length cs → several (map literal_of cs) ≡ true
unfolding several
several_codes [] two = absurd (omega arith)
several_codes (c ∷ []) two = absurd (omega arith)
several_codes (c ∷ d ∷ cs) two = refl

more_open : (v : ℕ) (ls : List Literal) → several ls ≡ true → extendable (record { weight = weight_of v; body = clause ls }) ≡ not (tautology ls)
unfolding extendable unless disjuncts is_some
more_open v ls e = rw (unspent v, disjuncts, e) (go (tautology ls))
  where
    go : (t : Bool) → is_some {A = List Body} (elim (true && not t) as (λ _. Option (List Body)) [ true ↦ some (map (λ m. clause (m ∷ [])) ls) | false ↦ none ]) ≡ not t
    go true = refl
    go false = refl

-- ---- what a clause gives at once
module _ {cs : List Clause} {cells : List ℕ} {b : Branch} (h : Shows cs cells b) where
  shows_nothing : (w : Weight) → Shows cs (given cells dead_at booked_at w) (nothing w b)
  unfolding given nothing at
  shows_nothing hard = shows_kill h
  shows_nothing (soft v) = rw (booked_is h) (shows_book h v)

  shows_unit : (w : Weight) (c : ℕ) → Coded c → Shows cs (given cells (marks_at + c) c w) (unit_of w (literal_of c) b)
  unfolding given unit_of at
  shows_unit hard c r = rw (code_literal c) at (shows_mark h (literal_of c) (coded_in c r))
  shows_unit (soft v) c r =
      let l : Literal = literal_of c in
      rw (rw (code_literal c) at (weight_is h l (coded_in c r))) (rw (code_literal c) at (shows_weight h l (coded_in c r) (b.weight l + v)))

-- ---- the sums
-- what a clause of weight v adds at most
record Adds (cs : List Clause) (cells : List ℕ) (v : ℕ) (cells' : List ℕ) : Type 0 where
  room : sum entries_of cells' ≤ sum entries_of cells + 5
  deep : sum extensions_of cells' ≤ sum extensions_of cells + 1
  light : sum (weights_of cs) cells' ≤ sum (weights_of cs) cells + v

module _ (cs : List Clause) (cells : List ℕ) (size : cells_size ≤ length cells) where
  adds_set : (c : Cell) → Real c → (u v : ℕ) → entries_of c u ≤ 5 → extensions_of c u ≤ 1 → weights_of cs c u ≤ weights_of cs c (held cells c) + v
      → Adds cs cells v (set cells (at c) u)
  adds_set c r u v e x w = record {
    room = omega (arith, sum_set cells size c r u entries_of);
    deep = omega (arith, sum_set cells size c r u extensions_of);
    light = omega (arith, sum_set cells size c r u (weights_of cs));
  }

  adds_nothing : (w : Weight) → Adds cs cells (soft_of w) (given cells dead_at booked_at w)
  unfolding given at entries_of extensions_of weights_of soft_of
  adds_nothing hard = adds_set dead tt 1 0 (omega arith) (omega arith) (omega arith)
  adds_nothing (soft v) = adds_set booked tt (get_or cells booked_at 0 + v) v (omega arith) (omega arith) (omega arith)

  adds_unit : (w : Weight) (c : ℕ) → Coded c → Adds cs cells (soft_of w) (given cells (marks_at + c) c w)
  unfolding given at extensions_of weights_of soft_of
  adds_unit hard c r =
      rw (code_literal c) at (adds_set (marked (literal_of c)) (coded_in c r) 1 0 (unfold entries_of in omega arith) (omega arith) (omega arith))
  adds_unit (soft v) c r =
      let u : ℕ = held cells (weight (literal_of c)) + v in
      rw (code_literal c) at
      (adds_set (weight (literal_of c)) (coded_in c r) u v (omega (arith, weight_entries (literal_of c) u)) (omega arith) (omega arith))

  adds_shut : (v : ℕ) → Adds cs cells v cells
  adds_shut v = record { room = omega arith; deep = omega arith; light = omega arith }

  adds_open : (k v : ℕ) → k < most_clauses → soft_at cs k ≡ v → Adds cs cells v (set cells (at (shut k)) 0)
  unfolding entries_of extensions_of weights_of
  adds_open k v lt e = adds_set (shut k) lt 0 v (omega arith) (omega arith) (omega arith)

total_most : (store : List ℕ) (k n : ℕ) → k ≤ n → total_of (clauses_in store k) ≤ total_of (clauses_in store n)
unfolding clauses_in
total_most store k zero le = let e : k ≡ 0 = omega arith in rw e (omega arith)
total_most store k (suc n) le = go (ℕ_discrete k (suc n)) (total_most store k n)
  where
    go : Dec (k ≡ suc n) → (k ≤ n → total_of (clauses_in store k) ≤ total_of (clauses_in store n))
        → total_of (clauses_in store k) ≤ total_of (clauses_in store n ++ (clause_in store n ∷ []))
    go (yes e) ih = rw e (omega arith)
    go (no d) ih = omega (arith, ih (omega (arith, d)), total_snoc (clauses_in store n) (clause_in store n))

-- ---- one clause more
module _ {store : List ℕ} {counts : Instance} (h : Holds store counts) {k : ℕ} {cells : List ℕ} (r : Rooted store counts.clauses k cells) (lt : k < counts.clauses) where
  abbrev w : Weight
  w = weight_of (get_or store (weights_at + k) 0)

  abbrev cs : List Clause
  cs = clauses_in store k

  abbrev all : List Clause
  all = clauses_in store counts.clauses

  abbrev next : List ℕ → Type 0
  next cells' = Rooted store counts.clauses (suc k) cells'

  size : cells_size ≤ length cells
  size = r.shows.size

  few : length cs < most_clauses
  few = rw (clauses_length store k) (omega (arith, h.laid.few))

  entered : (cells' : List ℕ) → Shows (cs ++ (clause_in store k ∷ [])) cells' (enter w (clause (literals_in store k)) (root cs))
      → Adds all cells (soft_of w) cells' → next cells'
  unfolding clauses_in clause_in root
  entered cells' s a = record {
    shows = rw (root_last blank cs (clause_in store k)) s;
    room = omega (arith, r.room, a.room);
    deep = omega (arith, r.deep, a.deep);
    light = omega (arith, r.light, a.light, total_snoc cs (clause_in store k));
  }

  -- a clause that is spent at once
  kept_spent : (p : Body) (cells' : List ℕ) (b : Branch) → Shows cs cells' b
      → Shows (cs ++ (record { weight = w; body = p } ∷ [])) cells' (keep (soft 0) p b)
  kept_spent p cells' b s =
      let c : Clause = record { weight = w; body = p } in
      shows_keep_shut s c (spent_of c) (spent_left c) few (spent_shut c)

  pub next_none : codes_in store k ≡ [] → next (given cells dead_at booked_at w)
  unfolding clause_in
  next_none e =
      entered _
      (rw (e, enter_none w (root cs)) (kept_spent (clause []) _ _ (shows_nothing r.shows w)))
      (adds_nothing all cells size w)

  -- no sum overflows
  small : (c : Cell) → Real c → weights_of all c (held cells c) ≡ held cells c → held cells c + soft_of w ≤ most_weight
  unfolding clause_in clauses_in
  small c real e =
      omega (
        arith,
        sum_part (weights_of all) cells c real,
        r.light,
        total_snoc cs (clause_in store k),
        total_most store (suc k) counts.clauses lt,
        h.within.light,
      )

  pub small_booked : get_or cells booked_at 0 + soft_of w ≤ most_weight
  unfolding at weights_of
  small_booked = small booked tt refl

  -- one literal
  module _ {code : ℕ} (e : codes_in store k ≡ code ∷ []) where
    pub code_coded : Coded code
    code_coded =
        let (two, most) = (rw e at (h.laid.codes k lt)).0 in
        (two, omega (arith, h.within.top))

    pub small_weight : get_or cells code 0 + soft_of w ≤ most_weight
    unfolding at weights_of
    small_weight = rw (code_literal code) at (small (weight (literal_of code)) (coded_in code code_coded) refl)

    pub next_one : next (given cells (marks_at + code) code w)
    unfolding clause_in
    next_one =
        entered _
        (rw (e, enter_one w (literal_of code) (root cs))
        (kept_spent (clause (literal_of code ∷ [])) _ _ (shows_unit r.shows w code code_coded)))
        (adds_unit all cells size w code code_coded)

  -- two literals or more
  module _ (two : 2 ≤ length (codes_in store k)) where
    abbrev whole : Clause
    whole = record { weight = w; body = clause (literals_in store k) }

    more : several (literals_in store k) ≡ true
    more = several_codes (codes_in store k) two

    opens : (t : Bool) → tautology (literals_in store k) ≡ t → extendable whole ≡ not t
    opens t e = more_open (get_or store (weights_at + k) 0) (literals_in store k) more ∙ ap not e

    pub next_shut : tautology (literals_in store k) ≡ true → next cells
    unfolding clause_in
    next_shut e =
        entered cells
        (rw (enter_more w (literals_in store k) (root cs) more)
        (shows_keep_shut r.shows whole whole (whole_left whole) few (opens true e)))
        (adds_shut all cells size (soft_of w))

    pub next_open : tautology (literals_in store k) ≡ false → next (set cells (shuts_at + k) 0)
    unfolding at clause_in
    next_open e =
        entered (set cells (shuts_at + k) 0)
        (rw (enter_more w (literals_in store k) (root cs) more)
        (rw (clauses_length store k) at
        (shows_keep_open r.shows whole whole (whole_left whole) few (opens false e))))
        (adds_open all cells size k (soft_of w) (omega (arith, h.laid.few)) (soft_at_lem all k (clause_in store k) (clause_in_lem store counts.clauses k lt)))

-- ---- before the first clause
pub record Blank (cells : List ℕ) : Type 0 where
  pub size : cells_size ≤ length cells
  pub low : (p : ℕ) → p < shuts_at → get_or cells p 0 ≡ 0
  pub high : (p : ℕ) → shuts_at ≤ p → p < cells_size → get_or cells p 0 ≡ 1

-- after a fill below the clauses' cells, and one of these
pub blank_filled : (low high others rest : List ℕ) (n m : ℕ) → low ≡ replicate n 0 → high ≡ replicate m 1 → n ≡ shuts_at → m ≡ most_clauses
    → Blank (take shuts_at (low ++ others) ++ (high ++ rest))
blank_filled low high others rest n m l h e f =
    let size_low : length low ≡ shuts_at = rw l (length-replicate n 0 ∙ e) in
    let size_high : length high ≡ most_clauses = rw h (length-replicate m 1 ∙ f) in
    rw (take_at low others shuts_at size_low) (record {
      size = simp length-append (omega arith);
      low = λ p lt. get_or-append low (high ++ rest) 0 p (omega arith) ∙ rw l (get_or-replicate n p 0 0 (omega arith));
      high = λ p le lt.
          get_or-append_right low (high ++ rest) shuts_at p 0 size_low le
          ∙ get_or-append high rest 0 (p - shuts_at) (omega arith)
          ∙ rw h (get_or-replicate m (p - shuts_at) 1 0 (omega arith));
    })

module _ {cells : List ℕ} (start : Blank cells) where
  shows_blank : Shows [] cells blank
  unfolding at has blank flag_of open_in
  shows_blank = record { size = start.size; holds = holds; rules = tt }
    where
      holds : (c : Cell) → Real c → held cells c ≡ has blank c
      holds booked r = start.low booked_at (omega arith)
      holds dead r = start.low dead_at (omega arith)
      holds (weight l) r = start.low (code_of l) (omega (arith, code_high most_variables l r))
      holds (marked l) r = start.low (marks_at + code_of l) (omega (arith, code_high most_variables l r))
      holds (shut k) r = start.high (shuts_at + k) (omega arith) (omega arith)

  no_extensions : sum extensions_of cells ≡ 0
  unfolding extensions_of has blank flag_of open_in
  no_extensions = sum_none extensions_of shows_blank
      (λ c. elim c as (λ k. extensions_of k (has blank k) ≡ 0) [ booked ↦ refl | dead ↦ refl | weight l ↦ refl | marked l ↦ refl | shut k ↦ refl ])

  no_weight : (rs : List Clause) → sum (weights_of rs) cells ≡ 0
  unfolding weights_of has blank flag_of open_in
  no_weight rs = sum_none (weights_of rs) shows_blank
      (λ c. elim c as (λ k. weights_of rs k (has blank k) ≡ 0) [ booked ↦ refl | dead ↦ refl | weight l ↦ refl | marked l ↦ refl | shut k ↦ refl ])

  -- only the branch's death is to come
  one_entry : sum entries_of cells ≡ 1
  unfolding entries_of has blank flag_of open_in kill
  one_entry =
      let h = shows_blank in
      let z = sum_none entries_of (shows_kill h)
      (λ c. elim c as (λ k. entries_of k (has (kill blank) k) ≡ 0) [ booked ↦ refl | dead ↦ refl | weight l ↦ refl | marked l ↦ refl | shut k ↦ refl ]) in
      omega (arith, z, rw (h.holds dead tt) at (sum_set cells h.size dead tt 1 entries_of))

  pub rooted_none : (store : List ℕ) (n : ℕ) → Rooted store n 0 cells
  unfolding clauses_in root root_from total_of
  rooted_none store n = record {
    shows = shows_blank;
    room = omega (arith, one_entry);
    deep = omega (arith, no_extensions);
    light = omega (arith, no_weight (clauses_in store n));
  }

-- ---- after the last
pub rooted_all : {store : List ℕ} {counts : Instance} → Holds store counts → {k : ℕ} {cells : List ℕ} → Rooted store counts.clauses k cells → k ≡ counts.clauses
    → (I : Problem) → Stored store I → counts.clauses ≡ length I.clauses → Works I.clauses cells 0 0 0 (root I.clauses)
rooted_all {store} {counts} h r last I st e =
    let all : clauses_in store counts.clauses ≡ I.clauses = rw e st.clauses in
    rw (← all) (record {
      shows = rw last at r.shows;
      room = omega (arith, r.room, h.laid.few);
      deep = omega (arith, r.deep, h.laid.few);
      light = omega (arith, rw last at r.light, h.within.light);
    })
