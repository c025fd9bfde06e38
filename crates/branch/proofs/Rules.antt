-- What each rule leaves of the room: the entries, the extensions and the weight to come.
use Rattle.std.proofs.Common.{ℕ, zero, suc, ◌+◌, ◌*◌, min, ◌<◌, ◌≤◌, true, false, not, List, ◌≡◌, refl, ap, ◌∙◌, arith, set}
use Rattle.instance.specs.Limits.{most_variables, most_clauses, most_weight}
use Rattle.instance.specs.Clause.{Literal, soft, Clause}
use Rattle.instance.specs.Within.{In}
use Rattle.instance.specs.Store.{flag_of}
use Rattle.calculus.specs.Branch.{Branch, set_weight, mark, kill, put}
use Rattle.branch.specs.Cells.{Cell, dead, weight, marked, shut, at, Real, held}
use Rattle.branch.specs.Shows.{open_in, has, Shows}
use Rattle.branch.specs.Works.{entries_of, extensions_of, weights_of, soft_at, most_entries, Works}
use Rattle.branch.proofs.Stores.{sum_part, sum_set}
use Rattle.branch.proofs.Changes.{shows_weight, shows_mark, shows_kill, shows_spent}

-- 3 entries for a weight, unless it is 0
pub weight_entries : (l : Literal) (v : ℕ) → entries_of (weight l) v ≡ 3 * min v 1
unfolding entries_of
weight_entries l zero = refl
weight_entries l (suc v) = omega arith

module _ {cs : List Clause} {cells : List ℕ} {b : Branch} where
  -- a store keeps to what its cell frees
  works_set : {e x w e' x' w' : ℕ} {b' : Branch} → Works cs cells e x w b → (c : Cell) → Real c → (v : ℕ) → Shows cs (set cells (at c) v) b'
      → e' + entries_of c v ≤ e + entries_of c (held cells c) → x' + extensions_of c v ≤ x + extensions_of c (held cells c)
      → w' + weights_of cs c v ≤ w + weights_of cs c (held cells c) → Works cs (set cells (at c) v) e' x' w' b'
  works_set h c real v shows room deep light = record {
    shows = shows;
    room = omega (arith, h.room, sum_set cells h.shows.size c real v entries_of);
    deep = omega (arith, h.deep, sum_set cells h.shows.size c real v extensions_of);
    light = omega (arith, h.light, sum_set cells h.shows.size c real v (weights_of cs));
  }

  -- ---- a clause is spent
  module _ {top d k : ℕ} (h : Works cs cells top d 0 b) (lt : k < most_clauses) (can : open_in b.rules k ≡ true) where
    open_held : held cells (shut k) ≡ 0
    unfolding has flag_of
    open_held = h.shows.holds (shut k) lt ∙ ap (λ t. flag_of (not t)) can

    pub spend_room : top + 5 ≤ most_entries
    unfolding entries_of
    spend_room = omega (arith, rw open_held at (sum_part entries_of cells (shut k) lt))

    pub works_spent : Works cs (set cells (at (shut k)) 1) (top + 5) (d + 1) (soft_at cs k) (put (suc k) (soft 0) b)
    unfolding entries_of extensions_of weights_of
    works_spent =
        works_set h (shut k) lt 1 (shows_spent h.shows k lt) (rw open_held (omega arith)) (rw open_held (omega arith)) (rw open_held (omega arith))

  -- ---- a literal gains
  module _ (top : ℕ) {d w : ℕ} (h : Works cs cells (top + 4) d w b) (l : Literal) (i : In most_variables l) where
    pub works_mark : Works cs (set cells (at (marked l)) 1) (top + 1) d 0 (mark l b)
    unfolding entries_of extensions_of weights_of
    works_mark = works_set h (marked l) i 1 (shows_mark h.shows l i) (omega arith) (omega arith) (omega arith)

    pub gain_small : held cells (weight l) + w ≤ most_weight
    unfolding weights_of
    gain_small = omega (arith, sum_part (weights_of cs) cells (weight l) i)

    pub works_weight : Works cs (set cells (at (weight l)) (held cells (weight l) + w)) (top + 1) d 0 (set_weight l (b.weight l + w) b)
    unfolding has extensions_of weights_of
    works_weight =
        let v : ℕ = held cells (weight l) + w in
        works_set h (weight l) i v (rw (h.shows.holds (weight l) i) (shows_weight h.shows l i (b.weight l + w)))
        (omega (arith, weight_entries l v)) (omega arith) (omega arith)

  -- ---- the branch dies
  module _ {top d : ℕ} (h : Works cs cells top d 0 b) (alive : b.dead ≡ false) where
    alive_held : held cells dead ≡ 0
    unfolding has flag_of
    alive_held = h.shows.holds dead tt ∙ ap flag_of alive

    pub kill_room : top + 1 ≤ most_entries
    unfolding entries_of
    kill_room = omega (arith, rw alive_held at (sum_part entries_of cells dead tt))

    pub works_kill : Works cs (set cells (at dead) 1) (top + 1) d 0 (kill b)
    unfolding entries_of extensions_of weights_of
    works_kill = works_set h dead tt 1 (shows_kill h.shows) (rw alive_held (omega arith)) (omega arith) (omega arith)
