-- Runs of stores: none, one, one run after another; and what going back gives after them.
use Rattle.std.specs.Prelude.{ℕ, zero, suc, ◌+◌, ◌*◌, ◌-◌, ◌<◌, ◌≤◌, List, ◌≡◌, refl, length, get_or, set}
use Rattle.std.proofs.Math.Path.{ap}
use Rattle.std.proofs.Common.{arith, ◌∙◌, get_or-set_same, get_or-set_other, set-set}
use Rattle.std.proofs.Math.Decide.{dec_lt}
use Rattle.std.proofs.Math.ListN.{length-set}
use Rattle.std.proofs.Math.Seq.{set-get_or}
use Rattle.journal.specs.Undo.{place_in, logged, back, undone, rewound, Places, Put, Later}

-- ---- going back
pub rewound_none : (cells log : List ℕ) (h : ℕ) → rewound cells log h h ≡ cells
unfolding undone
rewound_none cells log h =
    let e : h - h ≡ 0 = omega arith in
    ap (λ (n : ℕ). undone n cells log h) e

-- from t the entry t - 1 goes first
pub rewound_step : (cells log : List ℕ) (h t : ℕ) → h < t → rewound cells log t h ≡ rewound (back cells log (t - 1)) log (t - 1) h
unfolding undone
rewound_step cells log h t lt =
    let e : t - h ≡ suc (t - 1 - h) = omega arith in
    let f : h + (t - 1 - h) ≡ t - 1 = omega arith in
    ap (λ (n : ℕ). undone n cells log h) e ∙ ap (λ (n : ℕ). undone (t - 1 - h) (back cells log n) log h) f

undone_length : (n : ℕ) (cells log : List ℕ) (h : ℕ) → length (undone n cells log h) ≡ length cells
unfolding undone
undone_length zero cells log h = refl
undone_length (suc n) cells log h = undone_length n (back cells log (h + n)) log h ∙ length-set cells _ _

pub rewound_length : (cells log : List ℕ) (top h : ℕ) → length (rewound cells log top h) ≡ length cells
rewound_length cells log top h = undone_length (top - h) cells log h

-- only the entries that are taken back are read
undone_log : (n : ℕ) (cells log log' : List ℕ) (h : ℕ) → ((k : ℕ) → k < 2 * (h + n) → get_or log k 0 ≡ get_or log' k 0)
    → undone n cells log h ≡ undone n cells log' h
unfolding undone
undone_log zero cells log log' h same = refl
undone_log (suc n) cells log log' h same =
    rw (same (2 * (h + n)) (omega arith), same (2 * (h + n) + 1) (omega arith))
    (undone_log n (back cells log' (h + n)) log log' h (λ k lt. same k (omega arith)))

pub rewound_log : (cells log log' : List ℕ) (top h : ℕ) → h ≤ top → ((k : ℕ) → k < 2 * top → get_or log k 0 ≡ get_or log' k 0)
    → rewound cells log top h ≡ rewound cells log' top h
rewound_log cells log log' top h le same = undone_log (top - h) cells log log' h (λ k lt. same k (omega arith))

-- in two parts
undone_parts : (n m : ℕ) (cells log : List ℕ) (h : ℕ) → undone (n + m) cells log h ≡ undone n (undone m cells log (h + n)) log h
unfolding undone
undone_parts n zero cells log h =
    let e : n + 0 ≡ n = omega arith in
    ap (λ (k : ℕ). undone k cells log h) e
undone_parts n (suc m) cells log h =
    let e : n + suc m ≡ suc (n + m) = omega arith in
    let f : h + (n + m) ≡ h + n + m = omega arith in
    ap (λ (k : ℕ). undone k cells log h) e
    ∙ ap (λ (k : ℕ). undone (n + m) (back cells log k) log h) f
    ∙ undone_parts n m (back cells log (h + n + m)) log h

rewound_parts : (cells log : List ℕ) (top mid h : ℕ) → h ≤ mid → mid ≤ top
    → rewound cells log top h ≡ rewound (rewound cells log top mid) log mid h
rewound_parts cells log top mid h lo hi =
    let e : top - h ≡ (mid - h) + (top - mid) = omega arith in
    let f : h + (mid - h) ≡ mid = omega arith in
    ap (λ (n : ℕ). undone n cells log h) e
    ∙ undone_parts (mid - h) (top - mid) cells log h
    ∙ ap (λ (n : ℕ). undone (mid - h) (undone (top - mid) cells log n) log h) f

-- ---- an entry of the log
module _ (log : List ℕ) (top place old : ℕ) (room : 2 * top + 1 < length log) where
  logged_place : get_or (logged log top place old) (2 * top) 0 ≡ place
  logged_place =
      get_or-set_other (set log (2 * top) place) (2 * top + 1) (2 * top) old 0 (λ e. omega arith)
      ∙ get_or-set_same log (2 * top) place 0 (omega arith)

  logged_old : get_or (logged log top place old) (2 * top + 1) 0 ≡ old
  logged_old = get_or-set_same (set log (2 * top) place) (2 * top + 1) old 0 (simp length-set (omega arith))

  logged_below : (k : ℕ) → k < 2 * top → get_or (logged log top place old) k 0 ≡ get_or log k 0
  logged_below k lt =
      get_or-set_other (set log (2 * top) place) (2 * top + 1) k old 0 (λ e. omega arith)
      ∙ get_or-set_other log (2 * top) k place 0 (λ e. omega arith)

-- ---- runs of stores
-- the log above the height does not matter
pub later_log : (cells log log' : List ℕ) (top : ℕ) → length log' ≡ length log → ((k : ℕ) → k < 2 * top → get_or log' k 0 ≡ get_or log k 0)
    → Later cells log top cells log' top
later_log cells log log' top same below = record {
  higher = omega arith;
  same_cells = refl;
  same_log = same;
  below = below;
  undoes = rewound_none cells log' top;
  places = λ e lo hi. absurd (omega arith);
}

pub later_none : (cells log : List ℕ) (top : ℕ) → Later cells log top cells log top
later_none cells log top = later_log cells log log top refl (λ k lt. refl)

module _ (cells log : List ℕ) (top place value : ℕ) (lt : place < length cells) (room : 2 * top + 1 < length log) where
  cells' : List ℕ
  cells' = set cells place value

  log' : List ℕ
  log' = logged log top place (get_or cells place 0)

  put_back : rewound cells' log' (top + 1) top ≡ cells
  unfolding cells' log'
  put_back =
      let e : top + 1 - 1 ≡ top = omega arith in
      let one : back cells' log' top ≡ cells =
      rw (logged_place log top place (get_or cells place 0) room, logged_old log top place (get_or cells place 0) room)
      (set-set cells place value (get_or cells place 0) ∙ set-get_or cells place 0)
      in
      rewound_step cells' log' top (top + 1) (omega arith)
      ∙ ap (λ (t : ℕ). rewound (back cells' log' t) log' t top) e
      ∙ rewound_none (back cells' log' top) log' top
      ∙ one

  put_places : Places log' top (top + 1) (length cells)
  unfolding log'
  put_places e lo hi =
      let q : e ≡ top = omega arith in
      rw (q, logged_place log top place (get_or cells place 0) room) lt

  put_later : Later cells log top cells' log' (top + 1)
  unfolding cells' log'
  put_later = record {
    higher = omega arith;
    same_cells = length-set cells place value;
    same_log = simp length-set;
    below = logged_below log top place (get_or cells place 0) room;
    undoes = put_back;
    places = put_places;
  }

pub later_put : {cells log cells' log' : List ℕ} {top place value top' : ℕ} → Put cells log top place value cells' log' top'
    → place < length cells → 2 * top + 1 < length log → Later cells log top cells' log' top'
unfolding cells' log'
later_put {cells} {log} {top = top} {place = place} {value = value} p lt room =
    rw (p.height, p.stored, p.kept) (put_later cells log top place value lt room)

-- Going back to a height below the run gives what it gave before the run.
pub later_rewound : {cells log cells' log' : List ℕ} {top top' : ℕ} → Later cells log top cells' log' top'
    → (h : ℕ) → h ≤ top → rewound cells' log' top' h ≡ rewound cells log top h
later_rewound {cells} {log} {cells'} {log'} {top} {top'} l h le =
    rewound_parts cells' log' top' top h le l.higher
    ∙ ap (λ (x : List ℕ). rewound x log' top h) l.undoes
    ∙ rewound_log cells log' log top h le l.below

pub later_places : {cells log cells' log' : List ℕ} {top top' : ℕ} → Later cells log top cells' log' top'
    → (h : ℕ) → Places log h top (length cells) → Places log' h top' (length cells)
later_places {cells} {log} {cells'} {log'} {top} {top'} l h p e lo hi = go (dec_lt e top)
  where
    go : Dec (e < top) → place_in log' e < length cells
    go (yes lt) = rw (l.below (2 * e) (omega arith)) (p e lo lt)
    go (no n) = l.places e (omega arith) hi

pub later_join : {cells log cells₁ log₁ cells₂ log₂ : List ℕ} {top top₁ top₂ : ℕ} → Later cells log top cells₁ log₁ top₁
    → Later cells₁ log₁ top₁ cells₂ log₂ top₂ → Later cells log top cells₂ log₂ top₂
later_join {top = top} l m =
    let lh = l.higher in
    let mh = m.higher in
    record {
      higher = omega arith;
      same_cells = m.same_cells ∙ l.same_cells;
      same_log = m.same_log ∙ l.same_log;
      below = λ k lt. m.below k (omega arith) ∙ l.below k lt;
      undoes = later_rewound m top lh ∙ l.undoes;
      places = rw l.same_cells at (later_places m top (rw l.same_cells l.places));
    }
