-- The journal: entry e of the log holds a place at 2e, and at 2e + 1 the value that was stored over there.
use Rattle.std.specs.Prelude.{ℕ, zero, suc, ◌+◌, ◌*◌, ◌-◌, ◌<◌, ◌≤◌, List, ◌≡◌, length, get_or, set}

abbrev pub place_in : List ℕ → ℕ → ℕ
place_in log e = get_or log (2 * e) 0

abbrev pub old_in : List ℕ → ℕ → ℕ
old_in log e = get_or log (2 * e + 1) 0

-- the log with the entry e written
abbrev pub logged : List ℕ → ℕ → ℕ → ℕ → List ℕ
logged log e place old = set (set log (2 * e) place) (2 * e + 1) old

-- the cells with the entry e taken back
abbrev pub back : List ℕ → List ℕ → ℕ → List ℕ
back cells log e = set cells (place_in log e) (old_in log e)

-- with n entries from the height h on taken back, the last one first
unfoldable pub undone : ℕ → List ℕ → List ℕ → ℕ → List ℕ
undone zero cells log h = cells
undone (suc n) cells log h = undone n (back cells log (h + n)) log h

-- from the height `top` back to the height h
abbrev pub rewound : List ℕ → List ℕ → ℕ → ℕ → List ℕ
rewound cells log top h = undone (top - h) cells log h

-- the places of the entries from one height to another lie below a bound
abbrev pub Places : List ℕ → ℕ → ℕ → ℕ → Type 0
Places log h top bound = (e : ℕ) → h ≤ e → e < top → place_in log e < bound

-- one store
pub record Put (cells log : List ℕ) (top place value : ℕ) (cells' log' : List ℕ) (top' : ℕ) : Type 0 where
  pub height : top' ≡ top + 1
  pub stored : cells' ≡ set cells place value
  pub kept : log' ≡ logged log top place (get_or cells place 0)

-- What any run of stores leaves, from the height `top` to the height `top'`: going back gives the old cells.
pub record Later (cells log : List ℕ) (top : ℕ) (cells' log' : List ℕ) (top' : ℕ) : Type 0 where
  pub higher : top ≤ top'
  pub same_cells : length cells' ≡ length cells
  pub same_log : length log' ≡ length log
  pub below : (k : ℕ) → k < 2 * top → get_or log' k 0 ≡ get_or log k 0
  pub undoes : rewound cells' log' top' top ≡ cells
  pub places : Places log' top top' (length cells)
