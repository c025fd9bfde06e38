-- The frames: one for each extension with branches still to visit, three words each.
use Rattle.std.specs.Prelude.{ℕ, zero, suc, ◌+◌, ◌*◌, ◌-◌, ◌<◌, ◌≤◌, List, [], ◌∷◌, ◌++◌, map, ◌≡◌, length, get_or, set, take, drop}
use Rattle.instance.specs.Clause.{Literal, Weight, soft_of, Body, clause, Problem}
use Rattle.instance.specs.Store.{weights_at, literals_at, literal_of, weight_of, start_in, end_in}
use Rattle.journal.specs.Undo.{rewound}
use Rattle.calculus.specs.Branch.{Branch, branches}
use Rattle.branch.specs.Works.{Works}
use Rattle.checker.specs.declared.frames.Frame.{Frame}

-- frame d
abbrev pub frame_at : List ℕ → ℕ → Frame
frame_at words d = record { clause = get_or words (3 * d) 0; next = get_or words (3 * d + 1) 0; height = get_or words (3 * d + 2) 0 }

-- the words with frame d written
abbrev pub framed : List ℕ → ℕ → Frame → List ℕ
framed words d f = set (set (set words (3 * d) f.clause) (3 * d + 1) f.next) (3 * d + 2) f.height

-- the weight of the clause at k
abbrev pub weight_in : List ℕ → ℕ → Weight
weight_in store k = weight_of (get_or store (weights_at + k) 0)

-- the literals of the clause at k from a place on
abbrev pub literals_from : List ℕ → ℕ → ℕ → List Literal
literals_from store k next = map literal_of (take (end_in store k - next) (drop (literals_at + next) store))

abbrev pub alone : List Literal → List Body
alone ls = map (λ l. clause (l ∷ [])) ls

-- the branches of a frame's extension from its next literal on, where b is the state that the extension left
abbrev pub branches_from : List ℕ → Frame → Branch → List Branch
branches_from store f b = branches (weight_in store f.clause) (alone (literals_from store f.clause f.next)) b

-- the state of a frame
abbrev pub base_of : Frame → List ℕ → List ℕ → ℕ → List ℕ
base_of f cells log top = rewound cells log top f.height

-- Frame d waits over its state, which shows the branch b. One literal's gain is still to come on it.
pub record Waits (I : Problem) (store : List ℕ) (f : Frame) (base : List ℕ) (d top : ℕ) (b : Branch) : Type 0 where
  pub low : f.height ≤ top
  pub here : f.clause < length I.clauses
  pub since : start_in store f.clause ≤ f.next
  pub more : f.next < end_in store f.clause
  pub works : Works I.clauses base (f.height + 4) (d + 1) (soft_of (weight_in store f.clause)) b

-- d frames stand for the open branches behind the one at work
unfoldable pub Stack : ℕ → Problem → List ℕ → List ℕ → List ℕ → List ℕ → ℕ → List Branch → Type 0
Stack zero I store words cells log top bs = bs ≡ []
Stack (suc d) I store words cells log top bs =
    let f = frame_at words d in
    let base = base_of f cells log top in
    (b : Branch)
    × (rest : List Branch)
    × Waits I store f base d top b
    × (bs ≡ branches_from store f b ++ rest)
    × Stack d I store words base log f.height rest
