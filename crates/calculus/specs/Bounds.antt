-- What bounds a derivation that Write writes: P, and the bytes of its records. K is the number of clauses.
use Rattle.std.specs.Prelude.{ℕ, ◌+◌, ◌*◌, ◌≤◌, Bool, true, false, not, ◌&&◌, List, [], ◌∷◌, length}
use Rattle.instance.specs.Clause.{Literal, Body, clause, Clause, Problem, tautology}
use Rattle.calculus.specs.Branch.{several}
use Rattle.calculus.specs.Derivation.{size}
use Rattle.calculus.specs.declared.Record.{Record}
use Rattle.calculus.specs.declared.Record.TheVariants.{E, C, Q}

-- a clause that "has two or more literals and is no tautology"
unfoldable pub branching : List Literal → Bool
branching ls = several ls && not (tautology ls)

-- How many different literals such a clause has: each is kept once, so the literals kept are all different. 1 for any other.
unfoldable pub count_of : Body → ℕ
count_of (clause ls) = elim (branching ls) [ true ↦ length ls | false ↦ 1 ]

-- P: "the product of the different-literal counts of the clauses that have two or more literals and are no tautology (1 if none)"
unfoldable pub product_of : List Clause → ℕ
product_of [] = 1
product_of (c ∷ cs) = count_of c.body * product_of cs

-- the bytes of records
unfoldable pub bytes_of : List Record → ℕ
bytes_of [] = 0
bytes_of (r ∷ rs) = size r + bytes_of rs

-- a record names a clause or a variable that there is
abbrev pub InRange : Problem → Record → Type 0
InRange I (E i) = (1 ≤ i) × (i ≤ length I.clauses)
InRange I (C x) = (1 ≤ x) × (x ≤ I.variables)
InRange I Q = Unit {0}
