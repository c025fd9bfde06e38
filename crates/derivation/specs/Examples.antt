-- The examples of 01 ("Examples to prove"), in its order and with its bytes and numbers. That they hold is proved in
-- proofs/Examples.antt.
use Rattle.std.specs.Prelude.{ℕ, List, [], ◌∷◌, ◌++◌}
use Prim.Native.String.{String}
use Rattle.instance.specs.Answers.{Told, values, refused, check_told}
use Rattle.instance.specs.Clause.{opposite, tautology, clause_at}
use Rattle.instance.specs.declared.answers.Aim.{Aim}
use Rattle.reader.specs.Quoted.{text, sheet_pair}
use Rattle.valuation.specs.Examples.{value_tells}
use Rattle.calculus.specs.Branch as branch
use Rattle.calculus.specs.Derivation.{size, closable, closing, offered, extending, settled, contradicting, step, walk}
use Rattle.calculus.specs.Writing.{from, candidates, first, also, write_from, found}
use Rattle.derivation.specs.Bytes.{
  number_from,
  number,
  body,
  claim_size,
  claim_at,
  whole_if,
  item_at,
  body_size,
  items_after,
  items,
  octets,
  claim_bytes,
  record_bytes,
  all_bytes,
}
use Rattle.derivation.specs.Check.{followed, shown, claimed, check_of}
use Rattle.derivation.specs.Write.{Outcome, bit, found_bytes, finished, written, cheapest, aimed, write_of}

-- the records' bytes, at small numbers
unfoldable pub M : ℕ → List ℕ
M m = 0x4D ∷ 0 ∷ 0 ∷ 0 ∷ 0 ∷ 0 ∷ 0 ∷ 0 ∷ m ∷ []

unfoldable pub N : List ℕ
N = 0x4E ∷ []

unfoldable pub E : ℕ → List ℕ
E i = 0x45 ∷ 0 ∷ i ∷ []

unfoldable pub C : ℕ → List ℕ
C x = 0x43 ∷ 0 ∷ x ∷ []

unfoldable pub Q : List ℕ
Q = 0x51 ∷ []

-- the outcomes: the claim's byte, m (0 under N) and the number of records after the claim
unfoldable pub minimum : ℕ → ℕ → Told
minimum m records = values (0x4D ∷ m ∷ records ∷ [])

unfoldable pub infeasible : ℕ → Told
infeasible records = values (0x4E ∷ 0 ∷ records ∷ [])

pub record Row : Type 0 where
  pub instance : String
  pub assignment : List ℕ
  pub records : List ℕ
  pub outcome : Told

unfoldable pub row : String → List ℕ → List ℕ → Told → Row
row t a r o = record { instance = t; assignment = a; records = r; outcome = o }

unfoldable pub table : List Row
table =
    row "" [] (M 0 ++ Q) (minimum 0 1) ∷
    row "" [] (M 0) (refused 19 9) ∷
    row "" [] (M 0 ++ Q ++ Q) (refused 20 10) ∷
    row "h 0" [] (N ++ Q) (infeasible 1) ∷
    row "5 0" [] (M 5 ++ Q) (minimum 5 1) ∷
    row "2 1 0/2 -1 0" (0 ∷ []) (M 2 ++ C 1 ++ Q) (minimum 2 2) ∷
    row "2 1 0/2 -1 0" (0 ∷ []) (M 2 ++ C 1 ++ C 1) (refused 16 12) ∷
    row "h 1 0/h -1 0" [] (N ++ C 1 ++ Q) (infeasible 2) ∷
    row "h 1 0/h -1 0" [] (N ++ C 1 ++ C 1) (refused 17 4) ∷
    row "h 1 0/3 1 0/5 -1 0" (1 ∷ []) (M 5 ++ C 1 ++ Q) (minimum 5 2) ∷
    row "4 1 -1 0" (0 ∷ []) (M 0 ++ E 1) (refused 15 9) ∷
    row "4 1 1 0/2 -1 0" (1 ∷ []) (M 2 ++ C 1 ++ Q) (minimum 2 2) ∷
    row sheet_pair (0 ∷ 1 ∷ []) (M 2 ++ E 1 ++ C 1 ++ Q ++ C 2 ++ Q) (minimum 2 5) ∷
    row sheet_pair (1 ∷ 0 ∷ []) (M 3 ++ E 1 ++ C 1 ++ Q ++ C 2 ++ Q) (refused 18 19) ∷ []

unfoldable pub check_tells : Row → Told
unfolding value_tells check_told check_of claimed shown followed opposite tautology clause_at items items_after body_size item_at whole_if claim_at claim_size body number number_from walk step contradicting settled extending offered closing closable size branch.blank branch.set_weight branch.mark branch.book branch.kill branch.with_rules branch.keep branch.put_at branch.put branch.unit_of branch.nothing branch.gain branch.several branch.numbered branch.enter branch.root_from branch.root branch.spent branch.disjuncts branch.branches branch.unless branch.extend_by branch.extend branch.spend branch.cancel_by branch.contradict_by branch.contradict
check_tells r = check_told (check_of (text r.instance) r.assignment r.records)

unfoldable pub expected : Row → Told
expected r = r.outcome

-- The refusals that the fourteen don't show, and their order: text, claim, assignment, records.
unfoldable pub further : List Row
further =
    row "x" [] [] (refused 2 0) ∷
    row "h 1 0" (2 ∷ []) [] (refused 11 0) ∷
    row "h 1 0" [] (Q ++ M 0) (refused 11 0) ∷
    row "" [] (0x4D ∷ 0 ∷ 0 ∷ 0 ∷ 0 ∷ 0 ∷ 0 ∷ 0 ∷ []) (refused 11 0) ∷
    row "h 1 0" (2 ∷ 1 ∷ []) (M 0) (refused 9 0) ∷
    row "h 1 2 0" (1 ∷ 2 ∷ []) (M 0) (refused 10 1) ∷
    row "1 1 0/h -1 0/h -1 0" (1 ∷ []) (M 9) (refused 12 2) ∷
    row "2 1 0" (0 ∷ []) (M 1 ++ E 7) (refused 13 0) ∷
    row "" [] (M 0 ++ M 0) (refused 14 9) ∷
    row "" [] (M 0 ++ N) (refused 14 9) ∷
    row "" [] (M 0 ++ 0x45 ∷ 0 ∷ []) (refused 14 9) ∷
    row "h 0" [] (N ++ 0x00 ∷ []) (refused 14 1) ∷
    row "h 0" [] (N ++ E 0) (refused 17 1) ∷
    row "h 0" [] (N ++ C 0) (refused 17 1) ∷
    row "h 0" [] (N ++ Q ++ 0x00 ∷ []) (refused 20 2) ∷
    row "h 1 0" [] (N ++ E 1) (refused 15 1) ∷
    row "h 1 2 0" [] (N ++ E 0) (refused 15 1) ∷
    row "h 1 2 0" [] (N ++ E 2) (refused 15 1) ∷
    row "h 1 2 0" [] (N ++ E 1 ++ E 1) (refused 15 4) ∷
    row "h 1 0" [] (N ++ C 0) (refused 16 1) ∷
    row "h 1 0" [] (N ++ C 2) (refused 16 1) ∷
    row "h 1 0" [] (N ++ Q) (refused 18 1) ∷ []

-- what Write gives on the sheet pair for 00 01
unfoldable pub twenty : List ℕ
twenty =
    0x4D ∷ 0x00 ∷ 0x00 ∷ 0x00 ∷ 0x00 ∷ 0x00 ∷ 0x00 ∷ 0x00 ∷ 0x02 ∷ 0x45 ∷ 0x00 ∷ 0x01 ∷
    0x43 ∷ 0x00 ∷ 0x01 ∷ 0x51 ∷ 0x43 ∷ 0x00 ∷ 0x02 ∷ 0x51 ∷ []

unfoldable pub writes : List ℕ → ℕ → Outcome
unfolding check_tells write_of aimed cheapest written finished found_bytes bit octets claim_bytes record_bytes all_bytes from candidates first also write_from found
writes assignment room = write_of Aim.Cheapest (text sheet_pair) assignment room
