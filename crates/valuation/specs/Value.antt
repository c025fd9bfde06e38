-- Value of an assignment (01, "What is built" and "Turned away").
use Rattle.std.specs.Prelude.{ℕ, suc, true, false, List, [], ◌∷◌, ◌≡◌, eqb, leb, length}
use Rattle.std.proofs.Math.Option.{Option, some, none}
use Rattle.instance.specs.Clause.{Problem}
use Rattle.instance.specs.Meaning.{assigned, first_broken, cost}
use Rattle.instance.specs.Memory.{store_size, ample, returned}
use Rattle.instance.specs.Refusals.{staged}
use Rattle.instance.specs.declared.answers.Valued.{Valued}
use Rattle.reader.specs.Reading.{read, refused, read_of}

-- the index of the first byte over 1, counted from i
unfoldable pub first_over : ℕ → List ℕ → Option ℕ
first_over i [] = none
first_over i (b ∷ bs) = elim (leb b 1) [ true ↦ first_over (suc i) bs | false ↦ some i ]

-- "the number of the first broken hard clause (0 if none) and the soft weight falsified, given also where a hard clause is broken"
unfoldable pub worth_of : Problem → List ℕ → Valued
worth_of I bytes = Valued.Worth (first_broken (assigned bytes) I.clauses) (cost (assigned bytes) I.clauses)

-- 9 where the length is not n, 10 at the first byte over 1
unfoldable pub valued : Problem → List ℕ → Valued
valued I bytes =
    elim (eqb (length bytes) I.variables) [
      | false ↦ Valued.Refused (staged 9 0)
      | true ↦ elim (first_over 0 bytes) [
        | some i ↦ Valued.Refused (staged 10 i)
        | none ↦ worth_of I bytes
      ]
    ]

unfoldable pub value_of : List ℕ → List ℕ → Valued
value_of text bytes = elim (read_of text) [ refused n p ↦ Valued.Refused (staged n p) | read I ↦ valued I bytes ]

-- the answer and the store on return, the store too small included
pub record ValueAnswers (text bytes store : List ℕ) (r : Valued) (store' : List ℕ) : Type 0 where
  pub answer : r ≡ elim (ample store_size store) as (λ _. Valued) [ true ↦ value_of text bytes | false ↦ Valued.Refused (staged 1 0) ]
  pub after : store' ≡ returned (ample store_size store) store_size store
