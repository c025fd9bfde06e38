-- The branch and its rules (01, "The branch").
use Rattle.std.specs.Prelude.{ℕ, zero, suc, ◌+◌, ◌-◌, min, Bool, true, false, not, ◌&&◌, ◌||◌, List, [], ◌∷◌, ◌++◌, map, ltb}
use Rattle.std.proofs.Math.Option.{Option, some, none}
use Rattle.instance.specs.Clause.{Literal, pos, neg, Weight, hard, soft, Body, clause, Clause, same, tautology}

-- "A branch holds, for each literal, a soft unit weight and a hard mark; for each clause, whether it was extended; the booked
-- cost; and whether it is dead." A clause that was extended is spent: what is left of its weight is `soft 0`.
pub record Branch : Type 0 where
  pub weight : Literal → ℕ
  pub marked : Literal → Bool
  pub rules : List Clause
  pub booked : ℕ
  pub dead : Bool

unfoldable pub blank : Branch
blank = record { weight = λ k. 0; marked = λ k. false; rules = []; booked = 0; dead = false }

-- ---- single changes: each leaves all else as it was
unfoldable pub set_weight : Literal → ℕ → Branch → Branch
set_weight l v b = record {
  weight = λ k. elim (same k l) [ true ↦ v | false ↦ b.weight k ];
  marked = b.marked;
  rules = b.rules;
  booked = b.booked;
  dead = b.dead;
}

unfoldable pub mark : Literal → Branch → Branch
mark l b = record {
  weight = b.weight;
  marked = λ k. same k l || b.marked k;
  rules = b.rules;
  booked = b.booked;
  dead = b.dead;
}

unfoldable pub book : ℕ → Branch → Branch
book v b = record {
  weight = b.weight;
  marked = b.marked;
  rules = b.rules;
  booked = b.booked + v;
  dead = b.dead;
}

unfoldable pub kill : Branch → Branch
kill b = record { weight = b.weight; marked = b.marked; rules = b.rules; booked = b.booked; dead = true }

unfoldable pub with_rules : List Clause → Branch → Branch
with_rules rs b = record { weight = b.weight; marked = b.marked; rules = rs; booked = b.booked; dead = b.dead }

-- a clause takes the next number
unfoldable pub keep : Weight → Body → Branch → Branch
keep w p b = with_rules (b.rules ++ (record { weight = w; body = p } ∷ [])) b

-- clause i is left at weight w
unfoldable pub put_at : List Clause → ℕ → Weight → List Clause
put_at [] i w = []
put_at (c ∷ cs) zero w = c ∷ cs
put_at (c ∷ cs) (suc zero) w = record { weight = w; body = c.body } ∷ cs
put_at (c ∷ cs) (suc (suc i)) w = c ∷ put_at cs (suc i) w

unfoldable pub put : ℕ → Weight → Branch → Branch
put i w b = with_rules (put_at b.rules i w) b

-- ---- what a branch gains
-- a literal "gains the clause's weight, or the hard mark"
unfoldable pub unit_of : Weight → Literal → Branch → Branch
unit_of hard l b = mark l b
unit_of (soft w) l b = set_weight l (b.weight l + w) b

-- an empty soft clause "adds to the booked cost", an empty hard one makes the branch dead
unfoldable pub nothing : Weight → Branch → Branch
nothing hard b = kill b
nothing (soft w) b = book w b

unfoldable pub gain : Weight → Body → Branch → Branch
gain w (clause []) b = nothing w b
gain w (clause (l ∷ [])) b = unit_of w l b
gain w (clause (l ∷ k ∷ ks)) b = keep w (clause (l ∷ k ∷ ks)) b

-- two or more literals
unfoldable pub several : List Literal → Bool
several [] = false
several (l ∷ []) = false
several (l ∷ k ∷ ks) = true

-- a clause that takes a number when it is gained
unfoldable pub numbered : Body → Bool
numbered (clause ls) = several ls

-- ---- the root
-- "At the root each one-literal clause sets its literal's hard mark or adds its weight, each empty soft clause adds to the
-- booked cost, and an empty hard clause makes the root dead." Each clause has its number: these are spent at once.
unfoldable pub enter : Weight → Body → Branch → Branch
enter w p b = elim (numbered p) [ true ↦ gain w p b | false ↦ keep (soft 0) p (gain w p b) ]

unfoldable pub root_from : Branch → List Clause → Branch
root_from b [] = b
root_from b (c ∷ cs) = root_from (enter c.weight c.body b) cs

unfoldable pub root : List Clause → Branch
root cs = root_from blank cs

-- ---- Extension "of a clause with two or more different literals, no tautology, not yet extended here"
unfoldable pub spent : Weight → Bool
spent hard = false
spent (soft zero) = true
spent (soft (suc w)) = false

-- what the branches of an extension gain: each literal alone, in kept order
unfoldable pub disjuncts : Body → Option (List Body)
disjuncts (clause ls) = elim (several ls && not (tautology ls)) [ true ↦ some (map (λ l. clause (l ∷ [])) ls) | false ↦ none ]

-- one branch for each, all from the same state
unfoldable pub branches : Weight → List Body → Branch → List Branch
branches w [] b = []
branches w (p ∷ ps) b = gain w p b ∷ branches w ps b

unfoldable pub unless : {A : Type 0} → Bool → Option A → Option A
unless true o = none
unless false o = o

unfoldable pub extend_by : Weight → Option (List Body) → Branch → Option (List Branch)
extend_by w none b = none
extend_by w (some ps) b = some (branches w ps b)

-- clause c of number i; "the clause is extended below"
unfoldable pub extend : Branch → ℕ → Clause → Option (List Branch)
extend b i c = unless (spent c.weight) (extend_by c.weight (disjuncts c.body) (put i (soft 0) b))

-- ---- Contradiction at variable x
-- "one literal hard and the other with soft weight v > 0: v is booked and that weight becomes 0; the hard mark and the soft
-- weight on its own side stay". l is the other.
unfoldable pub spend : Literal → Branch → Option Branch
spend l b = elim (ltb 0 (b.weight l)) [ true ↦ some (book (b.weight l) (set_weight l 0 b)) | false ↦ none ]

-- "neither hard, weights a > 0 and b > 0: the smaller is booked once and taken from both". s is the smaller.
unfoldable pub cancel_by : ℕ → ℕ → Branch → Option Branch
cancel_by x s b =
    elim (ltb 0 s) [
      | true ↦ some (book s (set_weight (pos x) (b.weight (pos x) - s) (set_weight (neg x) (b.weight (neg x) - s) b)))
      | false ↦ none
    ]

-- "both literals hard: the branch is dead"; "otherwise there is nothing to contradict"
unfoldable pub contradict_by : Bool → Bool → ℕ → Branch → Option Branch
contradict_by true true x b = some (kill b)
contradict_by true false x b = spend (neg x) b
contradict_by false true x b = spend (pos x) b
contradict_by false false x b = cancel_by x (min (b.weight (pos x)) (b.weight (neg x))) b

unfoldable pub contradict : ℕ → Branch → Option Branch
contradict x b = contradict_by (b.marked (pos x)) (b.marked (neg x)) x b
