-- What the calculus gives of an extension, by whether the clause can be extended.
use Rattle.std.specs.Prelude.{ℕ, zero, suc, ◌+◌, ◌<◌, ◌≤◌, Bool, not, ◌&&◌, List, [], ◌∷◌, map, ◌≡◌, length, get_or}
use Rattle.std.proofs.Math.Bool.{true, false}
use Rattle.std.proofs.Math.Option.{Option, some, none}
use Rattle.std.proofs.Math.Path.{refl}
use Rattle.std.proofs.Common.{ap, sym, ◌∙◌, arith, length-take}
use Rattle.std.proofs.lemmas.List.{length-map}
use Rattle.instance.specs.Clause.{Literal, Weight, soft, Body, clause, Clause, Problem, clause_at, tautology}
use Rattle.instance.specs.Store.{weights_at, weight_of, start_in, end_in, literals_in, clause_in, Stored}
use Rattle.instance.specs.Theorems.Choices.{never}
use Rattle.calculus.specs.Branch.{Branch, put, several, spent, disjuncts, branches, unless, extend_by, extend}
use Rattle.calculus.specs.Derivation.{Step, stop, go, offered, extending}
use Rattle.branch.specs.Shows.{is_some, extendable, open_in, Left, Remain}
use Rattle.branch.specs.Theorems.Stored.{clause_stored}

-- ---- one clause
-- a clause that can't be extended
shut_extend : (b : Branch) (i : ℕ) (c : Clause) → extendable c ≡ false → extend b i c ≡ none
unfolding extend extendable
shut_extend b i c e = go (spent c.weight) (disjuncts c.body) e
  where
    go : (t : Bool) (o : Option (List Body)) → is_some (unless t o) ≡ false → unless t (extend_by c.weight o (put i (soft 0) b)) ≡ none
    go true o e = unfold unless in refl
    go false none e = unfold unless extend_by in refl
    go false (some ps) e = never (unfold unless is_some in e)

-- a clause that can be extended: one branch for each literal
open_extend : (b : Branch) (i : ℕ) (w : Weight) (ls : List Literal) → extendable (record { weight = w; body = clause ls }) ≡ true
    → (several ls ≡ true) × (extend b i (record { weight = w; body = clause ls }) ≡ some (branches w (map (λ l. clause (l ∷ [])) ls) (put i (soft 0) b)))
unfolding extend extendable disjuncts
open_extend b i w ls e = go (spent w) (several ls) (tautology ls) e
  where
    opened : Bool → Bool → Option (List Body)
    opened s t = elim (s && not t) as (λ _. Option (List Body)) [ true ↦ some (map (λ l. clause (l ∷ [])) ls) | false ↦ none ]

    go : (u s t : Bool) → is_some (unless u (opened s t)) ≡ true
        → (s ≡ true) × (unless u (extend_by w (opened s t) (put i (soft 0) b)) ≡ some (branches w (map (λ l. clause (l ∷ [])) ls) (put i (soft 0) b)))
    go true s t e = never (sym (unfold unless is_some in e))
    go false true false e = (refl, unfold unless extend_by in refl)
    go false true true e = never (sym (unfold unless is_some in e))
    go false false t e = never (sym (unfold unless is_some in e))

-- ---- the clause of a number
shut_clauses : (b : Branch) (i : ℕ) (rs : List Clause) (k : ℕ) → open_in rs k ≡ false
    → (elim (clause_at rs (suc k)) as (λ _. Step) [ none ↦ stop 15 | some c ↦ offered (extend b i c) ]) ≡ stop 15
unfolding open_in clause_at
shut_clauses b i [] k e = refl
shut_clauses b i (c ∷ cs) zero e = rw (shut_extend b i c e) (unfold offered in refl)
shut_clauses b i (c ∷ cs) (suc k) e = shut_clauses b i cs k e

pub extending_shut : (b : Branch) (k : ℕ) → open_in b.rules k ≡ false → extending (suc k) b ≡ stop 15
unfolding extending
extending_shut b k e = shut_clauses b (suc k) b.rules k e

extending_some : (b : Branch) (i : ℕ) (c : Clause) (new : List Branch) → clause_at b.rules i ≡ some c → extend b i c ≡ some new → extending i b ≡ go new
unfolding extending offered
extending_some b i c new e f =
    ap (λ o. elim o as (λ _. Step) [ none ↦ stop 15 | some c ↦ offered (extend b i c) ]) e ∙ ap offered f

pub extending_zero : (b : Branch) → extending 0 b ≡ stop 15
unfolding extending
extending_zero b = go b.rules
  where
    go : (rs : List Clause) → (elim (clause_at rs 0) as (λ _. Step) [ none ↦ stop 15 | some c ↦ offered (extend b 0 c) ]) ≡ stop 15
    go [] = unfold clause_at in refl
    go (c ∷ cs) = unfold clause_at in refl

-- a number beyond the last clause
open_low : (cs rs : List Clause) (k : ℕ) → Remain cs rs → open_in rs k ≡ true → k < length cs
unfolding open_in
open_low [] [] k h e = never (sym e)
open_low [] (r ∷ rs) k h e = absurd h
open_low (c ∷ cs) [] k h e = absurd h
open_low (c ∷ cs) (r ∷ rs) zero h e = omega arith
open_low (c ∷ cs) (r ∷ rs) (suc k) h e = omega (arith, open_low cs rs k h.1 e)

pub extending_over : (cs : List Clause) (b : Branch) (k : ℕ) → Remain cs b.rules → length cs ≤ k → extending (suc k) b ≡ stop 15
extending_over cs b k h le = go (open_in b.rules k) refl
  where
    go : (t : Bool) → open_in b.rules k ≡ t → extending (suc k) b ≡ stop 15
    go true e = absurd (omega (arith, open_low cs b.rules k h e))
    go false e = extending_shut b k e

-- ---- a clause of the store
wide : (ls : List Literal) → several ls ≡ true → 2 ≤ length ls
unfolding several
wide [] e = never (sym e)
wide (l ∷ []) e = never (sym e)
wide (l ∷ k ∷ ks) e = omega arith

-- what is left of an open clause is the whole of it
open_unspent : (c : Clause) → extendable c ≡ true → spent c.weight ≡ false
unfolding extendable
open_unspent c e = go (spent c.weight) e
  where
    go : (t : Bool) → is_some (unless t (disjuncts c.body)) ≡ true → t ≡ false
    go true e = never (sym (unfold unless is_some in e))
    go false e = refl

unspent_whole : (c d : Clause) → Left c d → spent d.weight ≡ false → d ≡ c
unspent_whole c d l e = λ i. record { weight = l.whole e i; body = l.body i }

open_whole : (cs rs : List Clause) (k : ℕ) (c : Clause) → Remain cs rs → open_in rs k ≡ true → clause_at cs (suc k) ≡ some c → (clause_at rs (suc k) ≡ some c) × (extendable c ≡ true)
unfolding open_in clause_at
open_whole [] [] k c h e f = never (sym e)
open_whole [] (r ∷ rs) k c h e f = absurd h
open_whole (d ∷ ds) [] k c h e f = absurd h
open_whole (d ∷ ds) (r ∷ rs) zero c h e f =
    let same : r ≡ c = unspent_whole d r h.0 (open_unspent r e) ∙ cc in
    (ap some same, ap extendable (sym same) ∙ e)
open_whole (d ∷ ds) (r ∷ rs) (suc k) c h e f = open_whole ds rs k c h.1 e f

pub record Extensible (store : List ℕ) (I : Problem) (b : Branch) (k : ℕ) : Type 0 where
  pub here : k < length I.clauses
  pub several : start_in store k + 2 ≤ end_in store k
  pub gives : extending (suc k) b
      ≡ go (branches (weight_of (get_or store (weights_at + k) 0)) (map (λ l. clause (l ∷ [])) (literals_in store k)) (put (suc k) (soft 0) b))

pub extending_open : (store : List ℕ) (I : Problem) → Stored store I → (b : Branch) (k : ℕ) → Remain I.clauses b.rules → open_in b.rules k ≡ true
    → Extensible store I b k
unfolding clause_in
extending_open store I st b k h e =
    let here = open_low I.clauses b.rules k h e in
    let (f, x) = open_whole I.clauses b.rules k (clause_in store k) h e (clause_stored store I st k here) in
    let (s, g) = open_extend b (suc k) (weight_of (get_or store (weights_at + k) 0)) (literals_in store k) x in
    let two = wide (literals_in store k) s in
    record {
      here = here;
      several = omega (arith, simp (length-map, length-take) at two);
      gives = extending_some b (suc k) (clause_in store k) _ f g;
    }
