-- What Write does on a branch, in 01's words.
use Rattle.std.specs.Prelude.{Bool, true, ◌≡◌, length, ℕ, zero, suc, ◌+◌, ◌≤◌, ◌<◌, List, [], ◌∷◌, ◌++◌, map}
use Rattle.std.proofs.Math.Bool.{false}
use Rattle.std.proofs.Math.Option.{Option, some, none, or_else}
use Rattle.std.proofs.Math.Path.{refl, subst}
use Rattle.std.proofs.Common.{arith}
use Rattle.std.proofs.Math.Decide.{ℕ_discrete}
use Rattle.instance.specs.Clause.{Clause, Problem, clause_at}
use Rattle.instance.specs.declared.answers.Claim.{Claim}
use Rattle.instance.specs.declared.answers.Claim.TheVariants.{Minimum, Infeasible}
use Rattle.calculus.specs.declared.Record.{Record}
use Rattle.calculus.specs.declared.Record.TheVariants.{E, C, Q}
use Rattle.calculus.specs.Branch.{Branch, extend, contradict}
use Rattle.calculus.specs.Claims.{Below}
use Rattle.calculus.specs.Derivation.{Step, stop, go, closable, closing, offered, settled, step}
use Rattle.calculus.specs.Writing.{from, candidates, Move, first}
use Rattle.calculus.proofs.Theorems.Basics.{tests, or-false, clause_at_range}
use Rattle.calculus.proofs.Theorems.Steps.{step_contradicts, step_extends}

abbrev Stops : Step → Type 0
Stops (stop e) = Unit {0}
Stops (go new) = ⊥

-- nothing to close, to contradict or to extend
pub record Stuck (I : Problem) (k : Claim) (b : Branch) : Type 0 where
  pub alive : b.dead ≡ false
  pub below : Below k b.booked
  pub no_contradiction : (x : ℕ) → 1 ≤ x → x ≤ I.variables → contradict x b ≡ none
  pub no_extension : (i : ℕ) (c : Clause) → clause_at b.rules i ≡ some c → extend b i c ≡ none

-- "On each branch: if Q is allowed, Q; else C at the lowest variable that has one; else E of the lowest extendable clause;
-- else 22."
pub data Choice (I : Problem) (k : Claim) (b : Branch) : Option Move → Type 0 where
  closes : {m : Move} → m.chosen ≡ Q → closable k b ≡ true → Choice I k b (some m)
  contradicts : {m : Move} (x : ℕ) → m.chosen ≡ C x → closable k b ≡ false → 1 ≤ x → x ≤ I.variables →
      ((y : ℕ) → 1 ≤ y → y < x → contradict y b ≡ none) → Choice I k b (some m)
  extends : {m : Move} (i : ℕ) → m.chosen ≡ E i → closable k b ≡ false →
      ((y : ℕ) → 1 ≤ y → y ≤ I.variables → contradict y b ≡ none) →
      ((j : ℕ) (c : Clause) → j < i → clause_at b.rules j ≡ some c → extend b j c ≡ none) → Choice I k b (some m)
  finds : Stuck I k b → Choice I k b none

module _ (I : Problem) (k : Claim) (b : Branch) where
  -- ---- the first of the numbers from a on, d of them, whose record is not refused
  data Lowest (f : ℕ → Record) (a d : ℕ) : Option Move → Type 0 where
    lowest : {m : Move} (x : ℕ) → m.chosen ≡ f x → a ≤ x → x < a + d → ((y : ℕ) → a ≤ y → y < x → Stops (step I k (f y) b)) →
        Lowest f a d (some m)
    absent : ((y : ℕ) → a ≤ y → y < a + d → Stops (step I k (f y) b)) → Lowest f a d none

  first_lowest : (f : ℕ → Record) (a d : ℕ) → Lowest f a d (first I k (map f (from a d)) b)
  unfolding first from
  first_lowest f a zero = absent (λ y l u. absurd (omega arith))
  first_lowest f a (suc d) = by (step I k (f a) b) refl (first I k (map f (from (suc a) d)) b) (first_lowest f (suc a) d)
    where
      earlier : {e : ℕ} → step I k (f a) b ≡ stop e → (y : ℕ) → a ≤ y → (suc a ≤ y → Stops (step I k (f y) b)) →
          Stops (step I k (f y) b)
      earlier q y l r = pick (ℕ_discrete a y)
        where
          pick : Dec (a ≡ y) → Stops (step I k (f y) b)
          pick (yes z) = subst (λ y. Stops (step I k (f y) b)) z (rw q tt)
          pick (no z) = r (omega arith)

      by : (s : Step) → step I k (f a) b ≡ s → (o : Option Move) → Lowest f (suc a) d o →
          Lowest f a (suc d) (elim s as (λ _. Option Move) [ go new ↦ some (record { chosen = f a; places = new }) | stop e ↦ o ])
      by (go new) q o h = lowest a refl (omega arith) (omega arith) (λ y l u. absurd (omega arith))
      by (stop e) q (some m) (lowest x p l u h) = lowest x p (omega arith) (omega arith) (λ y v w. earlier q y v (λ z. h y z w))
      by (stop e) q none (absent h) = absent (λ y v w. earlier q y v (λ z. h y z (omega arith)))

  first_append : (xs ys : List Record) → first I k (xs ++ ys) b ≡ or_else (first I k xs b) (first I k ys b)
  unfolding first or_else
  first_append [] ys = refl
  first_append (r ∷ xs) ys = by (step I k r b) (first_append xs ys)
    where
      taken : Step → Option Move → Option Move
      taken s o = elim s [ go new ↦ some (record { chosen = r; places = new }) | stop e ↦ o ]

      by : (s : Step) → first I k (xs ++ ys) b ≡ or_else (first I k xs b) (first I k ys b) →
          ◌≡◌ {A = Option Move} (taken s (first I k (xs ++ ys) b)) (or_else (taken s (first I k xs b)) (first I k ys b))
      by (go new) h = refl
      by (stop e) h = h

  -- ---- what a refusal says
  open_below : closable k b ≡ false → (b.dead ≡ false) × Below k b.booked
  unfolding closable
  open_below e = by k e
    where
      by : (k : Claim) → closable k b ≡ false → (b.dead ≡ false) × Below k b.booked
      by (Minimum m) e = let h = or-false b.dead _ e in (h.0, let l = h.1 in omega (arith, tests))
      by Infeasible e = (e, tt)

  module _ (alive : b.dead ≡ false) where
    nothing_at : (x : ℕ) → 1 ≤ x → x ≤ I.variables → Stops (step I k (C x) b) → contradict x b ≡ none
    nothing_at x lo hi h = by (contradict x b) (subst Stops (step_contradicts I k b x alive lo hi) h)
      where
        by : (o : Option Branch) → Stops (settled o) → o ≡ none
        by none h = refl
        by (some d) h = unfold settled in (absurd h)

    nothing_of : (i : ℕ) (c : Clause) → clause_at b.rules i ≡ some c → Stops (step I k (E i) b) → extend b i c ≡ none
    nothing_of i c e h = by (extend b i c) (subst Stops (step_extends I k b i c alive e) h)
      where
        by : (o : Option (List Branch)) → Stops (offered o) → o ≡ none
        by none h = refl
        by (some bs) h = unfold offered in (absurd h)

  pub choice : Choice I k b (first I k (candidates I b) b)
  unfolding first candidates step closing
  choice = by (closable k b) refl
    where
      rest : List Record
      rest = map C (from 1 I.variables) ++ map E (from 1 (length b.rules))

      after : closable k b ≡ false → (o p : Option Move) → Lowest C 1 I.variables o → Lowest E 1 (length b.rules) p →
          Choice I k b (or_else o p)
      after e (some m) p (lowest x q l u h) g =
          unfold or_else in (contradicts x q e l (omega arith) (λ y v w. nothing_at (open_below e).0 y v (omega arith) (h y v w)))
      after e none (some m) (absent h) (lowest i q l u g) =
          unfold or_else in (extends i q e (λ y v w. nothing_at (open_below e).0 y v w (h y v (omega arith)))
          (λ j c w p. nothing_of (open_below e).0 j c p (g j (clause_at_range b.rules j c p).0 w)))
      after e none none (absent h) (absent g) =
          unfold or_else in (finds (record {
            alive = (open_below e).0;
            below = (open_below e).1;
            no_contradiction = λ y v w. nothing_at (open_below e).0 y v w (h y v (omega arith));
            no_extension = λ j c p.
                let r = clause_at_range b.rules j c p in
                nothing_of (open_below e).0 j c p (g j r.0 (omega arith));
          }))

      by : (t : Bool) → closable k b ≡ t →
          Choice I k b (elim (elim t as (λ _. Step) [ true ↦ go [] | false ↦ stop 18 ]) as (λ _. Option Move) [
            | go new ↦ some (record { chosen = Q; places = new })
            | stop e ↦ first I k rest b
          ])
      by true e = closes refl e
      by false e =
          rw (first_append (map C (from 1 I.variables)) (map E (from 1 (length b.rules))))
          (after e _ _ (first_lowest C 1 I.variables) (first_lowest E 1 (length b.rules)))
