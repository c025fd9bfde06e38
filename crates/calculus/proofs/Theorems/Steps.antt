-- What a record that is not refused has done.
use Rattle.std.specs.Prelude.{ℕ, ◌≤◌, Bool, ◌&&◌, ◌≡◌, List, [], ◌∷◌}
use Rattle.std.proofs.Math.Bool.{true, false, and-eq-true_iff}
use Rattle.std.proofs.Math.Option.{Option, some, none}
use Rattle.std.proofs.Math.Path.{refl}
use Rattle.std.proofs.Common.{subst, ◌∙◌, leb-true, le-leb}
use Rattle.std.proofs.Math.Dec.{leb}
use Rattle.instance.specs.Clause.{Clause, Problem, clause_at}
use Rattle.instance.specs.declared.answers.Claim.{Claim}
use Rattle.calculus.specs.declared.Record.{Record}
use Rattle.calculus.specs.declared.Record.TheVariants.{E, C, Q}
use Rattle.calculus.specs.Branch.{Branch, extend, contradict}
use Rattle.calculus.specs.Derivation.{Step, stop, go, closable, closing, offered, extending, settled, contradicting, step}
use Rattle.calculus.proofs.Theorems.Basics.{clash}
use Rattle.calculus.proofs.Theorems.Cases.{Contradiction, contradiction, Extension, extension}

pub data Stepped (I : Problem) (k : Claim) (b : Branch) : Record → List Branch → Type 0 where
  closed : closable k b ≡ true → Stepped I k b Q []
  contradicted : {b' : Branch} (x : ℕ) → b.dead ≡ false → 1 ≤ x → x ≤ I.variables → Contradiction x b (some b') →
      Stepped I k b (C x) (b' ∷ [])
  extended : {bs : List Branch} (i : ℕ) (c : Clause) → b.dead ≡ false → clause_at b.rules i ≡ some c →
      Extension b i c (some bs) → Stepped I k b (E i) bs

-- of a step that is not refused
abbrev pub OnGo : (List Branch → Type 0) → Step → Type 0
OnGo P (stop e) = Unit {0}
OnGo P (go new) = P new

module _ (I : Problem) (k : Claim) (b : Branch) where
  extending_is : (i : ℕ) → b.dead ≡ false → OnGo (Stepped I k b (E i)) (extending i b)
  unfolding extending
  extending_is i d = at (clause_at b.rules i) refl
    where
      offers : (c : Clause) → clause_at b.rules i ≡ some c → (o : Option (List Branch)) → Extension b i c o →
          OnGo (Stepped I k b (E i)) (offered o)
      offers c e none h = unfold offered in tt
      offers c e (some bs) h = unfold offered in (extended i c d e h)

      at : (o : Option Clause) → clause_at b.rules i ≡ o →
          OnGo (Stepped I k b (E i)) (elim o as (λ _. Step) [ none ↦ stop 15 | some c ↦ offered (extend b i c) ])
      at none e = tt
      at (some c) e = offers c e (extend b i c) (extension b i c)

  contradicting_is : (x : ℕ) → b.dead ≡ false → OnGo (Stepped I k b (C x)) (contradicting I x b)
  unfolding contradicting
  contradicting_is x d = by (leb 1 x && leb x I.variables) refl
    where
      settles : 1 ≤ x → x ≤ I.variables → (o : Option Branch) → Contradiction x b o → OnGo (Stepped I k b (C x)) (settled o)
      settles lo hi none c = unfold settled in tt
      settles lo hi (some b') c = unfold settled in (contradicted x d lo hi c)

      by : (t : Bool) → (leb 1 x && leb x I.variables) ≡ t →
          OnGo (Stepped I k b (C x)) (elim t as (λ _. Step) [ true ↦ settled (contradict x b) | false ↦ stop 16 ])
      by true e =
          let r = (and-eq-true_iff (leb 1 x) (leb x I.variables)).0 e in
          settles (leb-true 1 x r.0) (leb-true x I.variables r.1) (contradict x b) (contradiction x b)
      by false e = tt

  -- what a record did
  pub stepped : (r : Record) → OnGo (Stepped I k b r) (step I k r b)
  unfolding step closing
  stepped (E i) = by b.dead refl
    where
      by : (t : Bool) → b.dead ≡ t →
          OnGo (Stepped I k b (E i)) (elim t as (λ _. Step) [ true ↦ stop 17 | false ↦ extending i b ])
      by true d = tt
      by false d = extending_is i d
  stepped (C x) = by b.dead refl
    where
      by : (t : Bool) → b.dead ≡ t →
          OnGo (Stepped I k b (C x)) (elim t as (λ _. Step) [ true ↦ stop 17 | false ↦ contradicting I x b ])
      by true d = tt
      by false d = contradicting_is x d
  stepped Q = by (closable k b) refl
    where
      by : (t : Bool) → closable k b ≡ t → OnGo (Stepped I k b Q) (elim t as (λ _. Step) [ true ↦ go [] | false ↦ stop 18 ])
      by true e = closed e
      by false e = tt

  pub went : (r : Record) (new : List Branch) → step I k r b ≡ go new → Stepped I k b r new
  went r new e = subst (OnGo (Stepped I k b r)) e (stepped r)

  -- on a branch that is not dead
  alive : (s : Step) → b.dead ≡ false → elim b.dead as (λ _. Step) [ true ↦ stop 17 | false ↦ s ] ≡ s
  alive s d = by b.dead d
    where
      by : (t : Bool) → t ≡ false → elim t as (λ _. Step) [ true ↦ stop 17 | false ↦ s ] ≡ s
      by true e = clash refl e
      by false e = refl

  pub step_contradicts : (x : ℕ) → b.dead ≡ false → 1 ≤ x → x ≤ I.variables → step I k (C x) b ≡ settled (contradict x b)
  unfolding step contradicting
  step_contradicts x d lo hi = alive (contradicting I x b) d ∙ rw (le-leb 1 x lo, le-leb x I.variables hi, contradicting)

  pub step_extends : (i : ℕ) (c : Clause) → b.dead ≡ false → clause_at b.rules i ≡ some c →
      step I k (E i) b ≡ offered (extend b i c)
  unfolding step extending
  step_extends i c d e = alive (extending i b) d ∙ rw (e, extending)
