-- Along a path: what every record keeps, and at most K extensions and at most K contradictions.
use Rattle.std.specs.Prelude.{ℕ, suc, ◌+◌, ◌≤◌, List, ◌≡◌, length}
use Rattle.std.proofs.Common.{ap, arith}
use Rattle.instance.specs.Clause.{soft, Problem}
use Rattle.instance.specs.Within.{Every, Fits}
use Rattle.instance.specs.declared.answers.Claim.{Claim}
use Rattle.calculus.specs.declared.Record.{Record}
use Rattle.calculus.specs.declared.Record.TheVariants.{E, C}
use Rattle.calculus.specs.Branch.{Branch, root, put}
use Rattle.calculus.specs.Paths.{Path, start, extends, contradicts}
use Rattle.calculus.proofs.Theorems.Basics.{every_among, every_join}
use Rattle.calculus.proofs.Theorems.Fair.{Sane}
use Rattle.calculus.proofs.Theorems.Leaves.{remaining, extension_remaining}
use Rattle.calculus.proofs.Theorems.Numbers.{Full, root_count, stepped_full}
use Rattle.calculus.proofs.Theorems.Potential.{potential, remaining_potential, contradict_potential, extend_potential, root_potential}
use Rattle.calculus.proofs.Theorems.Root.{sane_root}
use Rattle.calculus.proofs.Theorems.Sound.{stepped_sane}
use Rattle.calculus.proofs.Theorems.Steps.{Stepped, contradicted, extended, went}
use Rattle.calculus.proofs.Theorems.Unchanged.{Gained, contradiction_leaves, extension_leaves}

module _ (I : Problem) (k : Claim) where
  -- what holds at the root and is kept by every record
  pub path_kept : (P : Branch → Type 0) → P (root I.clauses) →
      ((r : Record) (b : Branch) (new : List Branch) → P b → Stepped I k b r new → Every P new) →
      {b : Branch} {e c : ℕ} → Path I k b e c → P b
  path_kept P z f start = z
  path_kept P z f (extends {b = b} {bs = bs} i h q m) =
      every_among P bs (f (E i) b bs (path_kept P z f h) (went I k b (E i) bs q)) m
  path_kept P z f (contradicts {b = b} {bs = bs} x h q m) =
      every_among P bs (f (C x) b bs (path_kept P z f h) (went I k b (C x) bs q)) m

  pub path_sane : Fits I → {b : Branch} {e c : ℕ} → Path I k b e c → Sane I.variables b
  path_sane fits = path_kept (Sane I.variables) (sane_root I.variables I.clauses fits) (stepped_sane I k)

  -- every branch has the K clauses
  pub path_full : {b : Branch} {e c : ℕ} → Path I k b e c → length b.rules ≡ length I.clauses
  path_full = path_kept (Full I) (root_count I.clauses) (stepped_full I k)

  -- the extensions made with those that can come, and the contradictions likewise
  pub record Bounded (b : Branch) (e c : ℕ) : Type 0 where
    pub extensions : e + remaining b.rules ≤ length I.clauses
    pub contradictions : c + potential I.variables b ≤ length I.clauses

  extends_bounded : (i : ℕ) (b : Branch) (bs : List Branch) (e c : ℕ) → Sane I.variables b → Stepped I k b (E i) bs →
      Bounded b e c → Every (λ d. Bounded d (suc e) c) bs
  extends_bounded i b bs e c s (extended _ r a p x) w =
      every_join (λ d (g : Gained (put i (soft 0) b) d) (l : potential I.variables d ≤ potential I.variables b). record {
        extensions = omega (arith, w.extensions, ap remaining g.rules, extension_remaining b i r bs p x);
        contradictions = omega (arith, w.contradictions);
      }) bs (extension_leaves b i r bs x) (extend_potential I.variables b i r bs s p x)

  contradicts_bounded : (x : ℕ) (b : Branch) (bs : List Branch) (e c : ℕ) → Stepped I k b (C x) bs → Bounded b e c →
      Every (λ d. Bounded d e (suc c)) bs
  contradicts_bounded x b bs e c (contradicted {b' = d} _ a lo hi y) w = (
    record {
      extensions = omega (arith, w.extensions, ap remaining (contradiction_leaves x b d y).rules);
      contradictions = omega (arith, w.contradictions, contradict_potential I.variables x b d lo hi a y);
    },
    tt,
  )

  pub path_bounded : Fits I → {b : Branch} {e c : ℕ} → Path I k b e c → Bounded b e c
  path_bounded fits start =
      let l = root_potential I.variables I.clauses fits in
      record { extensions = omega (arith, remaining_potential I.variables (root I.clauses)); contradictions = omega arith }
  path_bounded fits (extends {b = b} {bs = bs} {e = e} {c = c} i h q m) =
      every_among (λ d. Bounded d (suc e) c) bs
      (extends_bounded i b bs e c (path_sane fits h) (went I k b (E i) bs q) (path_bounded fits h)) m
  path_bounded fits (contradicts {b = b} {bs = bs} {e = e} {c = c} x h q m) =
      every_among (λ d. Bounded d e (suc c)) bs (contradicts_bounded x b bs e c (went I k b (C x) bs q) (path_bounded fits h)) m

  -- "A path from the root never has more than K extensions or more than K contradictions" (T-09).
  pub path_bound : Fits I → {b : Branch} {e c : ℕ} → Path I k b e c → (e ≤ length I.clauses) × (c ≤ length I.clauses)
  path_bound fits h = let w = path_bounded fits h in (omega (arith, w.extensions), omega (arith, w.contradictions))
