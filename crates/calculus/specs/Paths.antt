-- Paths from the root, with their extensions and contradictions counted.
use Rattle.std.specs.Prelude.{ℕ, suc, ◌≡◌, List}
use mathlib.Core.List.{Memᴰ as Among}
use Rattle.instance.specs.Clause.{Problem}
use Rattle.instance.specs.declared.answers.Claim.{Claim}
use Rattle.calculus.specs.Branch.{Branch, root}
use Rattle.calculus.specs.Derivation.{go, step}
use Rattle.calculus.specs.declared.Record.TheVariants.{E, C}

-- a branch, the extensions and the contradictions between the root and it
pub data Path (I : Problem) (k : Claim) : Branch → ℕ → ℕ → Type 0 where
  start : Path I k (root I.clauses) 0 0
  extends : {b d : Branch} {bs : List Branch} {e c : ℕ} (i : ℕ) → Path I k b e c → step I k (E i) b ≡ go bs → Among d bs →
      Path I k d (suc e) c
  contradicts : {b d : Branch} {bs : List Branch} {e c : ℕ} (x : ℕ) → Path I k b e c → step I k (C x) b ≡ go bs → Among d bs →
      Path I k d e (suc c)
