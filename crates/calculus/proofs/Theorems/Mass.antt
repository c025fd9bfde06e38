-- No number on a branch passes the total soft weight: booked cost, unit weights and the weight not extended never grow together,
-- and at the root they are the total.
use Rattle.std.specs.Prelude.{ℕ, ◌+◌, ◌≤◌, ◌≡◌, refl, List, [], ◌∷◌, ◌++◌}
use Rattle.std.proofs.Common.{arith}
use Rattle.std.proofs.Math.Option.{some}
use Rattle.std.proofs.Math.Path.{ap}
use Rattle.std.proofs.Math.Nat.{add_left_comm}
use Rattle.instance.specs.Clause.{Literal, pos, Weight, hard, soft, Body, clause, Clause, Problem, variable_of, clause_at, soft_of, total_of}
use Rattle.instance.specs.Within.{Every, In, InBody, Fits}
use Rattle.instance.specs.declared.answers.Claim.{Claim}
use Rattle.calculus.specs.declared.Record.{Record}
use Rattle.calculus.specs.Branch.{
  Branch,
  blank,
  set_weight,
  mark,
  book,
  kill,
  with_rules,
  keep,
  put_at,
  put,
  unit_of,
  nothing,
  gain,
  several,
  numbered,
  enter,
  root_from,
  root,
}
use Rattle.calculus.specs.Paths.{Path}
use Rattle.calculus.proofs.Theorems.Basics.{every_among, every_join}
use Rattle.calculus.proofs.Theorems.Sum.{fold, sum_of, fold_snoc, fold_put}
use Rattle.calculus.proofs.Theorems.Literals.{lit_sum, lit_sum_zero, lit_sum_pair, lit_sum_ge, lit_sum_weight}
use Rattle.calculus.proofs.Theorems.Fair.{Sane, literals_in_lem}
use Rattle.calculus.proofs.Theorems.Paths.{path_kept}
use Rattle.calculus.proofs.Theorems.Root.{Covered, sane_root}
use Rattle.calculus.proofs.Theorems.Sound.{stepped_sane}
use Rattle.calculus.proofs.Theorems.Cases.{Takes, Contradiction, both_hard, one_hard, both_soft, Extension, opens, branches_each}
use Rattle.calculus.proofs.Theorems.Steps.{Stepped, closed, contradicted, extended}

unfoldable pub mass : ℕ → Branch → ℕ
mass n b = b.booked + lit_sum n b.weight + total_of b.rules

-- ---- the total of clauses
soft_weight : Clause → ℕ
soft_weight c = soft_of c.weight

total_sum : (cs : List Clause) → total_of cs ≡ sum_of soft_weight cs
unfolding total_of fold soft_weight
total_sum [] = refl
total_sum (c ∷ cs) = omega (arith, total_sum cs)

total_snoc : (cs : List Clause) (c : Clause) → total_of (cs ++ (c ∷ [])) ≡ total_of cs + soft_of c.weight
unfolding soft_weight
total_snoc cs c = omega (arith, total_sum cs, total_sum (cs ++ (c ∷ [])), fold_snoc ◌+◌ add_left_comm 0 soft_weight cs c)

total_put : (cs : List Clause) (i : ℕ) (c : Clause) (w : Weight) → clause_at cs i ≡ some c →
    total_of (put_at cs i w) + soft_of c.weight ≡ total_of cs + soft_of w
unfolding soft_weight
total_put cs i c w e = omega (arith, total_sum cs, total_sum (put_at cs i w), fold_put ◌+◌ add_left_comm 0 soft_weight cs i c w e)

-- ---- what it bounds
module _ (n : ℕ) (b : Branch) where
  pub booked_mass : b.booked ≤ mass n b
  unfolding mass
  booked_mass = omega arith

  pub weight_mass : (l : Literal) → In n l → b.weight l ≤ mass n b
  unfolding mass
  weight_mass l h = omega (arith, lit_sum_ge n b.weight l h)

  pub clause_mass : (i : ℕ) (c : Clause) → clause_at b.rules i ≡ some c → soft_of c.weight ≤ mass n b
  unfolding mass
  clause_mass i c e = unfold soft_of in (omega (arith, total_put b.rules i c (soft 0) e))

module _ (n : ℕ) where
  -- ---- the single changes
  mass_set : (l : Literal) (v : ℕ) (b : Branch) → In n l → mass n (set_weight l v b) + b.weight l ≡ mass n b + v
  unfolding mass set_weight
  mass_set l v b h = omega (arith, lit_sum_weight n l b h (λ k u. u) v)

  mass_book : (v : ℕ) (b : Branch) → mass n (book v b) ≡ mass n b + v
  unfolding mass book
  mass_book v b = omega arith

  mass_keep : (w : Weight) (p : Body) (b : Branch) → mass n (keep w p b) ≡ mass n b + soft_of w
  unfolding mass keep with_rules
  mass_keep w p b = omega (arith, total_snoc b.rules (record { weight = w; body = p }))

  mass_nothing : (w : Weight) (b : Branch) → mass n (nothing w b) ≡ mass n b + soft_of w
  unfolding nothing soft_of
  mass_nothing hard b = unfold mass kill in (omega arith)
  mass_nothing (soft w) b = mass_book w b

  mass_unit : (w : Weight) (l : Literal) (b : Branch) → In n l → mass n (unit_of w l b) ≡ mass n b + soft_of w
  unfolding unit_of soft_of
  mass_unit hard l b h = unfold mass mark in (omega arith)
  mass_unit (soft w) l b h = omega (arith, mass_set l (b.weight l + w) b h)

  -- ---- the records
  -- v is booked that was taken from l; what is taken from its opposite is gone
  takes_mass : (l : Literal) (v w : ℕ) (b d : Branch) → In n l → Takes l v w b d → mass n d + w ≡ mass n b
  unfolding mass
  takes_mass l v w b d h t =
      omega (arith, t.booked, t.own, t.other, ap total_of t.rules, lit_sum_pair n d.weight b.weight l h t.elsewhere)

  contradict_mass : (x : ℕ) (b d : Branch) → 1 ≤ x → x ≤ n → Contradiction x b (some d) → mass n d ≤ mass n b
  unfolding variable_of
  contradict_mass x b d lo hi (both_hard p q t) =
      unfold mass in (omega (arith, t.booked, ap (lit_sum n) t.weight, ap total_of t.rules))
  contradict_mass x b d lo hi (one_hard l v m w t) = omega (arith, takes_mass l (b.weight l) 0 b d (rw v (lo, hi)) t)
  contradict_mass x b d lo hi (both_soft s e p t) = omega (arith, takes_mass (pos x) s s b d (lo, hi) t)

  extend_mass : (b : Branch) (i : ℕ) (c : Clause) (bs : List Branch) → Sane n b → clause_at b.rules i ≡ some c →
      Extension b i c (some bs) →
      Every (λ d. mass n d ≤ mass n b) bs
  extend_mass b i c bs s e (opens l k ks q t u) =
      branches_each (λ d. mass n d ≤ mass n b) c.weight (put i (soft 0) b) (l ∷ k ∷ ks) (λ j m.
      omega (
        arith,
        spent_mass,
        mass_unit c.weight j (put i (soft 0) b) (every_among (In n) (l ∷ k ∷ ks) (literals_in_lem n b i c (l ∷ k ∷ ks) s e q) m),
      ))
    where
      spent_mass : mass n (put i (soft 0) b) + soft_of c.weight ≡ mass n b
      spent_mass = unfold mass put with_rules soft_of in (omega (arith, total_put b.rules i c (soft 0) e))

  -- ---- the root
  enter_mass : (w : Weight) (p : Body) (b : Branch) → InBody n p → mass n (enter w p b) ≡ mass n b + soft_of w
  unfolding enter numbered several gain
  enter_mass w (clause []) b h = unfold soft_of in (omega (arith, mass_keep (soft 0) (clause []) (nothing w b), mass_nothing w b))
  enter_mass w (clause (l ∷ [])) b h =
      unfold soft_of in (omega (arith, mass_keep (soft 0) (clause (l ∷ [])) (unit_of w l b), mass_unit w l b h.0))
  enter_mass w (clause (l ∷ k ∷ ks)) b h = mass_keep w (clause (l ∷ k ∷ ks)) b

  pub root_from_mass : (b : Branch) (cs : List Clause) → Covered n cs → mass n (root_from b cs) ≡ mass n b + total_of cs
  unfolding root_from total_of
  root_from_mass b [] h = omega arith
  root_from_mass b (c ∷ cs) h =
      omega (arith, root_from_mass (enter c.weight c.body b) cs h.1, enter_mass c.weight c.body b h.0)

  pub root_mass : (cs : List Clause) → Covered n cs → mass n (root cs) ≡ total_of cs
  unfolding root
  root_mass cs h = omega (arith, root_from_mass blank cs h, empty)
    where
      empty : mass n blank ≡ 0
      empty = unfold mass blank total_of in (omega (arith, lit_sum_zero n (λ k. 0) (λ k h. refl)))

-- no record adds to it
pub stepped_mass : (I : Problem) (k : Claim) (r : Record) (b : Branch) (new : List Branch) → Sane I.variables b →
    Stepped I k b r new →
    Every (λ d. mass I.variables d ≤ mass I.variables b) new
stepped_mass I k r b new s (closed e) = tt
stepped_mass I k r b new s (contradicted {b' = d} x q lo hi c) = (contradict_mass I.variables x b d lo hi c, tt)
stepped_mass I k r b new s (extended i c q e x) = extend_mass I.variables b i c new s e x

-- "Total soft weight at most 1,000,000,000,000": along a path nothing passes the instance's total.
pub path_mass : (I : Problem) (k : Claim) → Fits I → {b : Branch} {e c : ℕ} → Path I k b e c →
    mass I.variables b ≤ total_of I.clauses
path_mass I k fits h =
    (path_kept I k (λ b. Sane I.variables b × (mass I.variables b ≤ total_of I.clauses))
    (sane_root I.variables I.clauses fits, omega (arith, root_mass I.variables I.clauses fits))
    (λ r b new p d.
    every_join (λ x s l. (s, omega (arith, p.1))) new (stepped_sane I k r b new p.0 d) (stepped_mass I k r b new p.0 d)) h).1
