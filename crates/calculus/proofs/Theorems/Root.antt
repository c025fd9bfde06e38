-- What the root is worth: what the clauses come to.
use Rattle.std.specs.Prelude.{ℕ, ◌+◌, ◌<◌, min, Bool, ◌≡◌, List, [], ◌∷◌}
use Rattle.std.proofs.Common.{arith}
use Rattle.std.proofs.Math.Bool.{true, false, not, and-eq-true_iff}
use Rattle.std.proofs.Math.Path.{refl}
use Rattle.instance.specs.Clause.{Weight, hard, soft, Body, Clause}
use Rattle.instance.specs.Meaning.{Assignment, holds, broken, fine, feasible, priced, cost}
use Rattle.instance.specs.Within.{Every, InBody}
use Rattle.calculus.specs.Branch.{Branch, blank, gain, numbered, enter, root_from, root}
use Rattle.calculus.proofs.Theorems.Basics.{clash, due, due_zero}
use Rattle.calculus.proofs.Theorems.Sum.{fold}
use Rattle.calculus.proofs.Theorems.Literals.{lit_sum_zero}
use Rattle.calculus.proofs.Theorems.Worth.{toll, charge, bill, unit_toll, units, raw, worth, Adds, raw_keep, adds_gain}
use Rattle.calculus.proofs.Theorems.Fair.{Sane, sane_keep, sane_gain}

-- Every clause's variables are among 1 to n.
abbrev pub Covered : ℕ → List Clause → Type 0
Covered n cs = Every (λ c. InBody n c.body) cs

module _ (H n : ℕ) (σ : Assignment) where
  adds_enter : (w : Weight) (p : Body) (b : Branch) → InBody n p → Adds H n σ (due (broken σ p) (toll H w)) b (enter w p b)
  unfolding enter
  adds_enter w p b h = by (numbered p) refl (adds_gain H n σ w p b h)
    where
      by : (t : Bool) → numbered p ≡ t → Adds H n σ (due (broken σ p) (toll H w)) b (gain w p b) →
          Adds H n σ (due (broken σ p) (toll H w)) b (enter w p b)
      by true e g = rw (e, enter) g
      by false e g = rw (e, enter) (unfold toll in (omega (arith, raw_keep H n σ (soft 0) p (gain w p b), due_zero (broken σ p))))

  root_from_worth : (b : Branch) (cs : List Clause) → Covered n cs →
      worth H n σ (root_from b cs) ≡ min H (raw H n σ b + bill H σ cs)
  unfolding root_from fold charge
  root_from_worth b [] h = omega arith
  root_from_worth b (c ∷ cs) h =
      omega (arith, root_from_worth (enter c.weight c.body b) cs h.1, adds_enter c.weight c.body b h.0)

  pub root_worth : (cs : List Clause) → Covered n cs → worth H n σ (root cs) ≡ min H (bill H σ cs)
  unfolding root
  root_worth cs h = omega (arith, root_from_worth blank cs h, empty)
    where
      empty : raw H n σ blank ≡ 0
      empty =
          unfold raw blank units unit_toll due fold in (
          omega (arith, lit_sum_zero n (λ k. due (not (holds σ k)) 0) (λ k h. due_zero (not (holds σ k)))))

  -- the bill of an assignment that meets the hard clauses is its cost
  pub bill_cost : (cs : List Clause) → feasible σ cs ≡ true → bill H σ cs ≡ cost σ cs
  unfolding fold charge cost feasible
  bill_cost [] f = refl
  bill_cost (c ∷ cs) f =
      let r = (and-eq-true_iff (fine σ c.weight c.body) (feasible σ cs)).0 f in
      omega (arith, bill_cost cs r.1, one c.weight r.0)
    where
      met : (t : Bool) → not t ≡ true → due t H ≡ 0
      met true e = clash e refl
      met false e = unfold due in refl

      weighed : (t : Bool) (w : ℕ) → due t w ≡ priced (soft w) t
      weighed true w = unfold due priced in refl
      weighed false w = unfold due priced in refl

      one : (w : Weight) → fine σ w c.body ≡ true → due (broken σ c.body) (toll H w) ≡ priced w (broken σ c.body)
      one hard e = unfold toll priced in (met (broken σ c.body) (unfold fine in e))
      one (soft w) e = unfold toll in (weighed (broken σ c.body) w)

  -- a bill below H shows that the hard clauses are met
  pub bill_feasible : (cs : List Clause) → bill H σ cs < H → feasible σ cs ≡ true
  unfolding fold charge feasible
  bill_feasible [] l = refl
  bill_feasible (c ∷ cs) l = rw (one c.weight (omega arith), bill_feasible cs (omega arith))
    where
      met : (t : Bool) → due t H < H → not t ≡ true
      met true e = unfold due in (absurd (omega arith))
      met false e = refl

      one : (w : Weight) → due (broken σ c.body) (toll H w) < H → fine σ w c.body ≡ true
      one hard e = unfold fine in (met (broken σ c.body) (unfold toll in e))
      one (soft w) e = unfold fine in refl

module _ (n : ℕ) where
  sane_enter : (w : Weight) (p : Body) (b : Branch) → InBody n p → Sane n b → Sane n (enter w p b)
  unfolding enter
  sane_enter w p b h s = by (numbered p) refl (sane_gain n w p b h s)
    where
      by : (t : Bool) → numbered p ≡ t → Sane n (gain w p b) → Sane n (enter w p b)
      by true e g = rw (e, enter) g
      by false e g = rw (e, enter) (sane_keep n (soft 0) p (gain w p b) h (λ q. refl) g)

  sane_from : (b : Branch) (cs : List Clause) → Covered n cs → Sane n b → Sane n (root_from b cs)
  unfolding root_from
  sane_from b [] h s = s
  sane_from b (c ∷ cs) h s = sane_from (enter c.weight c.body b) cs h.1 (sane_enter c.weight c.body b h.0 s)

  pub sane_root : (cs : List Clause) → Covered n cs → Sane n (root cs)
  unfolding root blank
  sane_root cs h = sane_from blank cs h tt
