-- No fewer than the contradictions still to come on a branch: its literals with weight, its marks while it is not dead, and its
-- clauses that are not spent. At the root that is at most K.
use Rattle.std.specs.Prelude.{ℕ, zero, suc, ◌+◌, ◌<◌, ◌≤◌, min, Bool, true, ◌≡◌, refl, length, List, [], ◌∷◌, ◌++◌}
use Rattle.std.proofs.Common.{arith}
use Rattle.std.proofs.Math.Bool.{false, not}
use Rattle.std.proofs.Math.Option.{some}
use Rattle.std.proofs.Math.Path.{ap, ap₂}
use Rattle.instance.specs.Clause.{Literal, pos, neg, Weight, hard, soft, Body, clause, Clause, variable_of, opposite, clause_at}
use Rattle.instance.specs.Within.{Every, In, InBody}
use Rattle.calculus.specs.Branch.{
  Branch,
  blank,
  set_weight,
  mark,
  book,
  kill,
  with_rules,
  keep,
  put_at,
  put,
  unit_of,
  nothing,
  gain,
  several,
  numbered,
  enter,
  root_from,
  root,
  spent,
}
use Rattle.calculus.proofs.Theorems.Basics.{due, due_true, due_false, every_among}
use Rattle.calculus.proofs.Theorems.Sum.{fold}
use Rattle.calculus.proofs.Theorems.Literals.{lit_sum, lit_sum_zero, lit_sum_pair, lit_sum_ge, lit_sum_weight, lit_sum_mark}
use Rattle.calculus.proofs.Theorems.Fair.{Sane, literals_in_lem}
use Rattle.calculus.proofs.Theorems.Leaves.{remaining, remaining_put, remaining_keep, remaining_spent}
use Rattle.calculus.proofs.Theorems.Root.{Covered}
use Rattle.calculus.proofs.Theorems.Cases.{Dies, Takes, Contradiction, both_hard, one_hard, both_soft, Extension, opens, branches_each}

-- 1 for a weight
positive : ℕ → ℕ
positive zero = 0
positive (suc v) = 1

weighted : ℕ → Branch → ℕ
weighted n b = lit_sum n (λ k. positive (b.weight k))

marks : ℕ → Branch → ℕ
marks n b = lit_sum n (λ k. due (b.marked k) 1)

pub potential : ℕ → Branch → ℕ
potential n b = weighted n b + due (not b.dead) (marks n b) + remaining b.rules

pub remaining_potential : (n : ℕ) (b : Branch) → remaining b.rules ≤ potential n b
unfolding potential
remaining_potential n b = omega arith

positive_most : (v : ℕ) → positive v ≤ 1
unfolding positive
positive_most zero = omega arith
positive_most (suc v) = omega arith

positive_not : (v : ℕ) → v ≡ 0 → positive v ≡ 0
positive_not v e = rw e (unfold positive in refl)

positive_is : (v : ℕ) → 0 < v → positive v ≡ 1
unfolding positive
positive_is zero h = absurd (omega arith)
positive_is (suc v) h = refl

-- of two weights whose smaller is 0, one counts at most
positive_pair : (v w : ℕ) → min v w ≡ 0 → positive v + positive w ≤ 1
unfolding positive
positive_pair zero zero h = omega arith
positive_pair zero (suc w) h = omega arith
positive_pair (suc v) zero h = omega arith
positive_pair (suc v) (suc w) h = absurd (omega arith)

module _ (n : ℕ) where
  -- ---- the single changes
  weighted_set : (l : Literal) (v : ℕ) (b : Branch) → In n l →
      weighted n (set_weight l v b) + positive (b.weight l) ≡ weighted n b + positive v
  unfolding weighted
  weighted_set l v b h = lit_sum_weight n l b h (λ k u. positive u) v

  rules_potential : (cs : List Clause) (b : Branch) →
      potential n (with_rules cs b) + remaining b.rules ≡ potential n b + remaining cs
  unfolding potential weighted marks with_rules
  rules_potential cs b = omega arith

  -- a unit brings one at most
  unit_potential : (w : Weight) (l : Literal) (b : Branch) → In n l → potential n (unit_of w l b) ≤ potential n b + 1
  unfolding unit_of potential
  unit_potential hard l b h = unfold mark weighted in (by (not b.dead) (omega (arith, more)))
    where
      more : marks n (mark l b) + due (b.marked l) 1 ≡ marks n b + 1
      more = unfold marks due in (lit_sum_mark n l b h (λ k m. due m 1))

      by : (t : Bool) → marks n (mark l b) ≤ marks n b + 1 →
          lit_sum n (λ k. positive (b.weight k)) + due t (marks n (mark l b)) + remaining b.rules ≤
          lit_sum n (λ k. positive (b.weight k)) + due t (marks n b) + remaining b.rules + 1
      by true q = unfold due in (omega arith)
      by false q = unfold due in (omega arith)
  unit_potential (soft w) l b h =
      unfold set_weight marks in (omega (arith, weighted_set l (b.weight l + w) b h, positive_most (b.weight l + w)))

  nothing_potential : (w : Weight) (b : Branch) → potential n (nothing w b) ≤ potential n b
  unfolding nothing potential weighted marks kill book due
  nothing_potential hard b = omega arith
  nothing_potential (soft w) b = omega arith

  -- ---- the records
  -- a contradiction takes one away
  takes_potential : (l : Literal) (v w : ℕ) (b d : Branch) → In n l → Takes l v w b d →
      1 + (positive (d.weight l) + positive (d.weight (opposite l))) ≤ positive (b.weight l) + positive (b.weight (opposite l)) →
      1 + potential n d ≤ potential n b
  unfolding potential weighted marks
  takes_potential l v w b d h t less =
      omega (
        arith,
        lit_sum_pair n (λ k. positive (d.weight k)) (λ k. positive (b.weight k)) l h (λ k u. ap positive (t.elsewhere k u)),
        ap₂ (λ z m. due (not z) (lit_sum n (λ k. due (m k) 1))) t.dead t.marked,
        ap remaining t.rules,
      )

  dies_potential : (l : Literal) (b d : Branch) → In n l → b.dead ≡ false → b.marked l ≡ true → Dies b d →
      1 + potential n d ≤ potential n b
  unfolding potential weighted marks
  dies_potential l b d h q m t =
      omega (
        arith,
        ap (λ f. lit_sum n (λ k. positive (f k))) t.weight,
        ap remaining t.rules,
        due_false (not d.dead) (lit_sum n (λ k. due (d.marked k) 1)) (ap not t.dead),
        due_true (not b.dead) (lit_sum n (λ k. due (b.marked k) 1)) (ap not q),
        one,
      )
    where
      one : 1 ≤ lit_sum n (λ k. due (b.marked k) 1)
      one = unfold due in (rw m at (lit_sum_ge n (λ k. due (b.marked k) 1) l h))

  pub contradict_potential : (x : ℕ) (b d : Branch) → 1 ≤ x → x ≤ n → b.dead ≡ false → Contradiction x b (some d) →
      1 + potential n d ≤ potential n b
  unfolding variable_of opposite
  contradict_potential x b d lo hi q (both_hard p r t) = dies_potential (pos x) b d (lo, hi) q p t
  contradict_potential x b d lo hi q (one_hard l v m w t) =
      takes_potential l (b.weight l) 0 b d (rw v (lo, hi)) t
      (omega (
        arith,
        positive_is (b.weight l) w,
        positive_not (d.weight l) (omega (arith, t.own)),
        ap positive (unchanged t.other),
      ))
    where
      unchanged : {u v : ℕ} → u + 0 ≡ v → u ≡ v
      unchanged e = omega arith
  contradict_potential x b d lo hi q (both_soft s e p t) =
      takes_potential (pos x) s s b d (lo, hi) t
      (omega (
        arith,
        positive_is (b.weight (pos x)) (omega arith),
        positive_is (b.weight (neg x)) (omega arith),
        positive_pair (d.weight (pos x)) (d.weight (neg x)) (omega (arith, t.own, t.other)),
      ))

  -- an extension takes a clause away and brings a unit
  put_potential : (b : Branch) (i : ℕ) (c : Clause) → clause_at b.rules i ≡ some c → spent c.weight ≡ false →
      1 + potential n (put i (soft 0) b) ≡ potential n b
  unfolding put with_rules
  put_potential b i c e u = omega (arith, rules_potential (put_at b.rules i (soft 0)) b, remaining_put b i c e u)

  pub extend_potential : (b : Branch) (i : ℕ) (c : Clause) (bs : List Branch) → Sane n b → clause_at b.rules i ≡ some c →
      Extension b i c (some bs) →
      Every (λ d. potential n d ≤ potential n b) bs
  extend_potential b i c bs s e (opens l k ks q t u) =
      branches_each (λ d. potential n d ≤ potential n b) c.weight (put i (soft 0) b) (l ∷ k ∷ ks) (λ j m.
      omega (
        arith,
        put_potential b i c e u,
        unit_potential c.weight j (put i (soft 0) b) (every_among (In n) (l ∷ k ∷ ks) (literals_in_lem n b i c (l ∷ k ∷ ks) s e q) m),
      ))

  -- ---- the root
  keep_potential : (w : Weight) (p : Body) (b : Branch) →
      potential n (keep w p b) + remaining b.rules ≡ potential n b + remaining (keep w p b).rules
  unfolding keep with_rules
  keep_potential w p b = rules_potential (b.rules ++ (record { weight = w; body = p } ∷ [])) b

  enter_potential : (w : Weight) (p : Body) (b : Branch) → InBody n p → potential n (enter w p b) ≤ potential n b + 1
  unfolding enter numbered several gain
  enter_potential w (clause []) b h =
      omega (arith, keep_potential (soft 0) (clause []) (nothing w b), remaining_spent (clause []) (nothing w b), nothing_potential w b)
  enter_potential w (clause (l ∷ [])) b h =
      omega (
        arith,
        keep_potential (soft 0) (clause (l ∷ [])) (unit_of w l b),
        remaining_spent (clause (l ∷ [])) (unit_of w l b),
        unit_potential w l b h.0,
      )
  enter_potential w (clause (l ∷ k ∷ ks)) b h =
      omega (arith, keep_potential w (clause (l ∷ k ∷ ks)) b, remaining_keep w (clause (l ∷ k ∷ ks)) b)

  root_from_potential : (b : Branch) (cs : List Clause) → Covered n cs → potential n (root_from b cs) ≤ potential n b + length cs
  unfolding root_from
  root_from_potential b [] h = omega arith
  root_from_potential b (c ∷ cs) h =
      omega (arith, root_from_potential (enter c.weight c.body b) cs h.1, enter_potential c.weight c.body b h.0)

  pub root_potential : (cs : List Clause) → Covered n cs → potential n (root cs) ≤ length cs
  unfolding root
  root_potential cs h = omega (arith, root_from_potential blank cs h, empty)
    where
      empty : potential n blank ≡ 0
      empty = unfold potential weighted marks blank positive due fold in (omega (arith, lit_sum_zero n (λ k. 0) (λ k h. refl)))
