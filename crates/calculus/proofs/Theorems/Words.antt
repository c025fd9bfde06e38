-- 01's own sentences about the rules (section "The branch").
use Rattle.std.specs.Prelude.{ℕ, zero, suc, ◌≤◌, true, ◌≡◌, refl, List, [], ◌∷◌}
use Rattle.std.proofs.Math.Bool.{and-eq-true_iff}
use mathlib.Core.List.Memᴰ
use mathlib.Core.List.{Memᴰ as Among}
use Rattle.std.proofs.Math.Option.{some}
use Rattle.std.proofs.Math.Path.{ap}
use Rattle.std.proofs.Common.{subst, ◌∙◌, arith}
use Rattle.instance.specs.Clause.{Literal, soft, Clause, Problem, clause_at}
use Rattle.instance.specs.Meaning.{Assignment, fine, feasible, cost}
use Rattle.instance.specs.Within.{Every, Fits}
use Rattle.instance.specs.declared.answers.Claim.{Claim}
use Rattle.calculus.specs.declared.Record.{Record}
use Rattle.calculus.specs.Branch.{Branch, with_rules, put_at, put, root, extend, contradict}
use Rattle.calculus.specs.Paths.{Path}
use Rattle.calculus.proofs.Theorems.Basics.{every_weaken, every_join}
use Rattle.calculus.proofs.Theorems.Cases.{Contradiction, contradiction, Extension, extension}
use Rattle.calculus.proofs.Theorems.Steps.{Stepped, closed, contradicted, extended}
use Rattle.calculus.proofs.Theorems.Fair.{Sane}
use Rattle.calculus.proofs.Theorems.Extension.{extend_fair}
use Rattle.calculus.proofs.Theorems.Contradiction.{contradict_fair}
use Rattle.calculus.proofs.Theorems.Paths.{path_kept, path_sane}
use Rattle.calculus.proofs.Theorems.Reckoned.{reckoned, MeetsMarks, Admits, raw_admits, Kept, kept_in_one, extend_unlowered}
use Rattle.calculus.proofs.Theorems.Root.{root_worth, bill_cost, sane_root}
use Rattle.calculus.proofs.Theorems.Sound.{stepped_sane}
use Rattle.calculus.proofs.Theorems.Unchanged.{Gained, contradiction_leaves, extension_leaves}

-- an assignment "that meets all hard clauses and the path's hard marks"
pub record Meets (I : Problem) (σ : Assignment) (b : Branch) : Type 0 where
  pub hards : feasible σ I.clauses ≡ true
  pub marks : MeetsMarks I.variables σ b

-- kept in a branch whose marks the assignment meets too, and lowered in none, whether it meets their marks or not
pub record Preserved (I : Problem) (σ : Assignment) (b : Branch) (bs : List Branch) : Type 0 where
  pub kept : (d : Branch) × Among d bs × Meets I σ d × (reckoned I.variables σ d ≡ reckoned I.variables σ b)
  pub unlowered : Every (λ d. reckoned I.variables σ b ≤ reckoned I.variables σ d) bs

-- a clause that is spent asks nothing
put_feasible : (σ : Assignment) (cs : List Clause) (i : ℕ) → feasible σ cs ≡ true → feasible σ (put_at cs i (soft 0)) ≡ true
unfolding feasible put_at fine
put_feasible σ [] i f = refl
put_feasible σ (c ∷ cs) zero f = f
put_feasible σ (c ∷ cs) (suc zero) f = ((and-eq-true_iff (fine σ c.weight c.body) (feasible σ cs)).0 f).1
put_feasible σ (c ∷ cs) (suc (suc i)) f =
    let r = (and-eq-true_iff (fine σ c.weight c.body) (feasible σ cs)).0 f in
    (and-eq-true_iff (fine σ c.weight c.body) (feasible σ (put_at cs (suc i) (soft 0)))).1 (r.0, put_feasible σ cs (suc i) r.1)

module _ (I : Problem) (fits : Fits I) (k : Claim) (σ : Assignment) where
  abbrev n : ℕ
  n = I.variables

  root_admits : feasible σ I.clauses ≡ true → Admits n σ (root I.clauses)
  root_admits f =
      let H = suc (cost σ I.clauses) in
      raw_admits n σ H (root I.clauses) (omega (arith, root_worth H n σ I.clauses fits, bill_cost H n σ I.clauses f))

  contradiction_admits : (x : ℕ) (b d : Branch) → 1 ≤ x → x ≤ n → Sane n b → Contradiction x b (some d) → Admits n σ b →
      Kept n σ b d
  contradiction_admits x b d lo hi s c a =
      let t = kept_in_one n σ b (d ∷ []) a (λ H. contradict_fair H n x b d lo hi s c) in
      subst (Kept n σ b) (Memᴰ.eq_of_singleton t.1) t.2

  -- an assignment that meets the marks after a record admits the branch, if it did so before
  stepped_admits : (r : Record) (b : Branch) (new : List Branch) → Sane n b → (MeetsMarks n σ b → Admits n σ b) →
      Stepped I k b r new →
      Every (λ d. MeetsMarks n σ d → Admits n σ d) new
  stepped_admits r b new s a (closed e) = tt
  stepped_admits r b new s a (contradicted {b' = d} x q lo hi c) =
      ((λ m. (contradiction_admits x b d lo hi s c (a (λ l i q. m l i (same l ∙ q)))).0), tt)
    where
      same : (l : Literal) → d.marked l ≡ b.marked l
      same l = ap (λ f. f l) (contradiction_leaves x b d c).marked
  stepped_admits r b new s a (extended i c q e x) = every_weaken one new (extension_leaves b i c new x)
    where
      one : (d : Branch) → Gained (put i (soft 0) b) d → MeetsMarks n σ d → Admits n σ d
      one d g m =
          let h = a (λ l i q. m l i (g.marked l (unfold put with_rules in q))) in
          record {
            alive = g.dead ∙ unfold put with_rules in h.alive;
            marks = m;
            hards = ap (feasible σ) g.rules ∙ unfold put with_rules in (put_feasible σ b.rules i h.hards);
          }

  path_admits : {b : Branch} {e c : ℕ} → Path I k b e c → Meets I σ b → Admits n σ b
  path_admits h m =
      (path_kept I k (λ b. Sane n b × (MeetsMarks n σ b → Admits n σ b)) (sane_root n I.clauses fits, λ q. root_admits m.hards)
      (λ r b new p d.
      every_join (λ x s f. (s, f)) new (stepped_sane I k r b new p.0 d) (stepped_admits r b new p.0 p.1 d)) h).1 m.marks

  module _ {b : Branch} {e c : ℕ} (path : Path I k b e c) (meets : Meets I σ b) where
    -- "Along a path, for each assignment that meets all hard clauses and the path's hard marks, booked cost plus falsified live
    -- weight is unchanged by a contradiction."
    pub contradiction_keeps : (x : ℕ) (d : Branch) → 1 ≤ x → x ≤ n → contradict x b ≡ some d →
        Meets I σ d × (reckoned n σ d ≡ reckoned n σ b)
    contradiction_keeps x d lo hi q =
        let c = subst (Contradiction x b) q (contradiction x b) in
        let t = contradiction_admits x b d lo hi (path_sane I k fits path) c (path_admits path meets) in
        (record { hards = meets.hards; marks = t.0.marks }, t.1)

    -- "An extension keeps it in at least one branch and lowers it in none."
    pub extension_keeps : (i : ℕ) (r : Clause) (bs : List Branch) → clause_at b.rules i ≡ some r → extend b i r ≡ some bs →
        Preserved I σ b bs
    extension_keeps i r bs p q =
        let t = kept_in_one n σ b bs (path_admits path meets) (λ H. extend_fair H n b i r bs sane p x) in
        record {
          kept = (t.0, t.1, record { hards = meets.hards; marks = t.2.0.marks }, t.2.1);
          unlowered = extend_unlowered n σ b i r bs sane p x;
        }
      where
        sane : Sane n b
        sane = path_sane I k fits path

        x : Extension b i r (some bs)
        x = subst (Extension b i r) q (extension b i r)
