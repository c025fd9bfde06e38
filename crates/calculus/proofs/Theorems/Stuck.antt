-- Refusal 22: a branch on which nothing is allowed gives an assignment that refutes the claim.
use Rattle.std.specs.Prelude.{ℕ, zero, suc, ◌≤◌, ◌<◌, min, Bool, not, List, [], ◌∷◌, ◌≡◌}
use Rattle.std.proofs.Math.Bool.{true, false}
use Rattle.std.proofs.Math.Option.{some, none}
use Rattle.std.proofs.Math.Path.{refl, subst}
use Rattle.std.proofs.Common.{sym, arith}
use Rattle.instance.specs.Clause.{Literal, pos, neg, Weight, hard, soft, Clause, Problem, variable_of, clause_at}
use Rattle.instance.specs.Meaning.{Assignment, holds, broken, feasible}
use Rattle.instance.specs.Within.{Every, In, Fits}
use Rattle.instance.specs.declared.answers.Claim.{Claim}
use Rattle.instance.specs.declared.answers.Claim.TheVariants.{Minimum, Infeasible}
use Rattle.calculus.specs.declared.Record.{Record}
use Rattle.calculus.specs.Branch.{Branch, numbered, spent, root}
use Rattle.calculus.specs.Claims.{Below, Refutes}
use Rattle.calculus.specs.Writing.{candidates, first, Draft, wrote, no_room, stuck, also, write_from, found}
use Rattle.calculus.proofs.Theorems.Basics.{tests, or-false, or_second, clash, due, due_false, due_zero, every_append, every_among, every_all, every_at, every_of}
use Rattle.calculus.proofs.Theorems.Sum.{sum_zero}
use Rattle.calculus.proofs.Theorems.Literals.{lit_sum_zero}
use Rattle.calculus.proofs.Theorems.Tautology.{tautology_holds}
use Rattle.calculus.proofs.Theorems.Choice.{Stuck, Choice, finds, choice}
use Rattle.calculus.proofs.Theorems.Cases.{Contradiction, no_weight, no_pair, contradiction, Extension, over, short, twofold, extension}
use Rattle.calculus.proofs.Theorems.Steps.{Stepped}
use Rattle.calculus.proofs.Theorems.Worth.{toll, charge, bill, unit_toll, units, raw, worth, least_among}
use Rattle.calculus.proofs.Theorems.Fair.{Whole, Sane}
use Rattle.calculus.proofs.Theorems.Root.{root_worth, bill_cost, bill_feasible, sane_root}
use Rattle.calculus.proofs.Theorems.Sound.{Caps, stepped_fair, stepped_sane}
use Rattle.calculus.proofs.Theorems.Written.{write_kept}

-- ---- the layout found
found_true : (b : Branch) (x : ℕ) → found b x ≡ true → b.marked (pos x) ≡ false → 0 < b.weight (pos x)
unfolding found
found_true b x e m = let h = or_second (b.marked (pos x)) _ e m in omega (arith, tests)

found_false : (b : Branch) (x : ℕ) → found b x ≡ false → (b.marked (pos x) ≡ false) × (b.weight (pos x) ≡ 0)
unfolding found
found_false b x e = let h = or-false _ _ e in (h.0, let l = h.1 in omega (arith, tests))

bare : (H : ℕ) (b : Branch) (k : Literal) → b.marked k ≡ false → b.weight k ≡ 0 → unit_toll H b k ≡ 0
unfolding unit_toll
bare H b k m w = rw (m, w) (unfold due in refl)

-- where there is nothing to contradict, a positive literal that holds leaves its opposite bare
quiet : (H : ℕ) (b : Branch) (x : ℕ) → Contradiction x b none → found b x ≡ true → unit_toll H b (neg x) ≡ 0
unfolding variable_of
quiet H b x (no_pair p q m) e = bare H b (neg x) q (omega (arith, found_true b x e p))
quiet H b x (no_weight l v m u w) e = by l v u w
  where
    by : (l : Literal) → variable_of l ≡ x → b.marked l ≡ false → b.weight l ≡ 0 → unit_toll H b (neg x) ≡ 0
    by (pos y) v u w = absurd (omega (arith, found_true b y (subst (λ z. found b z ≡ true) (sym v) e) u))
    by (neg y) v u w = subst (λ z. unit_toll H b (neg z) ≡ 0) v (bare H b (neg y) u w)

-- ---- it is worth what is booked
module _ (H : ℕ) (I : Problem) (k : Claim) (b : Branch) (s : Stuck I k b) (sane : Sane I.variables b) where
  abbrev n : ℕ
  n = I.variables

  -- no literal that it makes false has weight or a mark
  found_units : units H n (found b) b ≡ 0
  unfolding units holds variable_of
  found_units = lit_sum_zero n (λ k. due (not (holds (found b) k)) (unit_toll H b k)) none_live
    where
      none_live : (k : Literal) → In n k → due (not (holds (found b) k)) (unit_toll H b k) ≡ 0
      none_live (pos x) h = by (found b x) refl
        where
          by : (t : Bool) → found b x ≡ t → due (not t) (unit_toll H b (pos x)) ≡ 0
          by true e = unfold due in refl
          by false e = let f = found_false b x e in unfold due in (bare H b (pos x) f.0 f.1)
      none_live (neg x) h = by (found b x) refl
        where
          settled : Contradiction x b none
          settled = subst (Contradiction x b) (s.no_contradiction x h.0 h.1) (contradiction x b)

          by : (t : Bool) → found b x ≡ t → due (not (not t)) (unit_toll H b (neg x)) ≡ 0
          by true e = unfold due in (quiet H b x settled e)
          by false e = unfold due in refl

  -- a clause that can't be extended is spent or a tautology
  free : (i : ℕ) (c : Clause) → Whole n c → Extension b i c none → charge H (found b) c ≡ 0
  unfolding charge
  free i c h e = by e
    where
      weightless : c.weight ≡ soft 0 → due (broken (found b) c.body) (toll H c.weight) ≡ 0
      weightless e = rw e (unfold toll in (due_zero (broken (found b) c.body)))

      is_spent : (w : Weight) → spent w ≡ true → w ≡ soft 0
      is_spent hard e = unfold spent in (clash e refl)
      is_spent (soft zero) e = refl
      is_spent (soft (suc w)) e = unfold spent in (clash e refl)

      by : Extension b i c none → due (broken (found b) c.body) (toll H c.weight) ≡ 0
      by (over u) = weightless (is_spent c.weight u)
      by (short ls q u) = weightless (h.short (rw q (unfold numbered in u)))
      by (twofold ls q t) = rw q (unfold broken in (rw (tautology_holds (found b) ls t) (unfold due in refl)))

  found_bill : bill H (found b) b.rules ≡ 0
  found_bill = sum_zero (charge H (found b)) b.rules (every_of (λ c. charge H (found b) c ≡ 0) b.rules each)
    where
      each : (i : ℕ) (c : Clause) → clause_at b.rules i ≡ some c → charge H (found b) c ≡ 0
      each i c e =
          free i c (every_at (Whole n) b.rules i c sane e) (subst (Extension b i c) (s.no_extension i c e) (extension b i c))

  found_raw : raw H n (found b) b ≡ b.booked
  unfolding raw
  found_raw = omega (arith, found_units, found_bill, due_false b.dead H s.alive)

-- ---- along the records a branch stays worth what the clauses come to, at least
module _ (I : Problem) (k : Claim) where
  abbrev Worthy : Branch → Type 0
  Worthy b = (H : ℕ) → Caps k H → (σ : Assignment) → min H (bill H σ I.clauses) ≤ worth H I.variables σ b

  record Faithful (b : Branch) : Type 0 where
    worthy : Worthy b
    sane : Sane I.variables b

  root_faithful : Fits I → Faithful (root I.clauses)
  root_faithful fits = record {
    worthy = λ H c σ. omega (arith, root_worth H I.variables σ I.clauses fits);
    sane = sane_root I.variables I.clauses fits;
  }

  stepped_faithful : (r : Record) (b : Branch) (new : List Branch) → Faithful b → Stepped I k b r new → Every Faithful new
  stepped_faithful r b new f d = every_all Faithful new (λ x m. record {
    worthy = λ H c σ. omega (
      arith,
      f.worthy H c σ,
      (stepped_fair I k H c r b new f.sane d).even σ,
      least_among H I.variables σ new m,
    );
    sane = every_among (Sane I.variables) new (stepped_sane I k r b new f.sane d) m;
  })

  found_refutes : (b : Branch) → Faithful b → Stuck I k b → Refutes I k (found b)
  found_refutes b f s = by k f.worthy s.below
    where
      worth_booked : (H : ℕ) → raw H I.variables (found b) b ≡ b.booked
      worth_booked H = found_raw H I k b s f.sane

      meets : (H : ℕ) → b.booked < H → min H (bill H (found b) I.clauses) ≤ worth H I.variables (found b) b →
          feasible (found b) I.clauses ≡ true
      meets H l h = bill_feasible H I.variables (found b) I.clauses (omega (arith, worth_booked H))

      by : (k : Claim) → ((H : ℕ) → Caps k H → (σ : Assignment) → min H (bill H σ I.clauses) ≤ worth H I.variables σ b) →
          Below k b.booked → Refutes I k (found b)
      by (Minimum m) h l =
          let u = meets m l (h m refl (found b)) in
          record {
            meets = u;
            less = omega (arith, bill_cost m I.variables (found b) I.clauses u, worth_booked m, h m refl (found b));
          }
      by Infeasible h l = record { meets = meets (suc b.booked) (omega arith) (h (suc b.booked) tt (found b)); less = tt }

  stuck_here : (b : Branch) → first I k (candidates I b) b ≡ none → Stuck I k b
  stuck_here b e = by (subst (Choice I k b) e (choice I k b))
    where
      by : Choice I k b none → Stuck I k b
      by (finds s) = s

  abbrev OnStuck : Draft → Type 0
  OnStuck (wrote rs) = Unit {0}
  OnStuck (no_room at) = Unit {0}
  OnStuck (stuck b) = Refutes I k (found b)

  -- 22: found holds "a layout that meets the hard clauses and, under M, falsifies less than m".
  pub stuck_refutes : Fits I → (fuel room at : ℕ) (b : Branch) → write_from I k fuel room at (root I.clauses ∷ []) ≡ stuck b →
      Refutes I k (found b)
  stuck_refutes fits fuel room at b e =
      subst OnStuck e (write_kept I k room (λ fuel at. Every Faithful) (λ at bs. OnStuck) (record {
        end = λ fuel at h. tt;
        dry = λ at b bs h. tt;
        full = λ fuel at b bs m h d l. tt;
        halt = λ fuel at b bs h e. found_refutes b h.0 (stuck_here b e);
        next = λ fuel at b bs m h d l.
            every_append Faithful m.places bs (stepped_faithful m.chosen b m.places h.0 d.move.did) h.1;
        more = λ fuel at b bs m h d l. one_more m.chosen;
      }) fuel at (root I.clauses ∷ []) (root_faithful fits, tt))
    where
      one_more : (r : Record) (w : Draft) → OnStuck w → OnStuck (also r w)
      one_more r (wrote rs) h = unfold also in tt
      one_more r (no_room at) h = unfold also in tt
      one_more r (stuck b) h = unfold also in h
