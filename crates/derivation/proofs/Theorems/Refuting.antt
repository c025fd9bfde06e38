-- Refusal 22 over bytes: the layout found meets the hard clauses and, under M, falsifies less than m.
use Rattle.std.specs.Prelude.{Bool, List, [], ◌∷◌, map, leb, length, get_or, ℕ, zero, suc, ◌+◌, ◌<◌, ◌≤◌}
use Rattle.std.proofs.Math.Bool.{true, false}
use Rattle.std.proofs.Math.Path.{◌≡◌, refl, ap, subst}
use Rattle.std.proofs.Common.{sym, ◌∙◌, arith}
use Rattle.std.proofs.Math.Dec.{eqb}
use Rattle.std.proofs.Math.ListN.{length-map}
use Rattle.instance.specs.Clause.{Problem}
use Rattle.instance.specs.Meaning.{assigned, feasible, cost}
use Rattle.instance.specs.Refusals.{staged}
use Rattle.instance.specs.Within.{Every, Fits}
use Rattle.instance.specs.Theorems.Choices.{never}
use Rattle.instance.specs.declared.answers.Aim.{Aim}
use Rattle.instance.specs.declared.answers.Claim.{Claim}
use Rattle.instance.specs.declared.answers.Claim.TheVariants.{Minimum, Infeasible}
use Rattle.instance.specs.declared.answers.Valued.{Valued}
use Rattle.reader.specs.Reading.{Reading, read, refused, read_of}
use Rattle.reader.proofs.Theorems.Limits.{read_within}
use Rattle.valuation.specs.Value.{valued}
use Rattle.valuation.specs.Theorems.Value.{Weighed, OnWorth, valued_weighed}
use Rattle.calculus.specs.Branch.{Branch, root}
use Rattle.calculus.specs.Claims.{Below, Refutes}
use Rattle.calculus.specs.Writing.{from, Draft, wrote, no_room, stuck, write_from, found}
use Rattle.calculus.proofs.Theorems.Agree.{feasible_agree, cost_agree}
use Rattle.calculus.proofs.Theorems.Stuck.{stuck_refutes}
use Rattle.derivation.specs.Bytes.{claim_size}
use Rattle.derivation.specs.Write.{Outcome, derivation, turned_away, refuted, bit, found_bytes, finished, written, cheapest, aimed, write_of}
use Rattle.derivation.specs.Demands.{Layout, Of, Due, Refuted}

-- ---- the found bytes say what the branch says, for the variables 1 to n
bit_true : (t : Bool) → eqb (bit t) 1 ≡ t
unfolding bit
bit_true true = refl
bit_true false = refl

bits_at : (f : ℕ → ℕ) (a d i : ℕ) → i < d → get_or (map f (from a d)) i 0 ≡ f (a + i)
unfolding from
bits_at f a zero i h = absurd (omega arith)
bits_at f a (suc d) zero h = ap f (omega arith)
bits_at f a (suc d) (suc i) h = bits_at f (suc a) d i (omega arith) ∙ ap f (omega arith)

length_from : (a d : ℕ) → length (from a d) ≡ d
unfolding from
length_from a zero = refl
length_from a (suc d) = ap suc (length_from (suc a) d)

module _ (n : ℕ) (b : Branch) where
  pub length_found : length (found_bytes n b) ≡ n
  unfolding found_bytes
  length_found = length-map (from 1 n) (λ x. bit (found b x)) ∙ length_from 1 n

  found_bits : Every (λ v. v ≤ 1) (found_bytes n b)
  unfolding found_bytes
  found_bits = every (from 1 n)
    where
      small : (t : Bool) → bit t ≤ 1
      small true = unfold bit in (omega arith)
      small false = unfold bit in (omega arith)

      every : (xs : List ℕ) → Every (λ v. v ≤ 1) (map (λ x. bit (found b x)) xs)
      every [] = tt
      every (x ∷ xs) = (small (found b x), every xs)

  found_assigned : (x : ℕ) → 1 ≤ x → x ≤ n → assigned (found_bytes n b) x ≡ found b x
  unfolding assigned found_bytes
  found_assigned zero lo hi = absurd (omega arith)
  found_assigned (suc x) lo hi =
      ap (λ v. eqb v 1) (bits_at (λ x. bit (found b x)) 1 n x (omega arith) ∙ ap (λ y. bit (found b y)) (omega arith)) ∙ bit_true (found b (suc x))

module _ (text bytes : List ℕ) where
  -- of an outcome that is 22
  abbrev OnRefuted : (List ℕ → Type 0) → Outcome → Type 0
  OnRefuted P (derivation bs n) = Unit {0}
  OnRefuted P (turned_away s) = Unit {0}
  OnRefuted P (refuted f) = P f

  module _ (I : Problem) (reads : read_of text ≡ read I) where
    -- the layout found, under the claim k
    record Undercut (k : Claim) (f : List ℕ) : Type 0 where
      layout : Layout I f
      below : Below k (cost (assigned f) I.clauses)

    stuck_undercut : (k : Claim) (b : Branch) → Refutes I k (found b) → Undercut k (found_bytes I.variables b)
    stuck_undercut k b r = record {
      layout = record { size = length_found I.variables b; bits = found_bits I.variables b; meets = same_feasible ∙ r.meets };
      below = subst (Below k) (sym same_cost) r.less;
    }
      where
        fits : Fits I
        fits = (read_within text I reads).fits

        same_feasible : feasible (assigned (found_bytes I.variables b)) I.clauses ≡ feasible (found b) I.clauses
        same_feasible = feasible_agree I.variables (assigned (found_bytes I.variables b)) (found b) (found_assigned I.variables b) I.clauses fits

        same_cost : cost (assigned (found_bytes I.variables b)) I.clauses ≡ cost (found b) I.clauses
        same_cost = cost_agree I.variables (assigned (found_bytes I.variables b)) (found b) (found_assigned I.variables b) I.clauses fits

    written_undercut : (room : ℕ) (k : Claim) → OnRefuted (Undercut k) (written I room k)
    unfolding written
    written_undercut room k = by (leb (claim_size k) room)
      where
        start : Draft
        start = write_from I k (suc room) room (claim_size k) (root I.clauses ∷ [])

        on_draft : (w : Draft) → start ≡ w → OnRefuted (Undercut k) (finished I k w)
        on_draft (wrote rs) e = unfold finished in tt
        on_draft (no_room at) e = unfold finished in tt
        on_draft (stuck b) e = unfold finished in (stuck_undercut k b (stuck_refutes I k (read_within text I reads).fits (suc room) room (claim_size k) b e))

        by : (t : Bool) → OnRefuted (Undercut k) (elim t as (λ _. Outcome) [ false ↦ turned_away (staged 21 0) | true ↦ finished I k start ])
        by true = on_draft start refl
        by false = tt

    -- under M the claim is the lent layout's weight
    cheapest_refuted : (room : ℕ) (v : Valued) → OnWorth (Weighed I bytes) v → OnRefuted (Refuted I bytes Aim.Cheapest) (cheapest I room v)
    unfolding cheapest
    cheapest_refuted room (Valued.Refused s) w = tt
    cheapest_refuted room (Valued.Worth first weight) w = by (eqb first 0)
      where
        by_weight : (o : Outcome) → OnRefuted (Undercut (Minimum weight)) o → OnRefuted (Refuted I bytes Aim.Cheapest) o
        by_weight (derivation bs n) u = tt
        by_weight (turned_away s) u = tt
        by_weight (refuted f) u = record { layout = u.layout; cheaper = omega (arith, u.below, w.costs) }

        by : (t : Bool) → OnRefuted (Refuted I bytes Aim.Cheapest) (elim t as (λ _. Outcome) [
          | false ↦ turned_away (staged 12 first)
          | true ↦ written I room (Minimum weight)
        ])
        by true = by_weight (written I room (Minimum weight)) (written_undercut room (Minimum weight))
        by false = tt

    infeasible_refuted : (o : Outcome) → OnRefuted (Undercut Infeasible) o → OnRefuted (Refuted I bytes Aim.Infeasible) o
    infeasible_refuted (derivation bs n) u = tt
    infeasible_refuted (turned_away s) u = tt
    infeasible_refuted (refuted f) u = record { layout = u.layout; cheaper = tt }

    aimed_refuted : (room : ℕ) (a : Aim) → OnRefuted (Refuted I bytes a) (aimed I bytes room a)
    unfolding aimed
    aimed_refuted room Aim.Cheapest = cheapest_refuted room (valued I bytes) (valued_weighed I bytes)
    aimed_refuted room Aim.Infeasible = infeasible_refuted (written I room Infeasible) (written_undercut room Infeasible)

  -- "22: Write: an assignment was found that refutes the claim": "a layout that meets the hard clauses and, under M, falsifies
  -- less than m".
  pub found_refutes : (a : Aim) (room : ℕ) (f : List ℕ) → write_of a text bytes room ≡ refuted f → Of text (λ I. Refuted I bytes a f)
  unfolding write_of
  found_refutes a room f e = by (read_of text) refl e
    where
      by : (r : Reading) → read_of text ≡ r →
          ◌≡◌ {A = Outcome} (elim r [ refused n p ↦ turned_away (staged n p) | read I ↦ aimed I bytes room a ]) (refuted f) → Of text (λ I. Refuted I bytes a f)
      by (refused n p) q e = subst (OnRefuted (λ f. Of text (λ I. Refuted I bytes a f))) e tt
      by (read I) q e = (I, q, subst (OnRefuted (Refuted I bytes a)) e (aimed_refuted I q room a))

  -- So Write never answers 22 for a cheapest layout or a true N.
  pub due_unrefuted : (I : Problem) (a : Aim) (k : Claim) → Due I bytes a k → (f : List ℕ) → Refuted I bytes a f → ⊥
  due_unrefuted I Aim.Cheapest (Minimum m) d f r = omega (arith, d.least (assigned f) r.layout.meets, d.exact, r.cheaper)
  due_unrefuted I Aim.Cheapest Infeasible d f r = d
  due_unrefuted I Aim.Infeasible (Minimum m) d f r = d
  due_unrefuted I Aim.Infeasible Infeasible d f r = let z : true ≡ false = sym r.layout.meets ∙ d (assigned f) in never z
