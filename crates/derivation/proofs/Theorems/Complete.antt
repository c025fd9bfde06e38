-- Demand 3 over bytes: what Write gives for a true claim, Check accepts.
use Rattle.std.specs.Prelude.{ℕ, suc, ◌+◌, ◌≤◌, List, [], ◌∷◌, ◌++◌, map, ◌≡◌}
use Rattle.std.proofs.Math.Path.{refl, ap}
use Rattle.std.proofs.Common.{◌∙◌, arith, eq-eqb, le-leb}
use Rattle.std.proofs.Math.ListN.{length, length-append}
use Rattle.instance.specs.Clause.{Problem}
use Rattle.instance.specs.Meaning.{assigned, cost}
use Rattle.instance.specs.Within.{Every, Within}
use Rattle.instance.specs.Theorems.Every.{every_map}
use Rattle.instance.specs.Theorems.Weights.{cost_most}
use Rattle.instance.specs.declared.answers.Aim.{Aim}
use Rattle.instance.specs.declared.answers.Claim.{Claim}
use Rattle.instance.specs.declared.answers.Claim.TheVariants.{Minimum, Infeasible}
use Rattle.instance.specs.declared.answers.Checked.TheVariants.{Accepted}
use Rattle.instance.specs.declared.answers.Valued.{Valued}
use Rattle.reader.specs.Reading.{read, read_of}
use Rattle.reader.proofs.Theorems.Limits.{read_within}
use Rattle.valuation.specs.Value.{worth_of, valued}
use Rattle.valuation.specs.Theorems.Value.{valued_worth}
use Rattle.calculus.specs.Bounds.{bytes_of, InRange}
use Rattle.calculus.specs.Branch.{root}
use Rattle.calculus.specs.Claims.{True}
use Rattle.calculus.specs.Derivation.{whole, walk}
use Rattle.calculus.specs.Writing.{wrote, write_from}
use Rattle.calculus.specs.declared.Record.{Record}
use Rattle.calculus.specs.declared.Record.TheVariants.{E, C, Q}
use Rattle.calculus.proofs.Theorems.Broken.{first_broken_lem}
use Rattle.calculus.proofs.Theorems.Length.{Answer, write_answers}
use Rattle.derivation.specs.Bytes.{claim_size, claim_bytes, all_bytes}
use Rattle.derivation.specs.Check.{followed, shown, claimed, check_of}
use Rattle.derivation.specs.Write.{derivation, finished, written, cheapest, aimed, write_of}
use Rattle.derivation.specs.Demands.{Layout, Due, most_bytes, Delivers}
use Rattle.derivation.proofs.Theorems.RoundTrip.{Small, Held, length_claim, length_record, claim_back, claim_passed, records_back}

claim_short : (k : Claim) → claim_size k ≤ 9
unfolding claim_size
claim_short (Minimum m) = omega arith
claim_short Infeasible = omega arith

length_all : (rs : List Record) → length (all_bytes rs) ≡ bytes_of rs
unfolding all_bytes bytes_of
length_all [] = refl
length_all (r ∷ rs) = simp length-append (omega (arith, length_record r, length_all rs))

-- a layout is valued, and its first broken clause is none
pub layout_valued : (I : Problem) (bytes : List ℕ) → Layout I bytes → valued I bytes ≡ Valued.Worth 0 (cost (assigned bytes) I.clauses)
unfolding worth_of
layout_valued I bytes l =
    valued_worth I bytes l.size l.bits ∙
    ap (λ f. Valued.Worth f (cost (assigned bytes) I.clauses)) ((first_broken_lem (assigned bytes) I.clauses).1 l.meets)

module _ (text bytes : List ℕ) (I : Problem) (reads : read_of text ≡ read I) where
  within : Within I
  within = read_within text I reads

  -- ---- the claim is true, its number fits, and both Write and Check come to it
  due_true : (a : Aim) (k : Claim) → Due I bytes a k → True I k
  due_true Aim.Cheapest (Minimum m) d = d.least
  due_true Aim.Cheapest Infeasible d = absurd d
  due_true Aim.Infeasible (Minimum m) d = absurd d
  due_true Aim.Infeasible Infeasible d = d

  due_small : (a : Aim) (k : Claim) → Due I bytes a k → Small k
  due_small Aim.Cheapest (Minimum m) d = omega (arith, d.exact, cost_most (assigned bytes) I.clauses, within.light)
  due_small Aim.Cheapest Infeasible d = absurd d
  due_small Aim.Infeasible (Minimum m) d = absurd d
  due_small Aim.Infeasible Infeasible d = tt

  due_aimed : (a : Aim) (k : Claim) (room : ℕ) → Due I bytes a k → aimed I bytes room a ≡ written I room k
  unfolding aimed cheapest
  due_aimed Aim.Cheapest (Minimum m) room d = rw (layout_valued I bytes d.layout, d.exact)
  due_aimed Aim.Cheapest Infeasible room d = absurd d
  due_aimed Aim.Infeasible (Minimum m) room d = absurd d
  due_aimed Aim.Infeasible Infeasible room d = refl

  due_claimed : (a : Aim) (k : Claim) (proof : List ℕ) → Due I bytes a k → claimed I bytes proof k ≡ followed I proof k
  unfolding claimed shown
  due_claimed Aim.Cheapest (Minimum m) proof d = rw (layout_valued I bytes d.layout, d.exact, eq-eqb m m refl, shown)
  due_claimed Aim.Cheapest Infeasible proof d = absurd d
  due_claimed Aim.Infeasible (Minimum m) proof d = absurd d
  due_claimed Aim.Infeasible Infeasible proof d = refl

  -- ---- two bytes hold every number that Write writes
  in_range : (r : Record) → InRange I r → Held r
  in_range (E i) h = omega (arith, h.1, within.few)
  in_range (C x) h = omega (arith, h.1, within.top)
  in_range Q h = tt

  -- ---- Write's side and Check's side, for the records that Write answers a true claim with
  written_given : (k : Claim) (room : ℕ) → claim_size k ≤ room → (rs : List Record) →
      write_from I k (suc room) room (claim_size k) (root I.clauses ∷ []) ≡ wrote rs → written I room k ≡ derivation (claim_bytes k ++ all_bytes rs) (length rs)
  unfolding written finished
  written_given k room l rs e = rw (le-leb (claim_size k) room l, e, written)

  followed_taken : (k : Claim) (rs : List Record) → Every (InRange I) rs →
      ((at n : ℕ) → walk I k (map whole rs) at n (root I.clauses ∷ []) ≡ Accepted k (n + length rs)) →
      followed I (claim_bytes k ++ all_bytes rs) k ≡ Accepted k (length rs)
  unfolding followed
  followed_taken k rs h t =
      rw (claim_passed k (all_bytes rs), records_back rs (every_map (InRange I) Held in_range rs h))
      (t (claim_size k) 0 ∙ ap (Accepted k) (omega arith))

  -- Demand 3: "Given a cheapest layout, or the true claim that none is feasible, .. and at least P(3K+4)+6 bytes of output,
  -- Write gives a derivation of at most P(K+2)-1 records after the claim; Check accepts it and reports exactly its record count."
  pub write_delivers : (a : Aim) (k : Claim) (room : ℕ) → Due I bytes a k → most_bytes I ≤ room → Delivers I text bytes k (write_of a text bytes room)
  unfolding write_of check_of
  write_delivers a k room due enough = record {
    proof = claim_bytes k ++ all_bytes answer.records;
    records = length answer.records;
    given = rw (reads, write_of) (due_aimed a k room due ∙ written_given k room (omega (arith, answer.short)) answer.records answer.written);
    few = answer.few;
    short = simp length-append (omega (arith, answer.short, length_claim k, length_all answer.records));
    taken =
        rw (reads, claim_back k (all_bytes answer.records) (due_small a k due), check_of)
        (due_claimed a k (claim_bytes k ++ all_bytes answer.records) due ∙ followed_taken k answer.records answer.ranged answer.accepted);
  }
    where
      answer : Answer I k (claim_size k) (write_from I k (suc room) room (claim_size k) (root I.clauses ∷ []))
      answer = write_answers I within.fits k (due_true a k due) (claim_size k) room (claim_short k) enough
