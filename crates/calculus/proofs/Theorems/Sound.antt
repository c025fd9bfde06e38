-- Demand 2 over records: what an accepted derivation claims is true. The least worth of the open branches never changes, and at
-- the end none is open.
use Rattle.std.specs.Prelude.{ℕ, suc, ◌≤◌, min, Bool, ◌≡◌, List, [], ◌∷◌, ◌++◌}
use Rattle.std.proofs.Common.{arith}
use Rattle.std.proofs.Math.Bool.{true, false}
use Rattle.std.proofs.Math.Path.{refl, subst}
use Rattle.instance.specs.Clause.{Problem}
use Rattle.instance.specs.Meaning.{Assignment, feasible, cost}
use Rattle.instance.specs.Within.{Every, Fits}
use Rattle.instance.specs.declared.answers.Claim.{Claim}
use Rattle.instance.specs.declared.answers.Claim.TheVariants.{Minimum, Infeasible}
use Rattle.instance.specs.declared.answers.Checked.{Checked}
use Rattle.instance.specs.declared.answers.Checked.TheVariants.{Accepted, Refused}
use Rattle.calculus.specs.declared.Record.{Record}
use Rattle.calculus.specs.Branch.{Branch, root}
use Rattle.calculus.specs.Claims.{True}
use Rattle.calculus.specs.Derivation.{Item, closable, walk}
use Rattle.calculus.proofs.Theorems.Basics.{tests, or_second, every_append}
use Rattle.calculus.proofs.Theorems.Worth.{bill, raw, least, raw_booked, raw_dead}
use Rattle.calculus.proofs.Theorems.Fair.{Sane, Fair}
use Rattle.calculus.proofs.Theorems.Extension.{extend_fair}
use Rattle.calculus.proofs.Theorems.Contradiction.{contradict_fair}
use Rattle.calculus.proofs.Theorems.Root.{root_worth, bill_cost, sane_root}
use Rattle.calculus.proofs.Theorems.Steps.{Stepped, closed, contradicted, extended}
use Rattle.calculus.proofs.Theorems.Walked.{walk_kept}

-- the caps that serve a claim: m under M, any under N
abbrev pub Caps : Claim → ℕ → Type 0
Caps (Minimum m) H = H ≡ m
Caps Infeasible H = Unit {0}

pub some_cap : (k : Claim) → (H : ℕ) × Caps k H
some_cap (Minimum m) = (m, refl)
some_cap Infeasible = (0, tt)

module _ (I : Problem) where
  abbrev n : ℕ
  n = I.variables

  -- a branch that may be closed is worth the cap
  closes : (k : Claim) (H : ℕ) → Caps k H → (b : Branch) → closable k b ≡ true → (σ : Assignment) → H ≤ raw H n σ b
  unfolding closable
  closes (Minimum m) H e b h σ = by b.dead refl
    where
      by : (t : Bool) → b.dead ≡ t → H ≤ raw H n σ b
      by true d = raw_dead H n σ b d
      by false d = let l = or_second b.dead _ h d in omega (arith, tests, raw_booked H n σ b)
  closes Infeasible H e b h σ = raw_dead H n σ b h

  module _ (k : Claim) where
    -- each kind of record by its own lemma
    pub stepped_fair : (H : ℕ) → Caps k H → (r : Record) (b : Branch) (new : List Branch) → Sane n b → Stepped I k b r new →
        Fair H n b new
    stepped_fair H q r b new s (closed e) = record { even = λ σ. unfold least in (omega (arith, closes k H q b e σ)); sane = tt }
    stepped_fair H q r b new s (contradicted {b' = b'} x d lo hi c) = contradict_fair H n x b b' lo hi s c
    stepped_fair H q r b new s (extended i c d e x) = extend_fair H n b i c new s e x

    pub stepped_sane : (r : Record) (b : Branch) (new : List Branch) → Sane n b → Stepped I k b r new → Every (Sane n) new
    stepped_sane r b new s d = let c = some_cap k in (stepped_fair c.0 c.1 r b new s d).sane

    module _ (H : ℕ) (q : Caps k H) where
      least_append : (σ : Assignment) (xs ys : List Branch) → least H n σ (xs ++ ys) ≡ min (least H n σ xs) (least H n σ ys)
      unfolding least
      least_append σ [] ys = omega (arith, capped ys)
        where
          capped : (ys : List Branch) → least H n σ ys ≤ H
          capped [] = omega arith
          capped (y ∷ ys) = omega arith
      least_append σ (x ∷ xs) ys = omega (arith, least_append σ xs ys)

      -- no open branch is worth less than the cap
      abbrev Shown : List Branch → Checked → Type 0
      Shown bs (Accepted c a) = (σ : Assignment) → least H n σ bs ≡ H
      Shown bs (Refused s) = Unit {0}

      shown_before : (b : Branch) (bs new : List Branch) → Fair H n b new → (o : Checked) → Shown (new ++ bs) o → Shown (b ∷ bs) o
      shown_before b bs new f (Accepted c a) h = λ σ. unfold least in (omega (arith, f.even σ, least_append σ new bs, h σ))
      shown_before b bs new f (Refused s) h = tt

      walk_shown : (is : List Item) (at m : ℕ) (bs : List Branch) → Every (Sane n) bs → Shown bs (walk I k is at m bs)
      walk_shown = walk_kept I k (Every (Sane n)) (λ is m bs. Shown bs) (record {
        done = λ m σ. unfold least in refl;
        refused = λ is m bs t. tt;
        next = λ r b bs new s d. every_append (Sane n) new bs (stepped_sane r b new s.0 d) s.1;
        more = λ is m r b bs new s d o h. shown_before b bs new (stepped_fair H q r b new s.0 d) o h;
      })

      -- so every assignment's bill is the cap at least
      pub accepted_bill : Fits I → (is : List Item) (at m : ℕ) (c : Claim) (a : ℕ) →
          walk I k is at m (root I.clauses ∷ []) ≡ Accepted c a →
          (σ : Assignment) → H ≤ bill H σ I.clauses
      unfolding least
      accepted_bill fits is at m c a e σ =
          omega (
            arith,
            root_worth H n σ I.clauses fits,
            subst (Shown (root I.clauses ∷ [])) e (walk_shown is at m (root I.clauses ∷ []) (sane_root n I.clauses fits, tt)) σ,
          )

  -- Demand 2: what an accepted derivation claims is true, "the minimum is this number" (no assignment costs less) or "no
  -- assignment meets the hard clauses".
  pub sound : Fits I → (k : Claim) (is : List Item) (at m : ℕ) (c : Claim) (a : ℕ) →
      walk I k is at m (root I.clauses ∷ []) ≡ Accepted c a → True I k
  sound fits (Minimum v) is at m c a e =
      λ σ f. omega (arith, accepted_bill (Minimum v) v refl fits is at m c a e σ, bill_cost v n σ I.clauses f)
  sound fits Infeasible is at m c a e = λ σ. by σ (feasible σ I.clauses) refl
    where
      by : (σ : Assignment) (t : Bool) → feasible σ I.clauses ≡ t → t ≡ false
      by σ true f =
          let H = suc (cost σ I.clauses) in
          absurd (omega (arith, accepted_bill Infeasible H tt fits is at m c a e σ, bill_cost H n σ I.clauses f))
      by σ false f = refl
