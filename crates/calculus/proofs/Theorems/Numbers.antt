-- Every branch keeps the K clauses under their numbers, so that Write names only clauses and variables that there are.
use Rattle.std.specs.Prelude.{ℕ, zero, suc, ◌+◌, List, [], ◌∷◌, ◌≡◌, refl, length}
use Rattle.std.proofs.Common.{ap, ◌∙◌, arith, length-append}
use Rattle.instance.specs.Clause.{Weight, soft, Body, clause, Clause, Problem}
use Rattle.instance.specs.Within.{Every}
use Rattle.instance.specs.declared.answers.Claim.{Claim}
use Rattle.calculus.specs.declared.Record.{Record}
use Rattle.calculus.specs.Bounds.{InRange}
use Rattle.calculus.specs.Branch.{
  Branch,
  blank,
  with_rules,
  keep,
  put_at,
  put,
  unit_of,
  nothing,
  gain,
  several,
  numbered,
  enter,
  root_from,
  root,
}
use Rattle.calculus.specs.Writing.{wrote, write_from}
use Rattle.calculus.proofs.Theorems.Basics.{every_append, every_weaken, clause_at_range}
use Rattle.calculus.proofs.Theorems.Steps.{Stepped, closed, contradicted, extended}
use Rattle.calculus.proofs.Theorems.Unchanged.{Gained, nothing_leaves, unit_leaves, contradiction_leaves, extension_leaves}
use Rattle.calculus.proofs.Theorems.Written.{wrote_kept}

-- ---- the root
keep_count : (w : Weight) (p : Body) (b : Branch) → length (keep w p b).rules ≡ suc (length b.rules)
unfolding keep with_rules
keep_count w p b = omega (arith, length-append b.rules (record { weight = w; body = p } ∷ []))

enter_count : (w : Weight) (p : Body) (b : Branch) → length (enter w p b).rules ≡ suc (length b.rules)
unfolding enter numbered several gain
enter_count w (clause []) b = keep_count (soft 0) (clause []) (nothing w b) ∙ ap (λ cs. suc (length cs)) (nothing_leaves w b)
enter_count w (clause (l ∷ [])) b =
    keep_count (soft 0) (clause (l ∷ [])) (unit_of w l b) ∙ ap (λ cs. suc (length cs)) (unit_leaves w l b).rules
enter_count w (clause (l ∷ k ∷ ks)) b = keep_count w (clause (l ∷ k ∷ ks)) b

root_from_count : (b : Branch) (cs : List Clause) → length (root_from b cs).rules ≡ length b.rules + length cs
unfolding root_from
root_from_count b [] = omega arith
root_from_count b (c ∷ cs) = omega (arith, root_from_count (enter c.weight c.body b) cs, enter_count c.weight c.body b)

pub root_count : (cs : List Clause) → length (root cs).rules ≡ length cs
unfolding root
root_count cs = root_from_count blank cs ∙ unfold blank in (omega arith)

-- ---- a record
put_at_count : (cs : List Clause) (i : ℕ) (w : Weight) → length (put_at cs i w) ≡ length cs
unfolding put_at
put_at_count [] i w = refl
put_at_count (c ∷ cs) zero w = refl
put_at_count (c ∷ cs) (suc zero) w = refl
put_at_count (c ∷ cs) (suc (suc i)) w = ap suc (put_at_count cs (suc i) w)

abbrev pub Full : Problem → Branch → Type 0
Full I b = length b.rules ≡ length I.clauses

module _ (I : Problem) (k : Claim) where
  pub stepped_full : (r : Record) (b : Branch) (new : List Branch) → Full I b → Stepped I k b r new → Every (Full I) new
  stepped_full r b new h (closed e) = tt
  stepped_full r b new h (contradicted {b' = d} x q lo hi c) = (ap length (contradiction_leaves x b d c).rules ∙ h, tt)
  stepped_full r b new h (extended i c q e x) =
      every_weaken (λ d (g : Gained (put i (soft 0) b) d). ap length g.rules ∙ (kept ∙ h)) new (extension_leaves b i c new x)
    where
      kept : length (put i (soft 0) b).rules ≡ length b.rules
      kept = unfold put with_rules in (put_at_count b.rules i (soft 0))

  stepped_range : (r : Record) (b : Branch) (new : List Branch) → Full I b → Stepped I k b r new → InRange I r
  stepped_range r b new h (closed e) = tt
  stepped_range r b new h (contradicted x q lo hi c) = (lo, hi)
  stepped_range r b new h (extended i c q e x) = let l = clause_at_range b.rules i c e in (l.0, omega (arith, l.1))

  -- Each number that Write writes is that of a clause or a variable of the instance.
  pub write_range : (fuel room at : ℕ) (rs : List Record) → write_from I k fuel room at (root I.clauses ∷ []) ≡ wrote rs →
      Every (InRange I) rs
  write_range fuel room at rs e = wrote_kept I k room (Every (Full I)) (λ bs. Every (InRange I)) (record {
    end = tt;
    next = λ b bs m h c. every_append (Full I) m.places bs (stepped_full m.chosen b m.places h.0 c.did) h.1;
    more = λ b bs m h c rs t. (stepped_range m.chosen b m.places h.0 c.did, t);
  }) fuel at (root I.clauses ∷ []) rs (root_count I.clauses, tt) e
