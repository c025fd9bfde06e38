-- The one form of lemma that every kind of record meets: the branch is worth as much as the least of the branches that come in
-- its place, to every assignment.
use Rattle.std.specs.Prelude.{true, false, ◌≡◌, ℕ, zero, suc, List, [], ◌∷◌}
use Rattle.std.proofs.Math.Option.{some, some-injective}
use Rattle.std.proofs.Math.Path.{refl}
use Rattle.instance.specs.Clause.{Literal, Weight, hard, soft, Body, clause, Clause, clause_at}
use Rattle.instance.specs.Meaning.{Assignment}
use Rattle.instance.specs.Within.{Every, In, InBody}
use Rattle.calculus.specs.Branch.{
  Branch,
  set_weight,
  mark,
  book,
  kill,
  with_rules,
  keep,
  put_at,
  put,
  unit_of,
  nothing,
  gain,
  several,
  numbered,
}
use Rattle.calculus.proofs.Theorems.Basics.{clash, every_append, every_at}
use Rattle.calculus.proofs.Theorems.Worth.{worth, least}

-- A clause of a branch: its variables are among 1 to n, and it is spent if it has fewer than two literals.
pub record Whole (n : ℕ) (c : Clause) : Type 0 where
  pub within : InBody n c.body
  pub short : numbered c.body ≡ false → c.weight ≡ soft 0

abbrev pub Sane : ℕ → Branch → Type 0
Sane n b = Every (Whole n) b.rules

pub record Fair (H n : ℕ) (b : Branch) (bs : List Branch) : Type 0 where
  pub even : (σ : Assignment) → worth H n σ b ≡ least H n σ bs
  pub sane : Every (Sane n) bs

pub literals_in_lem : (n : ℕ) (b : Branch) (i : ℕ) (c : Clause) (ls : List Literal) → Sane n b → clause_at b.rules i ≡ some c →
    c.body ≡ clause ls → Every (In n) ls
literals_in_lem n b i c ls s e q = rw q at (every_at (Whole n) b.rules i c s e).within

-- ---- what keeps a branch sane
module _ (n : ℕ) where
  pub sane_keep : (w : Weight) (p : Body) (b : Branch) → InBody n p → (numbered p ≡ false → w ≡ soft 0) → Sane n b →
      Sane n (keep w p b)
  unfolding keep with_rules
  sane_keep w p b h k s = every_append (Whole n) b.rules _ s (record { within = h; short = k }, tt)

  pub sane_unit : (w : Weight) (l : Literal) (b : Branch) → Sane n b → Sane n (unit_of w l b)
  unfolding unit_of mark set_weight
  sane_unit hard l b s = s
  sane_unit (soft w) l b s = s

  sane_nothing : (w : Weight) (b : Branch) → Sane n b → Sane n (nothing w b)
  unfolding nothing kill book
  sane_nothing hard b s = s
  sane_nothing (soft w) b s = s

  pub sane_gain : (w : Weight) (p : Body) (b : Branch) → InBody n p → Sane n b → Sane n (gain w p b)
  unfolding gain numbered several
  sane_gain w (clause []) b h s = sane_nothing w b s
  sane_gain w (clause (l ∷ [])) b h s = sane_unit w l b s
  sane_gain w (clause (l ∷ k ∷ ks)) b h s = sane_keep w (clause (l ∷ k ∷ ks)) b h (λ e. clash refl e) s

  -- a clause of two or more literals may be left at any weight
  pub sane_put : (i : ℕ) (c : Clause) (w : Weight) (b : Branch) → clause_at b.rules i ≡ some c → numbered c.body ≡ true →
      Sane n b → Sane n (put i w b)
  unfolding put with_rules put_at clause_at
  sane_put i c w b e l s = at b.rules i e s
    where
      at : (cs : List Clause) (i : ℕ) → clause_at cs i ≡ some c → Every (Whole n) cs → Every (Whole n) (put_at cs i w)
      at [] i e a = tt
      at (d ∷ cs) zero e a = a
      at (d ∷ cs) (suc zero) e a =
          (record { within = a.0.within; short = λ q. clash (rw (← some-injective _ _ e) at l) q }, a.1)
      at (d ∷ cs) (suc (suc i)) e a = (a.0, at cs (suc i) e a.1)
