-- The clauses that are not spent: how many there are, and how many leaves their extensions can have. At the root that is at
-- most P.
use Rattle.std.specs.Prelude.{Bool, true, false, not, List, [], ◌∷◌, map, ◌≡◌, ℕ, suc, ◌+◌, ◌*◌, ◌≤◌}
use Rattle.std.proofs.Math.Option.{some}
use Rattle.std.proofs.Math.Path.{refl, ap}
use Rattle.std.proofs.Common.{sym, ◌∙◌, zero-add, one-mul, mul-le-mul_left, arith}
use Rattle.std.proofs.Math.Nat.{add_left_comm, mul_left_comm, mul-le-mul_right, one-le-mul}
use Rattle.std.proofs.Math.ListN.{length}
use Rattle.instance.specs.Clause.{Literal, Weight, soft, Body, clause, Clause, tautology, clause_at}
use Rattle.calculus.specs.Bounds.{branching, count_of, product_of}
use Rattle.calculus.specs.Branch.{Branch, blank, with_rules, keep, put_at, put, unit_of, nothing, gain, several, numbered, enter, root_from, root, spent, branches}
use Rattle.calculus.proofs.Theorems.Sum.{fold, fold_snoc, fold_put}
use Rattle.calculus.proofs.Theorems.Cases.{single, Extension, opens}
use Rattle.calculus.proofs.Theorems.Unchanged.{nothing_leaves, unit_leaves}

-- what a clause counts, and z where it is spent
unfoldable pub unspent : ℕ → (Body → ℕ) → Clause → ℕ
unspent z g c = elim (spent c.weight) [ true ↦ z | false ↦ g c.body ]

abbrev pub remaining : List Clause → ℕ
remaining cs = fold ◌+◌ 0 (unspent 0 (λ p. 1)) cs

abbrev pub leaves : List Clause → ℕ
leaves cs = fold ◌*◌ 1 (unspent 1 count_of) cs

unspent_is : (z : ℕ) (g : Body → ℕ) (c : Clause) → spent c.weight ≡ false → unspent z g c ≡ g c.body
unfolding unspent
unspent_is z g c e = rw (e, unspent)

unspent_most : (z : ℕ) (g : Body → ℕ) (c : Clause) → z ≤ g c.body → unspent z g c ≤ g c.body
unfolding unspent
unspent_most z g c h = by (spent c.weight)
  where
    by : (t : Bool) → elim t as (λ _. ℕ) [ true ↦ z | false ↦ g c.body ] ≤ g c.body
    by true = h
    by false = omega arith

-- ---- a clause that is spent counts no more: of a sum, and of a product
module _ (op : ℕ → ℕ → ℕ)
    (swap : (a b c : ℕ) → op a (op b c) ≡ op b (op a c))
    (z : ℕ)
    (unit : (v : ℕ) → op z v ≡ v)
    (g : Body → ℕ) where
  abbrev total : Branch → ℕ
  total b = fold op z (unspent z g) b.rules

  spent_put : (b : Branch) (i : ℕ) (c : Clause) → clause_at b.rules i ≡ some c → spent c.weight ≡ false →
      op (g c.body) (total (put i (soft 0) b)) ≡ total b
  unfolding put with_rules
  spent_put b i c e u =
      ap (λ v. op v (fold op z (unspent z g) (put_at b.rules i (soft 0)))) (sym (unspent_is z g c u)) ∙
      (fold_put op swap z (unspent z g) b.rules i c (soft 0) e ∙ unfold unspent spent in (unit (total b)))

  spent_keep : (p : Body) (b : Branch) → total (keep (soft 0) p b) ≡ total b
  unfolding keep with_rules
  spent_keep p b =
      fold_snoc op swap z (unspent z g) b.rules (record { weight = soft 0; body = p }) ∙ unfold unspent spent in (unit (total b))

module _ (b : Branch) (i : ℕ) (c : Clause) (e : clause_at b.rules i ≡ some c) (u : spent c.weight ≡ false) where
  pub remaining_put : 1 + remaining (put i (soft 0) b).rules ≡ remaining b.rules
  remaining_put = spent_put ◌+◌ add_left_comm 0 zero-add (λ p. 1) b i c e u

  leaves_put : count_of c.body * leaves (put i (soft 0) b).rules ≡ leaves b.rules
  leaves_put = spent_put ◌*◌ mul_left_comm 1 one-mul count_of b i c e u

pub remaining_spent : (p : Body) (b : Branch) → remaining (keep (soft 0) p b).rules ≡ remaining b.rules
remaining_spent = spent_keep ◌+◌ add_left_comm 0 zero-add (λ p. 1)

pub remaining_keep : (w : Weight) (p : Body) (b : Branch) → remaining (keep w p b).rules ≤ remaining b.rules + 1
unfolding keep with_rules
remaining_keep w p b =
    omega (
      arith,
      fold_snoc ◌+◌ add_left_comm 0 (unspent 0 (λ p. 1)) b.rules (record { weight = w; body = p }),
      unspent_most 0 (λ p. 1) (record { weight = w; body = p }) (omega arith),
    )

leaves_spent : (p : Body) (b : Branch) → leaves (keep (soft 0) p b).rules ≡ leaves b.rules
leaves_spent = spent_keep ◌*◌ mul_left_comm 1 one-mul count_of

-- ---- counts of literals
count_of_several : (l k : Literal) (ks : List Literal) → tautology (l ∷ k ∷ ks) ≡ false →
    count_of (clause (l ∷ k ∷ ks)) ≡ length (l ∷ k ∷ ks)
unfolding count_of branching several
count_of_several l k ks e = rw (e, count_of)

count_of_some : (p : Body) → 1 ≤ count_of p
unfolding count_of branching several
count_of_some (clause []) = omega arith
count_of_some (clause (l ∷ [])) = omega arith
count_of_some (clause (l ∷ k ∷ ks)) = by (not (tautology (l ∷ k ∷ ks)))
  where
    by : (t : Bool) → 1 ≤ elim t as (λ _. ℕ) [ true ↦ length (l ∷ k ∷ ks) | false ↦ 1 ]
    by true = omega arith
    by false = omega arith

-- an extension opens two branches or more, as many as the clause's count
pub record Parted (b : Branch) (i : ℕ) (bs : List Branch) : Type 0 where
  pub two : 2 ≤ length bs
  pub shared : length bs * leaves (put i (soft 0) b).rules ≡ leaves b.rules

pub extension_parts : (b : Branch) (i : ℕ) (c : Clause) (bs : List Branch) → clause_at b.rules i ≡ some c →
    Extension b i c (some bs) → Parted b i bs
extension_parts b i c bs e (opens l k ks q t u) = record {
  two = rw (branches_count (l ∷ k ∷ ks)) (omega arith);
  shared = rw (branches_count (l ∷ k ∷ ks)) (rw (q, count_of_several l k ks t) at (leaves_put b i c e u));
}
  where
    branches_count : (ls : List Literal) → length (branches c.weight (map single ls) (put i (soft 0) b)) ≡ length ls
    branches_count [] = unfold branches in refl
    branches_count (l ∷ ls) = one_more (branches_count ls)
      where
        one_more : length (branches c.weight (map single ls) (put i (soft 0) b)) ≡ length ls →
            length (branches c.weight (map single (l ∷ ls)) (put i (soft 0) b)) ≡ length (l ∷ ls)
        one_more h = unfold branches in (ap suc h)

pub extension_remaining : (b : Branch) (i : ℕ) (c : Clause) (bs : List Branch) → clause_at b.rules i ≡ some c →
    Extension b i c (some bs) →
    1 + remaining (put i (soft 0) b).rules ≡ remaining b.rules
extension_remaining b i c bs e (opens l k ks q t u) = remaining_put b i c e u

pub leaves_some : (cs : List Clause) → 1 ≤ leaves cs
unfolding fold unspent
leaves_some [] = omega arith
leaves_some (c ∷ cs) = one-le-mul (by (spent c.weight)) (leaves_some cs)
  where
    by : (t : Bool) → 1 ≤ elim t as (λ _. ℕ) [ true ↦ 1 | false ↦ count_of c.body ]
    by true = omega arith
    by false = count_of_some c.body

-- ---- the root
enter_leaves : (w : Weight) (p : Body) (b : Branch) → leaves (enter w p b).rules ≤ count_of p * leaves b.rules
unfolding enter numbered several gain
enter_leaves w (clause []) b =
    unfold count_of branching several in (omega (arith, leaves_spent (clause []) (nothing w b), ap leaves (nothing_leaves w b)))
enter_leaves w (clause (l ∷ [])) b =
    unfold count_of branching several in (
    omega (arith, leaves_spent (clause (l ∷ [])) (unit_of w l b), ap leaves (unit_leaves w l b).rules))
enter_leaves w (clause (l ∷ k ∷ ks)) b =
    unfold keep with_rules in (
    omega (
      arith,
      fold_snoc ◌*◌ mul_left_comm 1 (unspent 1 count_of) b.rules c,
      mul-le-mul_right (leaves b.rules) (unspent_most 1 count_of c (count_of_some c.body)),
    ))
  where
    c : Clause
    c = record { weight = w; body = clause (l ∷ k ∷ ks) }

root_from_leaves : (b : Branch) (cs : List Clause) → leaves (root_from b cs).rules ≤ product_of cs * leaves b.rules
unfolding root_from product_of
root_from_leaves b [] = omega arith
root_from_leaves b (c ∷ cs) =
    omega (
      arith,
      root_from_leaves (enter c.weight c.body b) cs,
      mul-le-mul_left (product_of cs) (enter_leaves c.weight c.body b),
    )

pub root_leaves : (cs : List Clause) → leaves (root cs).rules ≤ product_of cs
unfolding root
root_leaves cs = omega (arith, root_from_leaves blank cs, ap (λ v. product_of cs * v) empty)
  where
    empty : leaves blank.rules ≡ 1
    empty = unfold blank fold in refl
