-- What a contradiction and an extension do, a case for each: the tests of their definitions are gone through here and nowhere
-- else.
use Rattle.std.specs.Prelude.{ℕ, ◌+◌, ◌<◌, ◌≤◌, min, Bool, true, false, not, ◌≡◌, refl, ltb, List, [], ◌∷◌, map}
use mathlib.Core.List.{Memᴰ as Among}
use Rattle.std.proofs.Math.Option.{Option, some, none, some-injective, none-ne-some, some-ne-none}
use Rattle.std.proofs.Common.{ap, subst, ◌∙◌, arith, ltb-true}
use Rattle.instance.specs.Clause.{Literal, pos, neg, Weight, soft, Body, clause, Clause, variable_of, opposite, tautology}
use Rattle.instance.specs.Within.{Every}
use Rattle.calculus.specs.Branch.{
  Branch,
  set_weight,
  book,
  kill,
  put,
  unit_of,
  gain,
  several,
  spent,
  disjuncts,
  branches,
  unless,
  extend_by,
  extend,
  spend,
  cancel_by,
  contradict_by,
  contradict,
}
use Rattle.calculus.proofs.Theorems.Basics.{tests}
use Rattle.calculus.proofs.Theorems.Literals.{opposite_apart, set_own, set_other}

-- ---- a contradiction
-- d is b, dead
pub record Dies (b d : Branch) : Type 0 where
  pub dead : d.dead ≡ true
  pub weight : d.weight ≡ b.weight
  pub marked : d.marked ≡ b.marked
  pub rules : d.rules ≡ b.rules
  pub booked : d.booked ≡ b.booked

-- d is b with v booked, v taken from l, and w taken from the opposite of l
pub record Takes (l : Literal) (v w : ℕ) (b d : Branch) : Type 0 where
  pub booked : d.booked ≡ b.booked + v
  pub own : d.weight l + v ≡ b.weight l
  pub other : d.weight (opposite l) + w ≡ b.weight (opposite l)
  pub elsewhere : (k : Literal) → (variable_of k ≡ variable_of l → ⊥) → d.weight k ≡ b.weight k
  pub marked : d.marked ≡ b.marked
  pub rules : d.rules ≡ b.rules
  pub dead : d.dead ≡ b.dead

-- At x: 01's three cases, and the two where there is nothing to contradict.
pub data Contradiction (x : ℕ) (b : Branch) : Option Branch → Type 0 where
  both_hard : {d : Branch} → b.marked (pos x) ≡ true → b.marked (neg x) ≡ true → Dies b d → Contradiction x b (some d)
  one_hard : {d : Branch} (l : Literal) → variable_of l ≡ x → b.marked (opposite l) ≡ true → 0 < b.weight l →
      Takes l (b.weight l) 0 b d → Contradiction x b (some d)
  both_soft : {d : Branch} (s : ℕ) → s ≡ min (b.weight (pos x)) (b.weight (neg x)) → 0 < s → Takes (pos x) s s b d →
      Contradiction x b (some d)
  no_weight : (l : Literal) → variable_of l ≡ x → b.marked (opposite l) ≡ true → b.marked l ≡ false → b.weight l ≡ 0 →
      Contradiction x b none
  no_pair : b.marked (pos x) ≡ false → b.marked (neg x) ≡ false → min (b.weight (pos x)) (b.weight (neg x)) ≡ 0 →
      Contradiction x b none

-- simp takes a weight to what it was set to
set_pos_neg : (x v : ℕ) (b : Branch) → (set_weight (pos x) v b).weight (neg x) ≡ b.weight (neg x)
unfolding opposite
set_pos_neg x v b = set_other (pos x) v b (neg x) (opposite_apart (pos x))

set_neg_pos : (x v : ℕ) (b : Branch) → (set_weight (neg x) v b).weight (pos x) ≡ b.weight (pos x)
unfolding opposite
set_neg_pos x v b = set_other (neg x) v b (pos x) (opposite_apart (neg x))

ruleset set_weights = (set_own, set_pos_neg, set_neg_pos)

spend_some : (l : Literal) (b d : Branch) → spend l b ≡ some d → (0 < b.weight l) × Takes l (b.weight l) 0 b d
unfolding spend book
spend_some l b d q = by (ltb 0 (b.weight l)) refl
  where
    by : (t : Bool) → ltb 0 (b.weight l) ≡ t → (0 < b.weight l) × Takes l (b.weight l) 0 b d
    by false e = absurd (none-ne-some _ (rw (e, spend) at q))
    by true e = (
      ltb-true 0 (b.weight l) e,
      subst (Takes l (b.weight l) 0 b) (some-injective _ _ (rw (e, spend) at q)) (record {
        booked = unfold set_weight in (omega arith);
        own = simp set_weights (omega arith);
        other = rw (set_other l 0 b (opposite l) (opposite_apart l)) (omega arith);
        elsewhere = λ k u. set_other l 0 b k (λ q. u (ap variable_of q));
        marked = unfold set_weight in refl;
        rules = unfold set_weight in refl;
        dead = unfold set_weight in refl;
      }),
    )

spend_none : (l : Literal) (b : Branch) → spend l b ≡ none → b.weight l ≡ 0
unfolding spend
spend_none l b q = by (ltb 0 (b.weight l)) refl
  where
    by : (t : Bool) → ltb 0 (b.weight l) ≡ t → b.weight l ≡ 0
    by true e = absurd (some-ne-none _ (rw (e, spend) at q))
    by false e = omega (arith, tests)

cancel_some : (x s : ℕ) (b d : Branch) → s ≤ b.weight (pos x) → s ≤ b.weight (neg x) → cancel_by x s b ≡ some d →
    (0 < s) × Takes (pos x) s s b d
unfolding cancel_by book opposite variable_of
cancel_some x s b d l m q = by (ltb 0 s) refl
  where
    by : (t : Bool) → ltb 0 s ≡ t → (0 < s) × Takes (pos x) s s b d
    by false e = absurd (none-ne-some _ (rw (e, cancel_by) at q))
    by true e = (
      ltb-true 0 s e,
      subst (Takes (pos x) s s b) (some-injective _ _ (rw (e, cancel_by) at q)) (record {
        booked = unfold set_weight in (omega arith);
        own = simp set_weights (omega arith);
        other = simp set_weights (omega arith);
        elsewhere = λ k u. set_other (pos x) _ _ k (λ q. u (ap variable_of q)) ∙ set_other (neg x) _ _ k (λ q. u (ap variable_of q));
        marked = unfold set_weight in refl;
        rules = unfold set_weight in refl;
        dead = unfold set_weight in refl;
      }),
    )

cancel_none : (x s : ℕ) (b : Branch) → cancel_by x s b ≡ none → s ≡ 0
unfolding cancel_by
cancel_none x s b q = by (ltb 0 s) refl
  where
    by : (t : Bool) → ltb 0 s ≡ t → s ≡ 0
    by true e = absurd (some-ne-none _ (rw (e, cancel_by) at q))
    by false e = omega (arith, tests)

pub contradiction : (x : ℕ) (b : Branch) → Contradiction x b (contradict x b)
unfolding contradict contradict_by variable_of opposite kill
contradiction x b = by (b.marked (pos x)) refl (b.marked (neg x)) refl
  where
    dies : b.marked (pos x) ≡ true → b.marked (neg x) ≡ true → (o : Option Branch) → contradict_by true true x b ≡ o → Contradiction x b o
    dies u v none q = absurd (some-ne-none _ q)
    dies u v (some d) q =
        both_hard u v (subst (Dies b) (some-injective _ _ q) (record { dead = refl; weight = refl; marked = refl; rules = refl; booked = refl }))

    spends : (o : Option Branch) (l : Literal) → spend l b ≡ o → variable_of l ≡ x → b.marked (opposite l) ≡ true → b.marked l ≡ false →
        Contradiction x b o
    spends none l q v m u = no_weight l v m u (spend_none l b q)
    spends (some d) l q v m u = let h = spend_some l b d q in one_hard l v m h.0 h.1

    cancels : (o : Option Branch) (s : ℕ) → cancel_by x s b ≡ o → s ≡ min (b.weight (pos x)) (b.weight (neg x)) →
        b.marked (pos x) ≡ false → b.marked (neg x) ≡ false → Contradiction x b o
    cancels none s q e u v = no_pair u v (omega (arith, cancel_none x s b q))
    cancels (some d) s q e u v = let h = cancel_some x s b d (omega arith) (omega arith) q in both_soft s e h.0 h.1

    by : (p : Bool) → b.marked (pos x) ≡ p → (q : Bool) → b.marked (neg x) ≡ q → Contradiction x b (contradict_by p q x b)
    by true u true v = dies u v _ refl
    by true u false v = spends _ _ refl refl u v
    by false u true v = spends _ _ refl refl v u
    by false u false v = cancels _ _ refl refl u v

-- ---- an extension of clause c, of number i: 01's case, and the three where the clause can't be extended
abbrev pub single : Literal → Body
single l = clause (l ∷ [])

pub data Extension (b : Branch) (i : ℕ) (c : Clause) : Option (List Branch) → Type 0 where
  opens : (l k : Literal) (ks : List Literal) → c.body ≡ clause (l ∷ k ∷ ks) → tautology (l ∷ k ∷ ks) ≡ false →
      spent c.weight ≡ false →
      Extension b i c (some (branches c.weight (map single (l ∷ k ∷ ks)) (put i (soft 0) b)))
  over : spent c.weight ≡ true → Extension b i c none
  short : (ls : List Literal) → c.body ≡ clause ls → several ls ≡ false → Extension b i c none
  twofold : (ls : List Literal) → c.body ≡ clause ls → tautology ls ≡ true → Extension b i c none

pub extension : (b : Branch) (i : ℕ) (c : Clause) → Extension b i c (extend b i c)
unfolding extend unless extend_by disjuncts several
extension b i c = by (spent c.weight) refl c.body refl
  where
    by : (t : Bool) → spent c.weight ≡ t → (p : Body) → c.body ≡ p →
        Extension b i c (unless t (extend_by c.weight (disjuncts p) (put i (soft 0) b)))
    by true u p q = over u
    by false u (clause []) q = short [] q refl
    by false u (clause (l ∷ [])) q = short (l ∷ []) q refl
    by false u (clause (l ∷ k ∷ ks)) q = test (tautology (l ∷ k ∷ ks)) refl
      where
        test : (t : Bool) → tautology (l ∷ k ∷ ks) ≡ t →
            Extension b i c (extend_by c.weight (elim (not t) as (λ _. Option (List Body)) [
              | true ↦ some (map single (l ∷ k ∷ ks))
              | false ↦ none
            ]) (put i (soft 0) b))
        test true e = twofold (l ∷ k ∷ ks) q e
        test false e = opens l k ks q e u

-- what holds of each unit gained holds of the branches
pub branches_each : (P : Branch → Type 0) (w : Weight) (b : Branch) (ls : List Literal) →
    ((l : Literal) → Among l ls → P (unit_of w l b)) →
    Every P (branches w (map single ls) b)
unfolding branches gain
branches_each P w b [] h = tt
branches_each P w b (l ∷ ls) h = (h l (Among.head refl), branches_each P w b ls (λ k m. h k (Among.tail m)))
