-- Laws of literals: which are the same or opposite, which occur in a clause, and what keeping one more changes.
use Rattle.std.specs.Prelude.{Bool, true, false, ◌||◌, List, [], ◌∷◌, ◌++◌, ◌≡◌, refl}
use Rattle.std.proofs.Math.Bool.{or-false, or_assoc}
use Rattle.std.proofs.Common.{sym, ◌∙◌}
use Rattle.instance.specs.Clause.{Literal, pos, neg, Body, clause, same, opposite, occurs, kept_with, tautology}
use Rattle.instance.specs.Theorems.Choices.{on_test, neither, eqb_sym}

-- no literal occurs twice
abbrev pub Different : List Literal → Type 0
Different [] = Unit {0}
Different (l ∷ ls) = (occurs l ls ≡ false) × Different ls

abbrev pub DifferentIn : Body → Type 0
DifferentIn (clause ls) = Different ls

pub same_sym : (l k : Literal) → same l k ≡ same k l
unfolding same
same_sym (pos x) (pos y) = eqb_sym x y
same_sym (pos x) (neg y) = refl
same_sym (neg x) (pos y) = refl
same_sym (neg x) (neg y) = eqb_sym x y

-- one is the other's opposite, and the other way round
pub same_opposite : (l k : Literal) → same (opposite l) k ≡ same (opposite k) l
unfolding same opposite
same_opposite (pos x) (pos y) = refl
same_opposite (pos x) (neg y) = eqb_sym x y
same_opposite (neg x) (pos y) = eqb_sym x y
same_opposite (neg x) (neg y) = refl

-- ---- one more literal at the end
pub occurs_snoc : (k : Literal) (ls : List Literal) (l : Literal) → occurs k (ls ++ (l ∷ [])) ≡ (occurs k ls || same k l)
unfolding occurs
occurs_snoc k [] l = or-false (same k l)
occurs_snoc k (m ∷ ms) l = rw (occurs_snoc k ms l) (sym (or_assoc (same k m) (occurs k ms) (same k l)))

pub different_snoc : (ls : List Literal) (l : Literal) → Different ls → occurs l ls ≡ false → Different (ls ++ (l ∷ []))
unfolding occurs
different_snoc [] l h n = (refl, tt)
different_snoc (k ∷ ks) l h n =
    let apart = neither (same l k) (occurs l ks) n in
    (occurs_snoc k ks l ∙ rw (h.0, same_sym k l) apart.0, different_snoc ks l h.1 apart.1)

pub tautology_snoc : (ls : List Literal) (l : Literal)
    → tautology (ls ++ (l ∷ [])) ≡ (occurs (opposite l) ls || tautology ls)
unfolding occurs tautology
tautology_snoc [] l = refl
tautology_snoc (k ∷ ks) l =
    rw (occurs_snoc (opposite k) ks l, tautology_snoc ks l, same_opposite k l)
    (swapped (occurs (opposite k) ks) (same (opposite l) k) (occurs (opposite l) ks) (tautology ks))
  where
    swapped : (a b c d : Bool) → ((a || b) || (c || d)) ≡ ((b || c) || (a || d))
    swapped true true c d = refl
    swapped true false true d = refl
    swapped true false false d = refl
    swapped false true c d = refl
    swapped false false true d = refl
    swapped false false false d = refl

-- ---- keeping a literal
pub kept_again : (ls : List Literal) (l : Literal) → occurs l ls ≡ true → kept_with ls l ≡ ls
unfolding kept_with
kept_again ls l e = rw (e, kept_with)

pub kept_new : (ls : List Literal) (l : Literal) → occurs l ls ≡ false → kept_with ls l ≡ ls ++ (l ∷ [])
unfolding kept_with
kept_new ls l e = rw (e, kept_with)

pub different_kept : (ls : List Literal) (l : Literal) → Different ls → Different (kept_with ls l)
unfolding kept_with
different_kept ls l h = on_test Different (occurs l ls) (λ e. h) (λ e. different_snoc ls l h e)
