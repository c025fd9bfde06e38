-- Literals and their codes.
use Rattle.std.proofs.Common.{ℕ, ◌/◌, ◌≤◌, true, false, ◌≡◌, refl, ap, sym, arith, eq-eqb, ne_eqb, eqb-true}
use Rattle.instance.specs.Clause.{Literal, pos, neg, same}
use Rattle.instance.specs.Within.{In}
use Rattle.instance.specs.Store.{literal_of}
use Rattle.instance.specs.Theorems.Choices.{never}
use Rattle.instance.specs.Theorems.Codes.{variable_in}

pub literal_in_lem : (n c : ℕ) → 2 ≤ c → c / 2 ≤ n → In n (literal_of c)
literal_in_lem n c lo hi = rw (variable_in c) (omega arith, hi)

pub same_true : (k l : Literal) → same k l ≡ true → k ≡ l
unfolding same
same_true (pos x) (pos y) e = ap pos (eqb-true x y e)
same_true (pos x) (neg y) e = never (sym e)
same_true (neg x) (pos y) e = never (sym e)
same_true (neg x) (neg y) e = ap neg (eqb-true x y e)

pub same_self : (l : Literal) → same l l ≡ true
unfolding same
same_self (pos x) = eq-eqb x x refl
same_self (neg x) = eq-eqb x x refl

pub same_other : (k l : Literal) → (k ≡ l → ⊥) → same k l ≡ false
unfolding same
same_other (pos x) (pos y) n = ne_eqb x y (λ e. n (ap pos e))
same_other (pos x) (neg y) n = refl
same_other (neg x) (pos y) n = refl
same_other (neg x) (neg y) n = ne_eqb x y (λ e. n (ap neg e))
