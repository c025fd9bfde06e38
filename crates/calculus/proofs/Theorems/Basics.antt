-- Small facts about tests and lists.
use Rattle.std.specs.Prelude.{Bool, true, false, ◌||◌, ◌≡◌, length, ℕ, zero, suc, ◌≤◌, List, [], ◌∷◌, ◌++◌}
use Rattle.std.proofs.Common.{true≢false, sym, ◌∙◌, arith, leb-true, leb-false, ltb-true, ltb-false}
use mathlib.Core.List.{Memᴰ as Among}
use Rattle.std.proofs.Math.Option.{some, some-injective, none-ne-some}
use Rattle.std.proofs.Math.Path.{refl, subst}
use Rattle.instance.specs.Clause.{Clause, clause_at}
use Rattle.instance.specs.Within.{Every}

-- what a test says, for omega
pub ruleset tests = (leb-true, leb-false, ltb-true, ltb-false)

pub clash {ℓ} : {A : Type ℓ} {t : Bool} → t ≡ true → t ≡ false → A
clash p q = absurd (true≢false (sym p ∙ q))

pub false_unless : (t : Bool) → (t ≡ true → ⊥) → t ≡ false
false_unless true h = absurd (h refl)
false_unless false h = refl

pub or-false : (t u : Bool) → (t || u) ≡ false → (t ≡ false) × (u ≡ false)
or-false true u e = clash refl e
or-false false u e = (refl, e)

pub or_second : (t u : Bool) → (t || u) ≡ true → t ≡ false → u ≡ true
or_second true u e f = clash refl f
or_second false u e f = e

-- v where the test holds
unfoldable pub due : Bool → ℕ → ℕ
due true v = v
due false v = 0

pub due_true : (t : Bool) (v : ℕ) → t ≡ true → due t v ≡ v
due_true t v e = rw e (unfold due in refl)

pub due_false : (t : Bool) (v : ℕ) → t ≡ false → due t v ≡ 0
due_false t v e = rw e (unfold due in refl)

pub due_zero : (t : Bool) → due t 0 ≡ 0
unfolding due
due_zero true = refl
due_zero false = refl

-- ---- every element of a list
module _ {A : Type 0} where
  pub every_append : (P : A → Type 0) (xs ys : List A) → Every P xs → Every P ys → Every P (xs ++ ys)
  every_append P [] ys h k = k
  every_append P (x ∷ xs) ys h k = (h.0, every_append P xs ys h.1 k)

  pub every_all : (P : A → Type 0) (xs : List A) → ((x : A) → Among x xs → P x) → Every P xs
  every_all P [] h = tt
  every_all P (x ∷ xs) h = (h x (Among.head refl), every_all P xs (λ y m. h y (Among.tail m)))

  pub every_among : (P : A → Type 0) {x : A} (xs : List A) → Every P xs → Among x xs → P x
  every_among P [] h m = elim m [ ]
  every_among P (y ∷ ys) h (Among.head e) = subst P (sym e) h.0
  every_among P (y ∷ ys) h (Among.tail m) = every_among P ys h.1 m

  pub every_join : {P Q R : A → Type 0} → ((x : A) → P x → Q x → R x) → (xs : List A) → Every P xs → Every Q xs → Every R xs
  every_join f [] h k = tt
  every_join f (x ∷ xs) h k = (f x h.0 k.0, every_join f xs h.1 k.1)

  pub every_weaken : {P Q : A → Type 0} → ((x : A) → P x → Q x) → (xs : List A) → Every P xs → Every Q xs
  every_weaken f [] h = tt
  every_weaken f (x ∷ xs) h = (f x h.0, every_weaken f xs h.1)

-- ---- the clause of a number
module _ (P : Clause → Type 0) where
  pub every_at : (cs : List Clause) (i : ℕ) (c : Clause) → Every P cs → clause_at cs i ≡ some c → P c
  unfolding clause_at
  every_at [] i c h e = absurd (none-ne-some _ e)
  every_at (d ∷ cs) zero c h e = absurd (none-ne-some _ e)
  every_at (d ∷ cs) (suc zero) c h e = subst P (some-injective _ _ e) h.0
  every_at (d ∷ cs) (suc (suc i)) c h e = every_at cs (suc i) c h.1 e

pub clause_at_range : (cs : List Clause) (i : ℕ) (c : Clause) → clause_at cs i ≡ some c → (1 ≤ i) × (i ≤ length cs)
unfolding clause_at
clause_at_range [] i c e = absurd (none-ne-some _ e)
clause_at_range (d ∷ cs) zero c e = absurd (none-ne-some _ e)
clause_at_range (d ∷ cs) (suc zero) c e = omega arith
clause_at_range (d ∷ cs) (suc (suc i)) c e = let h = clause_at_range cs (suc i) c e in omega arith

module _ (P : Clause → Type 0) where
  pub every_of : (cs : List Clause) → ((i : ℕ) (c : Clause) → clause_at cs i ≡ some c → P c) → Every P cs
  unfolding clause_at
  every_of [] h = tt
  every_of (c ∷ cs) h = (h 1 c refl, every_of cs (λ i d e. h (suc i) d (next i d e (clause_at_range cs i d e).0)))
    where
      next : (i : ℕ) (d : Clause) → clause_at cs i ≡ some d → 1 ≤ i → clause_at (c ∷ cs) (suc i) ≡ some d
      next zero d e l = absurd (omega arith)
      next (suc i) d e l = e
