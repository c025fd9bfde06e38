-- Choices by a test: what holds of each arm holds of the choice; what a joined test says of its parts.
use Rattle.std.specs.Prelude.{ℕ, Bool, true, false, ◌&&◌, ◌||◌, ◌≡◌, refl, eqb}
use Rattle.std.proofs.Math.Option.{Option, some, none}
use Rattle.std.proofs.Common.{sym, ◌∙◌, arith, eq-eqb, ne_eqb}
use Rattle.std.proofs.Math.Decide.{ℕ_discrete}

module _ {X : Type 0} (P : X → Type 0) where
  pub on_test : (b : Bool) {x y : X} → (b ≡ true → P x) → (b ≡ false → P y) → P (elim b as (λ _. X) [ true ↦ x | false ↦ y ])
  on_test true h k = h refl
  on_test false h k = k refl

  pub on_option : {A : Type 0} (o : Option A) {x : X} {f : A → X} → (o ≡ none → P x) → ((a : A) → o ≡ some a → P (f a))
      → P (elim o as (λ _. X) [ none ↦ x | some a ↦ f a ])
  on_option none h k = h refl
  on_option (some a) h k = k a refl

pub never : {A : Type 0} → true ≡ false → A
never e = absurd (let z : ◌≡◌ {A = ℕ} 0 1 = cc in omega arith)

pub both : (a b : Bool) → (a && b) ≡ true → (a ≡ true) × (b ≡ true)
both true b h = (refl, h)
both false b h = never (sym h)

pub neither : (a b : Bool) → (a || b) ≡ false → (a ≡ false) × (b ≡ false)
neither true b h = never h
neither false b h = (refl, h)

-- two tests for equality agree where each equation gives the other
pub eqb_same : (a b c d : ℕ) → (a ≡ b → c ≡ d) → (c ≡ d → a ≡ b) → eqb a b ≡ eqb c d
eqb_same a b c d f g = go (ℕ_discrete a b)
  where
    go : Dec (a ≡ b) → eqb a b ≡ eqb c d
    go (yes e) = eq-eqb a b e ∙ sym (eq-eqb c d (f e))
    go (no n) = ne_eqb a b n ∙ sym (ne_eqb c d (λ e. n (g e)))

pub eqb_sym : (a b : ℕ) → eqb a b ≡ eqb b a
eqb_sym a b = eqb_same a b b a sym sym
