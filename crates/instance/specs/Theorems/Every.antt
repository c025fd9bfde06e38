-- Laws of `Every`: of a list with one more element, of a weaker property, and at an index.
use Rattle.std.specs.Prelude.{ℕ, zero, suc, ◌<◌, List, [], ◌∷◌, ◌++◌, length, get_or}
use Rattle.std.proofs.Common.{arith}
use Rattle.instance.specs.Within.{Every}

pub every_snoc : {A : Type 0} (P : A → Type 0) (xs : List A) (x : A) → Every P xs → P x → Every P (xs ++ (x ∷ []))
every_snoc P [] x h p = (p, tt)
every_snoc P (y ∷ ys) x h p = (h.0, every_snoc P ys x h.1 p)

pub every_map : {A : Type 0} (P Q : A → Type 0) → ((x : A) → P x → Q x) → (xs : List A) → Every P xs → Every Q xs
every_map P Q f [] h = tt
every_map P Q f (x ∷ xs) h = (f x h.0, every_map P Q f xs h.1)

pub every_at : {A : Type 0} (P : A → Type 0) (d : A) (xs : List A) (i : ℕ) → Every P xs → i < length xs → P (get_or xs i d)
every_at P d [] i a h = absurd (omega arith)
every_at P d (x ∷ xs) zero a h = a.0
every_at P d (x ∷ xs) (suc i) a h = every_at P d xs i a.1 (omega arith)
