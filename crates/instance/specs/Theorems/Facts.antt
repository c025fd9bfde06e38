-- What a held instance keeps is a fact: there is at most one proof of it.
use Rattle.std.specs.Prelude.{ℕ, List, [], ◌∷◌}
use Rattle.std.proofs.Props.{props}
use Rattle.instance.specs.Clause.{Weight, hard, soft, Body, clause}
use Rattle.instance.specs.Within.{Every, In, InBody, Weighty}

pub every_prop : {A : Type 0} (P : A → Type 0) → ((x : A) → IsProp (P x)) → (xs : List A) → IsProp (Every P xs)
every_prop P h [] = hlevel props
every_prop P h (x ∷ xs) = hlevel (props, h, every_prop P h xs)

pub in_body_prop : (n : ℕ) (b : Body) → IsProp (InBody n b)
in_body_prop n (clause ls) = every_prop (In n) (hlevel props) ls

pub weighty_prop : (w : Weight) → IsProp (Weighty w)
weighty_prop hard = hlevel props
weighty_prop (soft w) = hlevel props

pub ruleset facts = (props, every_prop, in_body_prop, weighty_prop)
