-- A weight that is read off the store is the one that the definitions have there.
use Rattle.std.specs.Prelude.{ℕ, zero, suc, ◌≡◌, refl}
use Rattle.instance.specs.Clause.{soft_of}
use Rattle.instance.specs.Store.{weight_of}
use Rattle.instance.specs.Weights.{meant, coded, decoded}
use Rattle.instance.specs.declared.weights.Weight.{Weight}
use Rattle.instance.specs.declared.weights.Weight.TheVariants.{Hard, Soft}

pub meant_decoded : (c : ℕ) → meant (decoded c) ≡ weight_of c
unfolding weight_of
meant_decoded zero = refl
meant_decoded (suc c) = refl

pub soft_meant : (w : Weight) → soft_of (meant w) ≡ coded w
unfolding soft_of
soft_meant Hard = refl
soft_meant (Soft w) = refl
