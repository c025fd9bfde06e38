-- A weight as the code has it, in the store's numbers and as the definitions have it.
use Rattle.std.specs.Prelude.{ℕ, zero, suc}
use Rattle.instance.specs.Clause.{hard, soft}
use Rattle.instance.specs.Clause as clause
use Rattle.instance.specs.declared.weights.Weight.{Weight}
use Rattle.instance.specs.declared.weights.Weight.TheVariants.{Hard, Soft}

abbrev pub meant : Weight → clause.Weight
meant Hard = hard
meant (Soft w) = soft w

-- in the store: 0 is hard
abbrev pub coded : Weight → ℕ
coded Hard = 0
coded (Soft w) = w

abbrev pub decoded : ℕ → Weight
decoded zero = Hard
decoded (suc w) = Soft (suc w)
