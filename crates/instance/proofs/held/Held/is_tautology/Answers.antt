use Rattle.std.proofs.Common.{ℕ, ◌∙◌, ap, nat_eq}
use Rattle.instance.specs.Theorems.Held.{flag_read}
use Rattle.instance.proofs.held.Held.is_tautology.Goals as goal

pub returns : goal.returns
returns c = ap (λ (f : ℕ). nat_eq f 1) (c.args.self.now.holds.laid.flags c.args.k c.requires) ∙ flag_read _
