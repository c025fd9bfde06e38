use Rattle.std.proofs.Common.{ℕ, List, ◌∷◌, ◌≡◌, true, sym, arith, eq-eqb, ne_eqb, refl}
use Rattle.instance.specs.Clause.{occurs}
use Rattle.instance.specs.Theorems.Codes.{same_literals}
use Rattle.instance.specs.Theorems.Scan.{same_more, same_stop, same_end}
use Rattle.reader.proofs.drafts.has.Invariants.{occurs_in}
use Rattle.reader.proofs.drafts.has.Goals as goal

-- the first code is the literal's, or it is not
here : (code c : ℕ) (codes : List ℕ) → c ≡ code → occurs_in code (c ∷ codes) ≡ true
unfolding occurs
here code c codes e = rw (same_literals code c, eq-eqb code c (sym e)) refl

further : (code c : ℕ) (codes : List ℕ) → (c ≡ code → ⊥) → occurs_in code (c ∷ codes) ≡ occurs_in code codes
unfolding occurs
further code c codes n = rw (same_literals code c, ne_eqb code c (λ e. n (sym e))) refl

pub returns-then-c-code : goal.returns-then-c-code
returns-then-c-code c =
    let a = c.args in
    same_stop (occurs_in a.code) a.codes.now c.loop-c.c-index c.loop-c-test.true (here a.code _ _ c.if-c-code.true) c.loop-c.invariant

pub loop-c-preserved : goal.loop-c-preserved
loop-c-preserved c =
    let a = c.args in
    same_more (occurs_in a.code) a.codes.now c.loop-c.c-index c.loop-c-test.true (further a.code _ _ c.if-c-code.false) c.loop-c.invariant

pub returns : goal.returns
unfolding occurs
returns c =
    let a = c.args in
    same_end (occurs_in a.code) a.codes.now c.loop-c.c-index (omega arith) refl c.loop-c.invariant
