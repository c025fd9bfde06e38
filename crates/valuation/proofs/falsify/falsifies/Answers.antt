-- The closure is asked for codes of the clause alone, each of a variable that has its byte.
use Rattle.std.proofs.Common.{ℕ, ◌/◌, ◌<◌, ◌≤◌, not, ◌&&◌, List, [], ◌∷◌, map, length, get_or, ◌≡◌, refl, ap, ◌∙◌, rules, tests}
use Rattle.std.proofs.iter.Serving.{serving}
use Rattle.std.specs.List.{list_all}
use Rattle.std.proofs.lemmas.Iterator.{YieldsList-from_slice}
use Rattle.std.proofs.lemmas.Iterator.Search.{all_from_yields_List}
use Rattle.instance.specs.Meaning.{assigned, holds, falsified}
use Rattle.instance.specs.Store.{literal_of}
use Rattle.instance.specs.Theorems.Every.{every_at}
use Rattle.valuation.proofs.falsify.falsifies.Goals as goal

pub all-requires-clause-callable : goal.all-requires-clause-callable
all-requires-clause-callable c =
    let codes = c.codes_of.result.now in
    let all = rw (← c.codes_of.ensures, ← c.requires.size) at (c.args.held.now.holds.laid.codes c.args.k c.requires.clause) in
    let within : (i d : ℕ) → i < length codes → (2 ≤ get_or codes i d) × (get_or codes i d / 2 ≤ length c.args.bytes.now) = λ i d h. every_at _ d codes i all h in
    grind serving

-- no literal of the codes is true
none_true : (bytes codes : List ℕ) → list_all (λ c. not (holds (assigned bytes) (literal_of c))) codes ≡ falsified (assigned bytes) (map literal_of codes)
unfolding falsified
none_true bytes [] = refl
none_true bytes (c ∷ cs) = ap (λ t. not (holds (assigned bytes) (literal_of c)) && t) (none_true bytes cs)

pub returns : goal.returns
returns c =
    all_from_yields_List (λ code. not (holds (assigned c.args.bytes.now) (literal_of code))) _ _ _ c.all.ensures.ran (YieldsList-from_slice c.codes_of.result.now (cc)) (λ x b q k. search (rules, tests))
    ∙ rw c.codes_of.ensures (none_true c.args.bytes.now _)
