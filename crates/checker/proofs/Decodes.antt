-- The record at a place, by its bytes.
use Rattle.std.proofs.Common.{ℕ, ◌+◌, ◌*◌, ◌≤◌, cond, List, [], ◌∷◌, ◌≡◌, Some, None, arith, eqb, leb, length, get_or, take, drop, get_or-drop, length-drop}
use Rattle.std.proofs.lemmas.Bool.Decides.{nat_tests}
use Rattle.std.proofs.lemmas.List.{take_rest}
use Rattle.calculus.specs.Derivation.{size}
use Rattle.calculus.specs.declared.Record.TheVariants.{E, C, Q}
use Rattle.derivation.specs.Bytes.{kind_e, kind_c, kind_q, number_from, number, body, whole_if, item_at}
use Rattle.checker.specs.Decoding.{decoded_as}

two_bytes : (bs : List ℕ) → 2 ≤ length bs → number (take 2 bs) ≡ get_or bs 0 0 * 256 + get_or bs 1 0
unfolding number number_from
two_bytes [] le = absurd (omega arith)
two_bytes (a ∷ []) le = absurd (omega arith)
two_bytes (a ∷ b ∷ bs) le = omega arith

-- the body behind the kind
abbrev pub body_in : List ℕ → ℕ → ℕ
body_in s at = get_or s (at + 1) 0 * 256 + get_or s (at + 2) 0

pub decoded_is : (s : List ℕ) (at : ℕ) → decoded_as (item_at (get_or s at 0) (drop (at + 1) s)) at
    ≡ cond (eqb (get_or s at 0) kind_e) (cond (leb (at + 3) (length s)) (Some (E (body_in s at), at + 3)) None)
    (cond (eqb (get_or s at 0) kind_c) (cond (leb (at + 3) (length s)) (Some (C (body_in s at), at + 3)) None)
    (cond (eqb (get_or s at 0) kind_q) (Some (Q, at + 1)) None))
unfolding item_at whole_if body size
decoded_is s at = grind (arith, nat_tests, two_bytes, get_or-drop, length-drop)

pub ruleset decoding = (nat_tests, take_rest, decoded_is, get_or-drop)
