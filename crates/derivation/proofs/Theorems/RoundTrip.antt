-- Reading what was written: the claim and the records come back from their bytes.
use Rattle.std.specs.Prelude.{ℕ, zero, suc, ◌+◌, ◌*◌, ◌/◌, ◌%◌, ◌^◌, ◌<◌, ◌≤◌, List, [], ◌∷◌, ◌++◌, map, ◌≡◌, length, drop}
use Rattle.std.proofs.Math.Option.{some}
use Rattle.std.proofs.Math.Path.{refl}
use Rattle.std.proofs.Common.{ap, ◌∙◌, arith, pow-suc, div-lt_iff_lt-mul, le-leb, length-append, take_at, drop_at}
use Rattle.std.proofs.Math.Nat.{div-add-mod}
use Rattle.instance.specs.Within.{Every}
use Rattle.instance.specs.declared.answers.Claim.{Claim}
use Rattle.instance.specs.declared.answers.Claim.TheVariants.{Minimum, Infeasible}
use Rattle.calculus.specs.Derivation.{whole, size}
use Rattle.calculus.specs.declared.Record.{Record}
use Rattle.calculus.specs.declared.Record.TheVariants.{E, C, Q}
use Rattle.derivation.specs.Bytes.{
  number_from,
  number,
  body,
  claim_size,
  claim_at,
  whole_if,
  item_at,
  body_size,
  items_after,
  items,
  octets,
  claim_bytes,
  record_bytes,
  all_bytes,
}

number_from_append : (v : ℕ) (xs ys : List ℕ) → number_from v (xs ++ ys) ≡ number_from (number_from v xs) ys
unfolding number_from
number_from_append v [] ys = refl
number_from_append v (x ∷ xs) ys = number_from_append (256 * v + x) xs ys

pub length_octets : (width v : ℕ) → length (octets width v) ≡ width
unfolding octets
length_octets zero v = refl
length_octets (suc width) v = simp length-append (omega (arith, length_octets width (v / 256)))

-- a number that so many bytes hold comes back
pub number_octets : (width v : ℕ) → v < 256 ^ width → number (octets width v) ≡ v
unfolding number octets number_from
number_octets zero v h = omega arith
number_octets (suc width) v h =
    number_from_append 0 (octets width (v / 256)) (v % 256 ∷ []) ∙
    omega (arith, number_octets width (v / 256) ((div-lt_iff_lt-mul {k = 256} {x = v} {y = 256 ^ width} (omega arith)).1 (rw pow-suc at h)), div-add-mod v 256)

pub body_octets : (width v : ℕ) (rest : List ℕ) → v < 256 ^ width → body width (octets width v ++ rest) ≡ some v
unfolding body
body_octets width v rest h =
    rw (le-leb width (length (octets width v ++ rest)) enough, body)
    (ap (λ bs. some (number bs)) (take_at (octets width v) rest width (length_octets width v)) ∙ ap some (number_octets width v h))
  where
    enough : width ≤ length (octets width v ++ rest)
    enough = simp length-append (omega (arith, length_octets width v))

-- ---- the claim
abbrev pub Small : Claim → Type 0
Small (Minimum m) = m < 256 ^ 8
Small Infeasible = Unit {0}

pub claim_back : (k : Claim) (rest : List ℕ) → Small k → claim_at (claim_bytes k ++ rest) ≡ some k
unfolding claim_at claim_bytes
claim_back (Minimum m) rest h = rw (body_octets 8 m rest h, claim_at)
claim_back Infeasible rest h = refl

pub length_claim : (k : Claim) → length (claim_bytes k) ≡ claim_size k
unfolding claim_bytes claim_size
length_claim (Minimum m) = omega (arith, length_octets 8 m)
length_claim Infeasible = refl

pub claim_passed : (k : Claim) (rest : List ℕ) → drop (claim_size k) (claim_bytes k ++ rest) ≡ rest
claim_passed k rest = drop_at (claim_bytes k) rest (claim_size k) (length_claim k)

-- ---- the records
abbrev pub Held : Record → Type 0
Held (E i) = i < 256 ^ 2
Held (C x) = x < 256 ^ 2
Held Q = Unit {0}

passed : (skip : ℕ) (xs ys : List ℕ) → length xs ≡ skip → items_after skip (xs ++ ys) ≡ items ys
unfolding items_after items
passed zero [] ys h = refl
passed zero (x ∷ xs) ys h = absurd (omega arith)
passed (suc skip) [] ys h = absurd (omega arith)
passed (suc skip) (x ∷ xs) ys h = passed skip xs ys (omega arith)

record_back : (r : Record) (rest : List ℕ) → Held r → items (record_bytes r ++ rest) ≡ whole r ∷ items rest
unfolding items record_bytes items_after item_at whole_if body_size
record_back (E i) rest h = rw (body_octets 2 i rest h, passed 2 (octets 2 i) rest (length_octets 2 i))
record_back (C x) rest h = rw (body_octets 2 x rest h, passed 2 (octets 2 x) rest (length_octets 2 x))
record_back Q rest h = refl

pub records_back : (rs : List Record) → Every Held rs → items (all_bytes rs) ≡ map whole rs
unfolding all_bytes
records_back [] h = unfold items items_after in refl
records_back (r ∷ rs) h = record_back r (all_bytes rs) h.0 ∙ ap (λ is. whole r ∷ is) (records_back rs h.1)

pub length_record : (r : Record) → length (record_bytes r) ≡ size r
unfolding record_bytes size
length_record (E i) = omega (arith, length_octets 2 i)
length_record (C x) = omega (arith, length_octets 2 x)
length_record Q = refl
