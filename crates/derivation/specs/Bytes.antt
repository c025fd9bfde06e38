-- A derivation's bytes (01, "Derivation records"): "One byte of kind, then a body whose length the kind fixes. Numbers are
-- big-endian."
use Rattle.std.specs.Prelude.{ℕ, zero, suc, ◌+◌, ◌*◌, ◌/◌, ◌%◌, true, false, List, [], ◌∷◌, ◌++◌, eqb, leb, length, take}
use Rattle.std.proofs.Math.Option.{Option, some, none}
use Rattle.instance.specs.Answers.{kind_m, kind_n}
use Rattle.instance.specs.declared.answers.Claim.{Claim}
use Rattle.instance.specs.declared.answers.Claim.TheVariants.{Minimum, Infeasible}
use Rattle.calculus.specs.Derivation.{Item, whole, other}
use Rattle.calculus.specs.declared.Record.{Record}
use Rattle.calculus.specs.declared.Record.TheVariants.{E, C, Q}

abbrev pub kind_e : ℕ
kind_e = 0x45

abbrev pub kind_c : ℕ
kind_c = 0x43

abbrev pub kind_q : ℕ
kind_q = 0x51

-- ---- reading
-- bytes that follow bytes of the value v
unfoldable pub number_from : ℕ → List ℕ → ℕ
number_from v [] = v
number_from v (b ∷ bs) = number_from (256 * v + b) bs

unfoldable pub number : List ℕ → ℕ
number bs = number_from 0 bs

-- a body of so many bytes at the front of bs, or none where bs ends before
unfoldable pub body : ℕ → List ℕ → Option ℕ
body width bs = elim (leb width (length bs)) [ true ↦ some (number (take width bs)) | false ↦ none ]

unfoldable pub claim_size : Claim → ℕ
claim_size (Minimum m) = 9
claim_size Infeasible = 1

-- the claim at the front, if a whole one stands there
unfoldable pub claim_at : List ℕ → Option Claim
claim_at [] = none
claim_at (b ∷ bs) =
    elim (eqb b kind_m) [
      | true ↦ elim (body 8 bs) [ some m ↦ some (Minimum m) | none ↦ none ]
      | false ↦ elim (eqb b kind_n) [
        | true ↦ some Infeasible
        | false ↦ none
      ]
    ]

unfoldable pub whole_if : (ℕ → Record) → Option ℕ → Item
whole_if kind none = other
whole_if kind (some v) = whole (kind v)

-- the record after the claim whose kind is b and whose body stands at the front of bs
unfoldable pub item_at : ℕ → List ℕ → Item
item_at b bs =
    elim (eqb b kind_e) [
      | true ↦ whole_if E (body 2 bs)
      | false ↦ elim (eqb b kind_c) [
        | true ↦ whole_if C (body 2 bs)
        | false ↦ elim (eqb b kind_q) [
          | true ↦ whole Q
          | false ↦ other
        ]
      ]
    ]

-- the bytes of its body. No byte after an item that is no whole record is ever looked at.
unfoldable pub body_size : Item → ℕ
body_size (whole (E i)) = 2
body_size (whole (C x)) = 2
body_size (whole Q) = 0
body_size other = 0

-- the items of bs, after the last `skip` bytes of a body
unfoldable pub items_after : ℕ → List ℕ → List Item
items_after skip [] = []
items_after (suc skip) (b ∷ bs) = items_after skip bs
items_after zero (b ∷ bs) = item_at b bs ∷ items_after (body_size (item_at b bs)) bs

unfoldable pub items : List ℕ → List Item
items bs = items_after 0 bs

-- ---- writing
-- the lowest `width` bytes of v, the highest of them first
unfoldable pub octets : ℕ → ℕ → List ℕ
octets zero v = []
octets (suc width) v = octets width (v / 256) ++ (v % 256 ∷ [])

unfoldable pub claim_bytes : Claim → List ℕ
claim_bytes (Minimum m) = kind_m ∷ octets 8 m
claim_bytes Infeasible = kind_n ∷ []

unfoldable pub record_bytes : Record → List ℕ
record_bytes (E i) = kind_e ∷ octets 2 i
record_bytes (C x) = kind_c ∷ octets 2 x
record_bytes Q = kind_q ∷ []

unfoldable pub all_bytes : List Record → List ℕ
all_bytes [] = []
all_bytes (r ∷ rs) = record_bytes r ++ all_bytes rs
