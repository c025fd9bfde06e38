-- One turn of the walk over a derivation's bytes.
use Rattle.std.proofs.Common.{ℕ, zero, suc, ◌+◌, ◌<◌, ◌≤◌, List, [], ◌∷◌, ◌++◌, ◌≡◌, Some, None, refl, ap, sym, ◌∙◌, arith, add-one, length, get_or, drop, drop_of_length-le, drop-cons, drop-drop}
use Rattle.instance.specs.Clause.{Problem}
use Rattle.instance.specs.Refusals.{staged}
use Rattle.instance.specs.declared.answers.Claim.{Claim}
use Rattle.instance.specs.declared.answers.Checked.TheVariants.{Accepted, Refused}
use Rattle.calculus.specs.Branch.{Branch}
use Rattle.calculus.specs.Derivation.{Item, whole, other, size, stop, go, step, walk}
use Rattle.calculus.specs.declared.Record.{Record}
use Rattle.calculus.specs.declared.Record.TheVariants.{E, C, Q}
use Rattle.derivation.specs.Bytes.{item_at, body_size, items_after, items}
use Rattle.checker.specs.Decoding.{decoded_as}

-- ---- items
-- after the rest of a body come the items behind it
skip_is : (skip : ℕ) (bs : List ℕ) → items_after skip bs ≡ items (drop skip bs)
unfolding items items_after
skip_is zero bs = refl
skip_is (suc skip) [] = refl
skip_is (suc skip) (b ∷ bs) = skip_is skip bs

record_size : (r : Record) → suc (body_size (whole r)) ≡ size r
unfolding size body_size
record_size (E i) = refl
record_size (C x) = refl
record_size Q = refl

decoded_whole : (i : Item) (at : ℕ) (r : Record) (next : ℕ) → decoded_as i at ≡ Some (r, next) → (i ≡ whole r) × (next ≡ at + size r)
decoded_whole (whole q) at r next e =
    let p : ◌≡◌ {A = Record × ℕ} (q, at + size q) (r, next) = cc in
    let same = ap (λ x. x.0) p in
    (ap whole same, sym (ap (λ x. x.1) p) ∙ ap (λ x. at + size x) same)
decoded_whole other at r next e = cc

decoded_broken : (i : Item) (at : ℕ) → decoded_as i at ≡ None → i ≡ other
decoded_broken (whole q) at e = cc
decoded_broken other at e = refl

-- ---- the items from a place on
module _ (proof : List ℕ) (at : ℕ) where
  items_none : length proof ≤ at → items (drop at proof) ≡ []
  unfolding items items_after
  items_none le = rw (drop_of_length-le proof le) refl

  abbrev item : Item
  item = item_at (get_or proof at 0) (drop (at + 1) proof)

  items_here : at < length proof → items (drop at proof) ≡ item ∷ items_after (body_size item) (drop (at + 1) proof)
  unfolding items items_after
  items_here lt = rw (drop-cons proof at 0 lt, add-one at) refl

  module _ (r : Record) (next : ℕ) (e : Some (r, next) ≡ decoded_as item at) where
    is_whole : item ≡ whole r
    is_whole = (decoded_whole item at r next (sym e)).0

    next_is : next ≡ at + size r
    next_is = (decoded_whole item at r next (sym e)).1

    pub next_later : at < next
    next_later = omega (arith, next_is, record_size r)

    items_whole : at < length proof → items (drop at proof) ≡ whole r ∷ items (drop next proof)
    items_whole lt =
        let p : at + 1 + body_size (whole r) ≡ next = omega (arith, next_is, record_size r) in
        rw (items_here lt, is_whole, skip_is (body_size (whole r)) (drop (at + 1) proof), drop-drop (body_size (whole r)) (at + 1) proof, p)

-- ---- the walk
module _ (I : Problem) (k : Claim) (proof : List ℕ) (at n : ℕ) where
  pub walk_end : (b : Branch) (bs : List Branch) → length proof ≤ at → walk I k (items (drop at proof)) at n (b ∷ bs) ≡ Refused (staged 19 at)
  unfolding walk
  walk_end b bs le = rw (items_none proof at le) refl

  pub walk_accepts : (bs : List Branch) → bs ≡ [] → length proof ≤ at → walk I k (items (drop at proof)) at n bs ≡ Accepted k n
  unfolding walk
  walk_accepts bs e le = rw (e, items_none proof at le) refl

  module _ (lt : at < length proof) where
    pub walk_more : (bs : List Branch) → bs ≡ [] → walk I k (items (drop at proof)) at n bs ≡ Refused (staged 20 at)
    unfolding walk
    walk_more bs e = rw (e, items_here proof at lt) refl

    pub walk_broken : (b : Branch) (bs : List Branch) → None ≡ decoded_as (item proof at) at
        → walk I k (items (drop at proof)) at n (b ∷ bs) ≡ Refused (staged 14 at)
    unfolding walk
    walk_broken b bs e = rw (items_here proof at lt, decoded_broken (item proof at) at (sym e)) refl

    module _ (r : Record) (next : ℕ) (e : Some (r, next) ≡ decoded_as (item proof at) at) (b : Branch) (bs : List Branch) where
      pub walk_stops : (number : ℕ) → step I k r b ≡ stop number → walk I k (items (drop at proof)) at n (b ∷ bs) ≡ Refused (staged number at)
      unfolding walk
      walk_stops number q = rw (items_whole proof at r next e lt, q, walk) refl

      pub walk_goes : (new : List Branch) → step I k r b ≡ go new
          → walk I k (items (drop at proof)) at n (b ∷ bs) ≡ walk I k (items (drop next proof)) next (n + 1) (new ++ bs)
      unfolding walk
      walk_goes new q = rw (items_whole proof at r next e lt, q, walk, ← next_is proof at r next e, add-one n) refl
