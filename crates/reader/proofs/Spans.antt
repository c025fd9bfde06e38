-- Laws of spans: how many bytes of a kind stand at the front.
use Rattle.std.specs.Prelude.{ℕ, suc, ◌≤◌, Bool, true, false, List, [], ◌∷◌, ◌≡◌, refl, length, drop}
use Rattle.std.specs.List.{prefix_len}
use Rattle.std.proofs.Common.{arith, length-drop}
use Rattle.std.proofs.Math.Numerals.{one-add}
use Rattle.std.proofs.lemmas.List.Sums.{prefix_len-le-length}
use Rattle.reader.specs.Spans.{past}

module _ (kind : ℕ → Bool) where
  pub span_more : (b : ℕ) (bs : List ℕ) → kind b ≡ true → prefix_len kind (b ∷ bs) ≡ suc (prefix_len kind bs)
  span_more b bs e = rw (e, one-add)

  pub span_stop : (b : ℕ) (bs : List ℕ) → kind b ≡ false → prefix_len kind (b ∷ bs) ≡ 0
  span_stop b bs e = rw e

  pub span_none : (b : ℕ) (bs : List ℕ) → prefix_len kind (b ∷ bs) ≡ 0 → kind b ≡ false
  span_none b bs h = go (kind b) refl
    where
      go : (t : Bool) → kind b ≡ t → kind b ≡ false
      go true e = absurd (omega (arith, span_more b bs e))
      go false e = e

  -- all that stands at the front is counted
  pub span_after : (bs : List ℕ) → prefix_len kind (drop (prefix_len kind bs) bs) ≡ 0
  span_after [] = refl
  span_after (b ∷ bs) = go (kind b) refl (span_after bs)
    where
      go : (t : Bool) → kind b ≡ t → prefix_len kind (drop (prefix_len kind bs) bs) ≡ 0
          → prefix_len kind (drop (prefix_len kind (b ∷ bs)) (b ∷ bs)) ≡ 0
      go true e h = rw (span_more b bs e) h
      go false e h = rw (span_stop b bs e) (span_stop b bs e)

  pub past_within : (text : List ℕ) (from : ℕ) → from ≤ length text → past kind text from ≤ length text
  past_within text from h = omega (arith, prefix_len-le-length kind (drop from text), length-drop from text)
