-- The lines of a text from a place on: what stands there first.
use Rattle.std.specs.Prelude.{ℕ, suc, ◌+◌, ◌<◌, ◌≤◌, Bool, true, false, not, List, [], ◌∷◌, ◌≡◌, refl, eqb, length, get_or, take, drop}
use Rattle.std.specs.List.{prefix_len}
use Rattle.std.proofs.Common.{sym, ap, ◌∙◌, arith, add-zero, add-one, ne_eqb, drop-cons, drop-drop, drop_of_length-le}
use Rattle.std.proofs.Math.Decide.{dec_le}
use Rattle.std.proofs.lemmas.Bool.{not-true, not-false}
use Rattle.std.proofs.lemmas.List.Folds.{length-prefix_len}
use Rattle.instance.specs.Theorems.Choices.{on_test, never, both}
use Rattle.reader.specs.Lines.{
  line_feed,
  blank,
  in_token,
  Token,
  Line,
  on_first,
  begun,
  widened,
  starts_in_token,
  lines,
}
use Rattle.reader.specs.Spans.{past, TokenAt}
use Rattle.reader.proofs.Spans.{span_more, span_stop, span_none, span_after}

-- the lines of a text from a place on
abbrev pub from : List ℕ → ℕ → List Line
from text i = lines i (drop i text)

abbrev pub empty_line : ℕ → Line
empty_line p = record { tokens = []; end = p }

-- a token in front of the first line's
abbrev pub push : Token → List Line → List Line
push t ls = on_first (λ (ts : List Token). t ∷ ts) ls

-- ---- bytes
blank_no_feed : (b : ℕ) → blank b ≡ true → eqb b line_feed ≡ false
unfolding blank
blank_no_feed b h = ne_eqb b line_feed (λ e. never (sym h ∙ ap blank e))

inner_parts : (b : ℕ) → in_token b ≡ true → (blank b ≡ false) × (eqb b line_feed ≡ false)
unfolding in_token
inner_parts b h =
    let parts = both (not (blank b)) (not (eqb b line_feed)) h in
    (not-true (blank b) parts.0, not-true (eqb b line_feed) parts.1)

feed_left : (b : ℕ) → blank b ≡ false → in_token b ≡ false → eqb b line_feed ≡ true
unfolding in_token
feed_left b e h = not-false (eqb b line_feed) (rw (e, in_token) at h)

module _ (p b : ℕ) (bs : List ℕ) where
  pub lines_feed : eqb b line_feed ≡ true → lines p (b ∷ bs) ≡ empty_line p ∷ lines (suc p) bs
  unfolding lines
  lines_feed e = rw (e, lines)

  lines_blank : blank b ≡ true → lines p (b ∷ bs) ≡ lines (suc p) bs
  unfolding lines
  lines_blank e = rw (blank_no_feed b e, e, lines)

  lines_widened : in_token b ≡ true → starts_in_token bs ≡ true → lines p (b ∷ bs) ≡ on_first (widened p b) (lines (suc p) bs)
  unfolding lines
  lines_widened e f = let (d, g) = inner_parts b e in rw (g, d, f, lines)

  lines_begun : in_token b ≡ true → starts_in_token bs ≡ false → lines p (b ∷ bs) ≡ on_first (begun p b) (lines (suc p) bs)
  unfolding lines
  lines_begun e f = let (d, g) = inner_parts b e in rw (g, d, f, lines)

-- ---- blanks and a token in front
lines_blanks : (p : ℕ) (bs : List ℕ) → lines p bs ≡ lines (p + prefix_len blank bs) (drop (prefix_len blank bs) bs)
lines_blanks p [] = rw add-zero
lines_blanks p (b ∷ bs) = go (blank b) refl (lines_blanks (suc p) bs)
  where
    go : (t : Bool) → blank b ≡ t → lines (suc p) bs ≡ lines (suc p + prefix_len blank bs) (drop (prefix_len blank bs) bs)
        → lines p (b ∷ bs) ≡ lines (p + prefix_len blank (b ∷ bs)) (drop (prefix_len blank (b ∷ bs)) (b ∷ bs))
    go true e h =
        let n : p + suc (prefix_len blank bs) ≡ suc p + prefix_len blank bs = omega arith in
        rw (span_more blank b bs e, n) (lines_blank p b bs e ∙ h)
    go false e h = rw (span_stop blank b bs e, add-zero)

abbrev token_of : ℕ → List ℕ → Token
token_of p bytes = record { place = p; bytes = bytes }

push_widened : (p b q : ℕ) (xs : List ℕ) (ls : List Line)
    → on_first (widened p b) (push (token_of q xs) ls) ≡ push (token_of p (b ∷ xs)) ls
unfolding on_first widened
push_widened p b q xs [] = refl
push_widened p b q xs (l ∷ ls) = refl

push_begun : (p b : ℕ) (ls : List Line) → on_first (begun p b) ls ≡ push (token_of p (b ∷ [])) ls
unfolding on_first begun
push_begun p b [] = refl
push_begun p b (l ∷ ls) = refl

no_token : (bs : List ℕ) → starts_in_token bs ≡ false → prefix_len in_token bs ≡ 0
unfolding starts_in_token
no_token [] e = refl
no_token (b ∷ bs) e = span_stop in_token b bs e

-- a token at place p, and the lines after it
abbrev Front : ℕ → List ℕ → ℕ → Type 0
Front p bs n = lines p bs ≡ push (token_of p (take n bs)) (lines (p + n) (drop n bs))

lines_token : (p : ℕ) (bs : List ℕ) → starts_in_token bs ≡ true → Front p bs (prefix_len in_token bs)
unfolding starts_in_token
lines_token p [] h = never (sym h)
lines_token p (b ∷ bs) h = go (starts_in_token bs) refl (lines_token (suc p) bs)
  where
    go : (t : Bool) → starts_in_token bs ≡ t → (starts_in_token bs ≡ true → Front (suc p) bs (prefix_len in_token bs))
        → Front p (b ∷ bs) (prefix_len in_token (b ∷ bs))
    go true e ih =
        let n : p + suc (prefix_len in_token bs) ≡ suc p + prefix_len in_token bs = omega arith in
        rw (span_more in_token b bs h, n)
        (lines_widened p b bs h e ∙ ap (on_first (widened p b)) (ih e)
        ∙ push_widened p b (suc p) (take (prefix_len in_token bs) bs)
        (lines (suc p + prefix_len in_token bs) (drop (prefix_len in_token bs) bs)))
    go false e ih =
        let n : p + 1 ≡ suc p = omega arith in
        rw (span_more in_token b bs h, no_token bs e, n) (lines_begun p b bs h e ∙ push_begun p b (lines (suc p) bs))

-- there is always a first line
abbrev Some : List Line → Type 0
Some ls = (l : Line) × (rest : List Line) × (ls ≡ l ∷ rest)

some_first : (f : List Token → List Token) (ls : List Line) → Some ls → Some (on_first f ls)
unfolding on_first
some_first f ls some = (_, some.1, ap (on_first f) some.2)

pub lines_some : (p : ℕ) (bs : List ℕ) → Some (lines p bs)
unfolding lines
lines_some p [] = (_, _, refl)
lines_some p (b ∷ bs) =
    let more = lines_some (suc p) bs in
    on_test Some (eqb b line_feed) (λ _. (_, _, refl)) λ _.
    on_test Some (blank b) (λ _. more) λ _.
    on_test Some (starts_in_token bs) (λ _. some_first (widened p b) (lines (suc p) bs) more)
    (λ _. some_first (begun p b) (lines (suc p) bs) more)

-- ---- the same of a text, at a token that was looked for from i on
module _ {text : List ℕ} {i place : ℕ} {bytes : List ℕ} (t : TokenAt text i place bytes) where
  pub from_blanks : from text i ≡ from text place
  from_blanks =
      lines_blanks i (drop i text)
      ∙ ap (lines (past blank text i)) (drop-drop (prefix_len blank (drop i text)) i text)
      ∙ ap (from text) (sym t.starts)

  abbrev pub found : Token
  found = token_of place bytes

  width : length bytes ≡ prefix_len in_token (drop place text)
  width = ap length t.run ∙ length-prefix_len in_token (drop place text)

  pub from_token : 0 < length bytes → from text i ≡ push found (from text (place + length bytes))
  from_token h =
      let some : starts_in_token (drop place text) ≡ true = starts (drop place text) (omega (arith, width)) in
      from_blanks ∙ lines_token place (drop place text) some ∙ rw (t.run, length-prefix_len, drop-drop)
    where
      starts : (bs : List ℕ) → 0 < prefix_len in_token bs → starts_in_token bs ≡ true
      starts bs l = go (starts_in_token bs) refl
        where
          go : (b : Bool) → starts_in_token bs ≡ b → starts_in_token bs ≡ true
          go true e = e
          go false e = absurd (omega (arith, no_token bs e))

  no_blank : prefix_len blank (drop place text) ≡ 0
  no_blank =
      ap (λ (m : ℕ). prefix_len blank (drop m text)) t.starts
      ∙ ap (prefix_len blank) (sym (drop-drop (prefix_len blank (drop i text)) i text))
      ∙ span_after blank (drop i text)

  pub from_last : length text ≤ place → from text i ≡ empty_line place ∷ []
  unfolding lines
  from_last h = from_blanks ∙ ap (lines place) (drop_of_length-le text h)

  pub from_feed : length bytes ≡ 0 → place < length text → from text i ≡ empty_line place ∷ from text (place + 1)
  from_feed l h =
      let b = get_or text place 0 in
      let rest = drop-cons text place 0 h in
      let e : blank b ≡ false = span_none blank b (drop (suc place) text) (sym (ap (prefix_len blank) rest) ∙ no_blank) in
      let f : in_token b ≡ false =
      span_none in_token b (drop (suc place) text) (omega (arith, width, ap (prefix_len in_token) rest)) in
      from_blanks ∙ rw (add-one, rest) (lines_feed place b (drop (suc place) text) (feed_left b e f))

  -- no token: the line ends here
  pub from_stop : length bytes ≡ 0 → (ls : List Line) × (from text i ≡ empty_line place ∷ ls)
  from_stop l = go (dec_le (length text) place)
    where
      go : Dec (length text ≤ place) → (ls : List Line) × (from text i ≡ empty_line place ∷ ls)
      go (yes h) = ([], from_last h)
      go (no h) = (from text (place + 1), from_feed l (omega (arith, h)))
