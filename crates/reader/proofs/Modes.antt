-- What reading comes to from a place in the text, by what the line at that place is taken for.
use Rattle.std.specs.Prelude.{ℕ, suc, ◌+◌, ◌<◌, ◌≤◌, Bool, true, false, List, [], ◌∷◌, ◌≡◌, refl, eqb, length, drop}
use Rattle.std.specs.List.{prefix_len}
use Rattle.std.proofs.Common.{sym, ap, ◌∙◌, arith, add-zero, drop-drop}
use Rattle.std.proofs.lemmas.Bool.{not-true, not-false}
use Rattle.instance.specs.Clause.{Literal, Weight, Problem}
use Rattle.instance.specs.Theorems.Choices.{on_test, never}
use Rattle.reader.specs.Lines.{line_feed, blank, Token, Line, on_first, begun, widened, starts_in_token, lines}
use Rattle.reader.specs.Reading.{Reading, read, refused, ended, clause_from, comment, line_read, lines_read}
use Rattle.reader.specs.Spans.{in_line, past, TokenAt}
use Rattle.reader.proofs.Spans.{span_more, span_stop, span_none, span_after}
use Rattle.reader.proofs.Lexing.{from, lines_feed, lines_some, found, from_token, from_last, from_feed, from_stop}

-- at the front of a line, inside a comment, inside a clause, after its 0
pub data Mode : Type 0 where
  between : Problem → Mode
  skipping : Problem → Mode
  inside : Problem → Weight → List Literal → Mode
  after : Problem → Mode

-- what is left of the line
abbrev pub on_line : Mode → ℕ → List Token → Reading
on_line (between I) end ts = line_read I end ts
on_line (skipping I) end ts = read I
on_line (inside I w ls) end ts = clause_from I w ls end ts
on_line (after I) end ts = ended I ts

abbrev and_then : Reading → List Line → Reading
and_then r ls = elim r [ refused n p ↦ refused n p | read J ↦ lines_read J ls ]

-- what is left of the text; there is always a line
abbrev pub on_text : Mode → List Line → Reading
on_text m [] = on_line m 0 []
on_text m (l ∷ ls) = and_then (on_line m l.end l.tokens) ls

pub text_lines : (I : Problem) (ls : List Line) → lines_read I ls ≡ on_text (between I) ls
unfolding lines_read line_read
text_lines I [] = refl
text_lines I (l ∷ ls) = refl

-- ---- at a token, the line goes on in another mode, or reading stops
module _ {text : List ℕ} {i place : ℕ} {bytes : List ℕ} (t : TokenAt text i place bytes) (m : Mode) where
  module _ (some : 0 < length bytes) where
    pub token_goes : (m' : Mode) → ((e : ℕ) (ts : List Token) → on_line m e (found t ∷ ts) ≡ on_line m' e ts)
        → on_text m (from text i) ≡ on_text m' (from text (place + length bytes))
    unfolding on_first
    token_goes m' h =
        let (l, ls, e) = lines_some (place + length bytes) (drop (place + length bytes) text) in
        rw (from_token t some, e) (ap (λ (r : Reading). and_then r ls) (h l.end l.tokens))

    pub token_stops : (n p : ℕ) → ((e : ℕ) (ts : List Token) → on_line m e (found t ∷ ts) ≡ refused n p)
        → on_text m (from text i) ≡ refused n p
    unfolding on_first
    token_stops n p h =
        let (l, ls, e) = lines_some (place + length bytes) (drop (place + length bytes) text) in
        rw (from_token t some, e) (ap (λ (r : Reading). and_then r ls) (h l.end l.tokens))

  -- the line ends
  module _ (none : length bytes ≡ 0) where
    pub line_stops : (n p : ℕ) → on_line m place [] ≡ refused n p → on_text m (from text i) ≡ refused n p
    line_stops n p h =
        let (ls, e) = from_stop t none in
        rw e (ap (λ (r : Reading). and_then r ls) h)

    pub line_goes : (m' : Mode) → on_line m place [] ≡ on_line m' place [] → on_text m (from text i) ≡ on_text m' (from text i)
    line_goes m' h =
        let (ls, e) = from_stop t none in
        rw e (ap (λ (r : Reading). and_then r ls) h)

-- ---- from line to line
module _ {text : List ℕ} {i place : ℕ} {bytes : List ℕ} (t : TokenAt text i place bytes) (I : Problem) where
  pub empty_goes : length bytes ≡ 0 → place < length text → lines_read I (from text i) ≡ lines_read I (from text (place + 1))
  unfolding line_read lines_read
  empty_goes l h = rw (from_feed t l h)

  pub last_line : length text ≤ place → lines_read I (from text i) ≡ read I
  unfolding line_read lines_read
  last_line h = rw (from_last t h)

-- ---- inside a comment
module _ (I : Problem) where
  skip_first : (f : List Token → List Token) (ls : List Line) → on_text (skipping I) (on_first f ls) ≡ on_text (skipping I) ls
  unfolding on_first
  skip_first f [] = refl
  skip_first f (l ∷ ls) = refl

  skip_byte : (p b : ℕ) (bs : List ℕ) → in_line b ≡ true
      → on_text (skipping I) (lines p (b ∷ bs)) ≡ on_text (skipping I) (lines (suc p) bs)
  unfolding lines in_line
  skip_byte p b bs h =
      on_test Same (eqb b line_feed) (λ e. never (sym e ∙ not-true (eqb b line_feed) h)) λ _.
      on_test Same (blank b) (λ _. refl) λ _.
      on_test Same (starts_in_token bs) (λ _. skip_first (widened p b) (lines (suc p) bs))
      (λ _. skip_first (begun p b) (lines (suc p) bs))
    where
      Same : List Line → Type 0
      Same ls = on_text (skipping I) ls ≡ on_text (skipping I) (lines (suc p) bs)

  -- n bytes are skipped
  abbrev Skips : ℕ → List ℕ → ℕ → Type 0
  Skips p bs n = on_text (skipping I) (lines p bs) ≡ on_text (skipping I) (lines (p + n) (drop n bs))

  skip_bytes : (p : ℕ) (bs : List ℕ) → Skips p bs (prefix_len in_line bs)
  skip_bytes p [] = rw add-zero
  skip_bytes p (b ∷ bs) = go (in_line b) refl (skip_bytes (suc p) bs)
    where
      go : (t : Bool) → in_line b ≡ t → Skips (suc p) bs (prefix_len in_line bs) → Skips p (b ∷ bs) (prefix_len in_line (b ∷ bs))
      go true e h =
          let n : p + suc (prefix_len in_line bs) ≡ suc p + prefix_len in_line bs = omega arith in
          rw (span_more in_line b bs e, n) (skip_byte p b bs e ∙ h)
      go false e h = rw (span_stop in_line b bs e, add-zero)

  skip_end : (p : ℕ) (bs : List ℕ) → prefix_len in_line bs ≡ 0
      → on_text (skipping I) (lines p bs) ≡ on_text (between I) (lines p bs)
  unfolding lines line_read in_line
  skip_end p [] h = refl
  skip_end p (b ∷ bs) h =
      rw (lines_feed p b bs (not-false (eqb b line_feed) (span_none in_line b bs h)))

  skip_line : (text : List ℕ) (i : ℕ)
      → on_text (skipping I) (from text i) ≡ on_text (between I) (from text (past in_line text i))
  skip_line text i =
      let j = past in_line text i in
      let rest = drop-drop (prefix_len in_line (drop i text)) i text in
      skip_bytes i (drop i text)
      ∙ ap (λ (bs : List ℕ). on_text (skipping I) (lines j bs)) rest
      ∙ skip_end j (drop j text) (ap (prefix_len in_line) (sym rest) ∙ span_after in_line (drop i text))

  pub comment_goes : {text : List ℕ} {i place : ℕ} {bytes : List ℕ} → TokenAt text i place bytes → 0 < length bytes
      → comment bytes ≡ true → lines_read I (from text i) ≡ lines_read I (from text (past in_line text (place + length bytes)))
  unfolding line_read
  comment_goes {text} {i} {place} {bytes} t some c =
      let end = place + length bytes in
      text_lines I (from text i)
      ∙ token_goes t (between I) some (skipping I) (λ _ ts. rw (c, line_read))
      ∙ skip_line text end
      ∙ sym (text_lines I (from text (past in_line text end)))
