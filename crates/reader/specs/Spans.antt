-- Where the bytes of a kind, a token and a line stand: what the reader's contracts say of places.
use Rattle.std.specs.Prelude.{ℕ, ◌+◌, ◌≡◌, ◌≤◌, Bool, false, not, List, eqb, length, drop, take_while}
use Rattle.std.specs.List.{prefix_len}
use Rattle.instance.specs.Clause.{Problem}
use Rattle.reader.specs.Lines.{line_feed, blank, in_token, lines}
use Rattle.reader.specs.Reading.{comment, lines_read}

-- any byte but LF
unfoldable pub in_line : ℕ → Bool
in_line b = not (eqb b line_feed)

-- the first place from one on whose byte is not of the kind, or the text's length
abbrev pub past : (ℕ → Bool) → List ℕ → ℕ → ℕ
past kind text from = from + prefix_len kind (drop from text)

-- the token that stands next from a place on, past the blanks; empty where the line has no more
pub record TokenAt (text : List ℕ) (from place : ℕ) (bytes : List ℕ) : Type 0 where
  pub starts : place ≡ past blank text from
  pub run : bytes ≡ take_while in_token (drop place text)
  pub within : place + length bytes ≤ length text

-- The first token of the next clause's line from a place on: what stands before it changes no reading. Empty at the text's end.
pub record LineAt (text : List ℕ) (from place : ℕ) (bytes : List ℕ) : Type 0 where
  pub line : ℕ
  pub after : from ≤ line
  pub same : (I : Problem) → lines_read I (lines from (drop from text)) ≡ lines_read I (lines line (drop line text))
  pub token : TokenAt text line place bytes
  pub plain : comment bytes ≡ false
  pub last : length bytes ≡ 0 → place ≡ length text
