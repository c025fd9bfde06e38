-- A text as lines of placed tokens (01, "Instance text").
use Rattle.std.specs.Prelude.{ℕ, suc, Bool, true, false, not, ◌&&◌, ◌||◌, List, [], ◌∷◌, eqb}

abbrev pub line_feed : ℕ
line_feed = 10

abbrev pub tab : ℕ
tab = 9

abbrev pub space : ℕ
space = 32

-- "Blanks are space and tab."
unfoldable pub blank : ℕ → Bool
blank b = eqb b space || eqb b tab

-- "A token is a longest run of bytes other than blanks and LF."
unfoldable pub in_token : ℕ → Bool
in_token b = not (blank b) && not (eqb b line_feed)

-- a token's first byte's place, and its bytes
pub record Token : Type 0 where
  pub place : ℕ
  pub bytes : List ℕ

-- a line's tokens, and the place of its LF or of the text's end
pub record Line : Type 0 where
  pub tokens : List Token
  pub end : ℕ

-- the first line with its tokens changed
unfoldable pub on_first : (List Token → List Token) → List Line → List Line
on_first f [] = []
on_first f (l ∷ ls) = record { tokens = f l.tokens; end = l.end } ∷ ls

-- the byte b at place p begins a token of its own
unfoldable pub begun : ℕ → ℕ → List Token → List Token
begun p b ts = record { place = p; bytes = b ∷ [] } ∷ ts

-- the byte b at place p stands in front of the first token and belongs to it
unfoldable pub widened : ℕ → ℕ → List Token → List Token
widened p b [] = []
widened p b (t ∷ ts) = record { place = p; bytes = b ∷ t.bytes } ∷ ts

unfoldable pub starts_in_token : List ℕ → Bool
starts_in_token [] = false
starts_in_token (b ∷ bs) = in_token b

-- "A line ends at LF or at the end of the text." The lines of bs, whose first byte stands at place p.
unfoldable pub lines : ℕ → List ℕ → List Line
lines p [] = record { tokens = []; end = p } ∷ []
lines p (b ∷ bs) =
    elim (eqb b line_feed) [
      | true ↦ record { tokens = []; end = p } ∷ lines (suc p) bs
      | false ↦ elim (blank b) [
        | true ↦ lines (suc p) bs
        | false ↦ elim (starts_in_token bs) [
          | true ↦ on_first (widened p b) (lines (suc p) bs)
          | false ↦ on_first (begun p b) (lines (suc p) bs)
        ]
      ]
    ]
