-- Texts for examples: a quoted text's bytes, where `/` is LF as in 01's own examples.
use Rattle.std.specs.Prelude.{ℕ, true, false, List, [], ◌∷◌, eqb}
use Prim.Native.Char.{code}
use Prim.Native.String as quoted
use Prim.Native.String.{String}

unfoldable pub text : String → List ℕ
text quoted.[] = []
text (quoted.◌∷◌ c cs) = elim (eqb (code c) (code "/")) [ true ↦ 10 | false ↦ code c ] ∷ text cs

-- 01's sheet pair
abbrev pub sheet_pair : String
sheet_pair = "h 1 2 0/3 -1 0/2 -2 0/4 -1 -2 0/"
