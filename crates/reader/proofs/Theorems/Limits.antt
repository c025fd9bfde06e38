-- Every instance that a text is read as keeps the limits, and its clauses hold no literal twice.
use Rattle.std.specs.Prelude.{ℕ, ◌+◌, ◌*◌, ◌-◌, ◌<◌, ◌≤◌, max, true, not, ◌&&◌, ◌||◌, List, [], ◌∷◌, ◌≡◌, eqb, leb, ltb, length}
use Rattle.std.proofs.Math.Option.{Option, some, none}
use Rattle.std.proofs.Common.{sym, subst, arith, length-append, leb-true, leb-false, ltb-false}
use Rattle.std.proofs.lemmas.Bool.{eqb-false, not-true}
use Rattle.instance.specs.Limits.{most_variables, most_clauses, most_literals, most_weight}
use Rattle.instance.specs.Clause.{
  Literal,
  Weight,
  hard,
  soft,
  Body,
  clause,
  Clause,
  Problem,
  variable_of,
  occurs,
  kept_with,
  soft_of,
  total_of,
}
use Rattle.instance.specs.Within.{Every, In, InBody, Weighty, Within}
use Rattle.instance.specs.Theorems.Choices.{on_test, on_option, never, both, neither}
use Rattle.instance.specs.Theorems.Clauses.{total_snoc}
use Rattle.instance.specs.Theorems.Every.{every_snoc, every_map}
use Rattle.instance.specs.Theorems.Literals.{Different, DifferentIn, different_kept}
use Rattle.reader.specs.Lines.{Token, Line, lines}
use Rattle.reader.specs.Numbers.{zero_digit, nine_digit, digit, all_digits, spelled, value_from, decimal}
use Rattle.reader.specs.Words.{
  minus,
  alone,
  weight_spelled,
  signed,
  literal_spelled,
  First,
  weighs,
  bad_first,
  weighed,
  first_word,
  Later,
  ends,
  holds,
  bad_later,
  later_word,
}
use Rattle.reader.specs.Reading.{
  Reading,
  read,
  refused,
  nothing,
  with_literal,
  with_clause,
  ended,
  clause_from,
  comment,
  line_read,
  lines_read,
  read_of,
}

-- ---- tokens
value_grows : (v : ℕ) (bs : List ℕ) → v ≤ value_from v bs
unfolding value_from
value_grows v [] = omega arith
value_grows v (b ∷ bs) = omega (arith, value_grows (10 * v + (b - zero_digit)) bs)

-- a number without a leading zero is at least 1
pub spelled_some : (t : List ℕ) → spelled t ≡ true → 1 ≤ decimal t
unfolding spelled decimal all_digits digit value_from
spelled_some [] h = never (sym h)
spelled_some (b ∷ bs) h =
    let parts = both (not (eqb b zero_digit)) (digit b && all_digits bs) h in
    let other : b ≡ zero_digit → ⊥ = eqb-false b zero_digit (not-true (eqb b zero_digit) parts.0) in
    let low = both (leb zero_digit b) (leb b nine_digit) (both (digit b) (all_digits bs) parts.1).0 in
    omega (arith, other, leb-true zero_digit b low.0, value_grows (10 * 0 + (b - zero_digit)) bs)

-- what a clause's first token was taken for
pub record Opens (cs : List Clause) (w : Weight) : Type 0 where
  pub fewer : length cs < most_clauses
  pub lighter : total_of cs + soft_of w ≤ most_weight
  pub weighty : Weighty w

abbrev Opening : List Clause → First → Type 0
Opening cs (weighs w) = Opens cs w
Opening cs (bad_first n) = Unit {0}

weighed_opens : (cs : List Clause) (w : Weight) → total_of cs ≤ most_weight → length cs < most_clauses
    → Opening cs (weighed cs w)
unfolding weighed soft_of
weighed_opens cs hard light few = record { fewer = few; lighter = omega arith; weighty = tt }
weighed_opens cs (soft w) light few =
    on_test (Opening cs) (eqb w 0 || ltb most_weight w) (λ _. tt) λ e.
    on_test (Opening cs) (ltb most_weight (total_of cs + w)) (λ _. tt) λ f.
    let some : w ≡ 0 → ⊥ = eqb-false w 0 (neither (eqb w 0) (ltb most_weight w) e).0 in
    record { fewer = few; lighter = ltb-false most_weight (total_of cs + w) f; weighty = omega (arith, some) }

first_opens : (cs : List Clause) (t : List ℕ) → total_of cs ≤ most_weight → Opening cs (first_word cs t)
unfolding first_word
first_opens cs t light =
    on_option (Opening cs) (weight_spelled t) (λ _. tt) λ w e.
    on_test (Opening cs) (leb most_clauses (length cs)) (λ _. tt) λ f.
    weighed_opens cs w light (leb-false most_clauses (length cs) f)

pub first_taken : (cs : List Clause) (t : List ℕ) (w : Weight) → total_of cs ≤ most_weight → first_word cs t ≡ weighs w
    → Opens cs w
first_taken cs t w light e = subst (Opening cs) e (first_opens cs t light)

-- what a later token was taken for
pub record Taken (written : ℕ) (l : Literal) : Type 0 where
  pub low : 1 ≤ variable_of l
  pub high : variable_of l ≤ most_variables
  pub fewer : written < most_literals

abbrev Holding : ℕ → Later → Type 0
Holding written (holds l) = Taken written l
Holding written ends = Unit {0}
Holding written (bad_later n) = Unit {0}

abbrev Variable : Option Literal → Type 0
Variable none = Unit {0}
Variable (some l) = 1 ≤ variable_of l

literal_variable : (t : List ℕ) → Variable (literal_spelled t)
unfolding literal_spelled signed variable_of
literal_variable [] = tt
literal_variable (b ∷ bs) =
    on_test Variable (eqb b minus)
    (λ _. on_test Variable (spelled bs) (λ e. spelled_some bs e) (λ _. tt))
    (λ _. on_test Variable (spelled (b ∷ bs)) (λ e. spelled_some (b ∷ bs) e) (λ _. tt))

later_holds : (written : ℕ) (t : List ℕ) → Holding written (later_word written t)
unfolding later_word
later_holds written t =
    on_test (Holding written) (alone zero_digit t) (λ _. tt) λ _.
    on_option (Holding written) (literal_spelled t) (λ _. tt) λ l e.
    on_test (Holding written) (ltb most_variables (variable_of l)) (λ _. tt) λ f.
    on_test (Holding written) (leb most_literals written) (λ _. tt) λ g.
    record {
      low = subst Variable e (literal_variable t);
      high = ltb-false most_variables (variable_of l) f;
      fewer = leb-false most_literals written g;
    }

pub later_taken : (written : ℕ) (t : List ℕ) (l : Literal) → later_word written t ≡ holds l → Taken written l
later_taken written t l e = subst (Holding written) e (later_holds written t)

-- ---- the instance so far
pub record Sound (I : Problem) : Type 0 where
  pub within : Within I
  pub different : Every (λ c. DifferentIn c.body) I.clauses

-- and a clause at work
pub record Open (I : Problem) (w : Weight) (ls : List Literal) : Type 0 where
  pub sound : Sound I
  pub opens : Opens I.clauses w
  pub fits : Every (In I.variables) ls
  pub different : Different ls

in_more : (n m : ℕ) → n ≤ m → (l : Literal) → In n l → In m l
in_more n m h l i = (i.0, omega arith)

clause_in_more : (n m : ℕ) → n ≤ m → (c : Clause) → InBody n c.body → InBody m c.body
clause_in_more n m h c = go c.body
  where
    go : (b : Body) → InBody n b → InBody m b
    go (clause ls) k = every_map (In n) (In m) (in_more n m h) ls k

in_kept : (n : ℕ) (ls : List Literal) (l : Literal) → In n l → Every (In n) ls → Every (In n) (kept_with ls l)
unfolding kept_with
in_kept n ls l i h = on_test (Every (In n)) (occurs l ls) (λ _. h) (λ _. every_snoc (In n) ls l h i)

pub nothing_sound : Sound nothing
unfolding nothing total_of
nothing_sound = record {
  within = record { top = omega arith; few = omega arith; many = omega arith; light = omega arith; fits = tt; weighty = tt };
  different = tt;
}

pub open_begun : {I : Problem} {w : Weight} → Sound I → Opens I.clauses w → Open I w []
open_begun h o = record { sound = h; opens = o; fits = tt; different = tt }

module _ {I : Problem} {w : Weight} {ls : List Literal} (o : Open I w ls) where
  pub open_literal : {l : Literal} → Taken I.written l → Open (with_literal I l) w (kept_with ls l)
  unfolding with_literal
  open_literal {l} t =
      let n = I.variables in
      let m = max I.variables (variable_of l) in
      let h = o.sound.within in
      let In-clause : ℕ → Clause → Type 0 = λ x c. InBody x c.body in
      record {
        sound = record {
          within = record {
            top = omega (arith, t);
            few = h.few;
            many = omega (arith, t);
            light = h.light;
            fits = every_map (In-clause n) (In-clause m) (clause_in_more n m (omega arith)) I.clauses h.fits;
            weighty = h.weighty;
          };
          different = o.sound.different;
        };
        opens = o.opens;
        fits = in_kept m ls l (t.low, omega arith) (every_map (In n) (In m) (in_more n m (omega arith)) ls o.fits);
        different = different_kept ls l o.different;
      }

  pub open_clause : Sound (with_clause I w ls)
  unfolding with_clause
  open_clause =
      let h = o.sound.within in
      let c : Clause = record { weight = w; body = clause ls } in
      record {
        within = record {
          top = h.top;
          few = omega (arith, length-append I.clauses (c ∷ []), o.opens.fewer);
          many = h.many;
          light = omega (arith, total_snoc I.clauses c, o.opens.lighter);
          fits = every_snoc (λ d. InBody I.variables d.body) I.clauses c h.fits o.fits;
          weighty = every_snoc (λ d. Weighty d.weight) I.clauses c h.weighty o.opens.weighty;
        };
        different = every_snoc (λ d. DifferentIn d.body) I.clauses c o.sound.different o.different;
      }

-- ---- what reading gives
abbrev Gives : Reading → Type 0
Gives (read I) = Sound I
Gives (refused n p) = Unit {0}

clause_gives : (end : ℕ) (ts : List Token) (I : Problem) (w : Weight) (ls : List Literal) → Open I w ls
    → Gives (clause_from I w ls end ts)
unfolding clause_from ended
clause_gives end [] I w ls o = tt
clause_gives end (t ∷ ts) I w ls o =
    go (later_word I.written t.bytes) (later_holds I.written t.bytes) (clause_gives end ts)
  where
    done : (us : List Token) → Gives (ended (with_clause I w ls) us)
    done [] = open_clause o
    done (u ∷ us) = tt

    go : (word : Later) → Holding I.written word
        → ((I' : Problem) (w' : Weight) (ls' : List Literal) → Open I' w' ls' → Gives (clause_from I' w' ls' end ts))
        → Gives (elim word as (λ _. Reading) [
          | bad_later n ↦ refused n t.place
          | ends ↦ ended (with_clause I w ls) ts
          | holds l ↦ clause_from (with_literal I l) w (kept_with ls l) end ts
        ])
    go (bad_later n) h rest = tt
    go ends h rest = done ts
    go (holds l) h rest = rest (with_literal I l) w (kept_with ls l) (open_literal o h)

line_gives : (I : Problem) (end : ℕ) (ts : List Token) → Sound I → Gives (line_read I end ts)
unfolding line_read
line_gives I end [] h = h
line_gives I end (t ∷ ts) h =
    on_test Gives (comment t.bytes) (λ _. h)
    (λ _. go (first_word I.clauses t.bytes) (first_opens I.clauses t.bytes h.within.light))
  where
    go : (word : First) → Opening I.clauses word
        → Gives (elim word as (λ _. Reading) [ bad_first n ↦ refused n t.place | weighs w ↦ clause_from I w [] end ts ])
    go (bad_first n) o = tt
    go (weighs w) o = clause_gives end ts I w [] (open_begun h o)

lines_give : (ls : List Line) (I : Problem) → Sound I → Gives (lines_read I ls)
unfolding lines_read
lines_give [] I h = h
lines_give (l ∷ ls) I h = go (line_read I l.end l.tokens) (line_gives I l.end l.tokens h) (lines_give ls)
  where
    go : (r : Reading) → Gives r → ((J : Problem) → Sound J → Gives (lines_read J ls))
        → Gives (elim r as (λ _. Reading) [ refused n p ↦ refused n p | read J ↦ lines_read J ls ])
    go (refused n p) g rest = tt
    go (read J) g rest = rest J g

read_sound : (text : List ℕ) (I : Problem) → read_of text ≡ read I → Sound I
unfolding read_of
read_sound text I e = subst Gives e (lines_give (lines 0 text) nothing nothing_sound)

pub read_within : (text : List ℕ) (I : Problem) → read_of text ≡ read I → Within I
read_within text I e = (read_sound text I e).within

-- "A repeated literal is kept once": no clause holds a literal twice
pub read_kept : (text : List ℕ) (I : Problem) → read_of text ≡ read I → Every (λ c. DifferentIn c.body) I.clauses
read_kept text I e = (read_sound text I e).different
