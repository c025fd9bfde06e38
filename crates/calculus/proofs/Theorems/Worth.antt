-- What a branch is worth to an assignment: booked cost and falsified live weight, capped at H, where a falsified hard clause, a
-- hard mark that is not met, and a dead branch each come to H.
use Rattle.std.specs.Prelude.{Bool, not, ◌≡◌, refl, ℕ, ◌+◌, ◌≤◌, min, List, [], ◌∷◌}
use Rattle.std.proofs.Math.Bool.{true, false, and-true}
use mathlib.Core.List.{Memᴰ as Among}
use Rattle.std.proofs.Math.Option.{some}
use Rattle.std.proofs.Math.Path.{ap, subst}
use Rattle.std.proofs.Common.{sym, arith}
use Rattle.std.proofs.Math.Nat.{add_left_comm}
use Rattle.instance.specs.Clause.{Literal, Weight, hard, soft, Body, clause, Clause, variable_of, opposite, clause_at}
use Rattle.instance.specs.Meaning.{Assignment, holds, falsified, broken}
use Rattle.instance.specs.Within.{In, InBody}
use Rattle.calculus.specs.Branch.{Branch, set_weight, mark, book, kill, with_rules, keep, put, unit_of, nothing, gain}
use Rattle.calculus.proofs.Theorems.Basics.{due}
use Rattle.calculus.proofs.Theorems.Sum.{sum_of, fold_snoc, fold_put}
use Rattle.calculus.proofs.Theorems.Literals.{opposite_holds, lit_sum, lit_sum_pair, lit_sum_ge, lit_sum_weight, lit_sum_mark}
use Rattle.calculus.proofs.Theorems.Cases.{Takes}

-- what a falsified clause comes to
unfoldable pub toll : ℕ → Weight → ℕ
toll H hard = H
toll H (soft w) = w

unfoldable pub charge : ℕ → Assignment → Clause → ℕ
charge H σ c = due (broken σ c.body) (toll H c.weight)

abbrev pub bill : ℕ → Assignment → List Clause → ℕ
bill H σ cs = sum_of (charge H σ) cs

-- what the units on a literal come to, where it is false
unfoldable pub unit_toll : ℕ → Branch → Literal → ℕ
unit_toll H b k = b.weight k + due (b.marked k) H

unfoldable pub units : ℕ → ℕ → Assignment → Branch → ℕ
units H n σ b = lit_sum n (λ k. due (not (holds σ k)) (unit_toll H b k))

unfoldable pub raw : ℕ → ℕ → Assignment → Branch → ℕ
raw H n σ b = b.booked + due b.dead H + units H n σ b + bill H σ b.rules

abbrev pub worth : ℕ → ℕ → Assignment → Branch → ℕ
worth H n σ b = min H (raw H n σ b)

-- of several branches
unfoldable pub least : ℕ → ℕ → Assignment → List Branch → ℕ
least H n σ [] = H
least H n σ (b ∷ bs) = min (worth H n σ b) (least H n σ bs)

module _ (H n : ℕ) (σ : Assignment) where
  pub least_among : {d : Branch} (bs : List Branch) → Among d bs → least H n σ bs ≤ worth H n σ d
  unfolding least
  least_among {d = d} [] m = elim m [ ]
  least_among (b ∷ bs) (Among.head e) = subst (λ x. least H n σ (b ∷ bs) ≤ worth H n σ x) (sym e) (omega arith)
  least_among (b ∷ bs) (Among.tail m) = omega (arith, least_among bs m)

  raw_book : (v : ℕ) (b : Branch) → raw H n σ (book v b) ≡ raw H n σ b + v
  unfolding raw book units unit_toll
  raw_book v b = omega arith

  pub raw_booked : (b : Branch) → b.booked ≤ raw H n σ b
  unfolding raw
  raw_booked b = omega arith

  pub raw_dead : (b : Branch) → b.dead ≡ true → H ≤ raw H n σ b
  unfolding raw
  raw_dead b e = rw e (unfold due in (omega arith))

  raw_set : (l : Literal) (v : ℕ) (b : Branch) → In n l →
      raw H n σ (set_weight l v b) + due (not (holds σ l)) (b.weight l) ≡ raw H n σ b + due (not (holds σ l)) v
  unfolding raw set_weight units unit_toll
  raw_set l v b h = by (not (holds σ l)) (lit_sum_weight n l b h (λ k u. due (not (holds σ k)) (u + due (b.marked k) H)) v)
    where
      U : Branch → ℕ
      U d = lit_sum n (λ k. due (not (holds σ k)) (d.weight k + due (b.marked k) H))

      by : (t : Bool) → U (set_weight l v b) + due t (b.weight l + due (b.marked l) H) ≡ U b + due t (v + due (b.marked l) H) →
          b.booked + due b.dead H + U (set_weight l v b) + bill H σ b.rules + due t (b.weight l) ≡
          b.booked + due b.dead H + U b + bill H σ b.rules + due t v
      by true e = unfold due in (omega arith)
      by false e = unfold due in (omega arith)

  -- what a contradiction takes from a literal was live where that literal is false
  pub raw_takes : (l : Literal) (v w : ℕ) (b d : Branch) → In n l → Takes l v w b d →
      raw H n σ d + due (holds σ l) w ≡ raw H n σ b + due (holds σ l) v
  unfolding raw units
  raw_takes l v w b d h t =
      by (holds σ l) (rw (opposite_holds σ l) at (lit_sum_pair n (falsely d) (falsely b) l h elsewhere))
    where
      falsely : Branch → Literal → ℕ
      falsely e k = due (not (holds σ k)) (unit_toll H e k)

      mark_toll : (k : Literal) → due (d.marked k) H ≡ due (b.marked k) H
      mark_toll k = ap (λ m. due (m k) H) t.marked

      taken : (k : Literal) (u : ℕ) → d.weight k + u ≡ b.weight k → unit_toll H d k + u ≡ unit_toll H b k
      taken k u e = unfold unit_toll in (omega (arith, mark_toll k))

      elsewhere : (k : Literal) → (variable_of k ≡ variable_of l → ⊥) → falsely d k ≡ falsely b k
      elsewhere k u = let e = t.elsewhere k u in ap (due (not (holds σ k))) (omega (arith, taken k 0 (omega arith)))

      by : (p : Bool) → lit_sum n (falsely d) + (due (not p) (unit_toll H b l) + due (not (not p)) (unit_toll H b (opposite l))) ≡
          lit_sum n (falsely b) + (due (not p) (unit_toll H d l) + due (not (not p)) (unit_toll H d (opposite l))) →
          d.booked + due d.dead H + lit_sum n (falsely d) + bill H σ d.rules + due p w ≡
          b.booked + due b.dead H + lit_sum n (falsely b) + bill H σ b.rules + due p v
      by true e =
          unfold due in (omega (arith, t.booked, ap (λ z. due z H) t.dead, ap (bill H σ) t.rules, taken (opposite l) w t.other))
      by false e =
          unfold due in (omega (arith, t.booked, ap (λ z. due z H) t.dead, ap (bill H σ) t.rules, taken l v t.own))

  -- a hard mark that is not met comes to H
  pub raw_marked : (l : Literal) (b : Branch) → In n l → b.marked l ≡ true → due (not (holds σ l)) H ≤ raw H n σ b
  unfolding raw
  raw_marked l b h m = by (not (holds σ l)) own
    where
      own : due (not (holds σ l)) (b.weight l + due true H) ≤ units H n σ b
      own = unfold units unit_toll in (rw m at (lit_sum_ge n (λ k. due (not (holds σ k)) (unit_toll H b k)) l h))

      by : (t : Bool) → due t (b.weight l + due true H) ≤ units H n σ b →
          due t H ≤ b.booked + due b.dead H + units H n σ b + bill H σ b.rules
      by true e = unfold due in (omega arith)
      by false e = unfold due in (omega arith)

  -- b' is worth p more than b
  abbrev pub Adds : ℕ → Branch → Branch → Type 0
  Adds p b b' = worth H n σ b' ≡ min H (raw H n σ b + p)

  adds_mark : (l : Literal) (b : Branch) → In n l → Adds (due (not (holds σ l)) H) b (mark l b)
  unfolding raw mark units unit_toll
  adds_mark l b h =
      by (not (holds σ l)) (b.marked l) (lit_sum_mark n l b h (λ k m. due (not (holds σ k)) (b.weight k + due m H)))
      (lit_sum_ge n (λ k. due (not (holds σ k)) (b.weight k + due (b.marked k) H)) l h)
    where
      U : Branch → ℕ
      U d = lit_sum n (λ k. due (not (holds σ k)) (b.weight k + due (d.marked k) H))

      by : (t u : Bool) → U (mark l b) + due t (b.weight l + due u H) ≡ U b + due t (b.weight l + due true H) →
          due t (b.weight l + due u H) ≤ U b →
          min H (b.booked + due b.dead H + U (mark l b) + bill H σ b.rules) ≡
          min H (b.booked + due b.dead H + U b + bill H σ b.rules + due t H)
      by true true e f = unfold due in (omega arith)
      by true false e f = unfold due in (omega arith)
      by false u e f = unfold due in (omega arith)

  pub raw_keep : (w : Weight) (p : Body) (b : Branch) → raw H n σ (keep w p b) ≡ raw H n σ b + due (broken σ p) (toll H w)
  unfolding raw keep with_rules units unit_toll charge
  raw_keep w p b = omega (arith, fold_snoc ◌+◌ add_left_comm 0 (charge H σ) b.rules (record { weight = w; body = p }))

  pub raw_put : (i : ℕ) (c : Clause) (w : Weight) (b : Branch) → clause_at b.rules i ≡ some c →
      charge H σ c + raw H n σ (put i w b) ≡ due (broken σ c.body) (toll H w) + raw H n σ b
  unfolding raw put with_rules units unit_toll charge
  raw_put i c w b e = omega (arith, fold_put ◌+◌ add_left_comm 0 (charge H σ) b.rules i c w e)

  -- ---- a clause gained
  pub adds_unit : (w : Weight) (l : Literal) (b : Branch) → In n l → Adds (due (not (holds σ l)) (toll H w)) b (unit_of w l b)
  unfolding unit_of toll
  adds_unit hard l b h = adds_mark l b h
  adds_unit (soft w) l b h = by (not (holds σ l)) (raw_set l (b.weight l + w) b h)
    where
      by : (t : Bool) →
          raw H n σ (set_weight l (b.weight l + w) b) + due t (b.weight l) ≡ raw H n σ b + due t (b.weight l + w) →
          worth H n σ (set_weight l (b.weight l + w) b) ≡ min H (raw H n σ b + due t w)
      by true e = unfold due in (omega arith)
      by false e = unfold due in (omega arith)

  adds_nothing : (w : Weight) (b : Branch) → Adds (toll H w) b (nothing w b)
  unfolding nothing toll
  adds_nothing hard b = omega (arith, raw_dead (kill b) (unfold kill in refl))
  adds_nothing (soft w) b = omega (arith, raw_book w b)

  pub adds_gain : (w : Weight) (p : Body) (b : Branch) → InBody n p → Adds (due (broken σ p) (toll H w)) b (gain w p b)
  unfolding gain broken falsified
  adds_gain w (clause []) b h = unfold due in (adds_nothing w b)
  adds_gain w (clause (l ∷ [])) b h = rw (and-true (not (holds σ l))) (adds_unit w l b h.0)
  adds_gain w (clause (l ∷ k ∷ ks)) b h = omega (arith, raw_keep w (clause (l ∷ k ∷ ks)) b)
