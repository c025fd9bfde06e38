-- Booked cost plus falsified live weight: what fairness says of it, to an assignment that meets the hard clauses and marks.
use Rattle.std.specs.Prelude.{Bool, not, ◌≡◌, ℕ, suc, ◌+◌, ◌<◌, ◌≤◌, List, [], ◌∷◌}
use Rattle.std.proofs.Math.Bool.{true, false, and-eq-true_iff}
use mathlib.Core.List.{Memᴰ as Among}
use Rattle.std.proofs.Math.Option.{some}
use Rattle.std.proofs.Math.Path.{refl}
use Rattle.std.proofs.Common.{ap, sym, ◌∙◌, le_of_eq, arith}
use Rattle.std.proofs.Math.Decide.{ℕ_discrete}
use Rattle.std.proofs.Math.Nat.{add_left_comm}
use Rattle.instance.specs.Clause.{Literal, Weight, hard, soft, Clause, clause_at}
use Rattle.instance.specs.Meaning.{Assignment, holds, falsified, broken, feasible, priced, cost}
use Rattle.instance.specs.Within.{Every, In}
use Rattle.calculus.specs.Branch.{Branch, set_weight, mark, with_rules, put_at, put, unit_of}
use Rattle.calculus.proofs.Theorems.Basics.{clash, due, due_false, every_among, every_weaken}
use Rattle.calculus.proofs.Theorems.Sum.{fold, sum_of, fold_put}
use Rattle.calculus.proofs.Theorems.Literals.{lit_sum, lit_sum_same, lit_sum_weight}
use Rattle.calculus.proofs.Theorems.Cases.{Extension, opens, branches_each}
use Rattle.calculus.proofs.Theorems.Worth.{bill, unit_toll, units, raw, worth, least, raw_marked}
use Rattle.calculus.proofs.Theorems.Fair.{Sane, Fair, literals_in_lem}
use Rattle.calculus.proofs.Theorems.Root.{bill_cost, bill_feasible}

-- "Live weight is that of units and of unextended soft clauses with two or more literals": shorter and extended ones are spent.
unfoldable pub live : ℕ → Assignment → Branch → ℕ
live n σ b = lit_sum n (λ k. due (not (holds σ k)) (b.weight k)) + cost σ b.rules

-- "booked cost plus falsified live weight"
abbrev pub reckoned : ℕ → Assignment → Branch → ℕ
reckoned n σ b = b.booked + live n σ b

abbrev pub MeetsMarks : ℕ → Assignment → Branch → Type 0
MeetsMarks n σ b = (l : Literal) → In n l → b.marked l ≡ true → holds σ l ≡ true

-- ---- an assignment that meets the branch's marks and its hard clauses: the branch is worth what is reckoned, under every cap
pub record Admits (n : ℕ) (σ : Assignment) (b : Branch) : Type 0 where
  pub alive : b.dead ≡ false
  pub marks : MeetsMarks n σ b
  pub hards : feasible σ b.rules ≡ true

module _ (n : ℕ) (σ : Assignment) where
  raw_reckoned : (H : ℕ) (b : Branch) → Admits n σ b → raw H n σ b ≡ reckoned n σ b
  unfolding raw live units unit_toll
  raw_reckoned H b a =
      omega (
        arith,
        due_false b.dead H a.alive,
        bill_cost H n σ b.rules a.hards,
        lit_sum_same n _ _ (λ k h. unit (holds σ k) (b.marked k) (b.weight k) (a.marks k h)),
      )
    where
      unit : (t m : Bool) (w : ℕ) → (m ≡ true → t ≡ true) → due (not t) (w + due m H) ≡ due (not t) w
      unit true m w h = unfold due in refl
      unit false true w h = clash (h refl) refl
      unit false false w h = unfold due in (omega arith)

  pub raw_admits : (H : ℕ) (b : Branch) → raw H n σ b < H → Admits n σ b
  raw_admits H b l = record {
    alive = lives b.dead parts.0;
    marks = λ k h m. met (holds σ k) (raw_marked H n σ k b h m);
    hards = bill_feasible H n σ b.rules parts.1;
  }
    where
      parts : (due b.dead H < H) × (bill H σ b.rules < H)
      parts = by l
        where
          by : raw H n σ b < H → (due b.dead H < H) × (bill H σ b.rules < H)
          by q = unfold raw in (omega arith, omega arith)

      lives : (t : Bool) → due t H < H → t ≡ false
      lives true e = unfold due in (absurd (omega arith))
      lives false e = refl

      met : (t : Bool) → due (not t) H ≤ raw H n σ b → t ≡ true
      met true e = refl
      met false e = unfold due in (absurd (omega arith))

  -- ---- what fairness says of one assignment
  abbrev pub Kept : Branch → Branch → Type 0
  Kept b d = Admits n σ d × (reckoned n σ d ≡ reckoned n σ b)

  one_of : (H v : ℕ) (bs : List Branch) → v < H → least H n σ bs ≡ v → (d : Branch) × Among d bs × (worth H n σ d ≡ v)
  unfolding least
  one_of H v [] l e = absurd (omega arith)
  one_of H v (b ∷ bs) l e = by (ℕ_discrete (worth H n σ b) v) (one_of H v bs l)
    where
      by : Dec (worth H n σ b ≡ v) → (least H n σ bs ≡ v → (d : Branch) × Among d bs × (worth H n σ d ≡ v)) →
          (d : Branch) × Among d (b ∷ bs) × (worth H n σ d ≡ v)
      by (yes q) r = (b, Among.head refl, q)
      by (no q) r = let t = r (omega arith) in (t.0, Among.tail t.1, t.2)

  pub kept_in_one : (b : Branch) (bs : List Branch) → Admits n σ b → ((H : ℕ) → Fair H n b bs) →
      (d : Branch) × Among d bs × Kept b d
  kept_in_one b bs a f =
      let H = suc (reckoned n σ b) in
      let t = one_of H (reckoned n σ b) bs (omega arith) (sym ((f H).even σ) ∙ omega (arith, raw_reckoned H b a)) in
      let m = raw_admits H t.0 (omega (arith, t.2)) in
      (t.0, t.1, (m, omega (arith, raw_reckoned H t.0 m, t.2)))

-- ---- no branch of an extension is reckoned less
price_of : Assignment → Clause → ℕ
price_of σ c = priced c.weight (broken σ c.body)

cost_sum : (σ : Assignment) (cs : List Clause) → cost σ cs ≡ sum_of (price_of σ) cs
unfolding cost fold price_of
cost_sum σ [] = refl
cost_sum σ (c ∷ cs) = omega (arith, cost_sum σ cs)

-- the clause's own price goes where it is spent
put_reckoned : (n : ℕ) (σ : Assignment) (b : Branch) (i : ℕ) (c : Clause) → clause_at b.rules i ≡ some c →
    reckoned n σ (put i (soft 0) b) + price_of σ c ≡ reckoned n σ b
unfolding live put with_rules price_of
put_reckoned n σ b i c e =
    omega (
      arith,
      cost_sum σ b.rules,
      cost_sum σ (put_at b.rules i (soft 0)),
      fold_put ◌+◌ add_left_comm 0 (price_of σ) b.rules i c (soft 0) e,
      none (broken σ c.body),
    )
  where
    none : (t : Bool) → priced (soft 0) t ≡ 0
    none true = unfold priced in refl
    none false = unfold priced in refl

-- and comes back with a literal that is false
unit_reckoned : (n : ℕ) (σ : Assignment) (w : Weight) (l : Literal) (b : Branch) → In n l →
    reckoned n σ b + priced w (not (holds σ l)) ≤ reckoned n σ (unit_of w l b)
unfolding live unit_of
unit_reckoned n σ hard l b h = unfold mark priced in (omega arith)
unit_reckoned n σ (soft w) l b h =
    unfold set_weight in (by (not (holds σ l)) (lit_sum_weight n l b h (λ k u. due (not (holds σ k)) u) (b.weight l + w)))
  where
    U : Branch → ℕ
    U d = lit_sum n (λ k. due (not (holds σ k)) (d.weight k))

    by : (t : Bool) → U (set_weight l (b.weight l + w) b) + due t (b.weight l) ≡ U b + due t (b.weight l + w) →
        b.booked + (U b + cost σ b.rules) + priced (soft w) t ≤ b.booked + (U (set_weight l (b.weight l + w) b) + cost σ b.rules)
    by true e = unfold due priced in (omega arith)
    by false e = unfold due priced in (omega arith)

-- what a falsified clause costs, each of its literals costs
each_false : (σ : Assignment) (ls : List Literal) → falsified σ ls ≡ true → Every (λ l. not (holds σ l) ≡ true) ls
unfolding falsified
each_false σ [] f = tt
each_false σ (l ∷ ls) f = let r = (and-eq-true_iff (not (holds σ l)) (falsified σ ls)).0 f in (r.0, each_false σ ls r.1)

literal_price : (σ : Assignment) (w : Weight) (ls : List Literal) →
    Every (λ l. priced w (falsified σ ls) ≤ priced w (not (holds σ l))) ls
literal_price σ w ls = by (falsified σ ls) refl
  where
    free : (w : Weight) → priced w false ≡ 0
    free hard = unfold priced in refl
    free (soft v) = unfold priced in refl

    none : (ks : List Literal) → Every (λ l. priced w false ≤ priced w (not (holds σ l))) ks
    none [] = tt
    none (k ∷ ks) = (omega (arith, free w), none ks)

    by : (t : Bool) → falsified σ ls ≡ t → Every (λ l. priced w t ≤ priced w (not (holds σ l))) ls
    by true f = every_weaken (λ l (e : not (holds σ l) ≡ true). le_of_eq (ap (priced w) (sym e))) ls (each_false σ ls f)
    by false f = none ls

pub extend_unlowered : (n : ℕ) (σ : Assignment) (b : Branch) (i : ℕ) (c : Clause) (bs : List Branch) → Sane n b →
    clause_at b.rules i ≡ some c →
    Extension b i c (some bs) → Every (λ d. reckoned n σ b ≤ reckoned n σ d) bs
extend_unlowered n σ b i c bs s e (opens l k ks q t u) =
    branches_each (λ d. reckoned n σ b ≤ reckoned n σ d) c.weight (put i (soft 0) b) ls (λ j m.
    omega (
      arith,
      put_reckoned n σ b i c e,
      unit_reckoned n σ c.weight j (put i (soft 0) b) (every_among (In n) ls (literals_in_lem n b i c ls s e q) m),
      every_among (λ j. price_of σ c ≤ priced c.weight (not (holds σ j))) ls prices m,
    ))
  where
    ls : List Literal
    ls = l ∷ k ∷ ks

    price : price_of σ c ≡ priced c.weight (falsified σ ls)
    price = unfold price_of broken in (rw q refl)

    prices : Every (λ j. price_of σ c ≤ priced c.weight (not (holds σ j))) ls
    prices =
        every_weaken (λ j (h : priced c.weight (falsified σ ls) ≤ priced c.weight (not (holds σ j))). rw price h) ls
        (literal_price σ c.weight ls)
