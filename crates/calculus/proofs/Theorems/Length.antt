-- Demand 3 over records: with room for P * (3 * K + 4) + 6 bytes Write writes a derivation of a true claim, of at most
-- P * (K + 2) - 1 records after the claim, that Check accepts.
use Rattle.std.specs.Prelude.{ℕ, suc, ◌+◌, ◌-◌, ◌*◌, ◌<◌, ◌≤◌, ◌≡◌, length, List, [], ◌∷◌, ◌++◌, map}
use Rattle.std.proofs.Common.{arith}
use Rattle.std.proofs.Math.Option.{some}
use Rattle.std.proofs.Math.Path.{refl, ap}
use Rattle.std.proofs.Math.Nat.{mul-le-mul, mul-le-mul_left, mul-le-mul_right}
use Rattle.instance.specs.Clause.{soft, Clause, Problem, clause_at}
use Rattle.instance.specs.Meaning.{Assignment}
use Rattle.instance.specs.Within.{Every, Fits}
use Rattle.instance.specs.declared.answers.Claim.{Claim}
use Rattle.instance.specs.declared.answers.Claim.TheVariants.{Minimum, Infeasible}
use Rattle.instance.specs.declared.answers.Checked.TheVariants.{Accepted}
use Rattle.calculus.specs.declared.Record.{Record}
use Rattle.calculus.specs.declared.Record.TheVariants.{E, C, Q}
use Rattle.calculus.specs.Bounds.{product_of, bytes_of, InRange}
use Rattle.calculus.specs.Branch.{Branch, put, root}
use Rattle.calculus.specs.Claims.{True, Refutes}
use Rattle.calculus.specs.Derivation.{whole, size, walk}
use Rattle.calculus.specs.Writing.{Draft, wrote, no_room, stuck, also, write_from, found}
use Rattle.calculus.proofs.Theorems.Basics.{clash, every_append, every_weaken}
use Rattle.calculus.proofs.Theorems.Sum.{fold, sum_of, sum_append}
use Rattle.calculus.proofs.Theorems.Fair.{Sane}
use Rattle.calculus.proofs.Theorems.Leaves.{leaves, Parted, extension_parts, leaves_some, root_leaves}
use Rattle.calculus.proofs.Theorems.Numbers.{write_range}
use Rattle.calculus.proofs.Theorems.Potential.{potential, contradict_potential, extend_potential, root_potential}
use Rattle.calculus.proofs.Theorems.Root.{sane_root}
use Rattle.calculus.proofs.Theorems.Sound.{stepped_sane}
use Rattle.calculus.proofs.Theorems.Cases.{Extension}
use Rattle.calculus.proofs.Theorems.Steps.{Stepped, closed, contradicted, extended}
use Rattle.calculus.proofs.Theorems.Stuck.{stuck_refutes}
use Rattle.calculus.proofs.Theorems.Unchanged.{Gained, contradiction_leaves, extension_leaves}
use Rattle.calculus.proofs.Theorems.Written.{size_some, write_kept, wrote_kept, write_accepted}

-- A record's fee: a for E and C, 1 for Q. With a = 1 fees count the records, with a = 3 the bytes.
fee : ℕ → Record → ℕ
fee a (E i) = a
fee a (C x) = a
fee a Q = 1

-- Below a branch there are at most as many leaves as `leaves` says; each has its Q, and at most `potential` contradictions on
-- the way to it; the extensions are fewer than the leaves.
gross : ℕ → ℕ → Branch → ℕ
gross a n b = leaves b.rules * (a * potential n b + a + 1)

fees : ℕ → ℕ → Branch → ℕ
fees a n b = gross a n b - a

module _ (a n : ℕ) where
  gross_some : (b : Branch) → a + 1 ≤ gross a n b
  unfolding gross
  gross_some b = omega (arith, mul-le-mul_right (a * potential n b + a + 1) (leaves_some b.rules))

  fees_gross : (b : Branch) → fees a n b + a ≡ gross a n b
  unfolding fees
  fees_gross b = omega (arith, gross_some b)

  contradict_fees : (b d : Branch) → d.rules ≡ b.rules → 1 + potential n d ≤ potential n b → a + fees a n d ≤ fees a n b
  contradict_fees b d e l = omega (arith, fees_gross b, fees_gross d, whole)
    where
      whole : a + gross a n d ≤ gross a n b
      whole = unfold gross in (
          omega (
            arith,
            ap (λ cs. leaves cs * (a * potential n d + a + 1)) e,
            mul-le-mul_left a (leaves_some b.rules),
            mul-le-mul_left (leaves b.rules) (mul-le-mul_left a l),
          ))

  -- branches that have the same leaves, and no more potential than v
  branches_fees : (m v : ℕ) (bs : List Branch) → Every (λ d. leaves d.rules ≡ m) bs → Every (λ d. potential n d ≤ v) bs →
      sum_of (fees a n) bs + length bs * a ≤ length bs * (m * (a * v + a + 1))
  unfolding fold
  branches_fees m v [] h l = omega arith
  branches_fees m v (d ∷ ds) h l = omega (arith, fees_gross d, one, branches_fees m v ds h.1 l.1)
    where
      one : gross a n d ≤ m * (a * v + a + 1)
      one =
          unfold gross in (omega (arith, ap (λ u. u * (a * potential n d + a + 1)) h.0, mul-le-mul_left m (mul-le-mul_left a l.0)))

  extend_fees : (b : Branch) (i : ℕ) (c : Clause) (bs : List Branch) → Sane n b → clause_at b.rules i ≡ some c →
      Extension b i c (some bs) →
      a + sum_of (fees a n) bs ≤ fees a n b
  extend_fees b i c bs s e x =
      omega (
        arith,
        fees_gross b,
        branches_fees (leaves (put i (soft 0) b).rules) (potential n b) bs same (extend_potential n b i c bs s e x),
        whole,
        mul-le-mul_right a parts.two,
      )
    where
      parts : Parted b i bs
      parts = extension_parts b i c bs e x

      same : Every (λ d. leaves d.rules ≡ leaves (put i (soft 0) b).rules) bs
      same = every_weaken (λ d (g : Gained (put i (soft 0) b) d). ap leaves g.rules) bs (extension_leaves b i c bs x)

      whole : gross a n b ≡ length bs * (leaves (put i (soft 0) b).rules * (a * potential n b + a + 1))
      whole = unfold gross in (rw (← parts.shared) (omega arith))

-- a record costs its fee at least
stepped_fees : (a : ℕ) (I : Problem) (k : Claim) (r : Record) (b : Branch) (new : List Branch) → Sane I.variables b →
    Stepped I k b r new →
    fee a r + sum_of (fees a I.variables) new ≤ fees a I.variables b
unfolding fee
stepped_fees a I k r b new s (closed e) =
    unfold fold in (omega (arith, fees_gross a I.variables b, gross_some a I.variables b))
stepped_fees a I k r b new s (contradicted {b' = d} x q lo hi c) =
    unfold fold in (
    omega (
      arith,
      contradict_fees a I.variables b d (contradiction_leaves x b d c).rules (contradict_potential I.variables x b d lo hi q c),
    ))
stepped_fees a I k r b new s (extended i c q e x) = extend_fees a I.variables b i c new s e x

-- the root's fees, from K and P
root_fees : (a : ℕ) (I : Problem) → Fits I →
    fees a I.variables (root I.clauses) + a ≤ product_of I.clauses * (a * length I.clauses + a + 1)
root_fees a I fits = omega (arith, fees_gross a I.variables (root I.clauses), whole)
  where
    whole : gross a I.variables (root I.clauses) ≤ product_of I.clauses * (a * length I.clauses + a + 1)
    whole =
        unfold gross in (
        mul-le-mul (root_leaves I.clauses) (omega (arith, mul-le-mul_left a (root_potential I.variables I.clauses fits))))

module _ (I : Problem) (k : Claim) (room : ℕ) where
  abbrev SaneAll : List Branch → Type 0
  SaneAll = Every (Sane I.variables)

  abbrev fees_all : ℕ → List Branch → ℕ
  fees_all a = sum_of (fees a I.variables)

  next_sane : (b : Branch) (bs : List Branch) (r : Record) (new : List Branch) → SaneAll (b ∷ bs) → Stepped I k b r new →
      SaneAll (new ++ bs)
  next_sane b bs r new s d = every_append (Sane I.variables) new bs (stepped_sane I k r b new s.0 d) s.1

  next_fees : (a : ℕ) (b : Branch) (bs : List Branch) (r : Record) (new : List Branch) → SaneAll (b ∷ bs) →
      Stepped I k b r new → fee a r + fees_all a (new ++ bs) ≤ fees_all a (b ∷ bs)
  unfolding fold
  next_fees a b bs r new s d = omega (arith, stepped_fees a I k r b new s.0 d, sum_append (fees a I.variables) new bs)

  -- what is written costs no more than the open branches' fees
  write_fees : (a fuel at : ℕ) (bs : List Branch) (rs : List Record) → SaneAll bs → write_from I k fuel room at bs ≡ wrote rs →
      sum_of (fee a) rs ≤ fees_all a bs
  write_fees a = wrote_kept I k room SaneAll (λ bs rs. sum_of (fee a) rs ≤ fees_all a bs) (record {
    end = unfold fold in (omega arith);
    next = λ b bs m s c. next_sane b bs m.chosen m.places s c.did;
    more = λ b bs m s c rs h. one_more m.chosen rs _ _ (next_fees a b bs m.chosen m.places s c.did) h;
  })
    where
      one_more : (r : Record) (rs : List Record) (x y : ℕ) → fee a r + x ≤ y → sum_of (fee a) rs ≤ x → sum_of (fee a) (r ∷ rs) ≤ y
      one_more r rs x y l h = unfold fold in (omega arith)

  -- with room for the fees in bytes Write does not end in 21
  abbrev HasRoom : Draft → Type 0
  HasRoom (wrote rs) = Unit {0}
  HasRoom (no_room at) = ⊥
  HasRoom (stuck b) = Unit {0}

  fee_size : (r : Record) → fee 3 r ≡ size r
  unfolding fee size
  fee_size (E i) = refl
  fee_size (C x) = refl
  fee_size Q = refl

  write_has_room : (fuel at : ℕ) (bs : List Branch) → SaneAll bs → at + fees_all 3 bs ≤ room → room < at + fuel →
      HasRoom (write_from I k fuel room at bs)
  write_has_room fuel at bs s l u = write_kept I k room Inv (λ at bs. HasRoom) (record {
    end = λ fuel at h. tt;
    dry = λ at b bs h. omega arith;
    full = λ fuel at b bs m h d l. omega (arith, next_fees 3 b bs m.chosen m.places h.0 d.move.did, fee_size m.chosen);
    halt = λ fuel at b bs h e. tt;
    next = λ fuel at b bs m h d l. (
      next_sane b bs m.chosen m.places h.0 d.move.did,
      omega (arith, next_fees 3 b bs m.chosen m.places h.0 d.move.did, fee_size m.chosen),
      omega (arith, size_some m.chosen),
    );
    more = λ fuel at b bs m h d l. one_more m.chosen;
  }) fuel at bs (s, l, u)
    where
      Inv : ℕ → ℕ → List Branch → Type 0
      Inv fuel at bs = SaneAll bs × (at + fees_all 3 bs ≤ room) × (room < at + fuel)

      one_more : (r : Record) (w : Draft) → HasRoom w → HasRoom (also r w)
      one_more r (wrote rs) h = unfold also in tt
      one_more r (no_room at) h = unfold also in h
      one_more r (stuck b) h = unfold also in tt

-- ---- the two fees
fees_count : (rs : List Record) → sum_of (fee 1) rs ≡ length rs
unfolding fold fee
fees_count [] = refl
fees_count (E i ∷ rs) = omega (arith, fees_count rs)
fees_count (C x ∷ rs) = omega (arith, fees_count rs)
fees_count (Q ∷ rs) = omega (arith, fees_count rs)

fees_bytes : (rs : List Record) → sum_of (fee 3) rs ≡ bytes_of rs
unfolding fold bytes_of fee size
fees_bytes [] = refl
fees_bytes (E i ∷ rs) = omega (arith, fees_bytes rs)
fees_bytes (C x ∷ rs) = omega (arith, fees_bytes rs)
fees_bytes (Q ∷ rs) = omega (arith, fees_bytes rs)

-- a true claim is not refuted
true_refuted : (I : Problem) (k : Claim) (σ : Assignment) → True I k → Refutes I k σ → ⊥
true_refuted I (Minimum m) σ t r = omega (arith, t σ r.meets, r.less)
true_refuted I Infeasible σ t r = clash r.meets (t σ)

-- ---- Demand 3: a derivation of these records, after a claim of `from` bytes.
pub record Answer (I : Problem) (k : Claim) (from : ℕ) (w : Draft) : Type 0 where
  pub records : List Record
  pub written : w ≡ wrote records
  pub few : length records ≤ product_of I.clauses * (length I.clauses + 2) - 1
  pub short : from + bytes_of records ≤ product_of I.clauses * (3 * length I.clauses + 4) + 6
  pub accepted : (at n : ℕ) → walk I k (map whole records) at n (root I.clauses ∷ []) ≡ Accepted k (n + length records)
  pub ranged : Every (InRange I) records

-- With the room that demand 3 names, Write answers every true claim. The claim's own bytes are 9 at most.
pub write_answers : (I : Problem) → Fits I → (k : Claim) → True I k → (from room : ℕ) → from ≤ 9 →
    product_of I.clauses * (3 * length I.clauses + 4) + 6 ≤ room →
    Answer I k from (write_from I k (suc room) room from (root I.clauses ∷ []))
write_answers I fits k t from room l r = by (write_from I k (suc room) room from start) refl roomy
  where
    start : List Branch
    start = root I.clauses ∷ []

    sane : Every (Sane I.variables) start
    sane = (sane_root I.variables I.clauses fits, tt)

    alone : (a : ℕ) → sum_of (fees a I.variables) start + a ≤ product_of I.clauses * (a * length I.clauses + a + 1)
    alone a = unfold fold in (omega (arith, root_fees a I fits))

    roomy : HasRoom I k room (write_from I k (suc room) room from start)
    roomy = write_has_room I k room (suc room) from start sane (omega (arith, alone 3)) (omega arith)

    by : (w : Draft) → write_from I k (suc room) room from start ≡ w → HasRoom I k room w → Answer I k from w
    by (wrote rs) e h = record {
      records = rs;
      written = refl;
      few = omega (arith, alone 1, write_fees I k room 1 (suc room) from start rs sane e, fees_count rs);
      short = omega (arith, alone 3, write_fees I k room 3 (suc room) from start rs sane e, fees_bytes rs);
      accepted = write_accepted I k room (suc room) from start rs e;
      ranged = write_range I k (suc room) room from rs e;
    }
    by (no_room at) e h = absurd h
    by (stuck b) e h = absurd (true_refuted I k (found b) t (stuck_refutes I k fits (suc room) room from b e))
