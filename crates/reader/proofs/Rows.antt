-- The rows of the clauses in the store: a store outside of them leaves them as they are.
use Rattle.std.specs.Prelude.{ℕ, zero, suc, ◌+◌, ◌-◌, ◌/◌, ◌<◌, ◌≤◌, List, [], ◌⊎◌, ◌≡◌, refl, length, get_or, take, drop, set}
use Rattle.std.proofs.Common.{ap, ◌∙◌, inl, inr, arith, length-set, get_or-set_other}
use Rattle.std.proofs.lemmas.List.{drop-set-lt, take-set-le}
use Rattle.std.proofs.Math.Seq.{drop-set-add}
use Rattle.instance.specs.Clause.{Clause}
use Rattle.instance.specs.Memory.{store_size}
use Rattle.instance.specs.Store.{weights_at, flags_at, literals_at, start_in, end_in, codes_in, clause_in, clauses_in, Laid}
use Rattle.instance.specs.Theorems.Every.{every_map}
use Rattle.instance.specs.Theorems.Store.{ends_rise}

-- a code of a literal of the variables 1 to n
abbrev pub Coded : ℕ → ℕ → Type 0
Coded n c = (2 ≤ c) × (c / 2 ≤ n)

pub coded_more : (n m : ℕ) → n ≤ m → (c : ℕ) → Coded n c → Coded m c
coded_more n m h c p = (p.0, omega arith)

-- the clauses cs lie in the store, their literals up to `kept`
pub record Rows (store : List ℕ) (n : ℕ) (cs : List Clause) (kept : ℕ) : Type 0 where
  pub clauses : clauses_in store (length cs) ≡ cs
  pub laid : Laid store n (length cs)
  pub next : start_in store (length cs) ≡ kept

pub rows_none : (store : List ℕ) → store_size ≤ length store → Rows store 0 [] 0
unfolding clauses_in
rows_none store room = record {
  clauses = refl;
  laid = record {
    room = room;
    few = omega arith;
    order = λ k h. absurd (omega arith);
    within = λ k h. absurd (omega arith);
    codes = λ k h. absurd (omega arith);
    flags = λ k h. absurd (omega arith);
  };
  next = refl;
}

-- more variables
pub rows_more : {store : List ℕ} {n : ℕ} {cs : List Clause} {kept : ℕ} → Rows store n cs kept → (m : ℕ) → n ≤ m
    → Rows store m cs kept
rows_more {store} {n} r m h =
    let laid = r.laid in
    record {
      clauses = r.clauses;
      laid = record {
        room = laid.room;
        few = laid.few;
        order = laid.order;
        within = laid.within;
        codes = λ k l. every_map (Coded n) (Coded m) (coded_more n m h) (codes_in store k) (laid.codes k l);
        flags = laid.flags;
      };
      next = r.next;
    }

-- ---- a store outside of the rows
pub part_kept : (store : List ℕ) (base m j v : ℕ) → (j < base) ⊎ (base + m ≤ j)
    → take m (drop base (set store j v)) ≡ take m (drop base store)
part_kept store base m j v (inl h) = ap (take m) (drop-set-lt base store j v h)
part_kept store base m j v (inr h) =
    let e : j ≡ base + (j - base) = omega arith in
    ap (λ (i : ℕ). take m (drop base (set store i v))) e
    ∙ ap (take m) (drop-set-add base store (j - base) v)
    ∙ take-set-le m (drop base store) (j - base) v (omega arith)

-- place j holds no end, weight or flag of the first K clauses
pub record Apart (K j : ℕ) : Type 0 where
  pub ends : (k : ℕ) → k < K → k ≡ j → ⊥
  pub weights : (k : ℕ) → k < K → weights_at + k ≡ j → ⊥
  pub flags : (k : ℕ) → k < K → flags_at + k ≡ j → ⊥

-- nor any of their literals, which end at `kept`
abbrev pub Beside : ℕ → ℕ → Type 0
Beside kept j = (j < literals_at) ⊎ (literals_at + kept ≤ j)

clauses_same : (store later : List ℕ) (K : ℕ) → ((k : ℕ) → k < K → clause_in later k ≡ clause_in store k)
    → clauses_in later K ≡ clauses_in store K
unfolding clauses_in
clauses_same store later zero h = refl
clauses_same store later (suc K) h = rw (clauses_same store later K (λ k l. h k (omega arith)), h K (omega arith))

module _ {store : List ℕ} {n : ℕ} {cs : List Clause} {kept : ℕ} (r : Rows store n cs kept) (j v : ℕ)
    (o : Apart (length cs) j) (b : Beside kept j) where
  abbrev K : ℕ
  K = length cs

  end_kept : (k : ℕ) → k < K → end_in (set store j v) k ≡ end_in store k
  end_kept k h = get_or-set_other store j k v 0 (o.ends k h)

  start_kept : (k : ℕ) → k ≤ K → start_in (set store j v) k ≡ start_in store k
  start_kept zero h = refl
  start_kept (suc k) h = end_kept k h

  -- the literals of clause k + 1 lie beside place j too
  clause_beside : (k : ℕ) → k < K → let base = literals_at + start_in store k in
      (j < base) ⊎ (base + (end_in store k - start_in store k) ≤ j)
  clause_beside k h = go b (r.laid.order k h) (ends_rise r.laid k K h (omega arith)) r.next
    where
      go : Beside kept j → start_in store k ≤ end_in store k → end_in store k ≤ start_in store K → start_in store K ≡ kept
          → (j < literals_at + start_in store k) ⊎ (literals_at + start_in store k + (end_in store k - start_in store k) ≤ j)
      go (inl p) l m e = inl (omega arith)
      go (inr p) l m e = inr (omega arith)

  codes_kept : (k : ℕ) → k < K → codes_in (set store j v) k ≡ codes_in store k
  codes_kept k h =
      rw (end_kept k h, start_kept k (omega arith))
      (part_kept store (literals_at + start_in store k) (end_in store k - start_in store k) j v (clause_beside k h))

  weight_kept : (k : ℕ) → k < K → get_or (set store j v) (weights_at + k) 0 ≡ get_or store (weights_at + k) 0
  weight_kept k h = get_or-set_other store j (weights_at + k) v 0 (o.weights k h)

  flag_kept : (k : ℕ) → k < K → get_or (set store j v) (flags_at + k) 0 ≡ get_or store (flags_at + k) 0
  flag_kept k h = get_or-set_other store j (flags_at + k) v 0 (o.flags k h)

  clause_kept : (k : ℕ) → k < K → clause_in (set store j v) k ≡ clause_in store k
  unfolding clause_in
  clause_kept k h = rw (weight_kept k h, codes_kept k h)

  pub rows_set : Rows (set store j v) n cs kept
  rows_set = record {
    clauses = clauses_same store (set store j v) K clause_kept ∙ r.clauses;
    laid = record {
      room = omega (arith, length-set store j v, r.laid.room);
      few = r.laid.few;
      order = λ k h. rw (start_kept k (omega arith), end_kept k h) (r.laid.order k h);
      within = λ k h. rw (end_kept k h) (r.laid.within k h);
      codes = λ k h. rw (codes_kept k h) (r.laid.codes k h);
      flags = λ k h. rw (flag_kept k h, codes_kept k h) (r.laid.flags k h);
    };
    next = start_kept K (omega arith) ∙ r.next;
  }
