-- How an instance is laid into the store, clause by clause and literal by literal: what each step makes of a draft.
use Rattle.std.specs.Prelude.{ℕ, ◌+◌, ◌-◌, ◌/◌, max, true, false, List, map, ◌≡◌, take, drop, set}
use Rattle.instance.specs.Clause.{Literal, opposite, occurs}
use Rattle.instance.specs.Store.{weights_at, flags_at, literals_at, literal_of}
use Rattle.instance.specs.Weights.{coded}
use Rattle.instance.specs.declared.weights.Weight.{Weight}
use Rattle.reader.specs.declared.drafts.Draft.{Draft}

-- the codes of the clause at work: of the literals kept so far, its own begin at `start`
abbrev pub codes_from : List ℕ → ℕ → ℕ → List ℕ
codes_from store start kept = take (kept - start) (drop (literals_at + start) store)

abbrev pub literals_from : List ℕ → ℕ → ℕ → List Literal
literals_from store start kept = map literal_of (codes_from store start kept)

-- the number of literals kept, and the store, after one more of this code
pub data Kept (store : List ℕ) (clause start kept code : ℕ) : ℕ → List ℕ → Type 0 where
  again : occurs (literal_of code) (literals_from store start kept) ≡ true → Kept store clause start kept code kept store
  opposed : occurs (literal_of code) (literals_from store start kept) ≡ false
      → occurs (opposite (literal_of code)) (literals_from store start kept) ≡ true
      → Kept store clause start kept code (kept + 1) (set (set store (literals_at + kept) code) (flags_at + clause) 1)
  new : occurs (literal_of code) (literals_from store start kept) ≡ false
      → occurs (opposite (literal_of code)) (literals_from store start kept) ≡ false
      → Kept store clause start kept code (kept + 1) (set store (literals_at + kept) code)

-- ---- the steps; by `lent` the draft still has the store that it was given
-- a clause of this weight begins
pub record Begins (d : Draft) (w : Weight) (d' : Draft) : Type 0 where
  pub lent : d'.store.ghost_name ≡ d.store.ghost_name
  pub store : d'.store.now ≡ set (set d.store.now (weights_at + d.counts.clauses) (coded w)) (flags_at + d.counts.clauses) 0
  pub counts : d'.counts ≡ record d.counts { total = d.counts.total + coded w }
  pub kept : d'.kept ≡ d.kept
  pub start : d'.start ≡ d.kept

-- a literal of this code is written
pub record Keeps (d : Draft) (code : ℕ) (d' : Draft) : Type 0 where
  pub lent : d'.store.ghost_name ≡ d.store.ghost_name
  pub store : Kept d.store.now d.counts.clauses d.start d.kept code d'.kept d'.store.now
  pub counts : d'.counts ≡ record d.counts { variables = max d.counts.variables (code / 2); written = d.counts.written + 1 }
  pub start : d'.start ≡ d.start

-- the clause is done
pub record Closes (d d' : Draft) : Type 0 where
  pub lent : d'.store.ghost_name ≡ d.store.ghost_name
  pub store : d'.store.now ≡ set d.store.now d.counts.clauses d.kept
  pub counts : d'.counts ≡ record d.counts { clauses = d.counts.clauses + 1 }
  pub kept : d'.kept ≡ d.kept
