-- The row of a clause at work, behind those of the clauses before it: how it begins, grows and is closed.
use Rattle.std.specs.Prelude.{ℕ, suc, ◌+◌, ◌-◌, ◌<◌, ◌≤◌, List, [], ◌∷◌, ◌++◌, map, ◌≡◌, refl, length, get_or, drop, set}
use Rattle.std.proofs.Common.{ap, sym, ◌∙◌, inl, inr, arith, add-one, below_more, length-append, length-drop, get_or-set_same, get_or-set_other}
use Rattle.std.proofs.lemmas.List.{map-append}
use Rattle.std.proofs.Math.Seq.{drop-set-add, take-suc-set}
use Rattle.instance.specs.Limits.{most_clauses, most_literals}
use Rattle.instance.specs.Clause.{Literal, Weight, clause, Clause, tautology}
use Rattle.instance.specs.Store.{
  weights_at,
  flags_at,
  literals_at,
  literal_of,
  weight_of,
  flag_of,
  start_in,
  end_in,
  codes_in,
  literals_in,
  clause_in,
  clauses_in,
}
use Rattle.instance.specs.Weights.{meant, coded}
use Rattle.instance.specs.Within.{Every, Weighty}
use Rattle.instance.specs.Theorems.Codes.{weight_soft}
use Rattle.instance.specs.Theorems.Decoded.{soft_meant}
use Rattle.instance.specs.declared.weights.Weight as code
use Rattle.instance.specs.Theorems.Every.{every_snoc, every_map}
use Rattle.reader.specs.Drafts.{codes_from, literals_from}
use Rattle.reader.proofs.Theorems.Limits.{Opens}
use Rattle.reader.proofs.Rows.{Coded, coded_more, Rows, rows_more, part_kept, rows_set}

-- the clauses cs, and a clause at work of weight w, flag f and literals ls
pub record Row (store : List ℕ) (n : ℕ) (cs : List Clause) (start kept : ℕ) (w : Weight) (f : ℕ) (ls : List Literal)
    : Type 0 where
  pub rows : Rows store n cs start
  pub order : start ≤ kept
  pub weight : weight_of (get_or store (weights_at + length cs) 0) ≡ w
  pub flag : get_or store (flags_at + length cs) 0 ≡ f
  pub codes : Every (Coded n) (codes_from store start kept)
  pub literals : literals_from store start kept ≡ ls

-- a weight comes back from its code
weight_back : (w : code.Weight) → Weighty (meant w) → weight_of (coded w) ≡ meant w
weight_back w h = ap weight_of (sym (soft_meant w)) ∙ weight_soft (meant w) h

pub row_begun : {store : List ℕ} {n : ℕ} {cs : List Clause} {kept : ℕ} → Rows store n cs kept
    → (w : code.Weight) → Opens cs (meant w) → {k start' kept' : ℕ} {store' : List ℕ} → k ≡ length cs
    → store' ≡ set (set store (weights_at + k) (coded w)) (flags_at + k) 0 → start' ≡ kept → kept' ≡ kept
    → Row store' n cs start' kept' (meant w) 0 []
row_begun {store} {n} {cs} {kept} r w o e f g h =
    let K = length cs in
    let weighed = set store (weights_at + K) (coded w) in
    let none : kept - kept ≡ 0 = omega arith in
    let rows = rows_set r (weights_at + K) (coded w) (omega (arith, o.fewer)) (inl (omega (arith, o.fewer))) in
    rw (f, e, g, h) (record {
      rows = rows_set rows (flags_at + K) 0 (omega (arith, o.fewer)) (inl (omega (arith, o.fewer)));
      order = omega arith;
      weight = ap weight_of
          (get_or-set_other weighed (flags_at + K) (weights_at + K) 0 0 (λ x. omega arith)
          ∙ get_or-set_same store (weights_at + K) (coded w) 0 (omega (arith, r.laid.room, o.fewer)))
          ∙ weight_back w o.weighty;
      flag = get_or-set_same weighed (flags_at + K) 0 0 (omega (arith, rows.laid.room, o.fewer));
      codes = rw none tt;
      literals = rw none refl;
    })

-- one more code at the end
codes_grown : (store : List ℕ) (start kept code : ℕ) → start ≤ kept → literals_at + kept < length store
    → codes_from (set store (literals_at + kept) code) start (kept + 1) ≡ codes_from store start kept ++ (code ∷ [])
codes_grown store start kept code h room =
    let base = literals_at + start in
    let place : literals_at + kept ≡ literals_at + start + (kept - start) = omega arith in
    let more : kept + 1 - start ≡ suc (kept - start) = omega arith in
    rw (place, more, drop-set-add)
    (take-suc-set (drop base store) (kept - start) code (omega (arith, length-drop base store)))

module _ {store : List ℕ} {n : ℕ} {cs : List Clause} {start kept : ℕ} {w : Weight} {f : ℕ} {ls : List Literal}
    (r : Row store n cs start kept w f ls) (few : length cs < most_clauses) where
  abbrev K : ℕ
  K = length cs

  pub row_more : (m : ℕ) → n ≤ m → Row store m cs start kept w f ls
  row_more m h = record {
    rows = rows_more r.rows m h;
    order = r.order;
    weight = r.weight;
    flag = r.flag;
    codes = every_map (Coded n) (Coded m) (coded_more n m h) (codes_from store start kept) r.codes;
    literals = r.literals;
  }

  pub row_flagged : (v : ℕ) → Row (set store (flags_at + K) v) n cs start kept w v ls
  row_flagged v =
      let same = part_kept store (literals_at + start) (kept - start) (flags_at + K) v (inl (omega arith)) in
      record {
        rows = rows_set r.rows (flags_at + K) v (omega arith) (inl (omega arith));
        order = r.order;
        weight = ap weight_of (get_or-set_other store (flags_at + K) (weights_at + K) v 0 (λ e. omega arith)) ∙ r.weight;
        flag = get_or-set_same store (flags_at + K) v 0 (omega (arith, r.rows.laid.room));
        codes = rw same r.codes;
        literals = ap (map literal_of) same ∙ r.literals;
      }

  pub row_coded : (code : ℕ) → kept < most_literals → Coded n code
      → Row (set store (literals_at + kept) code) n cs start (kept + 1) w f (ls ++ (literal_of code ∷ []))
  row_coded code h p =
      let place = literals_at + kept in
      let grown = codes_grown store start kept code r.order (omega (arith, r.rows.laid.room)) in
      record {
        rows = rows_set r.rows place code (omega (arith, r.rows.laid.few)) (inr (omega (arith, r.order)));
        order = omega (arith, r.order);
        weight = ap weight_of (get_or-set_other store place (weights_at + K) code 0 (λ e. omega arith)) ∙ r.weight;
        flag = get_or-set_other store place (flags_at + K) code 0 (λ e. omega arith) ∙ r.flag;
        codes = rw grown (every_snoc (Coded n) (codes_from store start kept) code r.codes p);
        literals =
            ap (map literal_of) grown ∙ map-append literal_of (codes_from store start kept) (code ∷ [])
            ∙ ap (λ (ks : List Literal). ks ++ (literal_of code ∷ [])) r.literals;
      }

-- ---- the clause is done: its end is written
module _ {store : List ℕ} {n : ℕ} {cs : List Clause} {start kept : ℕ} {w : Weight} {ls : List Literal}
    (r : Row store n cs start kept w (flag_of (tautology ls)) ls) (few : length cs < most_clauses) (l : kept ≤ most_literals) where
  abbrev L : ℕ
  L = length cs

  abbrev done : List ℕ
  done = set store L kept

  abbrev closed : Clause
  closed = record { weight = w; body = clause ls }

  done_rows : Rows done n cs start
  done_rows = rows_set r.rows L kept (omega arith) (inl (omega arith))

  done_end : end_in done L ≡ kept
  done_end = get_or-set_same store L kept 0 (omega (arith, r.rows.laid.room))

  done_codes : codes_in done L ≡ codes_from store start kept
  done_codes =
      rw (done_end, done_rows.next) (part_kept store (literals_at + start) (kept - start) L kept (inl (omega arith)))

  done_flag : get_or done (flags_at + L) 0 ≡ flag_of (tautology (literals_in done L))
  done_flag = rw (done_codes, r.literals) (get_or-set_other store L (flags_at + L) kept 0 (λ e. omega arith) ∙ r.flag)

  done_weight : weight_of (get_or done (weights_at + L) 0) ≡ w
  done_weight = ap weight_of (get_or-set_other store L (weights_at + L) kept 0 (λ e. omega arith)) ∙ r.weight

  done_clause : clause_in done L ≡ closed
  unfolding clause_in
  done_clause = rw (done_weight, done_codes, r.literals)

  done_clauses : clauses_in done (L + 1) ≡ cs ++ (closed ∷ [])
  unfolding clauses_in
  done_clauses = rw (add-one, done_rows.clauses, done_clause)

  abbrev Flagged : ℕ → Type 0
  Flagged k = get_or done (flags_at + k) 0 ≡ flag_of (tautology (literals_in done k))

  pub row_closed : {k kept' : ℕ} {store' : List ℕ} → k ≡ L → store' ≡ set store k kept → kept' ≡ kept
      → Rows store' n (cs ++ (closed ∷ [])) kept'
  row_closed e f g =
      let laid = done_rows.laid in
      let long : length (cs ++ (closed ∷ [])) ≡ L + 1 = length-append cs (closed ∷ []) in
      let order : start_in done L ≤ end_in done L = rw (done_end, done_rows.next) r.order in
      rw (f, e, g) (record {
        clauses = rw long done_clauses;
        laid = rw long (record {
          room = laid.room;
          few = omega arith;
          order = below_more (λ (k : ℕ). start_in done k ≤ end_in done k) L laid.order order;
          within = below_more (λ (k : ℕ). end_in done k ≤ most_literals) L laid.within (rw done_end l);
          codes = below_more (λ (k : ℕ). Every (Coded n) (codes_in done k)) L laid.codes (rw done_codes r.codes);
          flags = below_more Flagged L laid.flags done_flag;
        });
        next = rw (long, add-one) done_end;
      })
