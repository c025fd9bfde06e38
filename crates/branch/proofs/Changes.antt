-- The single changes of a branch, each a store into one cell.
use Rattle.std.proofs.Common.{ℕ, suc, ◌+◌, ◌<◌, true, false, List, [], ◌∷◌, ◌++◌, ◌≡◌, refl, ap, sym, ◌∙◌, length, set}
use Rattle.instance.specs.Limits.{most_variables, most_clauses}
use Rattle.instance.specs.Clause.{Literal, soft, Clause}
use Rattle.instance.specs.Within.{In}
use Rattle.instance.specs.Store.{flag_of}
use Rattle.calculus.specs.Branch.{Branch, set_weight, mark, book, kill, with_rules, keep, put}
use Rattle.branch.specs.Cells.{Cell, booked, dead, weight, marked, shut, at}
use Rattle.branch.specs.Shows.{extendable, has, Left, Shows}
use Rattle.branch.proofs.Literals.{same_self, same_other}
use Rattle.branch.proofs.Clauses.{put_here, put_there, put_remain, remain_length, keep_here, keep_there, keep_shut, keep_remain}
use Rattle.branch.proofs.Stores.{shows_set}

module _ {cs : List Clause} {cells : List ℕ} {b : Branch} (h : Shows cs cells b) where
  pub shows_weight : (l : Literal) → In most_variables l → (v : ℕ) → Shows cs (set cells (at (weight l)) v) (set_weight l v b)
  unfolding has set_weight
  shows_weight l i v = shows_set h (set_weight l v b) (weight l) v i (rw (same_self l, has)) there h.rules
    where
      there : (d : Cell) → (d ≡ weight l → ⊥) → has (set_weight l v b) d ≡ has b d
      there booked n = refl
      there dead n = refl
      there (weight k) n = rw (same_other k l (λ e. n (ap weight e)), has)
      there (marked k) n = refl
      there (shut k) n = refl

  pub shows_mark : (l : Literal) → In most_variables l → Shows cs (set cells (at (marked l)) 1) (mark l b)
  unfolding has mark flag_of
  shows_mark l i = shows_set h (mark l b) (marked l) 1 i (rw (same_self l, has)) there h.rules
    where
      there : (d : Cell) → (d ≡ marked l → ⊥) → has (mark l b) d ≡ has b d
      there booked n = refl
      there dead n = refl
      there (weight k) n = refl
      there (marked k) n = rw (same_other k l (λ e. n (ap marked e)))
      there (shut k) n = refl

  pub shows_book : (v : ℕ) → Shows cs (set cells (at booked) (b.booked + v)) (book v b)
  unfolding has book
  shows_book v = shows_set h (book v b) booked (b.booked + v) tt refl there h.rules
    where
      there : (d : Cell) → (d ≡ booked → ⊥) → has (book v b) d ≡ has b d
      there booked n = absurd (n refl)
      there dead n = refl
      there (weight k) n = refl
      there (marked k) n = refl
      there (shut k) n = refl

  pub shows_kill : Shows cs (set cells (at dead) 1) (kill b)
  unfolding has kill flag_of
  shows_kill = shows_set h (kill b) dead 1 tt refl there h.rules
    where
      there : (d : Cell) → (d ≡ dead → ⊥) → has (kill b) d ≡ has b d
      there booked n = refl
      there dead n = absurd (n refl)
      there (weight k) n = refl
      there (marked k) n = refl
      there (shut k) n = refl

  -- the clause at k is spent
  pub shows_spent : (k : ℕ) → k < most_clauses → Shows cs (set cells (at (shut k)) 1) (put (suc k) (soft 0) b)
  unfolding has put with_rules flag_of
  shows_spent k lt =
      shows_set h (put (suc k) (soft 0) b) (shut k) 1 lt (rw (put_here b.rules k)) there (put_remain cs b.rules (suc k) h.rules)
    where
      there : (d : Cell) → (d ≡ shut k → ⊥) → has (put (suc k) (soft 0) b) d ≡ has b d
      there booked n = refl
      there dead n = refl
      there (weight j) n = refl
      there (marked j) n = refl
      there (shut j) n = rw (put_there b.rules k j (λ e. n (ap shut e)))

  -- One clause more takes its number, with d left of it. Its cell is set so far.
  module _ (c d : Clause) (left : Left c d) (few : length cs < most_clauses) where
    rules_count : length cs ≡ length b.rules
    rules_count = remain_length cs b.rules h.rules

    pub shows_keep_shut : extendable d ≡ false → Shows (cs ++ (c ∷ [])) cells (keep d.weight d.body b)
    unfolding has keep with_rules
    shows_keep_shut e = record {
      size = h.size;
      holds = λ k r. h.holds k r ∙ same k;
      rules = keep_remain cs b.rules c d h.rules left;
    }
      where
        same : (k : Cell) → has b k ≡ has (keep d.weight d.body b) k
        same booked = refl
        same dead = refl
        same (weight l) = refl
        same (marked l) = refl
        same (shut k) = rw (keep_shut b.rules d k e)

    pub shows_keep_open : extendable d ≡ true → Shows (cs ++ (c ∷ [])) (set cells (at (shut (length cs))) 0) (keep d.weight d.body b)
    unfolding has keep with_rules flag_of
    shows_keep_open e =
        shows_set h (keep d.weight d.body b) (shut (length cs)) 0 few
        (rw (rules_count, keep_here b.rules d, e)) there (keep_remain cs b.rules c d h.rules left)
      where
        there : (k : Cell) → (k ≡ shut (length cs) → ⊥) → has (keep d.weight d.body b) k ≡ has b k
        there booked n = refl
        there dead n = refl
        there (weight l) n = refl
        there (marked l) n = refl
        there (shut k) n = rw (keep_there b.rules d k (λ q. n (ap shut (q ∙ sym rules_count))))
