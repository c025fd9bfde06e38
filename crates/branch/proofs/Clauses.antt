-- Which clauses of a branch can be extended, and what is left of them.
use Rattle.std.proofs.Common.{ℕ, zero, suc, false, List, [], ◌∷◌, ◌++◌, ◌≡◌, refl, ap, length, arith}
use Rattle.instance.specs.Clause.{soft, Clause}
use Rattle.calculus.specs.Branch.{put_at, spent, unless}
use Rattle.branch.specs.Shows.{is_some, extendable, open_in, Left, Remain}

-- a clause that is put at weight 0 can't be extended
pub put_here : (rs : List Clause) (k : ℕ) → open_in (put_at rs (suc k) (soft 0)) k ≡ false
unfolding put_at open_in extendable spent unless is_some
put_here [] k = refl
put_here (c ∷ cs) zero = refl
put_here (c ∷ cs) (suc k) = put_here cs k

pub put_there : (rs : List Clause) (k j : ℕ) → (j ≡ k → ⊥) → open_in (put_at rs (suc k) (soft 0)) j ≡ open_in rs j
unfolding put_at open_in
put_there [] k j n = refl
put_there (c ∷ cs) zero zero n = absurd (n refl)
put_there (c ∷ cs) zero (suc j) n = refl
put_there (c ∷ cs) (suc k) zero n = refl
put_there (c ∷ cs) (suc k) (suc j) n = put_there cs k j (λ e. n (omega arith))

pub put_remain : (cs rs : List Clause) (i : ℕ) → Remain cs rs → Remain cs (put_at rs i (soft 0))
unfolding put_at spent
put_remain [] [] i h = tt
put_remain [] (d ∷ ds) i h = absurd h
put_remain (c ∷ cs) [] i h = absurd h
put_remain (c ∷ cs) (d ∷ ds) zero h = h
put_remain (c ∷ cs) (d ∷ ds) (suc zero) h = (record { body = h.0.body; whole = λ e. absurd (never e) }, h.1)
  where
    never : spent (soft 0) ≡ false → ⊥
    never e = let z : ◌≡◌ {A = ℕ} 0 1 = cc in omega arith
put_remain (c ∷ cs) (d ∷ ds) (suc (suc i)) h = (h.0, put_remain cs ds (suc i) h.1)

-- one clause more
pub keep_here : (rs : List Clause) (d : Clause) → open_in (rs ++ (d ∷ [])) (length rs) ≡ extendable d
unfolding open_in
keep_here [] d = refl
keep_here (c ∷ cs) d = keep_here cs d

pub keep_there : (rs : List Clause) (d : Clause) (k : ℕ) → (k ≡ length rs → ⊥) → open_in (rs ++ (d ∷ [])) k ≡ open_in rs k
unfolding open_in
keep_there [] d zero n = absurd (n refl)
keep_there [] d (suc k) n = refl
keep_there (c ∷ cs) d zero n = refl
keep_there (c ∷ cs) d (suc k) n = keep_there cs d k (λ e. n (omega arith))

pub keep_shut : (rs : List Clause) (d : Clause) (k : ℕ) → extendable d ≡ false → open_in (rs ++ (d ∷ [])) k ≡ open_in rs k
unfolding open_in
keep_shut [] d zero e = e
keep_shut [] d (suc k) e = refl
keep_shut (c ∷ cs) d zero e = refl
keep_shut (c ∷ cs) d (suc k) e = keep_shut cs d k e

pub remain_length : (cs rs : List Clause) → Remain cs rs → length cs ≡ length rs
remain_length [] [] h = refl
remain_length [] (d ∷ ds) h = absurd h
remain_length (c ∷ cs) [] h = absurd h
remain_length (c ∷ cs) (d ∷ ds) h = ap suc (remain_length cs ds h.1)

pub keep_remain : (cs rs : List Clause) (c d : Clause) → Remain cs rs → Left c d → Remain (cs ++ (c ∷ [])) (rs ++ (d ∷ []))
keep_remain [] [] c d h l = (l, tt)
keep_remain [] (r ∷ rs) c d h l = absurd h
keep_remain (e ∷ cs) [] c d h l = absurd h
keep_remain (e ∷ cs) (r ∷ rs) c d h l = (h.0, keep_remain cs rs c d h.1 l)
