-- One induction over the walk serves every fact about it: here, that it counts the records.
use Rattle.std.specs.Prelude.{ℕ, suc, ◌+◌, List, [], ◌∷◌, ◌++◌, ◌≡◌, refl, length}
use Rattle.std.proofs.Common.{subst, arith}
use Rattle.instance.specs.Clause.{Problem}
use Rattle.instance.specs.Refusals.{staged}
use Rattle.instance.specs.declared.answers.Claim.{Claim}
use Rattle.instance.specs.declared.answers.Checked.{Checked}
use Rattle.instance.specs.declared.answers.Checked.TheVariants.{Accepted, Refused}
use Rattle.instance.specs.declared.refusals.Stage.{Stage}
use Rattle.calculus.specs.declared.Record.{Record}
use Rattle.calculus.specs.Branch.{Branch}
use Rattle.calculus.specs.Derivation.{Item, whole, other, size, Step, stop, go, step, walk}
use Rattle.calculus.proofs.Theorems.Steps.{Stepped, OnGo, stepped}

-- Inv holds of the open branches; P of what is left to take, the records taken, the open branches, and the answer.
pub record Walked (I : Problem) (k : Claim)
    (Inv : List Branch → Type 0) (P : List Item → ℕ → List Branch → Checked → Type 0) : Type 0 where
  pub done : (m : ℕ) → P [] m [] (Accepted k m)
  pub refused : (is : List Item) (m : ℕ) (bs : List Branch) (s : Stage) → P is m bs (Refused s)
  pub next : (r : Record) (b : Branch) (bs new : List Branch) → Inv (b ∷ bs) → Stepped I k b r new → Inv (new ++ bs)
  pub more : (is : List Item) (m : ℕ) (r : Record) (b : Branch) (bs new : List Branch) → Inv (b ∷ bs) → Stepped I k b r new →
      (o : Checked) → P is (suc m) (new ++ bs) o → P (whole r ∷ is) m (b ∷ bs) o

pub walk_kept : (I : Problem) (k : Claim) (Inv : List Branch → Type 0) (P : List Item → ℕ → List Branch → Checked → Type 0) →
    Walked I k Inv P →
    (is : List Item) (at m : ℕ) (bs : List Branch) → Inv bs → P is m bs (walk I k is at m bs)
unfolding walk
walk_kept I k Inv P K [] at m [] h = K.done m
walk_kept I k Inv P K [] at m (b ∷ bs) h = K.refused [] m (b ∷ bs) (staged 19 at)
walk_kept I k Inv P K (i ∷ is) at m [] h = K.refused (i ∷ is) m [] (staged 20 at)
walk_kept I k Inv P K (other ∷ is) at m (b ∷ bs) h = K.refused (other ∷ is) m (b ∷ bs) (staged 14 at)
walk_kept I k Inv P K (whole r ∷ is) at m (b ∷ bs) h =
    after (step I k r b) (stepped I k b r) (λ new. walk_kept I k Inv P K is (at + size r) (suc m) (new ++ bs))
  where
    after : (t : Step) → OnGo (Stepped I k b r) t →
        ((new : List Branch) → Inv (new ++ bs) → P is (suc m) (new ++ bs) (walk I k is (at + size r) (suc m) (new ++ bs))) →
        P (whole r ∷ is) m (b ∷ bs) (elim t as (λ _. Checked) [
          | stop e ↦ Refused (staged e at)
          | go new ↦ walk I k is (at + size r) (suc m) (new ++ bs)
        ])
    after (stop e) d f = K.refused (whole r ∷ is) m (b ∷ bs) (staged e at)
    after (go new) d f =
        K.more is m r b bs new h d (walk I k is (at + size r) (suc m) (new ++ bs)) (f new (K.next r b bs new h d))

-- "An accepted check returns the claim, m (0 under N) and the number of records after the claim."
pub record Counted (k : Claim) (is : List Item) (m : ℕ) (c : Claim) (a : ℕ) : Type 0 where
  pub claim : c ≡ k
  pub count : a ≡ m + length is

abbrev OnAccepted : (Claim → ℕ → Type 0) → Checked → Type 0
OnAccepted P (Accepted c a) = P c a
OnAccepted P (Refused s) = Unit {0}

pub accepted_counted : (I : Problem) (k : Claim) (is : List Item) (at m : ℕ) (bs : List Branch) (c : Claim) (a : ℕ) →
    walk I k is at m bs ≡ Accepted c a → Counted k is m c a
accepted_counted I k is at m bs c a e =
    subst (OnAccepted (Counted k is m)) e (walk_kept I k (λ bs. Unit {0}) (λ is m bs. OnAccepted (Counted k is m)) (record {
      done = λ m. record { claim = refl; count = omega arith };
      refused = λ is m bs s. tt;
      next = λ r b bs new h d. tt;
      more = λ is m r b bs new h d o. one_more is m r o;
    }) is at m bs tt)
  where
    one_more : (is : List Item) (m : ℕ) (r : Record) (o : Checked) → OnAccepted (Counted k is (suc m)) o →
        OnAccepted (Counted k (whole r ∷ is) m) o
    one_more is m r (Accepted c a) h = record { claim = h.claim; count = omega (arith, h.count) }
    one_more is m r (Refused s) h = tt
