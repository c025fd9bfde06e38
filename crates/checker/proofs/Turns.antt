-- The loop over the records: after each turn what is left decides the answer.
use Rattle.std.proofs.Common.{ℕ, ◌+◌, ◌<◌, ◌≤◌, List, [], ◌∷◌, ◌++◌, ◌≡◌, Result, Ok, Err, Some, None, MatchResult, IsErrAnd, refl, ap, sym, subst, ◌∙◌, arith, length, get_or, drop}
use Rattle.instance.specs.Clause.{Problem}
use Rattle.instance.specs.Answers.{shown_by}
use Rattle.instance.specs.Faults.{numbered}
use Rattle.instance.specs.Refusals.{staged}
use Rattle.instance.specs.declared.answers.Claim.{Claim}
use Rattle.instance.specs.declared.faults.Fault.{Fault}
use Rattle.instance.specs.declared.refusals.Stage.{Stage}
use Rattle.calculus.specs.Branch.{Branch}
use Rattle.calculus.specs.Derivation.{stop, go, step, walk}
use Rattle.calculus.specs.Derivation as calculus
use Rattle.calculus.specs.declared.Record.{Record}
use Rattle.derivation.specs.Bytes.{item_at, items}
use Rattle.checker.specs.declared.steps.Step.{Step}
use Rattle.checker.specs.declared.steps.Step.TheVariants.{GoesOn, AllClosed}
use Rattle.checker.specs.declared.walk.Walk.{Walk}
use Rattle.checker.specs.Decoding.{decoded_as}
use Rattle.checker.specs.Walking.{Stands}
use Rattle.checker.specs.Moves.{Moved, Steps}
use Rattle.checker.proofs.Running.{next_later, walk_end, walk_accepts, walk_more, walk_broken, walk_stops, walk_goes}

-- ---- what a step's answer says of the calculus' step
module _ (I : Problem) (w : Walk) (bs : List Branch) where
  moved_stop : (fault : Fault) (s : calculus.Step) → Moved I w bs (Err fault) s → s ≡ stop (numbered fault)
  moved_stop fault (stop e) q = ap stop (sym q)
  moved_stop fault (go new) q = absurd q

  moved_last : (s : calculus.Step) → Moved I w bs (Ok AllClosed) s → (new : List Branch) × (s ≡ go new) × (new ++ bs ≡ [])
  moved_last (stop e) q = absurd q
  moved_last (go new) q = (new, refl, q)

  moved_on : (s : calculus.Step) → Moved I w bs (Ok GoesOn) s
      → (new : List Branch) × (b : Branch) × (rest : List Branch) × (s ≡ go new) × (new ++ bs ≡ b ∷ rest) × Stands I w b rest
  moved_on (stop e) q = absurd q
  moved_on (go new) (b, rest, e, s) = (new, b, rest, refl, e, s)

module _ (claim : Claim) (proof : List ℕ) (from : ℕ) (first : Walk) where
  -- the answer that the definitions give
  abbrev pub Answer : Result ℕ Stage → Type 0
  Answer r =
      (I : Problem) (b : Branch) (bs : List Branch) → Stands I first b bs
      → shown_by claim r ≡ walk I claim (items (drop from proof)) from 0 (b ∷ bs)

  -- what is left of the derivation gives it
  pub record Running (w : Walk) (at count : ℕ) : Type 0 where
    pub counted : count ≤ at
    pub left : (I : Problem) (b₀ : Branch) (bs₀ : List Branch) → Stands I first b₀ bs₀
        → (b : Branch) × (bs : List Branch) × Stands I w b bs
        × (walk I claim (items (drop at proof)) at count (b ∷ bs) ≡ walk I claim (items (drop from proof)) from 0 (b₀ ∷ bs₀))

module _ {claim : Claim} {proof : List ℕ} {from : ℕ} {first w : Walk} {at count : ℕ} (r : Running claim proof from first w at count) where
  pub answer_end : length proof ≤ at → Answer claim proof from first (Err (staged 19 at))
  answer_end le I b₀ bs₀ s₀ =
      let (b, bs, s, e) = r.left I b₀ bs₀ s₀ in
      sym (walk_end I claim proof at count b bs le) ∙ e

  module _ (lt : at < length proof) where
    pub answer_broken : None ≡ decoded_as (item_at (get_or proof at 0) (drop (at + 1) proof)) at → Answer claim proof from first (Err (staged 14 at))
    answer_broken d I b₀ bs₀ s₀ =
        let (b, bs, s, e) = r.left I b₀ bs₀ s₀ in
        sym (walk_broken I claim proof at count lt b bs d) ∙ e

    module _ (q : Record) (next : ℕ) (d : Some (q, next) ≡ decoded_as (item_at (get_or proof at 0) (drop (at + 1) proof)) at) (w' : Walk) where
      abbrev Stepped : Result Step Fault → Type 0
      Stepped m = Steps (λ I b. step I claim q b) w w' m

      pub answer_stop : (fault : Fault) → Stepped (Err fault) → Answer claim proof from first (Err (staged (numbered fault) at))
      answer_stop fault m I b₀ bs₀ s₀ =
          let (b, bs, s, e) = r.left I b₀ bs₀ s₀ in
          sym (walk_stops I claim proof at count lt q next d b bs (numbered fault) (moved_stop I w' bs fault (step I claim q b) (m I b bs s))) ∙ e

      pub answer_accepted : Stepped (Ok AllClosed) → length proof ≤ next → Answer claim proof from first (Ok (count + 1))
      answer_accepted m le I b₀ bs₀ s₀ =
          let (b, bs, s, e) = r.left I b₀ bs₀ s₀ in
          let (new, g, none) = moved_last I w' bs (step I claim q b) (m I b bs s) in
          sym (walk_goes I claim proof at count lt q next d b bs new g ∙ walk_accepts I claim proof next (count + 1) (new ++ bs) none le) ∙ e

      pub answer_more : Stepped (Ok AllClosed) → next < length proof → Answer claim proof from first (Err (staged 20 next))
      answer_more m low I b₀ bs₀ s₀ =
          let (b, bs, s, e) = r.left I b₀ bs₀ s₀ in
          let (new, g, none) = moved_last I w' bs (step I claim q b) (m I b bs s) in
          sym (walk_goes I claim proof at count lt q next d b bs new g ∙ walk_more I claim proof next (count + 1) low (new ++ bs) none) ∙ e

      pub running_on : Stepped (Ok GoesOn) → Running claim proof from first w' next (count + 1)
      running_on m = record {
        counted = omega (arith, r.counted, next_later proof at q next d);
        left = λ I b₀ bs₀ s₀.
            let (b, bs, s, e) = r.left I b₀ bs₀ s₀ in
            let (new, b', rest, g, o, s') = moved_on I w' bs (step I claim q b) (m I b bs s) in
            (b', rest, s', ap (walk I claim (items (drop next proof)) next (count + 1)) (sym o) ∙ sym (walk_goes I claim proof at count lt q next d b bs new g) ∙ e);
      }

-- ---- a step's answer with the place of its record
pub ok_at : (P : Fault → Stage → Type 0) (r : Result Step Fault) (t : Result Step Stage) (v : Step) → MatchResult r (λ v'. t ≡ Ok v') (λ f. IsErrAnd t (P f)) → t ≡ Ok v → r ≡ Ok v
ok_at P (Ok v') t v m e = cc
ok_at P (Err f) (Ok v') v m e = absurd m
ok_at P (Err f) (Err s) v m e = cc

pub err_at : (P : Fault → Stage → Type 0) (r : Result Step Fault) (t : Result Step Stage) (s : Stage) → MatchResult r (λ v. t ≡ Ok v) (λ f. IsErrAnd t (P f)) → t ≡ Err s → (f : Fault) × (r ≡ Err f) × P f s
err_at P (Ok v) t s m e = cc
err_at P (Err f) (Ok v) s m e = absurd m
err_at P (Err f) (Err s') s m e = (f, refl, let q : s' ≡ s = cc in subst (P f) q m)
