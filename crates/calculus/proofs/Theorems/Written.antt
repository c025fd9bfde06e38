-- One induction over Write serves every fact about it: that what it writes is accepted and fits its room, and that more fuel
-- changes nothing.
use Rattle.std.specs.Prelude.{Bool, ◌≡◌, leb, ℕ, zero, suc, ◌+◌, ◌≤◌, ◌<◌, List, [], ◌∷◌, ◌++◌, map}
use Rattle.std.proofs.Math.Bool.{true, false}
use Rattle.std.proofs.Math.Option.{Option, some, none}
use Rattle.std.proofs.Math.Path.{refl, ap}
use Rattle.std.proofs.Common.{subst, ◌∙◌, arith, leb-true, leb-false, le-leb}
use Rattle.std.proofs.Math.ListN.{length}
use Rattle.std.proofs.lemmas.Bool.{lt-leb}
use Rattle.instance.specs.Clause.{Problem}
use Rattle.instance.specs.declared.answers.Claim.{Claim}
use Rattle.instance.specs.declared.answers.Checked.TheVariants.{Accepted}
use Rattle.calculus.specs.declared.Record.{Record}
use Rattle.calculus.specs.declared.Record.TheVariants.{E, C, Q}
use Rattle.calculus.specs.Branch.{Branch}
use Rattle.calculus.specs.Bounds.{bytes_of}
use Rattle.calculus.specs.Derivation.{whole, size, Step, stop, go, step, walk}
use Rattle.calculus.specs.Writing.{candidates, Move, first, Draft, wrote, no_room, stuck, also, write_from}
use Rattle.calculus.proofs.Theorems.Steps.{Stepped, OnGo, stepped}

-- ---- the move that is chosen is a step
pub record Chosen (I : Problem) (k : Claim) (b : Branch) (m : Move) : Type 0 where
  pub goes : step I k m.chosen b ≡ go m.places
  pub did : Stepped I k b m.chosen m.places

abbrev pub OnMove : (Move → Type 0) → Option Move → Type 0
OnMove P none = Unit {0}
OnMove P (some m) = P m

pub first_chosen : (I : Problem) (k : Claim) (b : Branch) (rs : List Record) → OnMove (Chosen I k b) (first I k rs b)
unfolding first
first_chosen I k b [] = tt
first_chosen I k b (r ∷ rs) = test (step I k r b) refl (stepped I k b r) (first_chosen I k b rs)
  where
    test : (s : Step) → step I k r b ≡ s → OnGo (Stepped I k b r) s → OnMove (Chosen I k b) (first I k rs b) →
        OnMove (Chosen I k b) (elim s as (λ _. Option Move) [
          | go new ↦ some (record { chosen = r; places = new })
          | stop e ↦ first I k rs b
        ])
    test (stop e) q d h = h
    test (go new) q d h = record { goes = q; did = d }

pub size_some : (r : Record) → 1 ≤ size r
unfolding size
size_some (E i) = omega arith
size_some (C x) = omega arith
size_some Q = omega arith

module _ (I : Problem) (k : Claim) (room : ℕ) where
  -- ---- the induction
  -- m is what Write does on b
  pub record Does (b : Branch) (m : Move) : Type 0 where
    pub least : first I k (candidates I b) b ≡ some m
    pub move : Chosen I k b m

  -- Inv holds of the fuel, the bytes written and the open branches; P of the bytes, the branches and what comes of them: none
  -- open, no fuel, no room for the next record, nothing allowed, or a record written.
  pub record Kept (Inv : ℕ → ℕ → List Branch → Type 0) (P : ℕ → List Branch → Draft → Type 0) : Type 0 where
    pub end : (fuel at : ℕ) → Inv fuel at [] → P at [] (wrote [])
    pub dry : (at : ℕ) (b : Branch) (bs : List Branch) → Inv 0 at (b ∷ bs) → P at (b ∷ bs) (no_room at)
    pub full : (fuel at : ℕ) (b : Branch) (bs : List Branch) (m : Move) → Inv (suc fuel) at (b ∷ bs) → Does b m →
        room < at + size m.chosen →
        P at (b ∷ bs) (no_room at)
    pub halt : (fuel at : ℕ) (b : Branch) (bs : List Branch) → Inv (suc fuel) at (b ∷ bs) → first I k (candidates I b) b ≡ none →
        P at (b ∷ bs) (stuck b)
    pub next : (fuel at : ℕ) (b : Branch) (bs : List Branch) (m : Move) → Inv (suc fuel) at (b ∷ bs) → Does b m →
        at + size m.chosen ≤ room →
        Inv fuel (at + size m.chosen) (m.places ++ bs)
    pub more : (fuel at : ℕ) (b : Branch) (bs : List Branch) (m : Move) → Inv (suc fuel) at (b ∷ bs) → Does b m →
        at + size m.chosen ≤ room →
        (w : Draft) → P (at + size m.chosen) (m.places ++ bs) w → P at (b ∷ bs) (also m.chosen w)

  pub write_kept : (Inv : ℕ → ℕ → List Branch → Type 0) (P : ℕ → List Branch → Draft → Type 0) → Kept Inv P →
      (fuel at : ℕ) (bs : List Branch) → Inv fuel at bs → P at bs (write_from I k fuel room at bs)
  unfolding write_from
  write_kept Inv P K zero at [] h = K.end 0 at h
  write_kept Inv P K zero at (b ∷ bs) h = K.dry at b bs h
  write_kept Inv P K (suc fuel) at [] h = K.end (suc fuel) at h
  write_kept Inv P K (suc fuel) at (b ∷ bs) h =
      pick (first I k (candidates I b) b) refl (first_chosen I k b (candidates I b)) (λ at new. write_kept Inv P K fuel at (new ++ bs))
    where
      pick : (o : Option Move) → first I k (candidates I b) b ≡ o → OnMove (Chosen I k b) o →
          ((at : ℕ) (new : List Branch) → Inv fuel at (new ++ bs) → P at (new ++ bs) (write_from I k fuel room at (new ++ bs))) →
          P at (b ∷ bs) (elim o as (λ _. Draft) [
            | none ↦ stuck b
            | some m ↦ elim (leb (at + size m.chosen) room) as (λ _. Draft) [
              | true ↦ also m.chosen (write_from I k fuel room (at + size m.chosen) (m.places ++ bs))
              | false ↦ no_room at
            ]
          ])
      pick none e c f = K.halt fuel at b bs h e
      pick (some m) e c f = test (leb (at + size m.chosen) room) refl
        where
          does : Does b m
          does = record { least = e; move = c }

          test : (t : Bool) → leb (at + size m.chosen) room ≡ t → P at (b ∷ bs) (elim t as (λ _. Draft) [
            | true ↦ also m.chosen (write_from I k fuel room (at + size m.chosen) (m.places ++ bs))
            | false ↦ no_room at
          ])
          test true q =
              let l = leb-true (at + size m.chosen) room q in
              K.more fuel at b bs m h does l (write_from I k fuel room (at + size m.chosen) (m.places ++ bs))
              (f (at + size m.chosen) m.places (K.next fuel at b bs m h does l))
          test false q = K.full fuel at b bs m h does (leb-false (at + size m.chosen) room q)

  -- ---- the same for the records written, where the branches alone say what holds
  pub record WroteKept (Inv : List Branch → Type 0) (P : List Branch → List Record → Type 0) : Type 0 where
    pub end : P [] []
    pub next : (b : Branch) (bs : List Branch) (m : Move) → Inv (b ∷ bs) → Chosen I k b m → Inv (m.places ++ bs)
    pub more : (b : Branch) (bs : List Branch) (m : Move) → Inv (b ∷ bs) → Chosen I k b m → (rs : List Record) →
        P (m.places ++ bs) rs →
        P (b ∷ bs) (m.chosen ∷ rs)

  abbrev OnWrote : (List Record → Type 0) → Draft → Type 0
  OnWrote P (wrote rs) = P rs
  OnWrote P (no_room at) = Unit {0}
  OnWrote P (stuck b) = Unit {0}

  pub wrote_kept : (Inv : List Branch → Type 0) (P : List Branch → List Record → Type 0) → WroteKept Inv P →
      (fuel at : ℕ) (bs : List Branch) (rs : List Record) → Inv bs → write_from I k fuel room at bs ≡ wrote rs → P bs rs
  wrote_kept Inv P K fuel at bs rs h e =
      subst (OnWrote (P bs)) e (write_kept (λ fuel at. Inv) (λ at bs. OnWrote (P bs)) (record {
        end = λ fuel at h. K.end;
        dry = λ at b bs h. tt;
        full = λ fuel at b bs m h d l. tt;
        halt = λ fuel at b bs h e. tt;
        next = λ fuel at b bs m h d l. K.next b bs m h d.move;
        more = λ fuel at b bs m h d l. one_more b bs m h d.move;
      }) fuel at bs h)
    where
      one_more : (b : Branch) (bs : List Branch) (m : Move) → Inv (b ∷ bs) → Chosen I k b m → (w : Draft) →
          OnWrote (P (m.places ++ bs)) w →
          OnWrote (P (b ∷ bs)) (also m.chosen w)
      one_more b bs m h c (wrote rs) p = unfold also in (K.more b bs m h c rs p)
      one_more b bs m h c (no_room at) p = unfold also in tt
      one_more b bs m h c (stuck d) p = unfold also in tt

  -- ---- "Check must accept it": what Write has written is accepted, whatever the claim, with exactly its count.
  pub write_accepted : (fuel at : ℕ) (bs : List Branch) (rs : List Record) → write_from I k fuel room at bs ≡ wrote rs →
      (p n : ℕ) → walk I k (map whole rs) p n bs ≡ Accepted k (n + length rs)
  write_accepted fuel at bs rs e = wrote_kept (λ bs. Unit {0}) Taken (record {
    end = λ p n. unfold walk in (ap (Accepted k) (omega arith));
    next = λ b bs m h c. tt;
    more = λ b bs m h c rs t p n. unfold walk in (rw (c.goes, walk) (t (p + size m.chosen) (suc n) ∙ ap (Accepted k) (omega arith)));
  }) fuel at bs rs tt e
    where
      Taken : List Branch → List Record → Type 0
      Taken bs rs = (p n : ℕ) → walk I k (map whole rs) p n bs ≡ Accepted k (n + length rs)

  -- ---- What is written fits the room, and the place of 21, "bytes written so far", is within it.
  abbrev pub Roomed : ℕ → Draft → Type 0
  Roomed at (wrote rs) = at + bytes_of rs ≤ room
  Roomed at (no_room a) = (at ≤ a) × (a ≤ room)
  Roomed at (stuck b) = Unit {0}

  pub write_roomed : (fuel at : ℕ) (bs : List Branch) → at ≤ room → Roomed at (write_from I k fuel room at bs)
  write_roomed = write_kept (λ fuel at bs. at ≤ room) (λ at bs. Roomed at) (record {
    end = λ fuel at h. nothing_more at h;
    dry = λ at b bs h. omega arith;
    full = λ fuel at b bs m h d l. omega arith;
    halt = λ fuel at b bs h e. tt;
    next = λ fuel at b bs m h d l. l;
    more = λ fuel at b bs m h d l. one_more at m.chosen;
  })
    where
      nothing_more : (at : ℕ) → at ≤ room → Roomed at (wrote [])
      nothing_more at h = unfold bytes_of in (omega arith)

      one_more : (at : ℕ) (r : Record) (w : Draft) → Roomed (at + size r) w → Roomed at (also r w)
      one_more at r (wrote rs) h = unfold also bytes_of in (omega arith)
      one_more at r (no_room a) h = unfold also in (omega arith)
      one_more at r (stuck b) h = unfold also in tt

  -- ---- "A fuel of more than the bytes left never runs out": Write does the same with any other.
  pub fuel_enough : (f g at : ℕ) (bs : List Branch) → at ≤ room → room < at + f → room < at + g →
      write_from I k f room at bs ≡ write_from I k g room at bs
  fuel_enough f g at bs l u v = write_kept (λ f at bs. (at ≤ room) × (room < at + f)) Same (record {
    end = λ f at h. none_open at;
    dry = λ at b bs h. absurd (omega arith);
    full = λ f at b bs m h d l. no_room_lem at b bs m h.0 d l;
    halt = λ f at b bs h e. halted at b bs h.0 e;
    next = λ f at b bs m h d l. (l, omega (arith, size_some m.chosen));
    more = λ f at b bs m h d l w q. one_more at b bs m h.0 d l w q;
  }) f at bs (l, u) g v
    where
      Same : ℕ → List Branch → Draft → Type 0
      Same at bs w = (g : ℕ) → room < at + g → w ≡ write_from I k g room at bs

      none_open : (at : ℕ) → Same at [] (wrote [])
      none_open at zero v = unfold write_from in refl
      none_open at (suc g) v = unfold write_from in refl

      no_room_lem : (at : ℕ) (b : Branch) (bs : List Branch) (m : Move) → at ≤ room → Does b m → room < at + size m.chosen →
          Same at (b ∷ bs) (no_room at)
      no_room_lem at b bs m h d l zero v = absurd (omega arith)
      no_room_lem at b bs m h d l (suc g) v = unfold write_from in (rw (d.least, lt-leb (at + size m.chosen) room l, write_from))

      halted : (at : ℕ) (b : Branch) (bs : List Branch) → at ≤ room → first I k (candidates I b) b ≡ none →
          Same at (b ∷ bs) (stuck b)
      halted at b bs h e zero v = absurd (omega arith)
      halted at b bs h e (suc g) v = unfold write_from in (rw (e, write_from))

      one_more : (at : ℕ) (b : Branch) (bs : List Branch) (m : Move) → at ≤ room → Does b m → at + size m.chosen ≤ room →
          (w : Draft) → Same (at + size m.chosen) (m.places ++ bs) w → Same at (b ∷ bs) (also m.chosen w)
      one_more at b bs m h d l w q zero v = absurd (omega arith)
      one_more at b bs m h d l w q (suc g) v =
          unfold write_from in (
          rw (d.least, le-leb (at + size m.chosen) room l, write_from)
          (ap (also m.chosen) (q g (omega (arith, size_some m.chosen)))))
