-- Laws for loops that go through a list from its front.
use Rattle.std.specs.Prelude.{ℕ, ◌+◌, ◌<◌, ◌≤◌, List, [], ◌∷◌, ◌≡◌, length, get_or, drop}
use Rattle.std.proofs.Common.{ap, sym, ◌∙◌, add-one, drop_of_length-le, drop-cons}

-- a function of the list says of the whole what it says from i on
abbrev pub Same : {X : Type 0} → (List ℕ → X) → List ℕ → ℕ → Type 0
Same f s i = f s ≡ f (drop i s)

module _ {X : Type 0} (f : List ℕ → X) (s : List ℕ) (i : ℕ) where
  from_next : i < length s → f (drop i s) ≡ f (get_or s i 0 ∷ drop (i + 1) s)
  from_next h = rw (add-one, drop-cons s i 0)

  -- one element on
  pub same_more : i < length s → f (get_or s i 0 ∷ drop (i + 1) s) ≡ f (drop (i + 1) s) → Same f s i → Same f s (i + 1)
  same_more h e c = c ∙ from_next h ∙ e

  -- the element decides
  pub same_stop : {x : X} → i < length s → f (get_or s i 0 ∷ drop (i + 1) s) ≡ x → Same f s i → x ≡ f s
  same_stop h e c = sym (c ∙ from_next h ∙ e)

  -- no element is left
  pub same_end : {x : X} → length s ≤ i → f [] ≡ x → Same f s i → x ≡ f s
  same_end h e c = sym (c ∙ ap f (drop_of_length-le s h) ∙ e)
