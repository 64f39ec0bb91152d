-- Laws of tables: of a search, of a store, and of what is done to every slot.
-- Assumes nothing.
use Prim.Native.Nat.{ℕ, zero, suc, ◌≤◌, ◌<◌}
use native.Mathlib.Omega.{arith}
use mathlib.Core.Path.{◌≡◌, refl, ◌∙◌, ap, ap₂}
use mathlib.Core.Logic.{◌≢◌, ◌⊎◌, inl, inr}
use mathlib.Core.Bool.{Bool, true, false, cond}
use mathlib.Core.List.{List, [], ◌∷◌, map}
use lib.ListN.{length, get_or, set}
use Rattle.lists.specs.Bytes.{first_at}

module _ {A B : Type 0} where
  pub map_set : (f : A → B) (l : List A) (i : ℕ) (a : A) → map f (set l i a) ≡ set (map f l) i (f a)
  map_set f [] i a = refl
  map_set f (x ∷ xs) zero a = refl
  map_set f (x ∷ xs) (suc i) a = ap (f x ∷◌) (map_set f xs i a)

  pub map_agree : (f g : A → B) (l : List A) (d : A) → ((i : ℕ) → f (get_or l i d) ≡ g (get_or l i d)) → map f l ≡ map g l
  map_agree f g [] d h = refl
  map_agree f g (x ∷ xs) d h = ap₂ ◌∷◌ (h 0) (map_agree f g xs d (λ i. h (suc i)))

  pub first_at_map : (f : A → B) (p : A → Bool) (q : B → Bool) (l : List A) (d : A) → ((i : ℕ) → q (f (get_or l i d)) ≡ p (get_or l i d)) → first_at q (map f l) ≡ first_at p l
  unfolding first_at
  first_at_map f p q [] d h = refl
  first_at_map f p q (x ∷ xs) d h = rw (h 0) (ap (λ (n : ℕ). cond (p x) 0 (suc n)) (first_at_map f p q xs d (λ i. h (suc i))))

module _ {A : Type 0} where
  -- a property of each slot and its number is kept by a store of what has it
  pub all_set : (P : ℕ → A → Type 0) (l : List A) (d : A) (j : ℕ) (a : A) → ((i : ℕ) → P i d) → ((i : ℕ) → i ≢ j → P i (get_or l i d)) → P j a
      → (i : ℕ) → P i (get_or (set l j a) i d)
  all_set P [] d j a q h p i = q i
  all_set P (x ∷ xs) d zero a q h p zero = p
  all_set P (x ∷ xs) d zero a q h p (suc i) = h (suc i) (omega arith)
  all_set P (x ∷ xs) d (suc j) a q h p zero = h 0 (omega arith)
  all_set P (x ∷ xs) d (suc j) a q h p (suc i) =
      all_set (λ n. P (suc n)) xs d j a (λ n. q (suc n)) (λ n ne. h (suc n) (λ e. ne (omega arith))) p i

  -- a search ends at a slot that passes, or at what stands past the end
  pub first_at_ends : (p : A → Bool) (l : List A) (d : A) → (p (get_or l (first_at p l) d) ≡ true) ⊎ (get_or l (first_at p l) d ≡ d)
  unfolding first_at
  first_at_ends p [] d = inr refl
  first_at_ends p (x ∷ xs) d = go (p x) refl (first_at_ends p xs d)
    where
      go : (b : Bool) → p x ≡ b → (p (get_or xs (first_at p xs) d) ≡ true) ⊎ (get_or xs (first_at p xs) d ≡ d)
          → (p (get_or (x ∷ xs) (cond b 0 (suc (first_at p xs))) d) ≡ true) ⊎ (get_or (x ∷ xs) (cond b 0 (suc (first_at p xs))) d ≡ d)
      go true e ih = inl e
      go false e ih = ih

  -- it passes, if what stands past the end does
  pub first_at_passes : (p : A → Bool) (l : List A) (d : A) → p d ≡ true → p (get_or l (first_at p l) d) ≡ true
  first_at_passes p l d h = go (first_at_ends p l d)
    where
      go : (p (get_or l (first_at p l) d) ≡ true) ⊎ (get_or l (first_at p l) d ≡ d) → p (get_or l (first_at p l) d) ≡ true
      go (inl e) = e
      go (inr e) = ap p e ∙ h

  -- where a search comes to the end, no slot passes
  pub first_at_none : (p : A → Bool) (l : List A) (d : A) → p d ≡ false → length l ≤ first_at p l → (i : ℕ) → p (get_or l i d) ≡ false
  unfolding first_at
  first_at_none p [] d n h i = n
  first_at_none p (x ∷ xs) d n h i = go (p x) refl h i (first_at_none p xs d n)
    where
      go : (b : Bool) → p x ≡ b → suc (length xs) ≤ cond b 0 (suc (first_at p xs)) → (i : ℕ)
          → (length xs ≤ first_at p xs → (j : ℕ) → p (get_or xs j d) ≡ false) → p (get_or (x ∷ xs) i d) ≡ false
      go true e h i ih = absurd (omega arith)
      go false e h zero ih = e
      go false e h (suc i) ih = ih (omega arith) i

  pub first_at_le : (p : A → Bool) (l : List A) → first_at p l ≤ length l
  unfolding first_at
  first_at_le p [] = omega arith
  first_at_le p (x ∷ xs) = go (p x) (first_at_le p xs)
    where
      go : (t : Bool) → first_at p xs ≤ length xs → cond t 0 (suc (first_at p xs)) ≤ suc (length xs)
      go true h = omega arith
      go false h = omega arith

  -- within the list, what stands past the end does not matter
  pub get_d_any : (l : List A) (i : ℕ) (d e : A) → i < length l → get_or l i d ≡ get_or l i e
  get_d_any [] i d e h = absurd (omega arith)
  get_d_any (x ∷ xs) zero d e h = refl
  get_d_any (x ∷ xs) (suc i) d e h = get_d_any xs i d e (omega arith)
