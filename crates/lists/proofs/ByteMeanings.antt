-- specs/Meanings.antt: the comparison by its laws, the search by recursion on the list, the table of digits by computing each. Assumes nothing.
use Prim.Native.Nat.{ℕ, zero, suc, ◌+◌, ◌-◌, ◌≤◌, ◌<◌}
use native.Mathlib.Omega.{arith}
use mathlib.Core.Path.{◌≡◌, refl, sym, ◌∙◌, ap, subst}
use mathlib.Core.Logic.{◌↔◌, ◌⊎◌, inl, inr}
use mathlib.Core.Bool.{Bool, true, false, cond, ◌&&◌, false≢true}
use mathlib.Core.List.{List, [], ◌∷◌}
use lib.ListN.{length, get_or, drop, get_or-append}
use lib.Seq.{get_or-append-add, get_or-drop}
use lib.Dec.{eqb}
use Rattle.lists.specs.Bytes.{Bytes, same, is_empty, hex_digit, laid_over, first_at}
use Rattle.lists.specs.Meanings.{hex_digits, FirstPassing, ByteMeanings}
use Rattle.lists.proofs.Tests.{eqb-true, and_left, and_right, same_eq, same_of_eq}

-- ---- what holds of every number below a bound, by computing it at each

abbrev pub all_below : (ℕ → Bool) → ℕ → Bool
all_below p zero = true
all_below p (suc n) = p zero && all_below (λ k. p (suc k)) n

pub at_each : (p : ℕ → Bool) (n : ℕ) → all_below p n ≡ true → (k : ℕ) → k < n → p k ≡ true
at_each p zero h k l = absurd (omega arith)
at_each p (suc n) h zero l = and_left (p 0) _ h
at_each p (suc n) h (suc k) l = at_each (λ i. p (suc i)) n (and_right (p 0) _ h) k (omega arith)

-- ---- the comparison

pub same_means : (x y : Bytes) → (same x y ≡ true) ↔ (x ≡ y)
same_means x y = (same_eq x y, same_of_eq)

pub empty_means : (b : Bytes) → (is_empty b ≡ true) ↔ (b ≡ [])
empty_means [] = (λ h. refl, λ h. refl)
empty_means (x ∷ b) = (λ h. absurd (omega (arith, eqb-true {m = suc (length b)} {n = 0} h)), λ h. absurd (omega (arith, ap length h)))

-- ---- hex digits

pub hex_digit_means : (n : ℕ) → n < 16 → hex_digit n ≡ get_or hex_digits n 0
unfolding hex_digit
hex_digit_means n h = eqb-true (at_each (λ k. eqb (hex_digit k) (get_or hex_digits k 0)) 16 refl n h)

-- ---- the search

module _ {A : Type 0} where
  pub first_at_least : (p : A → Bool) (l : List A) → FirstPassing p l (first_at p l)
  unfolding first_at
  first_at_least p [] = record { none_before = λ i d h. absurd (omega arith); found_or_end = inr refl }
  first_at_least p (x ∷ xs) = go (p x) refl (first_at_least p xs)
    where
      before : p x ≡ false → FirstPassing p xs (first_at p xs) → (i : ℕ) (d : A) → i < suc (first_at p xs) → p (get_or (x ∷ xs) i d) ≡ false
      before e r zero d h = e
      before e r (suc i) d h = r.none_before i d (omega arith)

      after : ((first_at p xs < length xs) × ((d : A) → p (get_or xs (first_at p xs) d) ≡ true)) ⊎ (first_at p xs ≡ length xs)
          → ((suc (first_at p xs) < suc (length xs)) × ((d : A) → p (get_or xs (first_at p xs) d) ≡ true)) ⊎ (suc (first_at p xs) ≡ suc (length xs))
      after (inl h) = inl (omega (arith, h.0), h.1)
      after (inr h) = inr (ap suc h)

      go : (b : Bool) → p x ≡ b → FirstPassing p xs (first_at p xs) → FirstPassing p (x ∷ xs) (cond b 0 (suc (first_at p xs)))
      go true e r = record { none_before = λ i d h. absurd (omega arith); found_or_end = inl (omega arith, λ d. e) }
      go false e r = record { none_before = before e r; found_or_end = after r.found_or_end }

  -- of two such positions none is the smaller, where the list is not at its end
  least_le : (p : A → Bool) (l : List A) (m n : ℕ) → FirstPassing p l m → FirstPassing p l n → n ≤ length l → m < n → ⊥
  least_le p [] m n a b g h = absurd (omega arith)
  least_le p (x ∷ xs) m n a b g h = go a.found_or_end
    where
      go : ((m < suc (length xs)) × ((d : A) → p (get_or (x ∷ xs) m d) ≡ true)) ⊎ (m ≡ suc (length xs)) → ⊥
      go (inl f) = false≢true (sym (b.none_before m x h) ∙ f.1 x)
      go (inr e) = omega arith

  at_most : (p : A → Bool) (l : List A) (n : ℕ) → FirstPassing p l n → n ≤ length l
  at_most p l n r = go r.found_or_end
    where
      go : ((n < length l) × ((d : A) → p (get_or l n d) ≡ true)) ⊎ (n ≡ length l) → n ≤ length l
      go (inl h) = omega (arith, h.0)
      go (inr h) = omega arith

  pub least_one : (p : A → Bool) (l : List A) (m n : ℕ) → FirstPassing p l m → FirstPassing p l n → m ≡ n
  least_one p l m n a b = omega (arith, least_le p l m n a b (at_most p l n b), least_le p l n m b a (at_most p l m a))

  pub first_at_means : (p : A → Bool) (l : List A) (n : ℕ) → (first_at p l ≡ n) ↔ FirstPassing p l n
  first_at_means p l n = (λ h. subst (FirstPassing p l) h (first_at_least p l), λ r. least_one p l (first_at p l) n (first_at_least p l) r)

-- ---- bytes laid over others

laid_past : (b s : Bytes) (i : ℕ) → length s ≤ i → get_or (laid_over b s) i 0 ≡ get_or b i 0
laid_past b s i h =
    let e : i ≡ length s + (i - length s) = omega arith in
    ap (λ (k : ℕ). get_or (laid_over b s) k 0) e
    ∙ get_or-append-add s (drop (length s) b) (i - length s) 0
    ∙ get_or-drop (length s) b (i - length s) 0
    ∙ ap (λ (k : ℕ). get_or b k 0) (sym e)

pub bytes_mean : ByteMeanings
bytes_mean = record {
  same_bytes = same_means;
  empty = empty_means;
  hex_digit_lem = hex_digit_means;
  first = first_at_means;
  over = λ b s i h. get_or-append s (drop (length s) b) 0 i h;
  past = laid_past;
}
