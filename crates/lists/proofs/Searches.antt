-- What tests and searches mean, as both directions of one law: a conjunction, a disjunction and a negation of tests that have meanings; and a search for a test that
-- has one. `P i` is what the test says of slot i. Each law about searches is by what stands before and at the slot where the search ends. Assumes nothing.
use Prim.Native.Nat.{ℕ, ◌≤◌, ◌<◌}
use native.Mathlib.Omega.{arith}
use mathlib.Core.Path.{◌≡◌, refl, sym, ◌∙◌, subst}
use mathlib.Core.Logic.{◌↔◌, ◌⊎◌, inl, inr, ⊎_elim}
use mathlib.Core.Bool.{Bool, true, false, not, ◌&&◌, ◌||◌, true≢false, false≢true}
use mathlib.Core.List.{List}
use lib.ListN.{length, get_or}
use lib.Dec.{eqb, leb, ltb}
use borrow.Author.Tests.{ltb-true, ltb-false, lt-ltb, leb-true, leb-false, le-leb, eq-eqb}
use Rattle.lists.specs.Bytes.{first_at}
use Rattle.lists.proofs.Tests.{and_left, and_right, eqb-true}
use Rattle.lists.proofs.Predicates.{and_yes}
use Rattle.lists.proofs.Slots.{by_test, search_hit, search_none}
use Rattle.lists.proofs.ByteMeanings.{first_at_least}

-- ---- tests

pub equal : (a b : ℕ) → (eqb a b ≡ true) ↔ (a ≡ b)
equal a b = (eqb-true, eq-eqb a b)

pub at_most : (a b : ℕ) → (leb a b ≡ true) ↔ (a ≤ b)
at_most a b = (leb-true a b, le-leb a b)

module _ {A : Type 0} (t : Bool) (f : (t ≡ true) ↔ A) where
  pub fails : (t ≡ false) ↔ (A → ⊥)
  fails = (λ h a. false≢true (sym h ∙ f.1 a), λ n. by_test t (λ h. absurd (n (f.0 h))) (λ h. h))

  pub denied : (not t ≡ true) ↔ (A → ⊥)
  denied = go t f
    where
      go : (b : Bool) → ((b ≡ true) ↔ A) → (not b ≡ true) ↔ (A → ⊥)
      go true g = (λ h. absurd (false≢true h), λ n. absurd (n (g.0 refl)))
      go false g = (λ h a. false≢true (g.1 a), λ n. refl)

  pub not_denied : (not t ≡ false) ↔ A
  not_denied = go t f
    where
      go : (b : Bool) → ((b ≡ true) ↔ A) → (not b ≡ false) ↔ A
      go true g = (λ h. g.0 refl, λ a. refl)
      go false g = (λ h. absurd (true≢false h), λ a. absurd (false≢true (g.1 a)))

  module _ {B : Type 0} (u : Bool) (g : (u ≡ true) ↔ B) where
    pub both : ((t && u) ≡ true) ↔ (A × B)
    both = (λ h. (f.0 (and_left t u h), g.0 (and_right t u h)), λ p. and_yes t u (f.1 p.0) (g.1 p.1))

    pub either : ((t || u) ≡ true) ↔ (A ⊎ B)
    either = go t f
      where
        go : (b : Bool) → ((b ≡ true) ↔ A) → ((b || u) ≡ true) ↔ (A ⊎ B)
        go true k = (λ h. inl (k.0 refl), λ r. refl)
        go false k = (λ h. inr (g.0 h), λ r. ⊎_elim (λ a. absurd (false≢true (k.1 a))) (λ b. g.1 b) r)

-- ---- searches

-- before the slot where a search ends nothing passes
pub first_at_before : {A : Type 0} (p : A → Bool) (l : List A) (d : A) (i : ℕ) → i < first_at p l → p (get_or l i d) ≡ false
first_at_before p l d i h = (first_at_least p l).none_before i d h

-- a table of n slots, with d past its end, and a test that says P of a slot
module _ {A : Type 0} (p : A → Bool) (l : List A) (d : A) (n : ℕ) (size : length l ≡ n) (P : ℕ → Type 0) (means : (i : ℕ) → (p (get_or l i d) ≡ true) ↔ P i) where
  ends_at : first_at p l < n → P (first_at p l)
  ends_at h = (means (first_at p l)).0 (search_hit p l d n size (lt-ltb (first_at p l) n h))

  none_before : (i : ℕ) → P i → first_at p l ≤ i
  none_before i h =
      by_test (ltb i (first_at p l)) (λ t. absurd (true≢false (sym ((means i).1 h) ∙ first_at_before p l d i (ltb-true i (first_at p l) t)))) (λ f. ltb-false i (first_at p l) f)

  -- the search ends at the least slot of which P holds
  pub least_found : (i : ℕ) → i < n → (first_at p l ≡ i) ↔ (P i × ((k : ℕ) → P k → i ≤ k))
  least_found i h = (
    λ e. (subst P e (ends_at (omega arith)), λ k w. omega (arith, none_before k w)),
    λ r. let a = none_before i r.0 in omega (arith, r.1 (first_at p l) (ends_at (omega arith))),
  )

  -- it comes to the end where P holds of no slot
  pub none_found : (leb n (first_at p l) ≡ true) ↔ ((i : ℕ) → i < n → P i → ⊥)
  none_found = (
    λ t i h w. absurd (omega (arith, leb-true n (first_at p l) t, none_before i w)),
    λ f. by_test (leb n (first_at p l)) (λ t. t) (λ t. let h = leb-false n (first_at p l) t in absurd (f (first_at p l) h (ends_at h))),
  )

  -- and falls short of it where P holds of some, if what stands past the end does not pass
  pub some_found : p d ≡ false → (ltb (first_at p l) n ≡ true) ↔ ((i : ℕ) × P i)
  some_found z = (
    λ t. (first_at p l, ends_at (ltb-true (first_at p l) n t)),
    λ r. by_test (ltb (first_at p l) n) (λ t. t) (λ f. absurd (true≢false (sym ((means r.0).1 r.1) ∙ search_none p l d n size z f r.0))),
  )
