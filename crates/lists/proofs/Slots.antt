-- Further laws of tables: slots no two of which clash, what a search that fell short or came to the end tells, and the pigeonhole. Each is by induction on the
-- table; the pigeonhole by induction on the number of holes, with the value of the last moved into the gap. Assumes nothing.
use Prim.Native.Nat.{ℕ, zero, suc, ◌≤◌, ◌<◌}
use native.Mathlib.Omega.{arith}
use mathlib.Core.Path.{◌≡◌, refl, sym, ◌∙◌, ap}
use mathlib.Core.Logic.{◌≢◌}
use mathlib.Core.Bool.{Bool, true, false, cond, false≢true}
use mathlib.Core.List.{List, [], ◌∷◌}
use lib.ListN.{length, get_or, set, replicate, get_or-eq_default}
use lib.Dec.{eqb, ltb}
use borrow.Author.Tests.{ltb-true, ltb-false}
use Rattle.lists.specs.Bytes.{first_at}
use Rattle.lists.proofs.Tests.{eqb-true, eqb_self}
use Rattle.lists.proofs.Tables.{all_set, first_at_none}

-- ---- cases

-- either the two numbers are the same or they are not
pub by_eq : {P : Type 0} (a b : ℕ) → (a ≡ b → P) → (a ≢ b → P) → P
by_eq {P} a b f g = go (eqb a b) refl
  where
    go : (t : Bool) → eqb a b ≡ t → P
    go true e = f (eqb-true e)
    go false e = g (λ q. false≢true (sym e ∙ ap (λ (n : ℕ). eqb n b) q ∙ eqb_self b))

-- either the test passes or it does not
pub by_test : {P : Type 0} (b : Bool) → (b ≡ true → P) → (b ≡ false → P) → P
by_test true f g = f refl
by_test false f g = g refl

-- what holds of both branches holds of the choice
pub by_cond : {A : Type 0} (P : A → Type 0) (c : Bool) (x y : A) → (c ≡ true → P x) → (c ≡ false → P y) → P (cond c x y)
by_cond P true x y f g = f refl
by_cond P false x y f g = g refl

-- ---- slots

module _ {A : Type 0} where
  -- no two slots clash
  abbrev pub Apart : (A → A → Type 0) → List A → A → Type 0
  Apart R l d = (i j : ℕ) → R (get_or l i d) (get_or l j d) → i ≡ j

  -- a store of what clashes with no other slot
  pub apart_set : (R : A → A → Type 0) (l : List A) (d : A) (k : ℕ) (a : A) → ((x y : A) → R x y → R y x) → ((y : A) → R d y → ⊥)
      → Apart R l d → ((i : ℕ) → i ≢ k → R (get_or l i d) a → ⊥) → Apart R (set l k a) d
  apart_set R l d k a turn none h f =
      all_set (λ i x. (j : ℕ) → R x (get_or (set l k a) j d) → i ≡ j) l d k a
      (λ i j r. absurd (none (get_or (set l k a) j d) r))
      (λ i ine j.
      all_set (λ n y. R (get_or l i d) y → i ≡ n) l d k a (λ n r. absurd (none (get_or l i d) (turn (get_or l i d) d r))) (λ n ne r. h i n r) (λ r. absurd (f i ine r)) j)
      (λ j. all_set (λ n y. R a y → k ≡ n) l d k a (λ n r. absurd (none a (turn a d r))) (λ n ne r. absurd (f n ne (turn a (get_or l n d) r))) (λ r. refl) j)

  -- every slot of a table of one record is that record
  pub all_same : (n i : ℕ) (d : A) → get_or (replicate n d) i d ≡ d
  all_same zero i d = refl
  all_same (suc n) zero d = refl
  all_same (suc n) (suc i) d = all_same n i d

  -- a slot that differs from what stands past the end is within the table
  pub within : (l : List A) (d : A) (i : ℕ) → get_or l i d ≢ d → i < length l
  within l d i h = by_test (ltb i (length l)) (λ t. ltb-true i (length l) t) (λ f. absurd (h (get_or-eq_default l d {n = i} (ltb-false i (length l) f))))

  -- a search that falls short of the end is at a slot that passes
  first_at_short : (p : A → Bool) (l : List A) (d : A) → first_at p l < length l → p (get_or l (first_at p l) d) ≡ true
  unfolding first_at
  first_at_short p [] d h = absurd (omega arith)
  first_at_short p (x ∷ xs) d h = go (p x) refl h (first_at_short p xs d)
    where
      go : (b : Bool) → p x ≡ b → cond b 0 (suc (first_at p xs)) < suc (length xs) → (first_at p xs < length xs → p (get_or xs (first_at p xs) d) ≡ true)
          → p (get_or (x ∷ xs) (cond b 0 (suc (first_at p xs))) d) ≡ true
      go true e t ih = e
      go false e t ih = ih (omega arith)

  -- a search for what some slot passes ends at a slot that passes
  pub first_at_found : (p : A → Bool) (l : List A) (d : A) (i : ℕ) → p d ≡ false → p (get_or l i d) ≡ true → p (get_or l (first_at p l) d) ≡ true
  first_at_found p l d i n h =
      by_test (ltb (first_at p l) (length l)) (λ t. first_at_short p l d (ltb-true (first_at p l) (length l) t))
      (λ f. absurd (false≢true (sym (first_at_none p l d n (ltb-false (first_at p l) (length l) f) i) ∙ h)))

  -- what the tests of a search say, in a table of n slots
  module _ (p : A → Bool) (l : List A) (d : A) (n : ℕ) (size : length l ≡ n) where
    pub search_hit : ltb (first_at p l) n ≡ true → p (get_or l (first_at p l) d) ≡ true
    search_hit h = let t : first_at p l < n = ltb-true (first_at p l) n h in first_at_short p l d (omega arith)

    pub search_none : p d ≡ false → ltb (first_at p l) n ≡ false → (i : ℕ) → p (get_or l i d) ≡ false
    search_none z h = let t : n ≤ first_at p l = ltb-false (first_at p l) n h in first_at_none p l d z (omega arith)

-- ---- the pigeonhole

-- n + 1 numbers below n are not all different
pub pigeonhole : (n : ℕ) (f : ℕ → ℕ) → ((t : ℕ) → t ≤ n → f t < n) → ((s t : ℕ) → s ≤ n → t ≤ n → f s ≡ f t → s ≡ t) → ⊥
pigeonhole zero f small one = absurd (omega (arith, small 0 (omega arith)))
pigeonhole (suc m) f small one = pigeonhole m g g_small g_one
  where
    g : ℕ → ℕ
    g t = cond (eqb (f t) m) (f (suc m)) (f t)

    at_top : (t : ℕ) → f t ≡ m → g t ≡ f (suc m)
    at_top t e = ap (λ (b : Bool). cond b (f (suc m)) (f t)) (ap (λ (k : ℕ). eqb k m) e ∙ eqb_self m)

    below : (t : ℕ) → f t ≢ m → g t ≡ f t
    below t ne = by_test (eqb (f t) m) (λ e. absurd (ne (eqb-true e))) (λ e. ap (λ (b : Bool). cond b (f (suc m)) (f t)) e)

    g_small : (t : ℕ) → t ≤ m → g t < m
    g_small t h =
        by_eq (f t) m
        (λ e.
        let ne : f (suc m) ≢ m = λ q. absurd (omega (arith, one t (suc m) (omega arith) (omega arith) (e ∙ sym q))) in
        omega (arith, at_top t e, small (suc m) (omega arith), ne))
        (λ ne. omega (arith, below t ne, small t (omega arith), ne))

    g_one : (s t : ℕ) → s ≤ m → t ≤ m → g s ≡ g t → s ≡ t
    g_one s t hs ht e =
        by_eq (f s) m
        (λ p.
        by_eq (f t) m (λ q. one s t (omega arith) (omega arith) (p ∙ sym q))
        (λ q. absurd (omega (arith, one (suc m) t (omega arith) (omega arith) (sym (at_top s p) ∙ e ∙ below t q)))))
        (λ p.
        by_eq (f t) m (λ q. absurd (omega (arith, one s (suc m) (omega arith) (omega arith) (sym (below s p) ∙ e ∙ at_top t q))))
        (λ q. one s t (omega arith) (omega arith) (sym (below s p) ∙ e ∙ below t q)))
