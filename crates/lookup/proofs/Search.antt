-- What a search of a table answers, from the kit's contracts of `position` and `find` where the closure computes a test: the kit's `position_or_len` is `first_at`,
-- and `find` comes to what stands there. Assumes nothing.
use Prim.Native.Nat.{ℕ}
use mathlib.Core.Path.{◌≡◌, refl, sym, ◌∙◌, ap, subst}
use native.Mathlib.Numerals.{one-add}
use mathlib.Core.Bool.{Bool, true, false, cond}
use mathlib.Core.List.{List}
use lib.ListN.{length, get_or}
use lib.Dec.{ltb}
use Rattle.std.specs.Option.{MatchOption, IsSomeAnd, UnwrapsOrElse, option_map, unwrap_or}
use Rattle.std.specs.Fn.{Called}
use Rattle.std.specs.Iterator.{FindsPosition}
use Rattle.std.specs.Slice.Iter.{iter_rest}
use Rattle.std.specs.declared.slice.Iter.{Iter}
use Rattle.std.proofs.iter.Yields.{fronts}
use Rattle.std.proofs.lemmas.Iterator.{YieldsList-from_slice}
use Rattle.std.proofs.lemmas.Iterator.Search.{position_from_yields_List}
use denote.Param.Members.{Mut}
use Rattle.std.specs.List.{position_or_len, find}
use Rattle.std.specs.declared.option.Option.{Option}
use Rattle.std.specs.declared.option.Option.TheVariants.{Some, None}
use Rattle.std.proofs.lemmas.List.Folds.{find_at}
use Rattle.std.proofs.lemmas.Option.{unwrap_or-slice_get}
use denote.Ref.{Bor}
use Rattle.std.proofs.lemmas.List.Recursion.{is_position_or_len}
use Rattle.lists.specs.Bytes.{first_at}

first_at_position : {A : Type 0} (p : A → Bool) (xs : List A) → first_at p xs ≡ position_or_len p xs
unfolding first_at
first_at_position p xs = is_position_or_len (first_at p) p refl (λ x ys. ap (cond (p x) 0) (sym (one-add (first_at p ys)))) xs

-- a table of n slots, gone over by `position`, with a closure that computes the test
module _ {A F : Type 0} (p : A → Bool) (xs : List A) (n : ℕ) (size : length xs ≡ n) {s : Iter A} {g : Mut F (Bor A × Unit {0}) Bool} (u : Iter A) (f : F) (o : Option ℕ)
    (rest : iter_rest s ≡ xs) (ran : FindsPosition fronts g s f o u) (computes : (x : Bor A) (b : Bool) (q : F) → Called g f (x, tt) b q → (q ≡ f) × (b ≡ p x.now)) where
  -- the slot
  pub slot : o ≡ cond (ltb (first_at p xs) n) (Some (first_at p xs)) None
  slot = rw (first_at_position p xs, ← size) (position_from_yields_List p u f o ran (YieldsList-from_slice xs rest) computes)

  -- a number that a closure makes of the slot
  pub numbered : {B : Type 0} (h : ℕ → B) {P : ℕ → B → Type 0} (r : Option B) → MatchOption o (r ≡ None) (λ x. IsSomeAnd r (P x)) → ((x : ℕ) (y : B) → P x y → y ≡ h x)
      → r ≡ cond (ltb (first_at p xs) n) (Some (h (first_at p xs))) None
  numbered {B} h {P} r m made = go (ltb (first_at p xs) n) (subst (λ (q : Option ℕ). MatchOption q (r ≡ None) (λ x. IsSomeAnd r (P x))) slot m)
    where
      some : (r : Option B) → IsSomeAnd r (P (first_at p xs)) → r ≡ Some (h (first_at p xs))
      some (Some y) e = ap (λ (b : B). Some b) (made (first_at p xs) y e)
      some None e = absurd e

      go : (t : Bool) → MatchOption (cond t (Some (first_at p xs)) None) (r ≡ None) (λ x. IsSomeAnd r (P x)) → r ≡ cond t (Some (h (first_at p xs))) None
      go true e = some r e
      go false e = e

module _ {A : Type 0} (p : A → Bool) (xs : List A) (d : A) where
  -- what stands at `first_at`, and d where there is none
  found_or : unwrap_or (find p xs) d ≡ get_or xs (first_at p xs) d
  found_or = rw (find_at p xs) (unwrap_or-slice_get xs (position_or_len p xs) d) ∙ ap (λ (n : ℕ). get_or xs n d) (sym (first_at_position p xs))

  -- what a closure reads of what was found
  pub read_or : {B : Type 0} (f : A → B) {P : Bor A → Type 0} (o : Option (Bor A)) (r : B) → option_map (λ (x : Bor A). x.now) o ≡ find p xs
      → MatchOption o (r ≡ f d) P → ((x : Bor A) → P x → r ≡ f x.now) → r ≡ f (get_or xs (first_at p xs) d)
  read_or {B} f {P} o r e m g = go o m ∙ ap f (ap (λ (q : Option A). unwrap_or q d) e ∙ found_or)
    where
      go : (o : Option (Bor A)) → MatchOption o (r ≡ f d) P → r ≡ f (unwrap_or (option_map (λ (x : Bor A). x.now) o) d)
      go (Some x) h = g x h
      go None h = h

  -- what was found, and the default where there is none
  pub copied_or : (P : A → Type 0) (o : Option A) (r : A) → o ≡ find p xs → UnwrapsOrElse o P r → (P r → r ≡ d) → r ≡ get_or xs (first_at p xs) d
  copied_or P o r e m g = go o m ∙ ap (λ (q : Option A). unwrap_or q d) e ∙ found_or
    where
      go : (o : Option A) → UnwrapsOrElse o P r → r ≡ unwrap_or o d
      go (Some x) h = h
      go None h = g h
