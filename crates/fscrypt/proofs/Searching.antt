-- The searches of names by the library's words: the first position that passes a test, whether one passes, and whether all do. Assumes nothing.
use Prim.Native.Nat.{suc}
use Prim.Native.Nat.compare
use native.Mathlib.Omega.{arith}
use mathlib.Core.Path.{◌≡◌, refl, sym, ap}
use mathlib.Core.Bool.{Bool, true, false, cond, not, ◌&&◌, ◌||◌}
use mathlib.Core.List.{List, [], ◌∷◌}
use lib.ListN.{length, get_or}
use lib.Dec.{eqb, leb, ltb}
use Rattle.std.proofs.lemmas.Grind.{common_steps}
use Rattle.fscrypt.specs.Names.{is_dot_name}
use borrow.Author.Tests.{lt-ltb, lt-leb, ltb-false}
use Rattle.std.specs.List.{list_any, list_all, position_or_len}
use Rattle.std.specs.Option.{unwrap_or}
use Rattle.std.specs.Prelude.{Some, None}
use Rattle.std.proofs.lemmas.List.Recursion.{is_position_or_len}
use Rattle.lists.specs.Bytes.{Bytes, same, first_at}
use Rattle.lists.proofs.Tables.{first_at_le}

module _ {A : Type 0} (p : A → Bool) where
  pub first_is_position : (xs : List A) → first_at p xs ≡ position_or_len p xs
  unfolding first_at
  first_is_position = is_position_or_len (first_at p) p refl (λ x xs. ap (cond (p x) 0) (omega arith))

  pub any_first : (xs : List A) → list_any p xs ≡ ltb (first_at p xs) (length xs)
  unfolding first_at
  any_first [] = refl
  any_first (x ∷ xs) = go (p x) (any_first xs)
    where
      go : (b : Bool) → list_any p xs ≡ ltb (first_at p xs) (length xs) → (b || list_any p xs) ≡ ltb (cond b 0 (suc (first_at p xs))) (suc (length xs))
      go true e = sym (lt-ltb 0 (suc (length xs)) (omega arith))
      go false e = rw compare.suc-suc e

  pub all_first : (xs : List A) → list_all p xs ≡ leb (length xs) (first_at (λ x. not (p x)) xs)
  unfolding first_at
  all_first [] = refl
  all_first (x ∷ xs) = go (p x) (all_first xs)
    where
      go : (b : Bool) → list_all p xs ≡ leb (length xs) (first_at (λ y. not (p y)) xs)
          → (b && list_all p xs) ≡ leb (suc (length xs)) (cond (not b) 0 (suc (first_at (λ y. not (p y)) xs)))
      go true e = rw compare.suc-suc e
      go false e = sym (lt-leb (suc (length xs)) 0 (omega arith))

  pub first_or_length : (xs : List A) → unwrap_or (cond (ltb (position_or_len p xs) (length xs)) (Some (position_or_len p xs)) None) (length xs) ≡ first_at p xs
  first_or_length xs = go (ltb (position_or_len p xs) (length xs)) refl
    where
      go : (b : Bool) → ltb (position_or_len p xs) (length xs) ≡ b → unwrap_or (cond b (Some (position_or_len p xs)) None) (length xs) ≡ first_at p xs
      go true e = sym (first_is_position xs)
      go false e = omega (arith, ltb-false (position_or_len p xs) (length xs) e, first_is_position xs, first_at_le p xs)

-- `.` and `..` by their bytes
pub dot_reads : (n : Bytes) → is_dot_name n ≡ ((eqb (length n) 1 && eqb (get_or n 0 0) 46) || (eqb (length n) 2 && (eqb (get_or n 0 0) 46 && eqb (get_or n 1 0) 46)))
unfolding is_dot_name same
dot_reads [] = refl
dot_reads (x ∷ []) = grind (arith, common_steps)
dot_reads (x ∷ y ∷ []) = grind (arith, common_steps)
dot_reads (x ∷ y ∷ z ∷ r) = grind (arith, common_steps)
