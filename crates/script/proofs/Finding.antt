-- The library's searches of bytes, in the word `first_at` that the definitions use. Each is by induction on the bytes.
-- Assumes nothing.
use Rattle.std.proofs.Common.{◌≡◌, refl, ap, sym, ◌∙◌, ℕ, suc, ◌+◌, Bool, true, false, cond, not, ◌&&◌, [], ◌∷◌, length, nat_lt, leb, Option, Some, None, position, unwrap_or, is_some, ltb, arith, ltb-false}
use Rattle.std.specs.List.{list_all, position_or_len}
use borrow.Author.Tests.{lt-leb}
use Rattle.std.proofs.Math.Dec.{leb-suc-suc}
use Rattle.lists.specs.Bytes.{Bytes, first_at}
use Rattle.lists.proofs.Tables.{first_at_le}

module _ (p : ℕ → Bool) where
  position_first : (s : Bytes) → position_or_len p s ≡ first_at p s
  unfolding first_at
  position_first [] = refl
  position_first (b ∷ s) = by_case (p b) _ _ (position_first s)
    where
      by_case : (t : Bool) (m n : ℕ) → m ≡ n → cond (not t) (1 + m) 0 ≡ cond t 0 (suc n)
      by_case true m n e = refl
      by_case false m n e = omega arith

  -- `position(..).unwrap_or(len)`: what `position` gave, and the number then
  pub first_position : (s : Bytes) (r : Option ℕ) (n : ℕ) → r ≡ position p s → n ≡ unwrap_or r (length s) → n ≡ first_at p s
  first_position s r n e f = f ∙ ap (λ (o : Option ℕ). unwrap_or o (length s)) e ∙ by_case (nat_lt (position_or_len p s) (length s)) refl ∙ position_first s
    where
      by_case : (t : Bool) → nat_lt (position_or_len p s) (length s) ≡ t → unwrap_or (cond t (Some (position_or_len p s)) None) (length s) ≡ position_or_len p s
      by_case true e = refl
      by_case false e = omega (arith, ltb-false, position_first s, first_at_le p s)

  -- `position(..).is_some()`
  pub some_position : (s : Bytes) (r : Option ℕ) → r ≡ position p s → is_some r ≡ ltb (first_at p s) (length s)
  some_position s r e = ap is_some e ∙ by_case (nat_lt (position_or_len p s) (length s)) ∙ ap (λ (n : ℕ). ltb n (length s)) (position_first s)
    where
      by_case : (t : Bool) → is_some (cond t (Some (position_or_len p s)) None) ≡ t
      by_case true = refl
      by_case false = refl

  -- `all(..)`
  pub all_first : (s : Bytes) → list_all p s ≡ leb (length s) (first_at (λ (b : ℕ). not (p b)) s)
  unfolding first_at
  all_first [] = refl
  all_first (b ∷ s) = by_case (p b) (all_first s)
    where
      by_case : (t : Bool) → list_all p s ≡ leb (length s) (first_at (λ (b : ℕ). not (p b)) s) → (t && list_all p s) ≡ leb (suc (length s)) (cond (not t) 0 (suc (first_at (λ (b : ℕ). not (p b)) s)))
      by_case true e = e ∙ sym (leb-suc-suc _ _)
      by_case false e = sym (lt-leb (suc (length s)) 0 (omega arith))
