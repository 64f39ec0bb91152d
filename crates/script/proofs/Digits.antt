-- Decimal digits: a number read digit by digit, and one written from its last digit back.
-- Assumes nothing.
use Prim.Native.Nat.{ℕ, zero, suc, ◌+◌, ◌-◌, ◌*◌, ◌/◌, ◌%◌, ◌≤◌, ◌<◌}
use native.Mathlib.Numerals.{add-one}
use native.Mathlib.Omega.{arith}
use mathlib.Core.Path.{◌≡◌, refl, ap}
use mathlib.Core.Bool.{Bool, true, false, cond, ◌&&◌, true≢false}
use mathlib.Core.List.{[], ◌∷◌, ◌++◌}
use lib.ListN.{length, get_or, drop, length-append}
use lib.Seq.{drop-cons}
use lib.Dec.{ltb, eqb}
use borrow.Author.Tests.{le-leb, lt-leb, lt-ltb, le-ltb, eqb-true}
use Rattle.lists.specs.Bytes.{Bytes}
use Rattle.script.specs.Numbers.{most_number, is_digit, digits_from, number_of, last_digits, decimal}
use Rattle.std.specs.Prelude.{None}

-- a word with no byte
pub no_digits : (s : Bytes) → eqb (length s) 0 ≡ true → None ≡ number_of s
unfolding number_of
no_digits [] h = refl
no_digits (x ∷ s) h = absurd (omega (arith, eqb-true (suc (length s)) 0 h))

pub digits_start : (s : Bytes) → eqb (length s) 0 ≡ false → number_of s ≡ digits_from 0 s
unfolding number_of
digits_start [] h = absurd (true≢false h)
digits_start (x ∷ s) h = refl

and_false : (t : Bool) → (t && false) ≡ false
and_false true = refl
and_false false = refl

module _ (s : Bytes) (i n : ℕ) (h : i < length s) where
  pub digits_bad : is_digit (get_or s i 0) ≡ false → digits_from n (drop i s) ≡ None
  unfolding digits_from
  digits_bad e = rw (drop-cons s i 0 h, e)

  pub digits_large : most_number < n * 10 + (get_or s i 0 - 48) → digits_from n (drop i s) ≡ None
  unfolding digits_from
  digits_large e = rw (drop-cons s i 0 h, lt-leb _ _ e, and_false (is_digit (get_or s i 0)))

  pub digits_next : is_digit (get_or s i 0) ≡ true → n * 10 + (get_or s i 0 - 48) ≤ most_number → digits_from n (drop i s) ≡ digits_from (n * 10 + (get_or s i 0 - 48)) (drop (i + 1) s)
  unfolding digits_from
  digits_next e f = rw (drop-cons s i 0 h, e, le-leb _ _ f, add-one i)

pub last_none : (k n : ℕ) → k ≡ 0 → last_digits k n ≡ []
unfolding last_digits
last_none zero n h = refl
last_none (suc k) n h = absurd (omega arith)

pub last_one : (k n : ℕ) → (k ≡ 0 → ⊥) → n < 10 → last_digits k n ≡ (48 + n) ∷ []
unfolding last_digits
last_one zero n h l = absurd (h refl)
last_one (suc k) n h l = rw (lt-ltb _ _ l)

pub last_more : (k n : ℕ) → (k ≡ 0 → ⊥) → 10 ≤ n → last_digits k n ≡ last_digits (k - 1) (n / 10) ++ ((48 + n % 10) ∷ [])
unfolding last_digits
last_more zero n h l = absurd (h refl)
last_more (suc k) n h l = let e : k ≡ suc k - 1 = omega arith in rw (le-ltb _ _ l) (ap (λ (j : ℕ). last_digits j (n / 10) ++ ((48 + n % 10) ∷ [])) e)

pub last_length : (k n : ℕ) → length (last_digits k n) ≤ k
unfolding last_digits
last_length zero n = omega arith
last_length (suc k) n = go (ltb n 10) (last_length k (n / 10))
  where
    go : (t : Bool) → length (last_digits k (n / 10)) ≤ k → length (cond t ((48 + n) ∷ []) (last_digits k (n / 10) ++ ((48 + n % 10) ∷ []))) ≤ suc k
    go true h = omega arith
    go false h = omega (arith, length-append (last_digits k (n / 10)) ((48 + n % 10) ∷ []))

pub decimal_length : (n : ℕ) → length (decimal n) ≤ 20
unfolding decimal
decimal_length n = last_length 20 n
