-- Laws of byte strings: what is made of bytes is bytes; zeros cut and put together; the length of a part.
-- Assumes nothing.
use Prim.Native.Nat.{ℕ, zero, suc, ◌+◌, ◌-◌, ◌≤◌, ◌<◌}
use native.Mathlib.Omega.{arith}
use mathlib.Core.Path.{◌≡◌, refl, sym, ◌∙◌, ap, subst}
use mathlib.Core.List.{[], ◌∷◌, ◌++◌}
use lib.ListN.{length, take, drop, length-replicate}
use lib.Seq.{get_or-drop, length-take-le}
use lib.Dec.{lit<}
use Rattle.lists.specs.Bytes.{Bytes, ByteList, zeros}

-- ---- bytes

pub nil_bytes : ByteList []
nil_bytes i = lit< tt

pub cons_bytes : (x : ℕ) (l : Bytes) → x < 256 → ByteList l → ByteList (x ∷ l)
cons_bytes x l h g zero = h
cons_bytes x l h g (suc i) = g i

pub append_bytes : (l m : Bytes) → ByteList l → ByteList m → ByteList (l ++ m)
append_bytes [] m h g i = g i
append_bytes (x ∷ l) m h g zero = h zero
append_bytes (x ∷ l) m h g (suc i) = append_bytes l m (λ j. h (suc j)) g i

pub take_bytes : (n : ℕ) (l : Bytes) → ByteList l → ByteList (take n l)
take_bytes zero l h i = lit< tt
take_bytes (suc n) [] h i = lit< tt
take_bytes (suc n) (x ∷ l) h zero = h zero
take_bytes (suc n) (x ∷ l) h (suc i) = take_bytes n l (λ j. h (suc j)) i

pub drop_bytes : (n : ℕ) (l : Bytes) → ByteList l → ByteList (drop n l)
drop_bytes n l h i = subst (λ (x : ℕ). x < 256) (sym (get_or-drop n l i 0)) (h (n + i))

pub zeros_bytes : (n : ℕ) → ByteList (zeros n)
unfolding zeros
zeros_bytes zero i = lit< tt
zeros_bytes (suc n) zero = lit< tt
zeros_bytes (suc n) (suc i) = zeros_bytes n i

-- ---- zeros

count : (a b : ℕ) → a ≡ b → zeros a ≡ zeros b
count a b e = ap zeros e

pub length_zeros : (n : ℕ) → length (zeros n) ≡ n
unfolding zeros
length_zeros n = length-replicate n 0

pub take_zeros : (k n : ℕ) → k ≤ n → take k (zeros n) ≡ zeros k
unfolding zeros
take_zeros zero n h = refl
take_zeros (suc k) zero h = absurd (omega arith)
take_zeros (suc k) (suc n) h = ap (0 ∷◌) (take_zeros k n (omega arith))

pub drop_zeros : (n m : ℕ) → drop n (zeros m) ≡ zeros (m - n)
unfolding zeros
drop_zeros zero m = count m (m - 0) (omega arith)
drop_zeros (suc n) zero = count 0 (0 - suc n) (omega arith)
drop_zeros (suc n) (suc m) = drop_zeros n m ∙ count (m - n) (suc m - suc n) (omega arith)

pub append_zeros : (a b : ℕ) → zeros a ++ zeros b ≡ zeros (a + b)
unfolding zeros
append_zeros zero b = count b (0 + b) (omega arith)
append_zeros (suc a) b = ap (0 ∷◌) (append_zeros a b) ∙ count (suc (a + b)) (suc a + b) (omega arith)

-- ---- a part

pub count_take : (n : ℕ) (l : Bytes) → n ≤ length l → n ≡ length (take n l)
count_take n l h = sym (length-take-le n l h)
