-- specs/Meanings.antt of letters: the table by computing each letter; a letter's six digits by its position among four; the digits of the letters are those of
-- the bytes, so that cut by eight they are the bytes again; and the two parts of a long name. Assumes nothing.
use Prim.Native.Nat.{ℕ, zero, suc, ◌+◌, ◌-◌, ◌*◌, ◌/◌, ◌%◌, ◌^◌, ◌≤◌, ◌<◌}
use native.Mathlib.Omega.{arith}
use mathlib.Core.Path.{◌≡◌, refl, sym, ◌∙◌, ap, ap₂}
use mathlib.Core.Bool.{true}
use mathlib.Core.List.{[], ◌∷◌, ◌++◌, map}
use lib.ListN.{length, take, drop, get_or, length-map}
use lib.Seq.{ext_get_or, take_at}
use lib.Dec.{eqb}
use Rattle.lists.specs.Bytes.{Bytes, ByteList, first_at, hex_digit}
use Rattle.lists.specs.Meanings.{hex_digits}
use Rattle.lists.proofs.Tests.{eqb-true}
use Rattle.lists.proofs.ByteStrings.{take_bytes}
use Rattle.lists.proofs.ByteMeanings.{all_below, at_each, hex_digit_means}
use Rattle.fscrypt.specs.Encoded.{letter, letters, encoded}
use Rattle.fscrypt.specs.Meanings.{alphabet, digit, from_digits, listed, cut_anew, position, decoded}
use Rattle.fscrypt.proofs.Lettering.{length_letters, length_front, letters_at_0, letters_at_1, letters_at_2, letters_at_3, marks, encoded_long}
use Rattle.fscrypt.proofs.Shown.{long_mark}

-- ---- the tables

pub letter_means : (k : ℕ) → k < 64 → letter k ≡ get_or alphabet k 0
unfolding letter
letter_means k h = eqb-true (at_each (λ i. eqb (letter i) (get_or alphabet i 0)) 64 refl k h)

letter_position : (k : ℕ) → k < 64 → position alphabet (get_or alphabet k 0) ≡ k
unfolding first_at
letter_position k h = eqb-true (at_each (λ i. eqb (position alphabet (get_or alphabet i 0)) i) 64 refl k h)

hex_position : (k : ℕ) → k < 16 → position hex_digits (get_or hex_digits k 0) ≡ k
unfolding first_at
hex_position k h = eqb-true (at_each (λ i. eqb (position hex_digits (get_or hex_digits i 0)) i) 16 refl k h)

-- ---- lists by their elements, and numbers by their digits

length_listed : (n : ℕ) (f : ℕ → ℕ) → length (listed n f) ≡ n
length_listed zero f = refl
length_listed (suc n) f = ap suc (length_listed n (λ i. f (suc i)))

get_d_listed : (n : ℕ) (f : ℕ → ℕ) (i : ℕ) → i < n → get_or (listed n f) i 0 ≡ f i
get_d_listed zero f i h = absurd (omega arith)
get_d_listed (suc n) f zero h = refl
get_d_listed (suc n) f (suc i) h = get_d_listed n (λ k. f (suc k)) i (omega arith)

listed_ext : (n : ℕ) (f g : ℕ → ℕ) → ((i : ℕ) → i < n → f i ≡ g i) → listed n f ≡ listed n g
listed_ext zero f g h = refl
listed_ext (suc n) f g h = ap₂ ◌∷◌ (h 0 (omega arith)) (listed_ext n (λ i. f (suc i)) (λ i. g (suc i)) (λ i l. h (suc i) (omega arith)))

map_listed : (h : ℕ → ℕ) (n : ℕ) (f : ℕ → ℕ) → map h (listed n f) ≡ listed n (λ i. h (f i))
map_listed h zero f = refl
map_listed h (suc n) f = ap (h (f 0) ∷◌) (map_listed h n (λ i. f (suc i)))

listed_whole : (s : Bytes) → listed (length s) (λ i. get_or s i 0) ≡ s
listed_whole [] = refl
listed_whole (x ∷ s) = ap (x ∷◌) (listed_whole s)

from_digits_ext : (w : ℕ) (f g : ℕ → ℕ) → ((t : ℕ) → t < w → f t ≡ g t) → from_digits w f ≡ from_digits w g
from_digits_ext zero f g h = refl
from_digits_ext (suc w) f g h =
    ap₂ (λ (x y : ℕ). x * 2 ^ w + y) (h 0 (omega arith)) (from_digits_ext w (λ t. f (suc t)) (λ t. g (suc t)) (λ t l. h (suc t) (omega arith)))

digit_small : (w : ℕ) (l : Bytes) (k : ℕ) → digit w l k ≤ 1
digit_small w l k = omega arith

-- ---- a letter

-- digit c of three bytes, the first of them at 3 * q
abbrev in_group : Bytes → ℕ → ℕ → ℕ
in_group s q c = get_or s (q * 3 + c / 8) 0 / 2 ^ (7 - c % 8) % 2

digit_in_group : (s : Bytes) (k q c : ℕ) → k ≡ 24 * q + c → digit 8 s k ≡ in_group s q c
digit_in_group s k q c e =
    let i : k / 8 ≡ q * 3 + c / 8 = omega arith in
    let o : k % 8 ≡ c % 8 = omega arith in
    ap₂ (λ (x y : ℕ). get_or s x 0 / 2 ^ (7 - y) % 2) i o

-- the six digits of letter j, as a number
abbrev six : Bytes → ℕ → ℕ
six s j = from_digits 6 (λ t. digit 8 s (6 * j + t))

six_in_group : (s : Bytes) (j r : ℕ) → j % 4 ≡ r → six s j ≡ from_digits 6 (λ t. in_group s (j / 4) (6 * r + t))
six_in_group s j r e = from_digits_ext 6 _ _ (λ t l. digit_in_group s (6 * j + t) (j / 4) (6 * r + t) (omega arith))

six_small : (s : Bytes) (j : ℕ) → six s j < 64
six_small s j =
    let d : (t : ℕ) → digit 8 s (6 * j + t) ≤ 1 = λ t. digit_small 8 s (6 * j + t) in
    omega (arith, d 0, d 1, d 2, d 3, d 4, d 5)

-- w digits of a byte from digit o on, as a number: computed for each byte
abbrev part : ℕ → ℕ → ℕ → ℕ
part w o x = from_digits w (λ t. x / 2 ^ (7 - (o + t)) % 2)

of_each : (f g : ℕ → ℕ) → all_below (λ x. eqb (f x) (g x)) 256 ≡ true → (x : ℕ) → x < 256 → f x ≡ g x
of_each f g h x l = eqb-true (at_each (λ y. eqb (f y) (g y)) 256 h x l)

-- six digits of two parts
two_four : (f : ℕ → ℕ) (x y : ℕ) → from_digits 2 f ≡ x → from_digits 4 (λ t. f (suc (suc t))) ≡ y → from_digits 6 f ≡ x * 16 + y
two_four f x y g h = omega arith

four_two : (f : ℕ → ℕ) (x y : ℕ) → from_digits 4 f ≡ x → from_digits 2 (λ t. f (suc (suc (suc (suc t))))) ≡ y → from_digits 6 f ≡ x * 4 + y
four_two f x y g h = omega arith

module _ (s : Bytes) (j : ℕ) (b : ByteList s) where
  abbrev byte : ℕ → ℕ
  byte m = get_or s (j / 4 * 3 + m) 0

  small : (m : ℕ) → byte m < 256
  small m = b (j / 4 * 3 + m)

  six_0 : j % 4 ≡ 0 → six s j ≡ byte 0 / 4
  six_0 e = six_in_group s j 0 e ∙ of_each (part 6 0) (λ x. x / 4) refl (byte 0) (small 0)

  six_1 : j % 4 ≡ 1 → six s j ≡ byte 0 % 4 * 16 + byte 1 / 16
  six_1 e =
      six_in_group s j 1 e
      ∙ two_four (λ t. in_group s (j / 4) (6 + t)) _ _ (of_each (part 2 6) (λ x. x % 4) refl (byte 0) (small 0)) (of_each (part 4 0) (λ x. x / 16) refl (byte 1) (small 1))

  six_2 : j % 4 ≡ 2 → six s j ≡ byte 1 % 16 * 4 + byte 2 / 64
  six_2 e =
      six_in_group s j 2 e
      ∙ four_two (λ t. in_group s (j / 4) (12 + t)) _ _ (of_each (part 4 4) (λ x. x % 16) refl (byte 1) (small 1)) (of_each (part 2 0) (λ x. x / 64) refl (byte 2) (small 2))

  six_3 : j % 4 ≡ 3 → six s j ≡ byte 2 % 64
  six_3 e = six_in_group s j 3 e ∙ of_each (part 6 2) (λ x. x % 64) refl (byte 2) (small 2)

  -- letter j is that of its six digits
  letter_at : j < length (letters s) → letter (six s j) ≡ get_or (letters s) j 0
  letter_at h = go (j % 4) refl
    where
      start : byte 0 ≡ get_or s (j / 4 * 3) 0
      start = ap (λ (i : ℕ). get_or s i 0) (omega arith)

      go : (r : ℕ) → j % 4 ≡ r → letter (six s j) ≡ get_or (letters s) j 0
      go zero e = letters_at_0 s j h (byte 0) _ e start (ap letter (six_0 e))
      go (suc zero) e = letters_at_1 s j h (byte 0) (byte 1) _ e start refl (ap letter (six_1 e))
      go (suc (suc zero)) e = letters_at_2 s j h (byte 1) (byte 2) _ e refl refl (ap letter (six_2 e))
      go (suc (suc (suc zero))) e = letters_at_3 s j h (byte 2) _ e refl (ap letter (six_3 e))
      go (suc (suc (suc (suc r)))) e = absurd (omega arith)

-- ---- all letters

-- the numbers that letters stand for
abbrev sixes : Bytes → Bytes
sixes s = cut_anew 8 6 ((4 * length s + 2) / 3) s

length_sixes : (s : Bytes) → length (sixes s) ≡ (4 * length s + 2) / 3
length_sixes s = length_listed ((4 * length s + 2) / 3) (six s)

sixes_at : (s : Bytes) (j : ℕ) → j < (4 * length s + 2) / 3 → get_or (sixes s) j 0 ≡ six s j
sixes_at s j h = get_d_listed ((4 * length s + 2) / 3) (six s) j h

abbrev in_table : ℕ → ℕ
in_table k = get_or alphabet k 0

pub letters_means : (s : Bytes) → ByteList s → letters s ≡ map in_table (sixes s)
letters_means s b =
    ext_get_or 0 (letters s) (map in_table (sixes s)) (length_letters s ∙ sym (length-map (sixes s) in_table ∙ length_sixes s))
    (λ j h.
    let l : j < (4 * length s + 2) / 3 = omega (arith, h, length_letters s) in
    sym (letter_at s j b h)
    ∙ letter_means (six s j) (six_small s j)
    ∙ sym (ap (λ (x : Bytes). get_or x j 0) (map_listed in_table ((4 * length s + 2) / 3) (six s)) ∙ get_d_listed ((4 * length s + 2) / 3) (λ i. in_table (six s i)) j l))

-- ---- letters read back

positions : (s : Bytes) → ByteList s → map (position alphabet) (letters s) ≡ sixes s
positions s b =
    let n : ℕ = (4 * length s + 2) / 3 in
    ap (map (position alphabet)) (letters_means s b ∙ map_listed in_table n (six s))
    ∙ map_listed (position alphabet) n (λ i. in_table (six s i))
    ∙ listed_ext n _ (six s) (λ i l. letter_position (six s i) (six_small s i))

-- a number of six digits has these digits
digit_of_six : (f : ℕ → ℕ) (o : ℕ) → ((t : ℕ) → f t ≤ 1) → o < 6 → from_digits 6 f / 2 ^ (5 - o) % 2 ≡ f o
digit_of_six f zero h l = omega (arith, h 0, h 1, h 2, h 3, h 4, h 5)
digit_of_six f (suc zero) h l = omega (arith, h 0, h 1, h 2, h 3, h 4, h 5)
digit_of_six f (suc (suc zero)) h l = omega (arith, h 0, h 1, h 2, h 3, h 4, h 5)
digit_of_six f (suc (suc (suc zero))) h l = omega (arith, h 0, h 1, h 2, h 3, h 4, h 5)
digit_of_six f (suc (suc (suc (suc zero)))) h l = omega (arith, h 0, h 1, h 2, h 3, h 4, h 5)
digit_of_six f (suc (suc (suc (suc (suc zero))))) h l = omega (arith, h 0, h 1, h 2, h 3, h 4, h 5)
digit_of_six f (suc (suc (suc (suc (suc (suc o)))))) h l = absurd (omega arith)

-- the row of digits is the same one
same_digits : (s : Bytes) (k : ℕ) → k < 6 * ((4 * length s + 2) / 3) → digit 6 (sixes s) k ≡ digit 8 s k
same_digits s k h =
    ap (λ (x : ℕ). x / 2 ^ (5 - k % 6) % 2) (sixes_at s (k / 6) (omega arith))
    ∙ digit_of_six (λ t. digit 8 s (6 * (k / 6) + t)) (k % 6) (λ t. digit_small 8 s (6 * (k / 6) + t)) (omega arith)
    ∙ ap (digit 8 s) (omega arith)

byte_of_digits : (s : Bytes) (i : ℕ) → ByteList s → from_digits 8 (λ t. digit 8 s (8 * i + t)) ≡ get_or s i 0
byte_of_digits s i b =
    from_digits_ext 8 _ (λ t. get_or s i 0 / 2 ^ (7 - (0 + t)) % 2)
    (λ t l.
    let q : (8 * i + t) / 8 ≡ i = omega arith in
    let r : (8 * i + t) % 8 ≡ 0 + t = omega arith in
    ap₂ (λ (x y : ℕ). get_or s x 0 / 2 ^ (7 - y) % 2) q r)
    ∙ of_each (part 8 0) (λ x. x) refl (get_or s i 0) (b i)

pub decoded_letters : (s : Bytes) → ByteList s → decoded (letters s) ≡ s
decoded_letters s b =
    let count : 3 * length (letters s) / 4 ≡ length s = omega (arith, length_letters s) in
    ap₂ (λ (n : ℕ) (l : Bytes). cut_anew 6 8 n l) count (positions s b)
    ∙ listed_ext (length s) _ (λ i. get_or s i 0)
    (λ i l. from_digits_ext 8 _ _ (λ t m. same_digits s (8 * i + t) (omega arith)) ∙ byte_of_digits s i b)
    ∙ listed_whole s

-- ---- a long name

pub encoded_longer : (s : Bytes) (entry : ℕ) → 160 < length s → entry < 256
    → encoded s entry ≡ 95 ∷ (letters (take 160 s) ++ (get_or hex_digits (entry / 16) 0 ∷ get_or hex_digits (entry % 16) 0 ∷ []))
encoded_longer s entry h l =
    let high : entry / 16 % 16 ≡ entry / 16 = omega arith in
    encoded_long s entry h
    ∙ ap₂ (λ (x y : ℕ). 95 ∷ (letters (take 160 s) ++ (x ∷ y ∷ []))) (ap hex_digit high ∙ hex_digit_means (entry / 16) (omega arith)) (hex_digit_means (entry % 16) (omega arith))

pub start_decoded : (s : Bytes) (entry : ℕ) → ByteList s → 160 < length s → decoded (take 214 (drop 1 (encoded s entry))) ≡ take 160 s
start_decoded s entry b h =
    ap (λ (x : Bytes). decoded (take 214 (drop 1 x))) (encoded_long s entry h)
    ∙ ap decoded (take_at (letters (take 160 s)) (marks entry) 214 (length_front s h))
    ∙ decoded_letters (take 160 s) (take_bytes 160 s b)

hex_read : (k : ℕ) → k < 16 → position hex_digits (hex_digit k) ≡ k
hex_read k h = ap (position hex_digits) (hex_digit_means k h) ∙ hex_position k h

pub entry_decoded : (s : Bytes) (entry : ℕ) → 160 < length s → entry < 256
    → position hex_digits (get_or (encoded s entry) 215 0) * 16 + position hex_digits (get_or (encoded s entry) 216 0) ≡ entry
entry_decoded s entry h l =
    let high = ap (position hex_digits) (long_mark s entry 0 h) ∙ hex_read (entry / 16 % 16) (omega arith) in
    let low = ap (position hex_digits) (long_mark s entry 1 h) ∙ hex_read (entry % 16) (omega arith) in
    ap₂ (λ (x y : ℕ). x * 16 + y) high low ∙ omega arith
