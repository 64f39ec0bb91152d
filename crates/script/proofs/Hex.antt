-- Hex digits: two to a byte, both ways.
-- Assumes nothing.
use Prim.Native.Nat.{ℕ, ◌+◌, ◌-◌, ◌*◌, ◌/◌, ◌%◌, ◌≤◌, ◌<◌}
use native.Mathlib.Numerals.{add-one}
use native.Mathlib.Omega.{arith}
use mathlib.Core.Path.{◌≡◌, refl, sym, ◌∙◌, ap}
use mathlib.Core.Bool.{Bool, true, false, cond, ◌||◌}
use mathlib.Core.List.{[], ◌∷◌, ◌++◌}
use lib.ListN.{length, get_or, take, drop, length-drop}
use lib.Seq.{take-suc, drop-cons}
use Rattle.lists.specs.Bytes.{Bytes, hex_digit}
use Rattle.script.specs.Numbers.{is_digit}
use Rattle.std.specs.Char.{is_ascii_hexdigit}
use Rattle.script.specs.Strings.{is_lower_hex, is_upper_hex, is_hex_digit, hex_value, is_quoted, from_hex, bytes_of, to_hex, is_all_graphic, name_text}

-- a hex digit as the library tests it
pub hex_digit_joins : (b : ℕ) → is_ascii_hexdigit b ≡ is_hex_digit b
hex_digit_joins b = by_case (is_digit b) (is_lower_hex b) (is_upper_hex b)
  where
    by_case : (d l u : Bool) → ((d || u) || l) ≡ (d || (l || u))
    by_case true l u = refl
    by_case false true true = refl
    by_case false true false = refl
    by_case false false true = refl
    by_case false false false = refl

pub from_hex_length : (s : Bytes) → length (from_hex s) ≡ length s / 2
unfolding from_hex
from_hex_length [] = refl
from_hex_length (a ∷ []) = refl
from_hex_length (a ∷ b ∷ s) = omega (arith, from_hex_length s)

-- the byte that stands first among those from position k on
at_drop : (x : Bytes) (k v : ℕ) (t : Bytes) → v ∷ t ≡ drop k x → (k < length x) × (v ≡ get_or x k 0) × (t ≡ drop (k + 1) x)
at_drop x k v t e =
    let h : k < length x = omega (arith, length-drop k x, ap length e) in
    let d = drop-cons x k 0 h in
    (h, cc, rw add-one cc)

-- a pair of digits more: the bytes x are those of the digits from the start, and k pairs have come
pub pair_next : (x left pair rest : Bytes) (k : ℕ) → from_hex left ≡ drop k x → left ≡ pair ++ rest → length pair ≡ 2
    → (k < length x) × (hex_value (get_or pair 0 0) * 16 + hex_value (get_or pair 1 0) ≡ get_or x k 0) × (from_hex rest ≡ drop (k + 1) x)
unfolding from_hex
pair_next x left (a ∷ b ∷ []) rest k e f h = at_drop x k _ _ (ap from_hex (sym f) ∙ e)
pair_next x left [] rest k e f h = absurd (omega arith)
pair_next x left (a ∷ []) rest k e f h = absurd (omega arith)
pair_next x left (a ∷ b ∷ c ∷ t) rest k e f h = absurd (omega arith)

-- where no pair is left
pub pair_end : (x left : Bytes) (k : ℕ) → from_hex left ≡ drop k x → length left < 2 → length x ≤ k
pair_end x left k e h = omega (arith, from_hex_length left, length-drop k x, ap length e)

to_hex_append : (s t : Bytes) → to_hex (s ++ t) ≡ to_hex s ++ to_hex t
unfolding to_hex
to_hex_append [] t = refl
to_hex_append (b ∷ s) t = ap (λ (r : Bytes). hex_digit (b / 16) ∷ hex_digit (b % 16) ∷ r) (to_hex_append s t)

pub to_hex_length : (s : Bytes) → length (to_hex s) ≡ 2 * length s
unfolding to_hex
to_hex_length [] = refl
to_hex_length (b ∷ s) = omega (arith, to_hex_length s)

-- a byte string stands for no more bytes than it has
pub bytes_of_length : (s : Bytes) → length (bytes_of s) ≤ length s
unfolding bytes_of
bytes_of_length s = go (is_quoted s)
  where
    go : (t : Bool) → length (cond t (drop 1 s) (from_hex s)) ≤ length s
    go true = omega (arith, length-drop 1 s)
    go false = omega (arith, from_hex_length s)

module _ (s : Bytes) where
  module _ (e : is_quoted s ≡ true) where
    pub quoted_bytes : bytes_of s ≡ drop 1 s
    unfolding bytes_of
    quoted_bytes = rw e

    pub quoted_count : length s - 1 ≡ length (bytes_of s)
    quoted_count = omega (arith, ap length quoted_bytes, length-drop 1 s)

  module _ (e : is_quoted s ≡ false) where
    pub hex_bytes : bytes_of s ≡ from_hex s
    unfolding bytes_of
    hex_bytes = rw e

    pub hex_count : length s / 2 ≡ length (bytes_of s)
    hex_count = omega (arith, ap length hex_bytes, from_hex_length s)

pub ruleset counts = (quoted_count, hex_count)

-- a name's text is its bytes behind `=`, or twice as many digits
pub name_text_length : (s : Bytes) → length (name_text s) ≤ 1 + 2 * length s
unfolding name_text
name_text_length s = go (is_all_graphic s)
  where
    go : (t : Bool) → length (cond t (61 ∷ s) (to_hex s)) ≤ 1 + 2 * length s
    go true = omega arith
    go false = omega (arith, to_hex_length s)

-- the digits of one byte more
pub to_hex_next : (s : Bytes) (i : ℕ) → i < length s → to_hex (take (i + 1) s) ≡ to_hex (take i s) ++ (hex_digit (get_or s i 0 / 16) ∷ hex_digit (get_or s i 0 % 16) ∷ [])
unfolding to_hex
to_hex_next s i h = ap to_hex (ap (λ (k : ℕ). take k s) (add-one i) ∙ take-suc s i 0 h) ∙ to_hex_append (take i s) (get_or s i 0 ∷ [])

-- the cases of a name's text
pub name_plain : (s : Bytes) → is_all_graphic s ≡ true → (61 ∷ []) ++ s ≡ name_text s
unfolding name_text
name_plain s e = rw e

pub name_hex : (s : Bytes) → is_all_graphic s ≡ false → to_hex s ≡ name_text s
unfolding name_text
name_hex s e = rw e
