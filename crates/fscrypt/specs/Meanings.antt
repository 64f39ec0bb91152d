-- What the tests of Names.antt and Encoded.antt mean, in words without a test: which names are plain and how the others are refused, how long a padded name
-- is, what decrypted bytes are read as, and what is written in letters. Document 01, "Names and blocks", is quoted. The proofs are in proofs/NameMeanings.antt,
-- PaddingMeanings.antt and LetterMeanings.antt. Assumes nothing.
use Rattle.std.specs.Prelude.{ℕ, zero, suc, ◌+◌, ◌-◌, ◌*◌, ◌/◌, ◌%◌, ◌^◌, ◌≤◌, ◌<◌, ◌≡◌, ◌↔◌, ◌≢◌, [], ◌∷◌, ◌++◌, map, length, take, drop, get_or, eqb, Ok, Err}
use Rattle.lists.specs.Bytes.{Bytes, ByteList, zeros, first_at}
use Rattle.lists.specs.Meanings.{hex_digits}
use Rattle.errno.specs.declared.Errno.TheVariants.{ENOENT, ENAMETOOLONG, EINVAL, EUCLEAN}
use Rattle.fscrypt.specs.Names.{name_check, padded_length, padded, padding_check, name_bytes, packed, read_padded}
use Rattle.fscrypt.specs.Encoded.{letter, letters, encoded}
use Rattle.errno.specs.Refusals.{fine, refuse}

-- ---- plain names

-- "A plain name has 1 to 255 bytes, no NUL, no `/`, and isn't `.` or `..`." 47 is `/`, 46 is `.`.
pub record PlainName (n : Bytes) : Type 0 where
  pub low : 1 ≤ length n
  pub high : length n ≤ 255
  pub no_nul : (i : ℕ) → i < length n → get_or n i 0 ≢ 0
  pub no_slash : (i : ℕ) → i < length n → get_or n i 0 ≢ 47
  pub not_dot : n ≢ 46 ∷ []
  pub not_dots : n ≢ 46 ∷ 46 ∷ []

-- "bad byte or dot name"
pub data BadName (n : Bytes) : Type 0 where
  nul : (i : ℕ) → i < length n → get_or n i 0 ≡ 0 → BadName n
  slash : (i : ℕ) → i < length n → get_or n i 0 ≡ 47 → BadName n
  dot : n ≡ 46 ∷ [] → BadName n
  dots : n ≡ 46 ∷ 46 ∷ [] → BadName n

-- ---- padding

-- "flags 0 to 3, for padding to 4, 8, 16, 32"
pub data Multiple : ℕ → ℕ → Type 0 where
  to_4 : Multiple 0 4
  to_8 : Multiple 1 8
  to_16 : Multiple 2 16
  to_32 : Multiple 3 32

-- "the greater of the length and 16, rounded up to the policy's multiple": m is the least multiple of q that is neither below n nor below 16
pub record RoundedUp (q n m : ℕ) : Type 0 where
  pub times : (j : ℕ) × (m ≡ j * q)
  pub name_fits : n ≤ m
  pub block_fits : 16 ≤ m
  pub least : (k : ℕ) → n ≤ k * q → 16 ≤ k * q → m ≤ k * q

-- "If that passes 255, the name keeps its own length."
pub data PaddedTo (q n m : ℕ) : Type 0 where
  rounded_up : RoundedUp q n m → m ≤ 255 → PaddedTo q n m
  own_length : (r : ℕ) → RoundedUp q n r → 255 < r → m ≡ n → PaddedTo q n m

-- "Decryption takes the bytes before the first NUL. If the rest isn't all NUL, or the name isn't a plain name, or its padded length isn't the stored length,
-- the answer is EUCLEAN." So b is read as n: n is a plain name, and b is n and its padding.
pub record ReadAs (q : ℕ) (b n : Bytes) : Type 0 where
  pub plain : PlainName n
  pub padding : b ≡ n ++ zeros (length b - length n)
  pub stored : PaddedTo q (length n) (length b)

-- ---- letters

-- "letters `A-Z a-z 0-9 + ,` for 0 to 63"
abbrev pub alphabet : Bytes
alphabet =
    65 ∷ 66 ∷ 67 ∷ 68 ∷ 69 ∷ 70 ∷ 71 ∷ 72 ∷ 73 ∷ 74 ∷ 75 ∷ 76 ∷ 77 ∷ 78 ∷ 79 ∷ 80 ∷ 81 ∷ 82 ∷ 83 ∷ 84 ∷ 85 ∷ 86 ∷ 87 ∷ 88 ∷ 89 ∷ 90 ∷
    97 ∷ 98 ∷ 99 ∷ 100 ∷ 101 ∷ 102 ∷ 103 ∷ 104 ∷ 105 ∷ 106 ∷ 107 ∷ 108 ∷ 109 ∷ 110 ∷ 111 ∷ 112 ∷ 113 ∷ 114 ∷ 115 ∷ 116 ∷ 117 ∷ 118 ∷ 119 ∷ 120 ∷ 121 ∷ 122 ∷
    48 ∷ 49 ∷ 50 ∷ 51 ∷ 52 ∷ 53 ∷ 54 ∷ 55 ∷ 56 ∷ 57 ∷ 43 ∷ 44 ∷ []

-- a list of numbers of w binary digits each, read as one row of digits, "high bits first": digit k of it, and 0 past its end
abbrev pub digit : ℕ → Bytes → ℕ → ℕ
digit w l k = get_or l (k / w) 0 / 2 ^ (w - 1 - k % w) % 2

-- the number of w digits, the first one the highest
abbrev pub from_digits : ℕ → (ℕ → ℕ) → ℕ
from_digits zero f = 0
from_digits (suc w) f = f 0 * 2 ^ w + from_digits w (λ t. f (suc t))

-- a list by its length and its elements
abbrev pub listed : ℕ → (ℕ → ℕ) → Bytes
listed zero f = []
listed (suc n) f = f 0 ∷ listed n (λ i. f (suc i))

-- the row of digits of a list, w to a number, cut anew: so many numbers of v digits
abbrev pub cut_anew : ℕ → ℕ → ℕ → Bytes → Bytes
cut_anew w v count l = listed count (λ j. from_digits v (λ t. digit w l (v * j + t)))

-- where a byte stands in a table
abbrev pub position : Bytes → ℕ → ℕ
position table x = first_at (eqb x) table

-- letters read back as bytes
abbrev pub decoded : Bytes → Bytes
decoded l = cut_anew 6 8 (3 * length l / 4) (map (position alphabet) l)

-- ---- the statements

pub record NameMeanings : Type 0 where
  -- "Order with names: empty, too long, bad byte or dot name": a name is refused so, or it is a plain one
  pub plain : (n : Bytes) → (name_check n ≡ fine) ↔ PlainName n
  pub empty : (n : Bytes) → (name_check n ≡ refuse ENOENT) ↔ (length n ≡ 0)
  pub long : (n : Bytes) → (name_check n ≡ refuse ENAMETOOLONG) ↔ (255 < length n)
  pub bad : (n : Bytes) → (name_check n ≡ refuse EINVAL) ↔ ((1 ≤ length n) × (length n ≤ 255) × BadName n)
  -- "Padded length: .. Padding is NULs."
  pub length_padded : (flags q n m : ℕ) → Multiple flags q → (padded_length flags n ≡ m) ↔ PaddedTo q n m
  pub padding : (flags q : ℕ) (n : Bytes) (m : ℕ) → Multiple flags q → PaddedTo q (length n) m → padded flags n ≡ n ++ zeros (m - length n)
  pub stored_length : (flags : ℕ) (n : Bytes) → length n ≤ 255 → length (padded flags n) ≡ padded_length flags (length n)
  -- decrypted bytes are read as at most one name, and as that one; where they are read as none, it is EUCLEAN
  pub read : (flags q : ℕ) (b : Bytes) → Multiple flags q → (padding_check flags b ≡ fine) ↔ ((n : Bytes) × ReadAs q b n)
  pub unread : (flags q : ℕ) (b : Bytes) → Multiple flags q → (padding_check flags b ≡ refuse EUCLEAN) ↔ ((n : Bytes) → ReadAs q b n → ⊥)
  pub one : (q : ℕ) (b n n' : Bytes) → ReadAs q b n → ReadAs q b n' → n ≡ n'
  pub read_name : (flags q : ℕ) (b n : Bytes) → Multiple flags q → ReadAs q b n → read_padded flags b ≡ Ok (packed n)
  pub unread_name : (flags q : ℕ) (b : Bytes) → Multiple flags q → ((n : Bytes) → ReadAs q b n → ⊥)
      → read_padded flags b ≡ Err EUCLEAN
  -- a name by value: its bytes, and as many zeros as make 255 ("A freed record is all zeros, and so are a record's unused bytes.")
  pub unpacked : (n : Bytes) → name_bytes (packed n) ≡ n
  pub packed_length : (n : Bytes) → length n ≤ 255 → length (packed n).bytes ≡ 255
  pub unused_zeros : (n : Bytes) (i : ℕ) → length n ≤ i → get_or (packed n).bytes i 0 ≡ 0
  -- "three bytes as four letters, high bits first, one or two left over as two or three letters with zero low bits": the row of the bytes' digits, cut by six
  pub lettered : (k : ℕ) → k < 64 → letter k ≡ get_or alphabet k 0
  pub written : (s : Bytes) → ByteList s → letters s ≡ map (λ k. get_or alphabet k 0) (cut_anew 8 6 ((4 * length s + 2) / 3) s)
  pub read_back : (s : Bytes) → ByteList s → decoded (letters s) ≡ s
  -- "ciphertext of at most 160 bytes is written in letters .. Longer: `_`, the letters of the first 160 bytes, and the place as two lower case hex digits." 95 is `_`.
  pub short : (s : Bytes) (entry : ℕ) → length s ≤ 160 → encoded s entry ≡ letters s
  pub longer : (s : Bytes) (entry : ℕ) → 160 < length s → entry < 256
      → encoded s entry ≡ 95 ∷ (letters (take 160 s) ++ (get_or hex_digits (entry / 16) 0 ∷ get_or hex_digits (entry % 16) 0 ∷ []))
  -- and the first 160 bytes and the entry can be read back from it
  pub start_read_back : (s : Bytes) (entry : ℕ) → ByteList s → 160 < length s → decoded (take 214 (drop 1 (encoded s entry))) ≡ take 160 s
  pub entry_read_back : (s : Bytes) (entry : ℕ) → 160 < length s → entry < 256
      → position hex_digits (get_or (encoded s entry) 215 0) * 16 + position hex_digits (get_or (encoded s entry) 216 0) ≡ entry
