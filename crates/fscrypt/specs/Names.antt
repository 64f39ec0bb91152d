-- Names, document 01, "Names and blocks": which are plain, their padding, and what a decrypted name is read as. Assumes nothing.
use Rattle.std.specs.Prelude.{ℕ, zero, suc, ◌+◌, ◌-◌, ◌*◌, ◌/◌, max, Bool, cond, not, ◌||◌, [], ◌∷◌, ◌++◌, length, take, drop, eqb, leb, ltb, Result, Ok, Err}
use Rattle.lists.specs.Bytes.{Bytes, same, zeros, first_at, is_empty}
use Rattle.errno.specs.Refusals.{Checked, fine, ◌⇒◌, ◌>>◌, is_fine}
use Rattle.errno.specs.declared.Errno.{Errno}
use Rattle.errno.specs.declared.Errno.TheVariants.{ENOENT, ENAMETOOLONG, EINVAL, EUCLEAN}
use Rattle.fscrypt.specs.Cipher.{Cipher}
use Rattle.fscrypt.specs.declared.Name.{Name}

-- ---- plain names: "1 to 255 bytes, no NUL, no `/`, and isn't `.` or `..`"

abbrev pub is_long : Bytes → Bool
is_long n = ltb 255 (length n)

abbrev pub is_nul : ℕ → Bool
is_nul b = eqb b 0

-- 47 is `/`
abbrev pub is_nul_or_slash : ℕ → Bool
is_nul_or_slash b = is_nul b || eqb b 47

unfoldable pub is_dot_name : Bytes → Bool
is_dot_name n = same n (46 ∷ []) || same n (46 ∷ 46 ∷ [])

-- a NUL or a `/` is in it, or it is `.` or `..`
unfoldable pub is_bad_name : Bytes → Bool
is_bad_name n = ltb (first_at is_nul_or_slash n) (length n) || is_dot_name n

-- "Order with names: empty, too long, bad byte or dot name"
unfoldable pub name_check : Bytes → Checked
name_check n = do
  is_empty n ⇒ ENOENT
  is_long n ⇒ ENAMETOOLONG
  is_bad_name n ⇒ EINVAL
  fine

-- ---- padding

-- "flags 0 to 3, for padding to 4, 8, 16, 32"
abbrev pub multiple : ℕ → ℕ
multiple zero = 4
multiple (suc zero) = 8
multiple (suc (suc zero)) = 16
multiple (suc (suc (suc n))) = 32

-- "the greater of the length and 16, rounded up to the policy's multiple"
unfoldable pub rounded : ℕ → ℕ → ℕ
rounded q n = (max n 16 + (q - 1)) / q * q

-- "If that passes 255, the name keeps its own length."
unfoldable pub padded_length : ℕ → ℕ → ℕ
padded_length flags n = let m = rounded (multiple flags) n in cond (leb m 255) m n

-- "Padding is NULs."
unfoldable pub padded : ℕ → Bytes → Bytes
padded flags n = n ++ zeros (padded_length flags (length n) - length n)

-- ---- stored names

-- a plain name as it is stored under the names key of its directory
unfoldable pub encrypted : Cipher → Bytes → ℕ → Bytes → Bytes
encrypted C key flags n = C.encrypt_name key (padded flags n)

-- "Decryption takes the bytes before the first NUL."
unfoldable pub before_nul : Bytes → Bytes
before_nul b = take (first_at is_nul b) b

abbrev pub is_not_nul : ℕ → Bool
is_not_nul b = not (is_nul b)

-- no byte but NULs
unfoldable pub is_all_nul : Bytes → Bool
is_all_nul b = leb (length b) (first_at is_not_nul b)

-- "If the rest isn't all NUL, or the name isn't a plain name, or its padded length isn't the stored length, the answer is EUCLEAN."
unfoldable pub padding_check : ℕ → Bytes → Checked
padding_check flags b = do
  not (is_all_nul (drop (first_at is_nul b) b)) ⇒ EUCLEAN
  not (is_fine (name_check (before_nul b))) ⇒ EUCLEAN
  not (eqb (padded_length flags (length (before_nul b))) (length b)) ⇒ EUCLEAN
  fine

-- ---- names by value

abbrev pub name_bytes : Name → Bytes
name_bytes n = take n.len n.bytes

-- "a record's unused bytes" are zeros
abbrev pub packed : Bytes → Name
packed s = record { len = length s; bytes = s ++ zeros (255 - length s) }

-- what decrypted bytes are read as
unfoldable pub read_padded : ℕ → Bytes → Result Name Errno
read_padded flags b =
    cond (is_fine (padding_check flags b)) (Ok (packed (before_nul b))) (Err EUCLEAN)

-- the name in what was read; where it was refused, one of no bytes
abbrev pub name_in : Result Name Errno → Name
name_in (Ok n) = n
name_in (Err e) = packed []
