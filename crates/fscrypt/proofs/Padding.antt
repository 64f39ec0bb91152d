-- The laws of names: a padded name has 16 to 255 bytes and starts with the name, and what was padded, and what was stored, is read back. The first NUL of
-- a padded plain name is where its padding starts, so that all of `padding_check` passes. Assumes nothing.
use Prim.Native.Nat.{ℕ, zero, suc, ◌-◌, ◌≤◌, ◌<◌}
use native.Mathlib.Omega.{arith}
use mathlib.Core.Path.{◌≡◌, refl, ◌∙◌, ap}
use mathlib.Core.Bool.{Bool, true, false, cond, ◌||◌}
use mathlib.Core.List.{[], ◌∷◌, ◌++◌}
use Rattle.std.specs.Prelude.{Ok}
use lib.ListN.{length, take, drop, length-append}
use lib.Seq.{take-append_seam, drop-append_seam}
use lib.Dec.{eqb, leb, ltb}
use borrow.Author.Tests.{leb-true, leb-false, ltb-false, le-leb}
use Rattle.lists.specs.Bytes.{Bytes, ByteList, zeros, first_at, is_empty}
use Rattle.lists.proofs.ByteStrings.{append_bytes, zeros_bytes, length_zeros}
use Rattle.lists.proofs.Tests.{or_left, eqb_self}
use Rattle.errno.specs.Refusals.{fine, ◌⇒◌, ◌>>◌}
use Rattle.errno.specs.declared.Errno.TheVariants.{ENOENT, ENAMETOOLONG, EINVAL}
use Rattle.errno.proofs.Chains.{passed_test}
use Rattle.fscrypt.specs.Cipher.{Cipher, Lawful}
use Rattle.fscrypt.specs.Names.{is_long, is_nul, is_nul_or_slash, is_not_nul, is_dot_name, is_bad_name, name_check, multiple, rounded, padded_length, padded, encrypted, before_nul, is_all_nul, padding_check, read_padded, name_bytes, packed}

-- ---- padded lengths

rounded_at_least : (flags n : ℕ) → (16 ≤ rounded (multiple flags) n) × (n ≤ rounded (multiple flags) n)
unfolding rounded
rounded_at_least zero n = omega arith
rounded_at_least (suc zero) n = omega arith
rounded_at_least (suc (suc zero)) n = omega arith
rounded_at_least (suc (suc (suc k))) n = omega arith

rounded_big : (flags n : ℕ) → 255 < rounded (multiple flags) n → 16 ≤ n
unfolding rounded
rounded_big zero n h = omega arith
rounded_big (suc zero) n h = omega arith
rounded_big (suc (suc zero)) n h = omega arith
rounded_big (suc (suc (suc k))) n h = omega arith

-- a padded name of at most 255 bytes has 16 to 255, and no fewer than the name
pub record PadFits (flags n : ℕ) : Type 0 where
  pub low : 16 ≤ padded_length flags n
  pub high : padded_length flags n ≤ 255
  pub over : n ≤ padded_length flags n

pub pad_fits : (flags n : ℕ) → n ≤ 255 → PadFits flags n
unfolding padded_length
pad_fits flags n h = go (leb (rounded (multiple flags) n) 255) refl
  where
    m : ℕ
    m = rounded (multiple flags) n

    go : (b : Bool) → leb (rounded (multiple flags) n) 255 ≡ b → PadFits flags n
    go true e =
        let a = rounded_at_least flags n in
        let u : m ≤ 255 = leb-true m 255 e in
        record { low = rw e a.0; high = rw e u; over = rw e a.1 }
    go false e =
        let w : 255 < m = leb-false m 255 e in
        record { low = rw e (rounded_big flags n w); high = rw e h; over = rw e (omega arith) }

pub length_padded : (flags : ℕ) (n : Bytes) → length n ≤ 255 → length (padded flags n) ≡ padded_length flags (length n)
unfolding padded
length_padded flags n h =
    let f = pad_fits flags (length n) h in
    rw (length-append, length_zeros) (omega arith)

pub padded_bytes : (flags : ℕ) (n : Bytes) → ByteList n → ByteList (padded flags n)
unfolding padded
padded_bytes flags n h = let k = padded_length flags (length n) - length n in append_bytes n (zeros k) h (zeros_bytes k)

-- ---- plain names

-- the tests of a name that passed its check
pub record PassedName (n : Bytes) : Type 0 where
  pub some_bytes : is_empty n ≡ false
  pub not_long : length n ≤ 255
  pub good : is_bad_name n ≡ false

pub plain_name : (n : Bytes) → name_check n ≡ fine → PassedName n
unfolding name_check
plain_name n h =
    let a = passed_test (is_empty n) ENOENT _ h in
    let b = passed_test (is_long n) ENAMETOOLONG _ a.1 in
    let d = passed_test (is_bad_name n) EINVAL _ b.1 in
    record { some_bytes = a.0; not_long = ltb-false 255 (length n) b.0; good = d.0 }

pub name_fits : (n : Bytes) → name_check n ≡ fine → length n ≤ 255
name_fits n h = (plain_name n h).not_long

-- ---- what was padded is read back

-- the first NUL of a padded name is where the padding starts
pub first_nul : (n : Bytes) (k : ℕ) → length n ≤ first_at is_nul_or_slash n → first_at is_nul (n ++ zeros k) ≡ length n
unfolding first_at zeros
first_nul [] zero h = refl
first_nul [] (suc k) h = refl
first_nul (x ∷ xs) k h = go (is_nul x) (eqb x 47) h (first_nul xs k)
  where
    go : (b s : Bool) → suc (length xs) ≤ cond (b || s) 0 (suc (first_at is_nul_or_slash xs)) → (length xs ≤ first_at is_nul_or_slash xs → first_at is_nul (xs ++ zeros k) ≡ length xs)
        → cond b 0 (suc (first_at is_nul (xs ++ zeros k))) ≡ suc (length xs)
    go true s h ih = absurd (omega arith)
    go false true h ih = absurd (omega arith)
    go false false h ih = ap suc (ih (omega arith))

first_byte : (k : ℕ) → first_at is_not_nul (zeros k) ≡ k
unfolding first_at zeros
first_byte zero = refl
first_byte (suc k) = ap suc (first_byte k)

zeros_nul : (k : ℕ) → is_all_nul (zeros k) ≡ true
unfolding is_all_nul
zeros_nul k = le-leb (length (zeros k)) (first_at is_not_nul (zeros k)) (omega (arith, length_zeros k, first_byte k))

module _ (flags : ℕ) (n : Bytes) (h : name_check n ≡ fine) where
  padding_at : first_at is_nul (padded flags n) ≡ length n
  unfolding padded is_bad_name
  padding_at =
      let g = or_left (ltb (first_at is_nul_or_slash n) (length n)) (is_dot_name n) (plain_name n h).good in
      first_nul n (padded_length flags (length n) - length n) (ltb-false (first_at is_nul_or_slash n) (length n) g)

  before_padding : before_nul (padded flags n) ≡ n
  unfolding before_nul padded
  before_padding =
      let k = padded_length flags (length n) - length n in
      ap (λ (i : ℕ). take i (n ++ zeros k)) padding_at ∙ take-append_seam n (zeros k)

  after_name : is_all_nul (drop (first_at is_nul (padded flags n)) (padded flags n)) ≡ true
  unfolding padded
  after_name =
      let k = padded_length flags (length n) - length n in
      ap is_all_nul (ap (λ (i : ℕ). drop i (n ++ zeros k)) padding_at ∙ drop-append_seam n (zeros k)) ∙ zeros_nul k

  pub padding_fine : padding_check flags (padded flags n) ≡ fine
  unfolding padding_check ◌>>◌ ◌⇒◌
  padding_fine = rw (after_name, before_padding, h, length_padded flags n (name_fits n h), eqb_self)

  pub read_padded_padded : read_padded flags (padded flags n) ≡ Ok (packed n)
  unfolding read_padded
  read_padded_padded = rw (padding_fine, before_padding)

-- a plain name stored and read back with the same key is that name
pub read_stored : (C : Cipher) → Lawful C → (key : Bytes) (flags : ℕ) (n : Bytes) → ByteList key → ByteList n → name_check n ≡ fine
    → read_padded flags (C.decrypt_name key (encrypted C key flags n)) ≡ Ok (packed n)
unfolding encrypted
read_stored C L key flags n hk hn h = ap (read_padded flags) (L.decrypt_encrypt key (padded flags n) hk (padded_bytes flags n hn)) ∙ read_padded_padded flags n h

-- ---- names by value

pub name_bytes_packed : (s : Bytes) → name_bytes (packed s) ≡ s
name_bytes_packed s = take-append_seam s (zeros (255 - length s))
