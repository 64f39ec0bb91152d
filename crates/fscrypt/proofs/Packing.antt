-- Names in records: the bytes that follow a name are zeros, also after it was padded or encrypted. And what code finds of decrypted bytes test by test is
-- what `padding_check` says of them. Assumes nothing.
use mathlib.Core.Path.{◌≡◌, refl, sym, ◌∙◌, ap, ap₂}
use mathlib.Core.Bool.{Bool, cond, not, ◌&&◌}
use mathlib.Core.List.{◌++◌, append_assoc}
use Prim.Native.Nat.{ℕ, zero, suc, ◌+◌, ◌-◌, ◌≤◌, max}
use native.Mathlib.Omega.{arith}
use Rattle.std.specs.Prelude.{Ok, Err}
use Rattle.std.specs.Int.{next_multiple_of}
use Rattle.std.specs.Result.{is_ok}
use lib.ListN.{length, take, drop}
use lib.Seq.{take-append_seam, drop-append_seam, length-take-le}
use lib.Dec.{eqb, leb}
use Rattle.lists.specs.Bytes.{Bytes, zeros, first_at}
use Rattle.lists.proofs.ByteStrings.{append_zeros}
use Rattle.lists.proofs.Tables.{first_at_le}
use Rattle.std.proofs.lemmas.Grind.{common_steps}
use Rattle.errno.proofs.Chains.{line_case}
use Rattle.errno.specs.Refusals.{Checked, fine, ◌⇒◌, ◌>>◌, is_fine}
use Rattle.errno.specs.declared.Errno.TheVariants.{EUCLEAN}
use Rattle.fscrypt.specs.Cipher.{fscrypt, encrypt_name}
use Rattle.fscrypt.specs.Names.{is_nul, name_check, multiple, rounded, padded_length, padded, encrypted, is_all_nul, before_nul, padding_check, read_padded, name_bytes, packed}
use Rattle.fscrypt.specs.declared.Name.{Name}
use Rattle.fscrypt.proofs.Lawfulness.{fscrypt_lawful}
use Rattle.fscrypt.proofs.Padding.{pad_fits, length_padded}

-- ---- padding

rounded_next : (flags n : ℕ) → next_multiple_of (max n 16) (multiple flags) ≡ rounded (multiple flags) n
unfolding rounded
rounded_next zero n = omega arith
rounded_next (suc zero) n = omega arith
rounded_next (suc (suc zero)) n = omega arith
rounded_next (suc (suc (suc k))) n = omega arith

-- by the library's rounding
pub padded_next : (flags n : ℕ) → padded_length flags n ≡ cond (leb (next_multiple_of (max n 16) (multiple flags)) 255) (next_multiple_of (max n 16) (multiple flags)) n
unfolding padded_length
padded_next flags n = ap (λ (m : ℕ). cond (leb m 255) m n) (sym (rounded_next flags n))

-- ---- names by value

-- a packed name with its padding
pub packed_padded : (flags m : ℕ) (x : Name) (s : Bytes) → length s ≤ 255 → m ≡ padded_length flags (length s) → x ≡ packed s
    → ◌≡◌ {A = Name} (record { len = m; bytes = x.bytes }) (packed (padded flags s))
unfolding padded
packed_padded flags m x s l hm e =
    let f = pad_fits flags (length s) l in
    let p = padded_length flags (length s) in
    let lp : length (s ++ zeros (p - length s)) ≡ p = length_padded flags s l in
    let k : 255 - length s ≡ (p - length s) + (255 - p) = omega (arith, f.high, f.over) in
    let q : s ++ zeros (255 - length s) ≡ (s ++ zeros (p - length s)) ++ zeros (255 - length (s ++ zeros (p - length s))) =
    ap (λ (n : ℕ). s ++ zeros n) k ∙ ap (s ++◌) (sym (append_zeros (p - length s) (255 - p))) ∙ sym (append_assoc s (zeros (p - length s)) (zeros (255 - p)))
    ∙ ap (λ (n : ℕ). (s ++ zeros (p - length s)) ++ zeros (255 - n)) (sym lp) in
    λ i. record { len = (hm ∙ sym lp) i; bytes = (ap (λ (y : Name). y.bytes) e ∙ q) i }

-- a packed name whose bytes were changed and kept their number
packed_over : (f : Bytes → Bytes) (s : Bytes) (x : Name) (b : Bytes) → x ≡ packed s → length (f s) ≡ length s → b ≡ f (name_bytes x) ++ drop x.len x.bytes
    → ◌≡◌ {A = Name} (record { len = x.len; bytes = b }) (packed (f s))
packed_over f s x b h l q =
    let z = zeros (255 - length s) in
    let a : f (take (length s) (s ++ z)) ++ drop (length s) (s ++ z) ≡ f s ++ zeros (255 - length (f s)) =
    ap₂ (λ (u w : Bytes). f u ++ w) (take-append_seam s z) (drop-append_seam s z) ∙ ap (λ (n : ℕ). f s ++ zeros (255 - n)) (sym l) in
    λ i. record {
      len = (ap (λ (y : Name). y.len) h ∙ sym l) i;
      bytes = (q ∙ ap (λ (y : Name). f (name_bytes y) ++ drop y.len y.bytes) h ∙ a) i;
    }

-- a padded name, encrypted
pub encrypted_packed : (key : Bytes) (flags : ℕ) (n : Bytes) (x : Name) (b : Bytes) → x ≡ packed (padded flags n) → b ≡ encrypt_name key (name_bytes x) ++ drop x.len x.bytes
    → ◌≡◌ {A = Name} (record { len = x.len; bytes = b }) (packed (encrypted fscrypt key flags n))
unfolding encrypted
encrypted_packed key flags n x b h q = packed_over (encrypt_name key) (padded flags n) x b h (fscrypt_lawful.length_encrypt_name key (padded flags n)) q

-- ---- what is read of decrypted bytes

-- the checks of padding, as one test
passes : (a b c : Bool) → is_fine (◌>>◌ (not a ⇒ EUCLEAN) (◌>>◌ (not b ⇒ EUCLEAN) (◌>>◌ (not c ⇒ EUCLEAN) fine))) ≡ (a && (b && c))
passes a b c = grind (arith, common_steps, line_case)

fine_ok : (k : Checked) → is_fine k ≡ is_ok k
fine_ok (Ok x) = refl
fine_ok (Err e) = refl

-- by the bytes before the first NUL and those from it on
pub read_parts : (flags : ℕ) (b : Bytes) → read_padded flags b ≡
    cond (is_all_nul (drop (first_at is_nul b) b) && (is_ok (name_check (take (first_at is_nul b) b)) && eqb (padded_length flags (first_at is_nul b)) (length b)))
    (Ok (packed (take (first_at is_nul b) b))) (Err EUCLEAN)
unfolding read_padded padding_check before_nul
read_parts flags b =
    let n = first_at is_nul b in
    let l : length (take n b) ≡ n = length-take-le n b (first_at_le is_nul b) in
    ap (λ (t : Bool). cond t (Ok (packed (take n b))) (Err EUCLEAN))
    (passes (is_all_nul (drop n b)) (is_fine (name_check (take n b))) (eqb (padded_length flags (length (take n b))) (length b))
    ∙ ap₂ (λ (t : Bool) (i : ℕ). is_all_nul (drop n b) && (t && eqb (padded_length flags i) (length b))) (fine_ok (name_check (take n b))) l)
