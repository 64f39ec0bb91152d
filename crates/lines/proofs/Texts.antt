-- Texts after one another, at the start of a buffer, and how long they are; and the text of each refusal, letter for letter, by computing. Assumes nothing.
use Prim.Native.Nat.{ℕ, ◌+◌, ◌≤◌, ◌<◌}
use native.Mathlib.Omega.{arith}
use mathlib.Core.Path.{◌≡◌, refl, ◌∙◌, ap}
use mathlib.Core.List.{◌++◌}
use lib.ListN.{length, length-append}
use lib.Seq.{sets}
use Rattle.lists.specs.Bytes.{Bytes}
use Rattle.lists.proofs.Copies.{sets_more}
use Rattle.errno.specs.Refusals.{number}
use Rattle.errno.specs.declared.Errno.{Errno}
use Rattle.errno.specs.declared.Errno.TheVariants.{EPERM, ENOENT, EEXIST, EXDEV, ENOTDIR, EINVAL, ENOSPC, ERANGE, ENAMETOOLONG, ENOTEMPTY, ENODATA, ENOTUNIQ, EUCLEAN, ENOKEY}
use Rattle.script.specs.Text.{text}
use Rattle.script.specs.Numbers.{last_digits, decimal}
use Rattle.script.proofs.Digits.{decimal_length}
use Rattle.lines.specs.Answers.{errno_name, error_text, field, Written, Adds}
use Rattle.lines.specs.declared.text.Text.{Text}

module _ {a b c : Text} {s t : Bytes} where
  -- a text after a text that was put
  pub then_adds : Adds a b s → Adds b c t → Adds a c (s ++ t)
  then_adds h k = record {
    buffer = k.buffer ∙ h.buffer;
    len = omega (arith, h.len, k.len, length-append s t);
    out = k.out ∙ ap (λ (o : Bytes). sets o b.len t) h.out ∙ ap (λ (i : ℕ). sets (sets a.out.now a.len s) i t) h.len ∙ sets_more a.out.now a.len s t;
    size = k.size ∙ h.size;
  }

  -- a text after the buffer's text
  pub stands_after : Written a b s → Adds b c t → c.out.now ≡ sets a.out.now 0 (s ++ t)
  stands_after h k =
      let e : b.len ≡ 0 + length s = omega (arith, h.len) in
      k.out ∙ ap (λ (o : Bytes). sets o b.len t) h.out ∙ ap (λ (i : ℕ). sets (sets a.out.now 0 s) i t) e ∙ sets_more a.out.now 0 s t

  pub then_written : Written a b s → Adds b c t → length (s ++ t) < length a.out.now → Written a c (s ++ t)
  then_written h k l = record { buffer = k.buffer ∙ h.buffer; len = omega (arith, h.len, k.len, length-append s t); out = stands_after h k; size = k.size ∙ h.size; room = l }

-- ---- how long texts are

pub field_length : (n : ℕ) → length (field n) ≤ 21
field_length n = omega (arith, decimal_length n, length-append (decimal n) (text " "))

-- ---- a refusal, letter for letter

abbrev pub shown_error : Errno → Bytes
shown_error EPERM = text "error 1 EPERM"
shown_error ENOENT = text "error 2 ENOENT"
shown_error EEXIST = text "error 17 EEXIST"
shown_error EXDEV = text "error 18 EXDEV"
shown_error ENOTDIR = text "error 20 ENOTDIR"
shown_error EINVAL = text "error 22 EINVAL"
shown_error ENOSPC = text "error 28 ENOSPC"
shown_error ERANGE = text "error 34 ERANGE"
shown_error ENAMETOOLONG = text "error 36 ENAMETOOLONG"
shown_error ENOTEMPTY = text "error 39 ENOTEMPTY"
shown_error ENODATA = text "error 61 ENODATA"
shown_error ENOTUNIQ = text "error 76 ENOTUNIQ"
shown_error EUCLEAN = text "error 117 EUCLEAN"
shown_error ENOKEY = text "error 126 ENOKEY"

pub error_is : (e : Errno) → shown_error e ≡ error_text (number e)
unfolding error_text errno_name decimal last_digits
error_is EPERM = refl
error_is ENOENT = refl
error_is EEXIST = refl
error_is EXDEV = refl
error_is ENOTDIR = refl
error_is EINVAL = refl
error_is ENOSPC = refl
error_is ERANGE = refl
error_is ENAMETOOLONG = refl
error_is ENOTEMPTY = refl
error_is ENODATA = refl
error_is ENOTUNIQ = refl
error_is EUCLEAN = refl
error_is ENOKEY = refl

pub error_length : (e : Errno) → length (shown_error e) ≤ 30
error_length EPERM = omega arith
error_length ENOENT = omega arith
error_length EEXIST = omega arith
error_length EXDEV = omega arith
error_length ENOTDIR = omega arith
error_length EINVAL = omega arith
error_length ENOSPC = omega arith
error_length ERANGE = omega arith
error_length ENAMETOOLONG = omega arith
error_length ENOTEMPTY = omega arith
error_length ENODATA = omega arith
error_length ENOTUNIQ = omega arith
error_length EUCLEAN = omega arith
error_length ENOKEY = omega arith
