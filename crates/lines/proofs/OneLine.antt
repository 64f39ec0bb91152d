-- The text of an answer has no newline: it is made of letters, blanks, digits, hex digits and names of graphic bytes, all from 32 on; and of the names of refusals EXDEV alone
-- ends in V. Assumes nothing.
use Prim.Native.Nat.{ℕ, zero, suc, ◌+◌, ◌≤◌, ◌/◌, ◌%◌}
use Prim.Native.String.{String}
use native.Mathlib.Omega.{arith}
use mathlib.Core.Path.{◌≡◌, refl, ap₂, subst}
use mathlib.Core.Logic.{◌≢◌}
use mathlib.Core.Bool.{Bool, true, false, cond, not, ◌&&◌}
use mathlib.Core.List.{[], ◌∷◌, ◌++◌}
use lib.ListN.{length, get_or, take}
use lib.Dec.{eqb, leb, ltb}
use borrow.Author.Tests.{le-leb, leb-true}
use Rattle.lists.specs.Bytes.{Bytes, first_at, hex_digit}
use Rattle.lists.proofs.Slots.{by_cond, by_test}
use Rattle.lists.proofs.Tests.{eqb-true, and_left, and_right}
use Rattle.volume.specs.Request.{Answer, refused, done, created, at, policy_is, shown, Form, Plain, Decrypted, Encoded}
use Rattle.script.specs.Text.{text}
use Rattle.script.specs.Numbers.{last_digits, decimal}
use Rattle.script.specs.Strings.{to_hex, is_graphic, is_all_graphic, name_text}
use Rattle.lines.specs.Answers.{errno_name, error_text, form_name, field, shown_head, shown_tail, shown_text, answer_text}

-- ---- texts of bytes from 32 on

abbrev is_printing : Bytes → Bool
is_printing [] = true
is_printing (b ∷ t) = leb 32 b && is_printing t

pub record Printing (t : Bytes) : Type 0 where
  holds : is_printing t ≡ true

-- a text that is written out
pub prints : {t : Bytes} → is_printing t ≡ true → Printing t
prints h = record { holds = h }

prints_next : (b : ℕ) (t : Bytes) → 32 ≤ b → Printing t → Printing (b ∷ t)
prints_next b t h k = prints (ap₂ ◌&&◌ (le-leb 32 b h) k.holds)

-- a byte and those after it
parts : (b : ℕ) (t : Bytes) → Printing (b ∷ t) → (32 ≤ b) × Printing t
parts b t h = (leb-true 32 b (and_left (leb 32 b) (is_printing t) h.holds), prints (and_right (leb 32 b) (is_printing t) h.holds))

prints_append : (s t : Bytes) → Printing s → Printing t → Printing (s ++ t)
prints_append [] t h k = k
prints_append (b ∷ s) t h k =
    let (first, rest) = parts b s h in
    prints_next b (s ++ t) first (prints_append s t rest k)

-- none of them is a newline
pub no_newline : (t : Bytes) → Printing t → (i : ℕ) → get_or t i 0 ≢ 10
no_newline [] h i e = absurd (omega (arith, e))
no_newline (b ∷ t) h zero e = let k = (parts b t h).0 in absurd (omega (arith, k, e))
no_newline (b ∷ t) h (suc i) e = no_newline t (parts b t h).1 i e

-- ---- the parts of answers

digits : (k n : ℕ) → Printing (last_digits k n)
unfolding last_digits
digits zero n = prints refl
digits (suc k) n =
    by_cond Printing (ltb n 10) ((48 + n) ∷ []) (last_digits k (n / 10) ++ ((48 + n % 10) ∷ []))
    (λ h. prints_next (48 + n) [] (omega arith) (prints refl))
    (λ h. prints_append (last_digits k (n / 10)) ((48 + n % 10) ∷ []) (digits k (n / 10)) (prints_next (48 + n % 10) [] (omega arith) (prints refl)))

number : (n : ℕ) → Printing (decimal n)
unfolding decimal
number n = digits 20 n

hex_digit_lem : (n : ℕ) → 32 ≤ hex_digit n
unfolding hex_digit
hex_digit_lem n = by_cond (λ (b : ℕ). 32 ≤ b) (ltb n 10) (n + 48) (n + 87) (λ h. omega arith) (λ h. omega arith)

hex : (s : Bytes) → Printing (to_hex s)
unfolding to_hex
hex [] = prints refl
hex (b ∷ s) =
    prints_next (hex_digit (b / 16)) (hex_digit (b % 16) ∷ to_hex s) (hex_digit_lem (b / 16)) (prints_next (hex_digit (b % 16)) (to_hex s) (hex_digit_lem (b % 16)) (hex s))

graphic : (s : Bytes) → length s ≤ first_at (λ (b : ℕ). not (is_graphic b)) s → Printing s
unfolding first_at
graphic [] h = prints refl
graphic (b ∷ s) h = by_test (is_graphic b) (taken (graphic s)) left
  where
    rest : ℕ
    rest = first_at (λ (c : ℕ). not (is_graphic c)) s

    found : (t : Bool) → is_graphic b ≡ t → suc (length s) ≤ cond (not t) zero (suc rest)
    found t e = subst (λ (x : Bool). suc (length s) ≤ cond (not x) zero (suc rest)) e h

    taken : (length s ≤ rest → Printing s) → is_graphic b ≡ true → Printing (b ∷ s)
    taken further t =
        let k = leb-true 33 b (and_left (leb 33 b) (leb b 126) t) in
        let f = found true t in
        prints_next b s (omega arith) (further (omega arith))

    left : is_graphic b ≡ false → Printing (b ∷ s)
    left e = let f = found false e in absurd (omega (arith, f))

name : (s : Bytes) → Printing (name_text s)
unfolding name_text is_all_graphic
name s = by_cond Printing (is_all_graphic s) (61 ∷ s) (to_hex s) (λ h. prints_next 61 s (omega arith) (graphic s (leb-true _ _ h))) (λ h. hex s)

-- the last byte of a text, or the one before it where there is none
abbrev pub last_after : ℕ → Bytes → ℕ
last_after d [] = d
last_after d (x ∷ xs) = last_after x xs

pub last_append : (d : ℕ) (xs ys : Bytes) → last_after d (xs ++ ys) ≡ last_after (last_after d xs) ys
last_append d [] ys = refl
last_append d (x ∷ xs) ys = last_append x xs ys

-- the name of a refusal's number; of these EXDEV alone ends in V
pub named : (n : ℕ) → Printing (text (errno_name n)) × (last_after 32 (text (errno_name n)) ≡ 86 → n ≡ 18)
unfolding errno_name
named n =
    by_cond P (eqb n 1) "EPERM" _ (λ e. (prints refl, λ h. absurd (omega (arith, h)))) (λ f0.
    by_cond P (eqb n 2) "ENOENT" _ (λ e. (prints refl, λ h. absurd (omega (arith, h)))) (λ f1.
    by_cond P (eqb n 17) "EEXIST" _ (λ e. (prints refl, λ h. absurd (omega (arith, h)))) (λ f2.
    by_cond P (eqb n 18) "EXDEV" _ (λ e. (prints refl, λ h. eqb-true e)) (λ f3.
    by_cond P (eqb n 20) "ENOTDIR" _ (λ e. (prints refl, λ h. absurd (omega (arith, h)))) (λ f4.
    by_cond P (eqb n 22) "EINVAL" _ (λ e. (prints refl, λ h. absurd (omega (arith, h)))) (λ f5.
    by_cond P (eqb n 28) "ENOSPC" _ (λ e. (prints refl, λ h. absurd (omega (arith, h)))) (λ f6.
    by_cond P (eqb n 34) "ERANGE" _ (λ e. (prints refl, λ h. absurd (omega (arith, h)))) (λ f7.
    by_cond P (eqb n 36) "ENAMETOOLONG" _ (λ e. (prints refl, λ h. absurd (omega (arith, h)))) (λ f8.
    by_cond P (eqb n 39) "ENOTEMPTY" _ (λ e. (prints refl, λ h. absurd (omega (arith, h)))) (λ f9.
    by_cond P (eqb n 61) "ENODATA" _ (λ e. (prints refl, λ h. absurd (omega (arith, h)))) (λ f10.
    by_cond P (eqb n 76) "ENOTUNIQ" _ (λ e. (prints refl, λ h. absurd (omega (arith, h)))) (λ f11.
    by_cond P (eqb n 117) "EUCLEAN" _ (λ e. (prints refl, λ h. absurd (omega (arith, h)))) (λ f12.
    by_cond P (eqb n 126) "ENOKEY" _ (λ e. (prints refl, λ h. absurd (omega (arith, h)))) (λ f13.
    (prints refl, λ h. absurd (omega (arith, h)))))))))))))))))
  where
    P : String → Type 0
    P s = Printing (text s) × (last_after 32 (text s) ≡ 86 → n ≡ 18)

form : (f : Form) → Printing (text (form_name f))
form Plain = prints refl
form Decrypted = prints refl
form Encoded = prints refl

-- a number and a blank
number_field : (n : ℕ) → Printing (field n)
number_field n = prints_append (decimal n) (text " ") (number n) (prints refl)

-- ---- an answer

after_ok : (t : Bytes) → Printing t → Printing (text "ok " ++ t)
after_ok t h = prints_append (text "ok ") t (prints refl) h

pub answer : (block : Bool) (a : Answer) (b : Bytes) → Printing (answer_text block a b)
unfolding answer_text error_text shown_text
answer block (refused n) b =
    prints_append (text "error ") _ (prints refl) (prints_append (decimal n) _ (number n) (prints_append (text " ") _ (prints refl) (named n).0))
answer true done b = after_ok _ (hex b)
answer false done b = prints refl
answer block (created i e) b = after_ok _ (prints_append (decimal i.0) _ (number i.0) (prints_append (text " ") _ (prints refl) (number e.0)))
answer block (at e) b = after_ok _ (number e.0)
answer block (policy_is p) b = after_ok _ (hex p)
answer block (shown s) b =
    prints_append (shown_head s) (shown_tail s (take s.len b))
    (after_ok _ (prints_append (field s.parent.0) _ (number_field s.parent.0) (prints_append (field s.inode.0) _ (number_field s.inode.0) (number_field s.kind))))
    (prints_append (text (form_name s.form)) _ (form s.form) (prints_append (text " ") _ (prints refl) (prints_append (field s.len) _ (number_field s.len) (name (take s.len b)))))
