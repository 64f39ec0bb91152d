-- specs/Meanings.antt of names: a name is empty, too long, bad or plain, and each has its own outcome of the check. Assumes nothing.
use Prim.Native.Nat.{ℕ, ◌≤◌, ◌<◌}
use native.Mathlib.Omega.{arith}
use mathlib.Core.Path.{◌≡◌, refl, sym, ◌∙◌}
use mathlib.Core.Logic.{◌↔◌, ◌⊎◌, inl, inr}
use mathlib.Core.Bool.{Bool, true, false, ◌||◌, false≢true}
use mathlib.Core.List.{[], ◌∷◌}
use lib.ListN.{length, get_or}
use lib.Dec.{eqb, ltb}
use borrow.Author.Tests.{ltb-true, ltb-false, eq-eqb}
use Rattle.std.proofs.lemmas.Grind.{common_steps}
use Rattle.std.proofs.lemmas.Bool.Decides.{nat_tests}
use Rattle.errno.proofs.Chains.{line_case}
use Rattle.lists.specs.Bytes.{Bytes, same, first_at}
use Rattle.lists.proofs.Tests.{eqb-true, same_eq, same_of_eq}
use Rattle.lists.proofs.Slots.{by_test}
use Rattle.lists.proofs.ByteMeanings.{first_at_least}
use Rattle.errno.specs.Refusals.{fine, refuse}
use Rattle.errno.specs.declared.Errno.TheVariants.{ENOENT, ENAMETOOLONG, EINVAL}
use Rattle.fscrypt.specs.Names.{is_nul, is_nul_or_slash, is_dot_name, is_bad_name, name_check}
use Rattle.fscrypt.proofs.Padding.{PassedName, plain_name}
use Rattle.fscrypt.specs.Meanings.{PlainName, BadName, nul, slash, dot, dots}

-- ---- a bad byte or a dot name

or_true : (a b : Bool) → (a || b) ≡ true → (a ≡ true) ⊎ (b ≡ true)
or_true true b h = inl refl
or_true false b h = inr h

or_of_left : (a b : Bool) → a ≡ true → (a || b) ≡ true
or_of_left a b h = rw h

or_of_right : (a b : Bool) → b ≡ true → (a || b) ≡ true
or_of_right true b h = refl
or_of_right false b h = h

bad_byte : (n : Bytes) (i : ℕ) → i < length n → is_nul_or_slash (get_or n i 0) ≡ true → is_bad_name n ≡ true
unfolding is_bad_name
bad_byte n i l h =
    by_test (ltb (first_at is_nul_or_slash n) (length n)) (or_of_left _ (is_dot_name n))
    (λ f. absurd (false≢true (sym ((first_at_least is_nul_or_slash n).none_before i 0 (omega (arith, ltb-false (first_at is_nul_or_slash n) (length n) f))) ∙ h)))

dot_name : (n : Bytes) → is_dot_name n ≡ true → is_bad_name n ≡ true
unfolding is_bad_name
dot_name n h = or_of_right (ltb (first_at is_nul_or_slash n) (length n)) (is_dot_name n) h

bad_of : (n : Bytes) → BadName n → is_bad_name n ≡ true
unfolding is_dot_name
bad_of n (nul i l e) = bad_byte n i l (or_of_left (is_nul (get_or n i 0)) _ (eq-eqb (get_or n i 0) 0 e))
bad_of n (slash i l e) = bad_byte n i l (or_of_right (is_nul (get_or n i 0)) _ (eq-eqb (get_or n i 0) 47 e))
bad_of n (dot e) = dot_name n (or_of_left (same n (46 ∷ [])) _ (same_of_eq e))
bad_of n (dots e) = dot_name n (or_of_right (same n (46 ∷ [])) _ (same_of_eq e))

of_bad : (n : Bytes) → is_bad_name n ≡ true → BadName n
unfolding is_bad_name is_dot_name
of_bad n h = go (or_true (ltb (first_at is_nul_or_slash n) (length n)) (is_dot_name n) h)
  where
    at : ℕ
    at = first_at is_nul_or_slash n

    byte : at < length n → (is_nul (get_or n at 0) ≡ true) ⊎ (eqb (get_or n at 0) 47 ≡ true) → BadName n
    byte l (inl e) = nul at l (eqb-true e)
    byte l (inr e) = slash at l (eqb-true e)

    found : at < length n → ((at < length n) × ((d : ℕ) → is_nul_or_slash (get_or n at d) ≡ true)) ⊎ (at ≡ length n) → BadName n
    found l (inl f) = byte l (or_true (is_nul (get_or n at 0)) _ (f.1 0))
    found l (inr e) = absurd (omega arith)

    name : (same n (46 ∷ []) ≡ true) ⊎ (same n (46 ∷ 46 ∷ []) ≡ true) → BadName n
    name (inl e) = dot (same_eq n _ e)
    name (inr e) = dots (same_eq n _ e)

    go : (ltb at (length n) ≡ true) ⊎ (is_dot_name n ≡ true) → BadName n
    go (inl e) = found (ltb-true at (length n) e) (first_at_least is_nul_or_slash n).found_or_end
    go (inr e) = name (or_true (same n (46 ∷ [])) _ e)

-- ---- the four outcomes

pub plain_not_bad : (n : Bytes) → PlainName n → BadName n → ⊥
plain_not_bad n p (nul i l e) = p.no_nul i l e
plain_not_bad n p (slash i l e) = p.no_slash i l e
plain_not_bad n p (dot e) = p.not_dot e
plain_not_bad n p (dots e) = p.not_dots e

good : (n : Bytes) → PlainName n → is_bad_name n ≡ false
good n p = by_test (is_bad_name n) (λ t. absurd (plain_not_bad n p (of_bad n t))) (λ f. f)

plain_of : (n : Bytes) → PassedName n → PlainName n
plain_of n p = record {
  low = grind (arith, nat_tests, p.some_bytes);
  high = p.not_long;
  no_nul = λ i l e. false≢true (sym p.good ∙ bad_of n (nul i l e));
  no_slash = λ i l e. false≢true (sym p.good ∙ bad_of n (slash i l e));
  not_dot = λ e. false≢true (sym p.good ∙ bad_of n (dot e));
  not_dots = λ e. false≢true (sym p.good ∙ bad_of n (dots e));
}

passes : (n : Bytes) → 1 ≤ length n → length n ≤ 255 → is_bad_name n ≡ false → name_check n ≡ fine
unfolding name_check
passes n l h g = grind (arith, common_steps, line_case)

pub name_check_fine : (n : Bytes) → (name_check n ≡ fine) ↔ PlainName n
name_check_fine n = (λ h. plain_of n (plain_name n h), λ p. passes n p.low p.high (good n p))

pub name_check_empty : (n : Bytes) → (name_check n ≡ refuse ENOENT) ↔ (length n ≡ 0)
unfolding name_check
name_check_empty n = (λ h. grind (arith, common_steps, line_case), λ h. grind (arith, common_steps, line_case))

pub name_check_long : (n : Bytes) → (name_check n ≡ refuse ENAMETOOLONG) ↔ (255 < length n)
unfolding name_check
name_check_long n = (λ h. grind (arith, common_steps, line_case), λ h. grind (arith, common_steps, line_case))

bad_tests : (n : Bytes) → (name_check n ≡ refuse EINVAL) ↔ ((1 ≤ length n) × (length n ≤ 255) × (is_bad_name n ≡ true))
unfolding name_check
bad_tests n = (λ h. (grind (arith, common_steps, line_case), grind (arith, common_steps, line_case), grind (arith, common_steps, line_case)), λ h. grind (arith, common_steps, line_case))

pub name_check_bad : (n : Bytes) → (name_check n ≡ refuse EINVAL) ↔ ((1 ≤ length n) × (length n ≤ 255) × BadName n)
name_check_bad n =
    (λ h. let t = (bad_tests n).0 h in (t.0, t.1, of_bad n t.2), λ h. (bad_tests n).1 (h.0, h.1, bad_of n h.2))
