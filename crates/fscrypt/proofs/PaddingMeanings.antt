-- specs/Meanings.antt of padding: the rounded length is the least multiple that fits, and it is the only one; decrypted bytes that pass their check are the
-- bytes before the first NUL and NULs, and no other name and NULs. Assumes nothing.
use Prim.Native.Nat.{ℕ, zero, suc, ◌+◌, ◌-◌, ◌/◌, ◌≤◌, max}
use native.Mathlib.Omega.{arith}
use mathlib.Core.Path.{◌≡◌, refl, sym, ◌∙◌, ap, subst}
use mathlib.Core.Logic.{◌↔◌, ◌⊎◌, inl, inr}
use mathlib.Core.Bool.{Bool, true, false, not}
use mathlib.Core.List.{◌++◌}
use Rattle.std.specs.Prelude.{Ok, Err}
use lib.ListN.{length, take, drop, get_or, take-append-drop, length-drop, get_or-replicate}
use lib.Seq.{ext_get_or, get_or-append-add, length-take-le, take-append_seam}
use lib.Dec.{eqb, leb}
use borrow.Author.Tests.{leb-true, leb-false, ltb-false}
use Rattle.lists.specs.Bytes.{Bytes, zeros, first_at}
use Rattle.lists.proofs.Tests.{eqb-true, or_left, not-false}
use Rattle.lists.proofs.Tables.{first_at_le}
use Rattle.lists.proofs.ByteStrings.{length_zeros}
use Rattle.lists.proofs.Slots.{all_same}
use Rattle.lists.proofs.ByteMeanings.{first_at_least}
use Rattle.errno.specs.Refusals.{fine, refuse, is_fine}
use Rattle.errno.specs.declared.Errno.TheVariants.{EUCLEAN}
use Rattle.errno.proofs.Chains.{passed_test, one_refusal}
use Rattle.errno.proofs.ChainMeanings.{is_fine_means, refused_not_fine}
use Rattle.fscrypt.specs.Names.{is_nul, is_nul_or_slash, is_not_nul, is_dot_name, is_bad_name, name_check, multiple, rounded, padded_length, padded, before_nul, is_all_nul, padding_check, read_padded, packed}
use Rattle.fscrypt.specs.Meanings.{PlainName, Multiple, to_4, to_8, to_16, to_32, RoundedUp, PaddedTo, rounded_up, own_length, ReadAs}
use Rattle.fscrypt.proofs.Padding.{plain_name, first_nul, padding_fine, read_padded_padded}
use Rattle.fscrypt.proofs.NameMeanings.{name_check_fine}

-- ---- padded lengths

-- the table
pub multiple_means : (flags q : ℕ) → Multiple flags q → multiple flags ≡ q
multiple_means flags q to_4 = refl
multiple_means flags q to_8 = refl
multiple_means flags q to_16 = refl
multiple_means flags q to_32 = refl

-- the flags of a valid policy have a row in it
pub multiple_row : (flags : ℕ) → flags ≤ 3 → Multiple flags (multiple flags)
multiple_row zero h = to_4
multiple_row (suc zero) h = to_8
multiple_row (suc (suc zero)) h = to_16
multiple_row (suc (suc (suc zero))) h = to_32
multiple_row (suc (suc (suc (suc k)))) h = absurd (omega arith)

rounded_is : (flags q n : ℕ) → Multiple flags q → RoundedUp q n (rounded q n)
unfolding rounded
rounded_is flags q n to_4 = record { times = ((max n 16 + 3) / 4, refl); name_fits = omega arith; block_fits = omega arith; least = λ k a b. omega arith }
rounded_is flags q n to_8 = record { times = ((max n 16 + 7) / 8, refl); name_fits = omega arith; block_fits = omega arith; least = λ k a b. omega arith }
rounded_is flags q n to_16 = record { times = ((max n 16 + 15) / 16, refl); name_fits = omega arith; block_fits = omega arith; least = λ k a b. omega arith }
rounded_is flags q n to_32 = record { times = ((max n 16 + 31) / 32, refl); name_fits = omega arith; block_fits = omega arith; least = λ k a b. omega arith }

rounded_below : (q n m r : ℕ) → RoundedUp q n m → RoundedUp q n r → m ≤ r
rounded_below q n m r a b =
    let e = b.times.1 in
    let h = a.least b.times.0 (omega (arith, e, b.name_fits)) (omega (arith, e, b.block_fits)) in
    omega (arith, e, h)

rounded_one : (q n m r : ℕ) → RoundedUp q n m → RoundedUp q n r → m ≡ r
rounded_one q n m r a b = omega (arith, rounded_below q n m r a b, rounded_below q n r m b a)

pub padded_to_one : (q n m r : ℕ) → PaddedTo q n m → PaddedTo q n r → m ≡ r
padded_to_one q n m r (rounded_up a h) (rounded_up b k) = rounded_one q n m r a b
padded_to_one q n m r (rounded_up a h) (own_length x b k e) = absurd (omega (arith, rounded_one q n m x a b))
padded_to_one q n m r (own_length x a h e) (rounded_up b k) = absurd (omega (arith, rounded_one q n x r a b))
padded_to_one q n m r (own_length x a h e) (own_length y b k f) = e ∙ sym f

padded_to : (flags q n : ℕ) → Multiple flags q → PaddedTo q n (padded_length flags n)
unfolding padded_length
padded_to flags q n M = go (leb (rounded (multiple flags) n) 255) refl
  where
    up : RoundedUp q n (rounded (multiple flags) n)
    up = rw (multiple_means flags q M) (rounded_is flags q n M)

    go : (b : Bool) → leb (rounded (multiple flags) n) 255 ≡ b → PaddedTo q n (padded_length flags n)
    go true e = rw e (rounded_up up (leb-true _ 255 e))
    go false e = rw e (own_length _ up (leb-false _ 255 e) refl)

pub padded_length_means : (flags q n m : ℕ) → Multiple flags q → (padded_length flags n ≡ m) ↔ PaddedTo q n m
padded_length_means flags q n m M =
    (λ h. subst (PaddedTo q n) h (padded_to flags q n M), λ p. padded_to_one q n (padded_length flags n) m (padded_to flags q n M) p)

pub padded_means : (flags q : ℕ) (n : Bytes) (m : ℕ) → Multiple flags q → PaddedTo q (length n) m → padded flags n ≡ n ++ zeros (m - length n)
unfolding padded
padded_means flags q n m M p = ap (λ (k : ℕ). n ++ zeros (k - length n)) ((padded_length_means flags q (length n) m M).1 p)

-- ---- bytes that are read

all_nul : (b : Bytes) → is_all_nul b ≡ true → b ≡ zeros (length b)
unfolding is_all_nul zeros
all_nul b h =
    ext_get_or 0 b (zeros (length b)) (sym (length_zeros (length b)))
    (λ i l.
    let f = (first_at_least is_not_nul b).none_before i 0 (omega (arith, l, leb-true (length b) (first_at is_not_nul b) h)) in
    eqb-true (not-false f) ∙ sym (get_or-replicate (length b) i 0 0 l))

before_zeros : (n : Bytes) (k : ℕ) → PlainName n → before_nul (n ++ zeros k) ≡ n
unfolding before_nul is_bad_name
before_zeros n k p =
    let g = or_left _ (is_dot_name n) (plain_name n ((name_check_fine n).1 p)).good in
    let e = first_nul n k (ltb-false (first_at is_nul_or_slash n) (length n) g) in
    ap (λ (i : ℕ). take i (n ++ zeros k)) e ∙ take-append_seam n (zeros k)

pub read_one : (q : ℕ) (b n n' : Bytes) → ReadAs q b n → ReadAs q b n' → n ≡ n'
read_one q b n n' r s =
    sym (before_zeros n (length b - length n) r.plain)
    ∙ ap before_nul (sym r.padding ∙ s.padding)
    ∙ before_zeros n' (length b - length n') s.plain

module _ (flags q : ℕ) (b : Bytes) (M : Multiple flags q) where
  was_padded : (n : Bytes) → ReadAs q b n → padded flags n ≡ b
  was_padded n r = padded_means flags q n (length b) M r.stored ∙ sym r.padding

  read_fine : (n : Bytes) → ReadAs q b n → padding_check flags b ≡ fine
  read_fine n r = subst (λ (x : Bytes). padding_check flags x ≡ fine) (was_padded n r) (padding_fine flags n ((name_check_fine n).1 r.plain))

  name_and_nuls : is_all_nul (drop (first_at is_nul b) b) ≡ true → b ≡ before_nul b ++ zeros (length b - length (before_nul b))
  unfolding before_nul
  name_and_nuls h =
      let at : ℕ = first_at is_nul b in
      let k : length (drop at b) ≡ length b - length (take at b) = length-drop at b ∙ ap (λ (x : ℕ). length b - x) (sym (length-take-le at b (first_at_le is_nul b))) in
      sym (take-append-drop at b) ∙ ap (take at b ++◌) (all_nul (drop at b) h ∙ ap zeros k)

  fine_read : padding_check flags b ≡ fine → ReadAs q b (before_nul b)
  unfolding padding_check
  fine_read h =
      let x = passed_test (not (is_all_nul (drop (first_at is_nul b) b))) EUCLEAN _ h in
      let y = passed_test (not (is_fine (name_check (before_nul b)))) EUCLEAN _ x.1 in
      let z = passed_test (not (eqb (padded_length flags (length (before_nul b))) (length b))) EUCLEAN _ y.1 in
      record {
        plain = (name_check_fine (before_nul b)).0 ((is_fine_means (name_check (before_nul b))).0 (not-false y.0));
        padding = name_and_nuls (not-false x.0);
        stored = (padded_length_means flags q (length (before_nul b)) (length b) M).0 (eqb-true (not-false z.0));
      }

  pub padding_check_fine : (padding_check flags b ≡ fine) ↔ ((n : Bytes) × ReadAs q b n)
  padding_check_fine = (λ h. (before_nul b, fine_read h), λ r. read_fine r.0 r.1)

  fine_or_not : (padding_check flags b ≡ fine) ⊎ (padding_check flags b ≡ refuse EUCLEAN)
  unfolding padding_check
  fine_or_not = one_refusal _ _ _ (one_refusal _ _ _ (one_refusal _ _ _ (inl refl)))

  pub padding_check_refused : (padding_check flags b ≡ refuse EUCLEAN) ↔ ((n : Bytes) → ReadAs q b n → ⊥)
  padding_check_refused = (λ h n r. refused_not_fine EUCLEAN (sym h ∙ read_fine n r), λ f. go f fine_or_not)
    where
      go : ((n : Bytes) → ReadAs q b n → ⊥) → (padding_check flags b ≡ fine) ⊎ (padding_check flags b ≡ refuse EUCLEAN) → padding_check flags b ≡ refuse EUCLEAN
      go f (inl h) = absurd (f (before_nul b) (fine_read h))
      go f (inr h) = h

  pub read_padded_read : (n : Bytes) → ReadAs q b n → read_padded flags b ≡ Ok (packed n)
  read_padded_read n r = ap (read_padded flags) (sym (was_padded n r)) ∙ read_padded_padded flags n ((name_check_fine n).1 r.plain)

  pub read_padded_unread : ((n : Bytes) → ReadAs q b n → ⊥) → read_padded flags b ≡ Err EUCLEAN
  unfolding read_padded
  read_padded_unread f = rw (padding_check_refused.1 f)

-- ---- names by value

pub packed_rest : (n : Bytes) (i : ℕ) → length n ≤ i → get_or (packed n).bytes i 0 ≡ 0
unfolding zeros
packed_rest n i h =
    let e : i ≡ length n + (i - length n) = omega arith in
    ap (λ (k : ℕ). get_or (packed n).bytes k 0) e
    ∙ get_or-append-add n (zeros (255 - length n)) (i - length n) 0
    ∙ all_same (255 - length n) (i - length n) 0
