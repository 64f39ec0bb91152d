-- Names shown without their key are distinct in a directory: two entries of different numbers and different stored names are shown under different names.
-- Letters can be read back; no letter is the mark of a long name; and a long name ends with its entry's number. Assumes nothing.
use mathlib.Core.Path.{◌≡◌, refl, sym, ap, ◌∙◌}
use mathlib.Core.Logic.{◌≢◌}
use mathlib.Core.List.{◌∷◌}
use Prim.Native.Nat.{ℕ, ◌+◌, ◌*◌, ◌/◌, ◌<◌}
use native.Mathlib.Decide.{dec_lt}
use native.Mathlib.Omega.{arith}
use lib.ListN.{length, get_or}
use Rattle.lists.specs.Bytes.{Bytes, ByteList}
use Rattle.lists.specs.Meanings.{hex_digits}
use Rattle.fscrypt.specs.Encoded.{letter, letters, encoded}
use Rattle.fscrypt.specs.Meanings.{position, decoded}
use Rattle.fscrypt.proofs.Lettering.{first_0, encoded_short, encoded_long}
use Rattle.fscrypt.proofs.LetterMeanings.{decoded_letters, entry_decoded}
use Rattle.fscrypt.proofs.Shown.{letter_never}

-- ---- letters

letters_apart : (s t : Bytes) → ByteList s → ByteList t → letters s ≡ letters t → s ≡ t
letters_apart s t hs ht e = sym (decoded_letters s hs) ∙ ap decoded e ∙ decoded_letters t ht

-- the mark of a long name is no letter
letters_mark : (s l : Bytes) → ByteList s → letters s ≢ 95 ∷ l
unfolding letter
letters_mark s l h e =
    let f : 0 < length (letters s) = omega (arith, ap length e) in
    letter_never 95 refl (get_or s 0 0 / 4) (omega (arith, h 0)) (sym (first_0 s f) ∙ ap (λ (x : Bytes). get_or x 0 0) e)

-- ---- the entry's number

long_apart : (s t : Bytes) (m n : ℕ) → m < 256 → n < 256 → 160 < length s → 160 < length t → encoded s m ≡ encoded t n → m ≡ n
long_apart s t m n hm hn ls lt e =
    sym (entry_decoded s m ls hm)
    ∙ ap (λ (x : Bytes). position hex_digits (get_or x 215 0) * 16 + position hex_digits (get_or x 216 0)) e
    ∙ entry_decoded t n lt hn

-- ---- the whole

-- two stored names that differ, in entries whose numbers differ
module _ (s t : Bytes) (m n : ℕ) (hs : ByteList s) (ht : ByteList t) (hm : m < 256) (hn : n < 256) where
  pub encoded_apart : m ≢ n → s ≢ t → encoded s m ≢ encoded t n
  encoded_apart mn st e = elim (dec_lt 160 (length s)) [
    | yes g ↦ elim (dec_lt 160 (length t)) [
      | yes k ↦ mn (long_apart s t m n hm hn g k e)
      | no k ↦ letters_mark t _ ht (sym (encoded_short t n (omega (arith, k))) ∙ sym e ∙ encoded_long s m g)
    ]
    | no g ↦ elim (dec_lt 160 (length t)) [
      | yes k ↦ letters_mark s _ hs (sym (encoded_short s m (omega (arith, g))) ∙ e ∙ encoded_long t n k)
      | no k ↦ st (letters_apart s t hs ht (sym (encoded_short s m (omega (arith, g))) ∙ e ∙ encoded_short t n (omega (arith, k))))
    ]
  ]
