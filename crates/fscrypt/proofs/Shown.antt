-- A stored name as it is shown without its key: its length, that its bytes are those of a plain name, and what of it does not depend on the stored bytes.
-- Every letter and hex digit is a fair byte, and so is each byte of a list made of them. Assumes nothing.
use mathlib.Core.Path.{◌≡◌, refl, sym, ap, ap₂, ◌∙◌}
use mathlib.Core.Bool.{true, not, true≢false}
use lib.Dec.{eqb}
use borrow.Author.Tests.{eq-eqb}
use Rattle.lists.proofs.ByteMeanings.{all_below, at_each}
use mathlib.Core.List.{[], ◌∷◌, ◌++◌}
use Prim.Native.Nat.{ℕ, zero, suc, ◌+◌, ◌*◌, ◌/◌, ◌%◌, ◌≤◌, ◌<◌}
use native.Mathlib.Decide.{dec_lt}
use native.Mathlib.Omega.{arith}
use lib.ListN.{length, take, get_or, length-append}
use lib.Seq.{get_or-append-add}
use Rattle.lists.specs.Bytes.{Bytes, ByteList, hex_digit}
use Rattle.lists.proofs.ByteStrings.{take_bytes}
use Rattle.fscrypt.specs.Encoded.{letter, letters, encoded}
use Rattle.fscrypt.proofs.Lettering.{length_letters, length_front, marks, encoded_short, encoded_long}

-- ---- lengths

pub length_short : (s : Bytes) (e : ℕ) → length s ≤ 160 → length (encoded s e) ≡ (4 * length s + 2) / 3
length_short s e h = ap length (encoded_short s e h) ∙ length_letters s

pub length_long : (s : Bytes) (e : ℕ) → 160 < length s → length (encoded s e) ≡ 217
length_long s e h = omega (arith, ap length (encoded_long s e h), length-append (letters (take 160 s)) (marks e), length_front s h)

pub encoded_length_low : (s : Bytes) (e : ℕ) → 1 ≤ length s → 1 ≤ length (encoded s e)
encoded_length_low s e h =
    elim (dec_lt 160 (length s)) [ yes g ↦ omega (arith, length_long s e g) | no g ↦ omega (arith, g, length_short s e (omega (arith, g))) ]

pub encoded_length_high : (s : Bytes) (e : ℕ) → length (encoded s e) ≤ 255
encoded_length_high s e =
    elim (dec_lt 160 (length s)) [ yes g ↦ omega (arith, length_long s e g) | no g ↦ omega (arith, g, length_short s e (omega (arith, g))) ]

pub length_encoded : (s t : Bytes) (e : ℕ) → length s ≡ length t → length (encoded s e) ≡ length (encoded t e)
length_encoded s t e h = elim (dec_lt 160 (length s)) [
  | yes g ↦ omega (arith, length_long s e g, length_long t e (omega (arith, g)))
  | no g ↦ omega (arith, length_short s e (omega (arith, g)), length_short t e (omega (arith, g)))
]

-- ---- fair bytes

-- a byte that may stand in a plain name
record Fair (x : ℕ) : Type 0 where
  pub nul : x ≡ 0 → ⊥
  pub slash : x ≡ 47 → ⊥

-- a byte that no letter is, and no hex digit, found by computing each
pub letter_never : (b : ℕ) → all_below (λ i. not (eqb (letter i) b)) 64 ≡ true → (n : ℕ) → n < 64 → letter n ≡ b → ⊥
letter_never b t n h e = true≢false (sym (at_each (λ i. not (eqb (letter i) b)) 64 t n h) ∙ ap not (eq-eqb (letter n) b e))

hex_never : (b : ℕ) → all_below (λ i. not (eqb (hex_digit i) b)) 16 ≡ true → (n : ℕ) → n < 16 → hex_digit n ≡ b → ⊥
hex_never b t n h e = true≢false (sym (at_each (λ i. not (eqb (hex_digit i) b)) 16 t n h) ∙ ap not (eq-eqb (hex_digit n) b e))

letter_fair : (n : ℕ) → n < 64 → Fair (letter n)
unfolding letter
letter_fair n h = record { nul = letter_never 0 refl n h; slash = letter_never 47 refl n h }

hex_fair : (n : ℕ) → n < 16 → Fair (hex_digit n)
unfolding hex_digit
hex_fair n h = record { nul = hex_never 0 refl n h; slash = hex_never 47 refl n h }

AllFair : Bytes → Type 0
AllFair l = (i : ℕ) → i < length l → Fair (get_or l i 0)

fair_none : AllFair []
unfolding AllFair
fair_none i h = absurd (omega arith)

fair_cons : (x : ℕ) (l : Bytes) → Fair x → AllFair l → AllFair (x ∷ l)
unfolding AllFair
fair_cons x l f a zero h = f
fair_cons x l f a (suc i) h = a i (omega arith)

fair_append : (a b : Bytes) → AllFair a → AllFair b → AllFair (a ++ b)
unfolding AllFair
fair_append [] b p q i h = q i h
fair_append (x ∷ a) b p q zero h = p zero (omega arith)
fair_append (x ∷ a) b p q (suc i) h = fair_append a b (λ j k. p (suc j) (omega (arith, k))) q i (omega arith)

letters_fair : (s : Bytes) → ByteList s → AllFair (letters s)
unfolding letters
letters_fair [] h = fair_none
letters_fair (a ∷ []) h =
    fair_cons _ _ (letter_fair _ (omega (arith, h 0)))
    (fair_cons _ _ (letter_fair _ (omega arith)) fair_none)
letters_fair (a ∷ b ∷ []) h =
    fair_cons _ _ (letter_fair _ (omega (arith, h 0)))
    (fair_cons _ _ (letter_fair _ (omega (arith, h 1)))
    (fair_cons _ _ (letter_fair _ (omega arith)) fair_none))
letters_fair (a ∷ b ∷ c ∷ rest) h =
    fair_cons _ _ (letter_fair _ (omega (arith, h 0)))
    (fair_cons _ _ (letter_fair _ (omega (arith, h 1)))
    (fair_cons _ _ (letter_fair _ (omega (arith, h 2)))
    (fair_cons _ _ (letter_fair _ (omega arith)) (letters_fair rest (λ i. h (suc (suc (suc i))))))))

long_fair : (s : Bytes) (e : ℕ) → ByteList s → AllFair (95 ∷ (letters (take 160 s) ++ marks e))
long_fair s e h =
    fair_cons 95 _ (record { nul = λ z. omega arith; slash = λ z. omega arith })
    (fair_append (letters (take 160 s)) (marks e) (letters_fair (take 160 s) (take_bytes 160 s h))
    (fair_cons _ _ (hex_fair (e / 16 % 16) (omega arith)) (fair_cons _ _ (hex_fair (e % 16) (omega arith)) fair_none)))

all_fair : (s : Bytes) (e : ℕ) → ByteList s → AllFair (encoded s e)
all_fair s e h = elim (dec_lt 160 (length s)) [
  | yes g ↦ rw (encoded_long s e g) (long_fair s e h)
  | no g ↦ rw (encoded_short s e (omega (arith, g))) (letters_fair s h)
]

pub encoded_fair : (s : Bytes) (e : ℕ) → ByteList s → (i : ℕ) → i < length (encoded s e) → (get_or (encoded s e) i 0 ≡ 0 → ⊥) × (get_or (encoded s e) i 0 ≡ 47 → ⊥)
unfolding AllFair
encoded_fair s e h i k = let f = all_fair s e h i k in (f.nul, f.slash)

-- ---- what does not depend on the stored bytes

pub long_mark : (s : Bytes) (e k : ℕ) → 160 < length s → get_or (encoded s e) (215 + k) 0 ≡ get_or (marks e) k 0
long_mark s e k h =
    let n : 215 + k ≡ suc (length (letters (take 160 s)) + k) = omega (arith, length_front s h) in
    ap₂ (λ (l : Bytes) (i : ℕ). get_or l i 0) (encoded_long s e h) n ∙ get_or-append-add (letters (take 160 s)) (marks e) k 0
