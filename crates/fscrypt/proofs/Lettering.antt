-- The letters of a string: how many they are, what each is, by recursion three bytes and four letters at a time; and the two forms of an encoded name, as they
-- lie in a buffer. Assumes nothing.
use mathlib.Core.Path.{◌≡◌, refl, sym, ap, ap₂, ◌∙◌}
use mathlib.Core.List.{[], ◌∷◌, ◌++◌, append_assoc, append-nil}
use Prim.Native.Nat.{ℕ, zero, suc, ◌+◌, ◌*◌, ◌/◌, ◌%◌, ◌≤◌, ◌<◌}
use native.Mathlib.Omega.{arith}
use lib.ListN.{length, take, drop, get_or, set, length-append, length-drop}
use lib.Seq.{get_or-drop, length-take-le, set_at, append_snoc}
use borrow.Author.Tests.{le-leb, lt-leb}
use Rattle.lists.specs.Bytes.{Bytes, hex_digit}
use Rattle.fscrypt.specs.Encoded.{letter, letters, encoded}

pub length_letters : (s : Bytes) → length (letters s) ≡ (4 * length s + 2) / 3
unfolding letters
length_letters [] = omega arith
length_letters (a ∷ []) = omega arith
length_letters (a ∷ b ∷ []) = omega arith
length_letters (a ∷ b ∷ c ∷ rest) = omega (arith, length_letters rest)

-- ---- what a letter is

abbrev four : ℕ → ℕ
four zero = zero
four (suc q) = suc (suc (suc (suc (four q))))

abbrev three : ℕ → ℕ
three zero = zero
three (suc q) = suc (suc (suc (three q)))

four_is : (q : ℕ) → four q ≡ 4 * q
four_is zero = omega arith
four_is (suc q) = omega (arith, four_is q)

three_is : (q : ℕ) → three q ≡ q * 3
three_is zero = omega arith
three_is (suc q) = omega (arith, three_is q)

-- the letters from a fourth one on are those of the bytes from a third one on
letters_drop : (s : Bytes) (q : ℕ) → drop (four q) (letters s) ≡ letters (drop (three q) s)
unfolding letters
letters_drop s zero = refl
letters_drop [] (suc q) = refl
letters_drop (a ∷ []) (suc q) = refl
letters_drop (a ∷ b ∷ []) (suc q) = refl
letters_drop (a ∷ b ∷ c ∷ rest) (suc q) = letters_drop rest q

pub first_0 : (t : Bytes) → 0 < length (letters t) → get_or (letters t) 0 0 ≡ letter (get_or t 0 0 / 4)
unfolding letters
first_0 [] h = absurd (omega arith)
first_0 (a ∷ []) h = refl
first_0 (a ∷ b ∷ []) h = refl
first_0 (a ∷ b ∷ c ∷ rest) h = refl

first_1 : (t : Bytes) → 1 < length (letters t) → get_or (letters t) 1 0 ≡ letter (get_or t 0 0 % 4 * 16 + get_or t 1 0 / 16)
unfolding letters
first_1 [] h = absurd (omega arith)
first_1 (a ∷ []) h = ap letter (omega arith)
first_1 (a ∷ b ∷ []) h = refl
first_1 (a ∷ b ∷ c ∷ rest) h = refl

first_2 : (t : Bytes) → 2 < length (letters t) → get_or (letters t) 2 0 ≡ letter (get_or t 1 0 % 16 * 4 + get_or t 2 0 / 64)
unfolding letters
first_2 [] h = absurd (omega arith)
first_2 (a ∷ []) h = absurd (omega arith)
first_2 (a ∷ b ∷ []) h = ap letter (omega arith)
first_2 (a ∷ b ∷ c ∷ rest) h = refl

first_3 : (t : Bytes) → 3 < length (letters t) → get_or (letters t) 3 0 ≡ letter (get_or t 2 0 % 64)
unfolding letters
first_3 [] h = absurd (omega arith)
first_3 (a ∷ []) h = absurd (omega arith)
first_3 (a ∷ b ∷ []) h = absurd (omega arith)
first_3 (a ∷ b ∷ c ∷ rest) h = refl

-- letter j by its position among four, as what the code returns for it
module _ (s : Bytes) (j : ℕ) (h : j < length (letters s)) where
  letter_of_rest : (k : ℕ) → j % 4 ≡ k → get_or (letters s) j 0 ≡ get_or (letters (drop (three (j / 4)) s)) k 0
  letter_of_rest k e =
      let f : j ≡ four (j / 4) + k = omega (arith, four_is (j / 4)) in
      ap (λ (x : ℕ). get_or (letters s) x 0) f ∙ sym (get_or-drop (four (j / 4)) (letters s) k 0) ∙ ap (λ (l : Bytes). get_or l k 0) (letters_drop s (j / 4))

  in_rest : j % 4 < length (letters (drop (three (j / 4)) s))
  in_rest = omega (arith, length-drop (four (j / 4)) (letters s), ap length (letters_drop s (j / 4)), four_is (j / 4))

  byte_of_rest : (m i : ℕ) → i ≡ j / 4 * 3 + m → get_or (drop (three (j / 4)) s) m 0 ≡ get_or s i 0
  byte_of_rest m i e =
      let f : three (j / 4) + m ≡ i = omega (arith, three_is (j / 4)) in
      get_or-drop (three (j / 4)) s m 0 ∙ ap (λ (x : ℕ). get_or s x 0) f

  pub letters_at_0 : (a r : ℕ) → j % 4 ≡ 0 → a ≡ get_or s (j / 4 * 3) 0 → r ≡ letter (a / 4) → r ≡ get_or (letters s) j 0
  letters_at_0 a r e p q =
      let g : 0 < length (letters (drop (three (j / 4)) s)) = omega (arith, in_rest) in
      q ∙ ap (λ (x : ℕ). letter (x / 4)) (p ∙ sym (byte_of_rest 0 (j / 4 * 3) (omega arith))) ∙ sym (first_0 _ g) ∙ sym (letter_of_rest 0 e)

  pub letters_at_1 : (a b r : ℕ) → j % 4 ≡ 1 → a ≡ get_or s (j / 4 * 3) 0 → b ≡ get_or s (j / 4 * 3 + 1) 0 → r ≡ letter (a % 4 * 16 + b / 16) → r ≡ get_or (letters s) j 0
  letters_at_1 a b r e p q t =
      let g : 1 < length (letters (drop (three (j / 4)) s)) = omega (arith, in_rest) in
      t ∙ ap₂ (λ (x y : ℕ). letter (x % 4 * 16 + y / 16)) (p ∙ sym (byte_of_rest 0 (j / 4 * 3) (omega arith))) (q ∙ sym (byte_of_rest 1 (j / 4 * 3 + 1) refl))
      ∙ sym (first_1 _ g) ∙ sym (letter_of_rest 1 e)

  pub letters_at_2 : (b c r : ℕ) → j % 4 ≡ 2 → b ≡ get_or s (j / 4 * 3 + 1) 0 → c ≡ get_or s (j / 4 * 3 + 2) 0 → r ≡ letter (b % 16 * 4 + c / 64) → r ≡ get_or (letters s) j 0
  letters_at_2 b c r e p q t =
      let g : 2 < length (letters (drop (three (j / 4)) s)) = omega (arith, in_rest) in
      t ∙ ap₂ (λ (x y : ℕ). letter (x % 16 * 4 + y / 64)) (p ∙ sym (byte_of_rest 1 (j / 4 * 3 + 1) refl)) (q ∙ sym (byte_of_rest 2 (j / 4 * 3 + 2) refl))
      ∙ sym (first_2 _ g) ∙ sym (letter_of_rest 2 e)

  pub letters_at_3 : (c r : ℕ) → j % 4 ≡ 3 → c ≡ get_or s (j / 4 * 3 + 2) 0 → r ≡ letter (c % 64) → r ≡ get_or (letters s) j 0
  letters_at_3 c r e p t =
      let g : 3 < length (letters (drop (three (j / 4)) s)) = omega (arith, in_rest) in
      t ∙ ap (λ (x : ℕ). letter (x % 64)) (p ∙ sym (byte_of_rest 2 (j / 4 * 3 + 2) refl)) ∙ sym (first_3 _ g) ∙ sym (letter_of_rest 3 e)

-- ---- the two forms of an encoded name

pub encoded_short : (s : Bytes) (e : ℕ) → length s ≤ 160 → encoded s e ≡ letters s
unfolding encoded
encoded_short s e h = rw (le-leb (length s) 160 h)

-- the entry's number, as it ends a long name
abbrev pub marks : ℕ → Bytes
marks e = hex_digit (e / 16 % 16) ∷ hex_digit (e % 16) ∷ []

pub encoded_long : (s : Bytes) (e : ℕ) → 160 < length s → encoded s e ≡ 95 ∷ (letters (take 160 s) ++ marks e)
unfolding encoded
encoded_long s e h = rw (lt-leb (length s) 160 h)

pub length_front : (s : Bytes) → 160 < length s → length (letters (take 160 s)) ≡ 214
length_front s h = omega (arith, length_letters (take 160 s), length-take-le 160 s (omega arith))

-- two stores after a front
two_stores : (p zs : Bytes) (u v x y m n : ℕ) → length p ≡ m → m + 1 ≡ n → set (set (p ++ (u ∷ v ∷ zs)) m x) n y ≡ (p ++ (x ∷ y ∷ [])) ++ zs
two_stores p zs u v x y m n e f =
    let q : length (p ++ (x ∷ [])) ≡ n = simp length-append (omega arith) in
    ap (λ (l : Bytes). set l n y) (set_at p u (v ∷ zs) x m e ∙ sym (append_snoc p x (v ∷ zs))) ∙ set_at (p ++ (x ∷ [])) v zs y n q
    ∙ append_assoc p (x ∷ []) (y ∷ zs) ∙ sym (append_assoc p (x ∷ y ∷ []) zs)

-- letters between the mark and the two digits are a long name
pub long_text : (s l : Bytes) (e x y : ℕ) → 160 < length s → l ≡ letters (take 160 s) → x ≡ hex_digit (e / 16 % 16) → y ≡ hex_digit (e % 16)
    → set (set (95 ∷ (l ++ (0 ∷ 0 ∷ []))) 215 x) 216 y ≡ encoded s e
long_text s l e x y h hl hx hy =
    let n : length l ≡ 214 = ap length hl ∙ length_front s h in
    two_stores (95 ∷ l) [] 0 0 x y 215 216 (omega arith) (omega arith)
    ∙ append-nil (95 ∷ (l ++ (x ∷ y ∷ [])))
    ∙ ap (λ (k : Bytes). 95 ∷ (k ++ (x ∷ y ∷ []))) hl
    ∙ ap₂ (λ (u v : ℕ). 95 ∷ (letters (take 160 s) ++ (u ∷ v ∷ []))) hx hy
    ∙ sym (encoded_long s e h)
