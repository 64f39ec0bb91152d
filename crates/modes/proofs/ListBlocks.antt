-- Blocks of a list, also one that the list ends in the middle of. Assumes nothing.
use mathlib.Core.Path.{◌≡◌, refl, sym, ap, ap₂, ◌∙◌, subst}
use mathlib.Core.List.{List, [], ◌∷◌, ◌++◌, zip_with, append_assoc}
use Prim.Native.Nat.{ℕ, zero, suc, ◌+◌, ◌-◌, ◌≤◌, ◌<◌}
use native.Mathlib.Nat.{add_assoc}
use native.Mathlib.Decide.{dec_lt}
use native.Mathlib.Numerals.{add-one, add-two, add-three}
use native.Mathlib.Omega.{arith}
use lib.ListN.{length, take, drop, get_or, replicate, length-append, length-take, length-drop, take-append-drop, get_or-append, get_or-eq_default}
use lib.Seq.{take_at, drop_at, take_all, take-add, drop-append-le, drop-cons, drop-drop, get_or-drop, get_or-append-add}
use Rattle.lists.proofs.Tables.{get_d_any}
use Rattle.lists.proofs.Slots.{all_same}
use Rattle.lists.specs.Bytes.{ByteList}
use Rattle.lists.proofs.ByteStrings.{append_bytes, drop_bytes}
use Rattle.aes.specs.Bytes.{word_bytes, state_bytes}
use Rattle.field.specs.Field.{◌⊕◌}
use Rattle.aes.specs.Words.{word_at, add_word}
use Rattle.aes.specs.States.{add_round_key, state_at}
use Rattle.modes.specs.Blocks.{zero_block}
use Rattle.modes.specs.Cts.{filled_word, filled}
use Rattle.field.proofs.Xor.{zero_⊕, ⊕-self}
use Rattle.aes.specs.declared.Word.{Word}
use Rattle.aes.specs.declared.State.{State}
use Rattle.aes.proofs.MixColumns.{word_eq}
use Rattle.aes.proofs.Appended.{front, length_state}
use Rattle.aes.proofs.ByteStates.{ByteState}
use Rattle.aes.proofs.ScheduleBytes.{state_at_bytes, state_bytes_bytes}

-- ---- blocks of a list

take_word : (l : List ℕ) (k : ℕ) → k + 4 ≤ length l → take 4 (drop k l) ≡ word_bytes (word_at l k)
unfolding word_at
take_word l k h =
    let h₀ : k < length l = omega arith in
    let h₁ : suc k < length l = omega arith in
    let h₂ : suc (suc k) < length l = omega arith in
    let h₃ : suc (suc (suc k)) < length l = omega arith in
    rw (drop-cons l k 0 h₀, drop-cons l (suc k) 0 h₁, drop-cons l (suc (suc k)) 0 h₂, drop-cons l (suc (suc (suc k))) 0 h₃, add-one, add-two, add-three)

pub take_state : (l : List ℕ) (k : ℕ) → k + 16 ≤ length l → take 16 (drop k l) ≡ state_bytes (state_at l k)
unfolding state_bytes state_at
take_state l k h =
    take-add 12 4 (drop k l) ∙ ap₂ (λ (x y : List ℕ). x ++ y)
    (take-add 8 4 (drop k l) ∙ ap₂ (λ (x y : List ℕ). x ++ y)
    (take-add 4 4 (drop k l) ∙ ap₂ (λ (x y : List ℕ). x ++ y) (take_word l k (omega arith)) (part 4 (omega arith)))
    (part 8 (omega arith)))
    (part 12 (omega arith))
  where
    part : (j : ℕ) → k + j + 4 ≤ length l → take 4 (drop j (drop k l)) ≡ word_bytes (word_at l (k + j))
    part j g = ap (take 4) (drop-drop j k l) ∙ take_word l (k + j) g

pub take_more : (l : List ℕ) (k : ℕ) → k + 16 ≤ length l → take (k + 16) l ≡ take k l ++ state_bytes (state_at l k)
take_more l k h = take-add k 16 l ∙ ap (λ (x : List ℕ). take k l ++ x) (take_state l k h)

pub state_front : (A D : List ℕ) (j : ℕ) → j + 16 ≤ length A → state_at (A ++ D) j ≡ state_at A j
unfolding state_at
state_front A D j h = cc (front A D j (omega arith), front A D (j + 4) (omega arith), front A D (j + 8) (omega arith), front A D (j + 12) (omega arith))

-- a block of the first part of a list, and one of the rest
pub state_part : (l : List ℕ) (n j : ℕ) → j + 16 ≤ length (take n l) → state_at (take n l) j ≡ state_at l j
state_part l n j h = sym (state_front (take n l) (drop n l) j h) ∙ ap (λ (x : List ℕ). state_at x j) (take-append-drop n l)

pub state_rest : (l : List ℕ) (n j : ℕ) → state_at (drop n l) j ≡ state_at l (n + j)
unfolding state_at word_at
state_rest l n j = simp (get_or-drop, add_assoc)

-- a block after a list
module _ (A xs : List ℕ) (n : ℕ) (e : length A ≡ n) where
  pub get_d_after : (k j : ℕ) → k ≡ n + j → get_or (A ++ xs) k 0 ≡ get_or xs j 0
  get_d_after k j h = ap (λ (m : ℕ). get_or (A ++ xs) m 0) (h ∙ ap (λ (m : ℕ). m + j) (sym e)) ∙ get_or-append-add A xs j 0

  word_after : (k j : ℕ) → k ≡ n + j → word_at (A ++ xs) k ≡ word_at xs j
  unfolding word_at
  word_after k j h =
      let h₁ : k + 1 ≡ n + (j + 1) = omega arith in
      let h₂ : k + 2 ≡ n + (j + 2) = omega arith in
      let h₃ : k + 3 ≡ n + (j + 3) = omega arith in
      cc (get_d_after k j h, get_d_after (k + 1) (j + 1) h₁, get_d_after (k + 2) (j + 2) h₂, get_d_after (k + 3) (j + 3) h₃)

  pub blocks_after : state_at (A ++ xs) n ≡ state_at xs 0
  unfolding state_at
  blocks_after = cc (word_after n 0 (omega arith), word_after (n + 4) 4 refl, word_after (n + 8) 8 refl, word_after (n + 12) 12 refl)

pub state_after : (A : List ℕ) (s : State) (n : ℕ) → length A ≡ n → state_at (A ++ state_bytes s) n ≡ s
unfolding state_at word_at state_bytes
state_after A s n e = blocks_after A (state_bytes s) n e

-- ---- a block that a list ends in the middle of

-- zeros past the end change nothing that is read
padded : (l : List ℕ) (k j : ℕ) → get_or (l ++ replicate k 0) j 0 ≡ get_or l j 0
padded l k j =
    elim (dec_lt j (length l)) [
      | yes h ↦ get_or-append l (replicate k 0) 0 j h
      | no h ↦
          let e : length l + (j - length l) ≡ j = omega (arith, h) in
          let z : length l ≤ j = omega (arith, h) in
          ap (λ (i : ℕ). get_or (l ++ replicate k 0) i 0) (sym e) ∙ get_or-append-add l (replicate k 0) (j - length l) 0 ∙ all_same k (j - length l) 0 ∙ sym (get_or-eq_default l 0 z)
    ]

pub padded_at : (l : List ℕ) (k n : ℕ) → state_at (l ++ replicate k 0) n ≡ state_at l n
unfolding state_at word_at
padded_at l k n = simp padded

-- ---- a block that a list ends in the middle of, filled up with the end of another

-- a state by its words
state_eq : {a a' b b' c c' d d' : Word} → a ≡ a' → b ≡ b' → c ≡ c' → d ≡ d'
    → ◌≡◌ {A = State} (record { c0 = a; c1 = b; c2 = c; c3 = d }) (record { c0 = a'; c1 = b'; c2 = c'; c3 = d' })
state_eq p q r s = cc

-- a byte of the list l or, past its end, one of Z: it is read in l with the end of Z after it
byte_filled : (l Z : List ℕ) (n d : ℕ) → length l ≡ n + d → (k j : ℕ) → k ≡ n + j → get_or l k (get_or Z j 0) ≡ get_or (l ++ drop d Z) k 0
byte_filled l Z n d e k j h =
    elim (dec_lt k (length l)) [
      | yes g ↦ get_d_any l k (get_or Z j 0) 0 g ∙ sym (get_or-append l (drop d Z) 0 k g)
      | no g ↦
          let past : length l ≤ k = omega (arith, g) in
          let i : length l + (k - length l) ≡ k = omega (arith, g) in
          let i' : d + (k - length l) ≡ j = omega (arith, g) in
          get_or-eq_default l (get_or Z j 0) past ∙ ap (λ (x : ℕ). get_or Z x 0) (sym i') ∙ sym (get_or-drop d Z (k - length l) 0)
          ∙ sym (get_or-append-add l (drop d Z) (k - length l) 0) ∙ ap (λ (x : ℕ). get_or (l ++ drop d Z) x 0) i
    ]

word_filled : (l Z : List ℕ) (n d : ℕ) → length l ≡ n + d → (k j : ℕ) → k ≡ n + j → filled_word l k (word_at Z j) ≡ word_at (l ++ drop d Z) k
unfolding filled_word word_at
word_filled l Z n d e k j h =
    word_eq (byte_filled l Z n d e k j h) (byte_filled l Z n d e (k + 1) (j + 1) (omega arith)) (byte_filled l Z n d e (k + 2) (j + 2) (omega arith))
    (byte_filled l Z n d e (k + 3) (j + 3) (omega arith))

pub filled_at : (l : List ℕ) (z : State) (n d : ℕ) → length l ≡ n + d → filled l n z ≡ state_at (l ++ drop d (state_bytes z)) n
unfolding filled state_at word_at state_bytes
filled_at l z n d e =
    let word = word_filled l (state_bytes z) n d e in
    state_eq (word n 0 (omega arith)) (word (n + 4) 4 refl) (word (n + 8) 8 refl) (word (n + 12) 12 refl)

-- zeros are what a block is read with
pub zero_filled : (l : List ℕ) (n : ℕ) → filled l n zero_block ≡ state_at l n
unfolding state_at word_at filled filled_word
zero_filled l n = refl

-- its bytes: those that are left of the list, and then the other block's
module _ (l : List ℕ) (z : State) (n d : ℕ) (e : length l ≡ n + d) (h : d ≤ 16) where
  filled_bytes : state_bytes (filled l n z) ≡ drop n l ++ drop d (state_bytes z)
  filled_bytes =
      let Z : List ℕ = drop d (state_bytes z) in
      let k : n + 16 ≤ length (l ++ Z) = simp (length-append, length-drop) (omega (arith, length_state z)) in
      let k' : length (drop n l ++ Z) ≤ 16 = simp (length-append, length-drop) (omega (arith, length_state z)) in
      ap state_bytes (filled_at l z n d e) ∙ sym (take_state (l ++ Z) n k) ∙ ap (take 16) (drop-append-le n l Z (omega arith)) ∙ take_all 16 (drop n l ++ Z) k'

  left : length (drop n l) ≡ d
  left = simp length-drop (omega arith)

  pub filled_front : take d (state_bytes (filled l n z)) ≡ drop n l
  filled_front = ap (take d) filled_bytes ∙ take_at (drop n l) (drop d (state_bytes z)) d left

  pub filled_end : drop d (state_bytes (filled l n z)) ≡ drop d (state_bytes z)
  filled_end = ap (drop d) filled_bytes ∙ drop_at (drop n l) (drop d (state_bytes z)) d left

-- a block that was cut is whole again where the other one ends as it did
pub filled_again : (A : List ℕ) (s z : State) (n d : ℕ) → length A ≡ n → d ≤ 16 → drop d (state_bytes s) ≡ drop d (state_bytes z) → filled (A ++ take d (state_bytes s)) n z ≡ s
filled_again A s z n d e h g =
    let S : List ℕ = state_bytes s in
    let k : length (A ++ take d S) ≡ n + d = simp (length-append, length-take) (omega (arith, length_state s)) in
    filled_at (A ++ take d S) z n d k ∙ ap (λ (x : List ℕ). state_at ((A ++ take d S) ++ x) n) (sym g)
    ∙ ap (λ (x : List ℕ). state_at x n) (append_assoc A (take d S) (drop d S) ∙ ap (λ (x : List ℕ). A ++ x) (take-append-drop d S)) ∙ state_after A s n e

pub filled_state_bytes : (l : List ℕ) → ByteList l → (z : State) → ByteState z → (n : ℕ) → n ≤ length l → ByteState (filled l n z)
filled_state_bytes l hl z hz n h =
    let d : ℕ = length l - n in
    let Z : List ℕ = drop d (state_bytes z) in
    subst (λ (s : State). ByteState s) (sym (filled_at l z n d (omega arith)))
    (state_at_bytes (l ++ Z) (append_bytes l Z hl (drop_bytes d (state_bytes z) (state_bytes_bytes z hz))) n)

-- ---- the end of a sum of two blocks is made of theirs

added_bytes : (s k : State) → state_bytes (add_round_key s k) ≡ zip_with ◌⊕◌ (state_bytes s) (state_bytes k)
unfolding state_bytes add_round_key add_word zip_with
added_bytes s k = refl

drop_sums : (d : ℕ) (x y : List ℕ) → drop d (zip_with ◌⊕◌ x y) ≡ zip_with ◌⊕◌ (drop d x) (drop d y)
unfolding zip_with
drop_sums zero x y = refl
drop_sums (suc d) [] y = refl
drop_sums (suc d) (a ∷ x) [] = sym (none (drop d x))
  where
    none : (l : List ℕ) → zip_with ◌⊕◌ l [] ≡ []
    none [] = refl
    none (a ∷ l) = refl
drop_sums (suc d) (a ∷ x) (b ∷ y) = drop_sums d x y

pub end_added : (s s' k k' : State) (d : ℕ) → drop d (state_bytes s) ≡ drop d (state_bytes s') → drop d (state_bytes k) ≡ drop d (state_bytes k')
    → drop d (state_bytes (add_round_key s k)) ≡ drop d (state_bytes (add_round_key s' k'))
end_added s s' k k' d e f =
    ends s k ∙ ap₂ (zip_with ◌⊕◌) e f ∙ sym (ends s' k')
  where
    ends : (u v : State) → drop d (state_bytes (add_round_key u v)) ≡ zip_with ◌⊕◌ (drop d (state_bytes u)) (drop d (state_bytes v))
    ends u v = ap (drop d) (added_bytes u v) ∙ drop_sums d (state_bytes u) (state_bytes v)

-- zeros add nothing, and a block added to itself is zeros
pub added_to_zero : (s : State) → add_round_key zero_block s ≡ s
unfolding add_round_key add_word
added_to_zero s = simp zero_⊕

pub added_to_itself : (s : State) → add_round_key s s ≡ zero_block
unfolding add_round_key add_word
added_to_itself s = simp ⊕-self
