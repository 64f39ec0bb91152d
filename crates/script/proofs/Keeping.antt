-- What a buffer keeps of a line, byte by byte: the ways of `keep`, bytes that come in parts, and how much is kept.
-- Assumes nothing.
use Prim.Native.Nat.{ℕ, ◌+◌, ◌-◌, ◌≤◌, ◌<◌, min}
use native.Mathlib.Numerals.{add-one}
use native.Mathlib.Omega.{arith}
use mathlib.Core.Path.{◌≡◌, refl, sym, ◌∙◌, ap}
use mathlib.Core.Bool.{Bool, true, false, cond}
use mathlib.Core.List.{[], ◌∷◌, ◌++◌, append-nil}
use lib.ListN.{length, take, get_or, set, length-take, length-set, length-append}
use lib.Seq.{take_all, take-suc, take-suc-set, append_snoc}
use lib.Dec.{eqb, ltb}
use borrow.Author.Tests.{lt-ltb, le-ltb, ltb-true, ltb-false, eq-eqb, ne_eqb}
use Rattle.lists.specs.Bytes.{Bytes}
use Rattle.script.specs.Words.{is_blank}
use Rattle.script.specs.Cutting.{last_of, with_last, keep, kept_on}

-- ---- the ways of `keep`

pub keep_room : (room : ℕ) (k : Bytes) (b : ℕ) → length k < room → keep room k b ≡ k ++ (b ∷ [])
unfolding keep
keep_room room k b h = rw (lt-ltb _ _ h)

module _ (room : ℕ) (k : Bytes) (b : ℕ) (h : room ≤ length k) where
  pub keep_blank : is_blank (last_of k) ≡ true → keep room k b ≡ with_last k b
  unfolding keep
  keep_blank t = rw (le-ltb _ _ h, t)

  pub keep_return : is_blank (last_of k) ≡ false → last_of k ≡ 13 → keep room k b ≡ with_last k 46
  unfolding keep
  keep_return t e = rw (le-ltb _ _ h, t, eq-eqb _ _ e)

  pub keep_word : is_blank (last_of k) ≡ false → (last_of k ≡ 13 → ⊥) → keep room k b ≡ k
  unfolding keep
  keep_word t e = rw (le-ltb _ _ h, t, ne_eqb _ _ e)

-- ---- a buffer and the byte that comes

module _ (line : Bytes) (used b : ℕ) where
  pub store_room : used < length line → take (used + 1) (set line used b) ≡ keep (length line) (take used line) b
  store_room h = rw add-one (take-suc-set line used b h ∙ sym (keep_room _ _ _ (omega (arith, length-take used line))))

  module _ (h : length line ≤ used) where
    full : keep (length line) line b ≡ keep (length line) (take used line) b
    full = ap (λ (k : Bytes). keep (length line) k b) (sym (take_all used line h))

    whole : (a : ℕ) → take used (with_last line a) ≡ with_last line a
    whole a = take_all used (with_last line a) (omega (arith, length-set line (length line - 1) a))

    pub store_blank : is_blank (last_of line) ≡ true → take used (with_last line b) ≡ keep (length line) (take used line) b
    store_blank t = whole b ∙ sym (keep_blank _ line b (omega arith) t) ∙ full

    pub store_return : is_blank (last_of line) ≡ false → last_of line ≡ 13 → take used (with_last line 46) ≡ keep (length line) (take used line) b
    store_return t e = whole 46 ∙ sym (keep_return _ line b (omega arith) t e) ∙ full

    pub store_word : is_blank (last_of line) ≡ false → (last_of line ≡ 13 → ⊥) → take used line ≡ keep (length line) (take used line) b
    store_word t e = take_all used line h ∙ sym (keep_word _ line b (omega arith) t e) ∙ full

-- what `add_byte` does, in the order of its code
pub ruleset stores = (store_room, store_blank, store_return, store_word)

-- ---- bytes that come in parts

pub kept_on_append : (room : ℕ) (k s t : Bytes) → kept_on room k (s ++ t) ≡ kept_on room (kept_on room k s) t
unfolding kept_on
kept_on_append room k [] t = refl
kept_on_append room k (b ∷ s) t = kept_on_append room (keep room k b) s t

-- one byte more of a line: what is kept of the first i, and then of the next
module _ (room : ℕ) (k s : Bytes) (i : ℕ) (h : i < length s) where
  pub kept_on_next : keep room (kept_on room k (take i s)) (get_or s i 0) ≡ kept_on room k (take (i + 1) s)
  unfolding kept_on
  kept_on_next = sym (rw (add-one, take-suc s i 0 h) (kept_on_append room k (take i s) (get_or s i 0 ∷ [])))

-- ---- how much is kept: all that there is room for

keep_length : (room : ℕ) (k : Bytes) (b : ℕ) → length k ≤ room → length (keep room k b) ≡ min room (length k + 1)
unfolding keep
keep_length room k b h = go (ltb (length k) room) (is_blank (last_of k)) (eqb (last_of k) 13) refl
  where
    go : (t u w : Bool) → ltb (length k) room ≡ t → length (cond t (k ++ (b ∷ [])) (cond u (with_last k b) (cond w (with_last k 46) k))) ≡ min room (length k + 1)
    go true u w e = omega (arith, ltb-true, length-append k (b ∷ []))
    go false true w e = omega (arith, ltb-false, length-set k (length k - 1) b)
    go false false true e = omega (arith, ltb-false, length-set k (length k - 1) 46)
    go false false false e = omega (arith, ltb-false)

pub kept_on_length : (room : ℕ) (k s : Bytes) → length k ≤ room → length (kept_on room k s) ≡ min room (length k + length s)
unfolding kept_on
kept_on_length room k [] h = omega arith
kept_on_length room k (b ∷ s) h = let e = keep_length room k b h in omega (arith, kept_on_length room (keep room k b) s (omega arith))

pub kept_on_short : (room : ℕ) (k s : Bytes) → length k + length s ≤ room → kept_on room k s ≡ k ++ s
unfolding kept_on
kept_on_short room k [] h = sym (append-nil k)
kept_on_short room k (b ∷ s) h =
    let e = keep_room room k b (omega arith) in
    ap (λ (x : Bytes). kept_on room x s) e ∙ kept_on_short room (k ++ (b ∷ [])) s (omega (arith, length-append k (b ∷ []))) ∙ append_snoc k b s
