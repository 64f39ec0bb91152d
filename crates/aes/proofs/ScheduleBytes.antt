-- What is made of bytes is bytes: the lists of words and states, the words and states read in a list, and an expanded key. Assumes nothing.
use mathlib.Core.Bool.{Bool, true, false, cond}
use mathlib.Core.List.{List, [], ◌∷◌, ◌++◌}
use Prim.Native.Nat.{ℕ, zero, suc, ◌+◌, ◌-◌, ◌*◌, ◌/◌, ◌%◌, ◌<◌}
use lib.Dec.{eqb, ltb, lit<}
use lib.ListN.{length}
use Rattle.aes.specs.Words.{word_at, add_word, sub_word, rot_word}
use Rattle.aes.specs.States.{state_at}
use Rattle.aes.specs.Bytes.{word_bytes, state_bytes}
use Rattle.lists.specs.Bytes.{ByteList}
use Rattle.lists.proofs.ByteStrings.{nil_bytes, cons_bytes, append_bytes}
use Rattle.aes.specs.KeyExpansion.{x_power, rcon, temp, next_word, expanded, key_expansion}
use Rattle.aes.specs.declared.Word.{Word}
use Rattle.aes.specs.declared.State.{State}
use Rattle.field.proofs.Xor.{x_times_lt}
use Rattle.aes.proofs.ByteStates.{ByteWord, ByteState, sub_word_bytes, add_word_bytes}

-- ---- words and states

pub word_bytes_bytes : (w : Word) → ByteWord w → ByteList (word_bytes w)
word_bytes_bytes w h =
    cons_bytes w.r0 (w.r1 ∷ w.r2 ∷ w.r3 ∷ []) h.r0
    (cons_bytes w.r1 (w.r2 ∷ w.r3 ∷ []) h.r1 (cons_bytes w.r2 (w.r3 ∷ []) h.r2 (cons_bytes w.r3 [] h.r3 nil_bytes)))

pub state_bytes_bytes : (s : State) → ByteState s → ByteList (state_bytes s)
unfolding state_bytes
state_bytes_bytes s h =
    append_bytes (word_bytes s.c0 ++ word_bytes s.c1 ++ word_bytes s.c2) (word_bytes s.c3)
    (append_bytes (word_bytes s.c0 ++ word_bytes s.c1) (word_bytes s.c2)
    (append_bytes (word_bytes s.c0) (word_bytes s.c1) (word_bytes_bytes s.c0 h.c0) (word_bytes_bytes s.c1 h.c1))
    (word_bytes_bytes s.c2 h.c2))
    (word_bytes_bytes s.c3 h.c3)

pub word_at_bytes : (l : List ℕ) → ByteList l → (k : ℕ) → ByteWord (word_at l k)
unfolding word_at
word_at_bytes l bytes k = record { r0 = bytes _; r1 = bytes _; r2 = bytes _; r3 = bytes _ }

pub state_at_bytes : (l : List ℕ) → ByteList l → (k : ℕ) → ByteState (state_at l k)
unfolding state_at
state_at_bytes l bytes k =
    record { c0 = word_at_bytes l bytes _; c1 = word_at_bytes l bytes _; c2 = word_at_bytes l bytes _; c3 = word_at_bytes l bytes _ }

-- ---- the expanded key

x_power_lt : (n : ℕ) → x_power n < 256
unfolding x_power
x_power_lt zero = lit< tt
x_power_lt (suc n) = x_times_lt _ (x_power_lt n)

rcon_bytes : (j : ℕ) → ByteWord (rcon j)
unfolding rcon
rcon_bytes j = record { r0 = x_power_lt _; r1 = lit< tt; r2 = lit< tt; r3 = lit< tt }

rot_word_bytes : (w : Word) → ByteWord w → ByteWord (rot_word w)
unfolding rot_word
rot_word_bytes w h = record { r0 = h.r1; r1 = h.r2; r2 = h.r3; r3 = h.r0 }

cond_bytes : (t : Bool) (v w : Word) → ByteWord v → ByteWord w → ByteWord (cond t v w)
cond_bytes true v w h g = h
cond_bytes false v w h g = g

temp_bytes : (nk i : ℕ) (t : Word) → ByteWord t → ByteWord (temp nk i t)
unfolding temp
temp_bytes nk i t h =
    cond_bytes (eqb (i % nk) 0) (add_word (sub_word (rot_word t)) (rcon (i / nk))) (cond (ltb 6 nk) (cond (eqb (i % nk) 4) (sub_word t) t) t)
    (add_word_bytes _ _ (sub_word_bytes _ (rot_word_bytes t h)) (rcon_bytes (i / nk)))
    (cond_bytes (ltb 6 nk) (cond (eqb (i % nk) 4) (sub_word t) t) t (cond_bytes (eqb (i % nk) 4) (sub_word t) t (sub_word_bytes t h) h) h)

next_word_bytes : (nk : ℕ) (key w : List ℕ) (i : ℕ) → ByteList key → ByteList w → ByteWord (next_word nk key w i)
unfolding next_word
next_word_bytes nk key w i h g =
    cond_bytes (ltb i nk) (word_at key (4 * i)) (add_word (word_at w (4 * (i - nk))) (temp nk i (word_at w (4 * i - 4)))) (word_at_bytes key h _)
    (add_word_bytes _ _ (word_at_bytes w g _) (temp_bytes nk i _ (word_at_bytes w g _)))

expanded_bytes : (nk : ℕ) (key : List ℕ) → ByteList key → (i : ℕ) → ByteList (expanded nk key i)
unfolding expanded
expanded_bytes nk key h zero = nil_bytes
expanded_bytes nk key h (suc i) =
    append_bytes (expanded nk key i) (word_bytes (next_word nk key (expanded nk key i) i)) (expanded_bytes nk key h i)
    (word_bytes_bytes (next_word nk key (expanded nk key i) i) (next_word_bytes nk key (expanded nk key i) i h (expanded_bytes nk key h i)))

pub key_expansion_bytes : (key : List ℕ) → ByteList key → ByteList (key_expansion key)
unfolding key_expansion
key_expansion_bytes key h = expanded_bytes (length key / 4) key h (4 * (length key / 4 + 6 + 1))
