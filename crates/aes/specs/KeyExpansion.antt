-- KeyExpansion, FIPS 197 section 5.2, algorithm 2, for a key of nk words. The schedule is kept as bytes: word i is bytes 4 i to 4 i + 3.
-- Assumes nothing.
use Rattle.std.specs.Prelude.{◌≡◌, cond, List, [], ◌++◌, ℕ, zero, suc, ◌+◌, ◌-◌, ◌*◌, ◌/◌, ◌%◌, ◌≤◌, eqb, ltb, length}
use Rattle.field.specs.Field.{x_times}
use Rattle.aes.specs.Words.{sub_word, rot_word, add_word, word_at}
use Rattle.aes.specs.Bytes.{word_bytes}
use Rattle.aes.specs.declared.Word.{Word}

-- a key of nk words, 4 to 8 of them
pub record KeySize (bytes : ℕ) : Type 0 where
  pub words : bytes ≡ 4 * (bytes / 4)
  pub least : 16 ≤ bytes
  pub most : bytes ≤ 32

-- x^n, x being {02}
unfoldable pub x_power : ℕ → ℕ
x_power zero = 1
x_power (suc n) = x_times (x_power n)

-- Rcon[j] (table 5): x^(j - 1) and three zeros
unfoldable pub rcon : ℕ → Word
rcon j = record { r0 = x_power (j - 1); r1 = 0; r2 = 0; r3 = 0 }

-- lines 9 to 13: temp, made of w[i - 1]
unfoldable pub temp : ℕ → ℕ → Word → Word
temp nk i t =
    cond (eqb (i % nk) 0) (add_word (sub_word (rot_word t)) (rcon (i / nk))) (cond (ltb 6 nk) (cond (eqb (i % nk) 4) (sub_word t) t) t)

-- w[i], after the words w: a word of the key (lines 3 to 4), or w[i - nk] with temp added (lines 8 to 14)
unfoldable pub next_word : ℕ → List ℕ → List ℕ → ℕ → Word
next_word nk key w i = cond (ltb i nk) (word_at key (4 * i)) (add_word (word_at w (4 * (i - nk))) (temp nk i (word_at w (4 * i - 4))))

-- the first i words
unfoldable pub expanded : ℕ → List ℕ → ℕ → List ℕ
expanded nk key zero = []
expanded nk key (suc i) = expanded nk key i ++ word_bytes (next_word nk key (expanded nk key i) i)

-- the number of rounds of a key of nk words (table 3): 10 of 4 words, 14 of 8
abbrev pub rounds_of : ℕ → ℕ
rounds_of nk = nk + 6

-- KeyExpansion: four words for each of the nr + 1 round keys
unfoldable pub key_expansion : List ℕ → List ℕ
key_expansion key = expanded (length key / 4) key (4 * (rounds_of (length key / 4) + 1))
