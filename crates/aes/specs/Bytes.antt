-- Words and states as bytes of a list, FIPS 197 section 3.4. Assumes nothing.
use Rattle.std.specs.Prelude.{List, [], ◌∷◌, ◌++◌, ℕ, ◌+◌, length, take, drop}
use Rattle.aes.specs.declared.Word.{Word}
use Rattle.aes.specs.declared.State.{State}

abbrev pub word_bytes : Word → List ℕ
word_bytes w = w.r0 ∷ w.r1 ∷ w.r2 ∷ w.r3 ∷ []

-- the state's 16 bytes, column after column
unfoldable pub state_bytes : State → List ℕ
state_bytes s = word_bytes s.c0 ++ word_bytes s.c1 ++ word_bytes s.c2 ++ word_bytes s.c3

-- the list with the bytes xs in place of its own from a position on
unfoldable pub put_at : List ℕ → ℕ → List ℕ → List ℕ
put_at l i xs = take i l ++ xs ++ drop (i + length xs) l
