-- Words of four bytes: the columns of the state and the words of the key schedule, FIPS 197 sections 3.5, 5.1 to 5.3. Assumes nothing.
use Rattle.std.specs.Prelude.{List, ℕ, ◌+◌, get_or}
use Rattle.field.specs.Field.{◌⊕◌, dot}
use Rattle.field.specs.SBox.{s_box, inv_s_box}
use Rattle.aes.specs.declared.Word.{Word}

-- the word whose bytes start at a position of a list; past the list's end it has zeros
unfoldable pub word_at : List ℕ → ℕ → Word
word_at l i = record { r0 = get_or l i 0; r1 = get_or l (i + 1) 0; r2 = get_or l (i + 2) 0; r3 = get_or l (i + 3) 0 }

unfoldable pub add_word : Word → Word → Word
add_word w k = record { r0 = w.r0 ⊕ k.r0; r1 = w.r1 ⊕ k.r1; r2 = w.r2 ⊕ k.r2; r3 = w.r3 ⊕ k.r3 }

-- RotWord (5.10)
unfoldable pub rot_word : Word → Word
rot_word w = record { r0 = w.r1; r1 = w.r2; r2 = w.r3; r3 = w.r0 }

-- SubWord (5.11)
unfoldable pub sub_word : Word → Word
sub_word w = record { r0 = s_box w.r0; r1 = s_box w.r1; r2 = s_box w.r2; r3 = s_box w.r3 }

unfoldable pub inv_sub_word : Word → Word
inv_sub_word w = record { r0 = inv_s_box w.r0; r1 = inv_s_box w.r1; r2 = inv_s_box w.r2; r3 = inv_s_box w.r3 }

-- a column of MixColumns: the matrix of (5.7) times the column
unfoldable pub mix_column : Word → Word
mix_column w =
    record {
      r0 = dot 0x02 0x03 0x01 0x01 w.r0 w.r1 w.r2 w.r3;
      r1 = dot 0x01 0x02 0x03 0x01 w.r0 w.r1 w.r2 w.r3;
      r2 = dot 0x01 0x01 0x02 0x03 w.r0 w.r1 w.r2 w.r3;
      r3 = dot 0x03 0x01 0x01 0x02 w.r0 w.r1 w.r2 w.r3;
    }

-- a column of InvMixColumns: the matrix of (5.14) times the column
unfoldable pub inv_mix_column : Word → Word
inv_mix_column w =
    record {
      r0 = dot 0x0e 0x0b 0x0d 0x09 w.r0 w.r1 w.r2 w.r3;
      r1 = dot 0x09 0x0e 0x0b 0x0d w.r0 w.r1 w.r2 w.r3;
      r2 = dot 0x0d 0x09 0x0e 0x0b w.r0 w.r1 w.r2 w.r3;
      r3 = dot 0x0b 0x0d 0x09 0x0e w.r0 w.r1 w.r2 w.r3;
    }
