-- Blocks that modes of operation start from: the block of zeros, and a data unit's number as a block, IEEE 1619 section 5.1. Assumes nothing.
use Rattle.std.specs.Prelude.{ℕ, ◌/◌, ◌%◌}
use Rattle.aes.specs.declared.Word.{Word}
use Rattle.aes.specs.declared.State.{State}

abbrev pub zero_word : Word
zero_word = record { r0 = 0; r1 = 0; r2 = 0; r3 = 0 }

abbrev pub zero_block : State
zero_block = record { c0 = zero_word; c1 = zero_word; c2 = zero_word; c3 = zero_word }

-- ---- the number's 8 bytes, the lowest first, and 8 zeros

unfoldable pub low_word : ℕ → Word
low_word n = record { r0 = n % 256; r1 = n / 256 % 256; r2 = n / 65536 % 256; r3 = n / 16777216 % 256 }

unfoldable pub number_block : ℕ → State
number_block n = record { c0 = low_word n; c1 = low_word (n / 4294967296); c2 = zero_word; c3 = zero_word }
