-- A key schedule, as callers see it. Assumes nothing.
use Rattle.std.specs.Prelude.{List, ℕ, ◌/◌, length}
use Rattle.aes.specs.KeyExpansion.{key_expansion, rounds_of}

-- FIPS 197's w, as bytes, and Nr
pub record Schedule : Type 0 where
  pub bytes : List ℕ
  pub rounds : ℕ

-- that of a key
abbrev pub schedule : List ℕ → Schedule
schedule key = record { bytes = key_expansion key; rounds = rounds_of (length key / 4) }
