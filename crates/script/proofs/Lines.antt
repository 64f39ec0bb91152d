-- A word, and what follows it, is no longer than the line.
-- Assumes nothing.
use Prim.Native.Nat.{◌≤◌}
use native.Mathlib.Omega.{arith}
use lib.ListN.{length, length-take, length-drop}
use Rattle.lists.specs.Bytes.{Bytes, first_at}
use Rattle.script.specs.Words.{is_blank, is_not_blank, trimmed, first_word, after_word}

trimmed_length : (s : Bytes) → length (trimmed s) ≤ length s
unfolding trimmed
trimmed_length s = omega (arith, length-drop (first_at is_not_blank s) s)

pub first_word_length : (s : Bytes) → length (first_word s) ≤ length s
unfolding first_word
first_word_length s = omega (arith, trimmed_length s, length-take (first_at is_blank (trimmed s)) (trimmed s))

pub after_word_length : (s : Bytes) → length (after_word s) ≤ length s
unfolding after_word
after_word_length s = omega (arith, trimmed_length s, length-drop (first_at is_blank (trimmed s)) (trimmed s))

pub ruleset lengths = (first_word_length, after_word_length)
