-- A hex digit by the range that its number is in.
-- Assumes nothing.
use Prim.Native.Nat.{ℕ, ◌+◌, ◌≤◌, ◌<◌}
use mathlib.Core.Path.{◌≡◌}
use borrow.Author.Tests.{lt-ltb, le-ltb}
use Rattle.lists.specs.Bytes.{hex_digit}

pub hex_low : (n : ℕ) → n < 10 → n + 48 ≡ hex_digit n
unfolding hex_digit
hex_low n h = rw (lt-ltb n 10 h)

pub hex_high : (n : ℕ) → 10 ≤ n → n + 87 ≡ hex_digit n
unfolding hex_digit
hex_high n h = rw (le-ltb n 10 h)
