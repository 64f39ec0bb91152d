-- The words of a line: "Words are separated by one or more spaces or tabs." Assumes nothing.
use Rattle.std.specs.Prelude.{ℕ, Bool, not, ◌||◌, take, drop, eqb}
use Rattle.lists.specs.Bytes.{Bytes, first_at}

-- a space or a tab
abbrev pub is_blank : ℕ → Bool
is_blank b = eqb b 32 || eqb b 9

abbrev pub is_not_blank : ℕ → Bool
is_not_blank b = not (is_blank b)

-- without the blanks at the start
unfoldable pub trimmed : Bytes → Bytes
trimmed s = drop (first_at is_not_blank s) s

-- the first word, empty where there is none
unfoldable pub first_word : Bytes → Bytes
first_word s = let t = trimmed s in take (first_at is_blank t) t

-- what follows the first word
unfoldable pub after_word : Bytes → Bytes
after_word s = let t = trimmed s in drop (first_at is_blank t) t
