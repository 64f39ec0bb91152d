-- The bytes of an input, cut into lines, and what a buffer keeps of a line. Quotations are the request script's. Assumes nothing.
use Rattle.std.specs.Prelude.{ℕ, ◌+◌, ◌-◌, ◌≤◌, min, ◌≡◌, Bool, cond, [], ◌∷◌, ◌++◌, length, get_or, take, set, eqb, ltb}
use Rattle.lists.specs.Bytes.{Bytes, first_at}
use Rattle.script.specs.Words.{is_blank}
use Rattle.script.specs.declared.cutting.Cut.{Cut}

-- "A line ends with a newline"
abbrev pub is_newline : ℕ → Bool
is_newline b = eqb b 10

abbrev pub has_newline : Bytes → Bool
has_newline s = ltb (first_at is_newline s) (length s)

-- the bytes before the next newline, all where there is none
unfoldable pub before_newline : Bytes → Bytes
before_newline s = take (first_at is_newline s) s

-- how many bytes are taken: those up to the next newline, with it
abbrev pub up_to_newline : Bytes → ℕ
up_to_newline s = min (first_at is_newline s + 1) (length s)

-- the last byte, and the bytes with another in its stead
abbrev pub last_of : Bytes → ℕ
last_of k = get_or k (length k - 1) 0

abbrev pub with_last : Bytes → ℕ → Bytes
with_last k b = set k (length k - 1) b

-- One byte more of a line, in a buffer with so much room. A full one has its last byte replaced while that is a blank: it still tells whether a word
-- comes, and how that begins. A carriage return there is not the line's last byte, so it becomes a byte of a word, a full stop (46).
unfoldable pub keep : ℕ → Bytes → ℕ → Bytes
keep room k b =
    cond (ltb (length k) room) (k ++ (b ∷ []))
    (cond (is_blank (last_of k)) (with_last k b)
    (cond (eqb (last_of k) 13) (with_last k 46)
    k))

-- more bytes of a line of which some are kept
unfoldable pub kept_on : ℕ → Bytes → Bytes → Bytes
kept_on room k [] = k
kept_on room k (b ∷ s) = kept_on room (keep room k b) s

-- what is kept of a line
abbrev pub kept : ℕ → Bytes → Bytes
kept room l = kept_on room [] l

-- what becomes of a line, the first `used` bytes of a buffer, where the bytes s come: those before a newline are kept, and they and the newline are taken
abbrev pub Cuts : Bytes → ℕ → Bytes → Bytes → Cut → Type 0
Cuts before used s after c = (c.used ≤ length before) × (take c.used after ≡ kept_on (length before) (take used before) (before_newline s)) × (c.taken ≡ up_to_newline s) × (c.ended ≡ has_newline s)
