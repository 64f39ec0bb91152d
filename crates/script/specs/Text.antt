-- Quoted text as bytes, text put into a buffer, and bytes in a range. Assumes nothing.
use Rattle.std.specs.Prelude.{ℕ, ◌+◌, ◌≡◌, Bool, ◌&&◌, [], ◌∷◌, length, leb}
use Prim.Native.Char.{code}
use Prim.Native.String.{String}
use Rattle.std.proofs.lemmas.List.Edits.{sets}
use Rattle.lists.specs.Bytes.{Bytes}

-- the characters' codes, one byte each: it is used of ASCII alone
abbrev pub text : String → Bytes
text String.[] = []
text (String.◌∷◌ c s) = code c ∷ text s

-- a byte from the first number to the second
abbrev pub is_within : ℕ → ℕ → ℕ → Bool
is_within low high b = leb low b && leb b high

-- a text is put into a buffer at a position, and ends at another
abbrev pub Puts : Bytes → ℕ → Bytes → Bytes → ℕ → Type 0
Puts before at t after end = (end ≡ at + length t) × (after ≡ sets before at t)
