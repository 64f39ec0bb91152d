-- What is answered to an input, byte by byte. Quotations are the request script's. Assumes nothing.
use Rattle.std.specs.Prelude.{ℕ, ◌≡◌, cond, [], ◌∷◌, ◌++◌, length, take}
use Rattle.lists.specs.Bytes.{Bytes}
use Rattle.volume.specs.Volume.{fresh}
use Rattle.volume.specs.declared.Volume.{Volume}
use Rattle.script.specs.Cutting.{is_newline, kept}
use Rattle.lines.specs.Answers.{Said}
use Rattle.lines.specs.Lines.{answered}
use Rattle.session.specs.declared.input.Reader.{Reader}

-- the volume, and the bytes so far of the line that has begun
pub record Session : Type 0 where
  pub volume : Volume
  pub line : Bytes

abbrev pub session : Volume → Bytes → Session
session v l = record { volume = v; line = l }

-- "one fresh volume"
abbrev pub begun : Session
begun = session fresh []

-- the end of a line, or of the input: "A line ends with a newline (the last one may lack it"
abbrev pub ending : Session → Said
ending s = answered s.volume s.line

-- one byte more, and what is said to it
unfoldable pub fed : Session → ℕ → Session
fed s b = cond (is_newline b) (session (ending s).volume []) (session s.volume (s.line ++ (b ∷ [])))

unfoldable pub said_at : Session → ℕ → Bytes
said_at s b = cond (is_newline b) (ending s).said []

-- the bytes of an input, one after the other, and what is said to them, "at once and in order"
unfoldable pub fed_all : Session → Bytes → Session
fed_all s [] = s
fed_all s (b ∷ t) = fed_all (fed s b) t

unfoldable pub said_all : Session → Bytes → Bytes
said_all s [] = []
said_all s (b ∷ t) = said_at s b ++ said_all (fed s b) t

-- all that is said to an input. Where its last byte is a newline, the line that is left is empty: it has no word, and no answer.
unfoldable pub transcript : Bytes → Bytes
transcript t = said_all begun t ++ (ending (fed_all begun t)).said

-- ---- what code has of a session

-- the volume, and what a buffer keeps of the line: so many bytes at its start
abbrev pub Held : Volume → Bytes → ℕ → Session → Type 0
Held v buffer used s = (v ≡ s.volume) × (take used buffer ≡ kept (length buffer) s.line)

abbrev pub Reads : Reader → Session → Type 0
Reads r s = Held r.volume r.line.now r.used s

-- a session of some bytes, from a fresh volume on
abbrev pub Begun : Reader → Type 0
Begun r = (t : Bytes) × Reads r (fed_all begun t)

-- what code has after some bytes, for whatever session it had before
abbrev pub Feeds : Reader → Bytes → Reader → Type 0
Feeds before t after = (s : Session) → Reads before s → Reads after (fed_all s t)

-- what it says to them
abbrev pub Says : Reader → Bytes → Bytes → Type 0
Says before t text = (s : Session) → Reads before s → text ≡ said_all s t

-- what it says at the end of a line, and the volume then; of the next line it has nothing
abbrev pub Ends : Reader → Reader → Bytes → Type 0
Ends before after text = (after.used ≡ 0) × ((s : Session) → Reads before s → (after.volume ≡ (ending s).volume) × (text ≡ (ending s).said))

-- a volume at the end of some input
abbrev pub Ran : Volume → Type 0
Ran v = (t : Bytes) × (v ≡ (ending (fed_all begun t)).volume)
