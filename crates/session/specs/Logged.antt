-- What is said to the lines of an input proves: whatever bytes have come, the volume is sound; and where `error 18 EXDEV` is then said, the line that ends makes a request that is
-- refused with 18, by which, its later checks aside, an encrypted directory would have gained a regular file, directory or symlink that lacks its policy
-- (volume/specs/PolicyClause.antt). Assumes nothing.
use Rattle.std.specs.Prelude.{ℕ, ◌<◌, ◌≡◌, Some}
use Rattle.lists.specs.Bytes.{Bytes, ByteList}
use Rattle.fscrypt.specs.Cipher.{fscrypt}
use Rattle.volume.specs.Request.{Request}
use Rattle.volume.specs.Sound.{Sound}
use Rattle.volume.specs.PolicyClause.{GivesRefusal, WouldMisplace}
use Rattle.script.specs.Text.{text}
use Rattle.lines.specs.Evidence.{request_in}
use Rattle.session.specs.Input.{Session, begun, ending, fed_all, said_at}

-- the line of a session makes a request that is refused with 18; the directory is one, and the inode is there
abbrev pub Proves : Session → Type 0
Proves s = (r : Request) × (request_in s.line ≡ Some r) × GivesRefusal fscrypt s.volume r × (w : WouldMisplace s.volume r) × (w.dir.kind ≡ 1) × (0 < w.node.kind)

pub record Logged : Type 0 where
  pub sound : (t : Bytes) → ByteList t → Sound (fed_all begun t).volume
  -- where the line ends, or the input
  pub at_end : (t : Bytes) → ByteList t → (ending (fed_all begun t)).said ≡ text "error 18 EXDEV\n" → Proves (fed_all begun t)
  -- at each byte that comes next
  pub at_byte : (t : Bytes) (b : ℕ) → ByteList t → said_at (fed_all begun t) b ≡ text "error 18 EXDEV\n" → Proves (fed_all begun t)
