-- What a line is answered, by the request that it makes; and what the answer `error 18 EXDEV` proves: it is said exactly to a line that makes a request which is refused with
-- 18, so to a link, rename or exchange by which an encrypted directory would have gained what lacks its policy (volume/specs/PolicyClause.antt). Assumes nothing.
use Rattle.std.specs.Prelude.{ℕ, ◌<◌, ◌≡◌, ◌≢◌, ◌⊎◌, ◌↔◌, Bool, cond, [], ◌++◌, get_or, Option, Some, None}
use Rattle.lists.specs.Bytes.{Bytes, ByteList}
use Rattle.fscrypt.specs.Cipher.{fscrypt}
use Rattle.volume.specs.Request.{Request, Answer, refused}
use Rattle.volume.specs.Sound.{Sound}
use Rattle.volume.specs.PolicyClause.{GivesRefusal, WouldMisplace}
use Rattle.volume.specs.declared.Volume.{Volume}
use Rattle.script.specs.Text.{text}
use Rattle.lines.specs.Answers.{answer_text, saying}
use Rattle.lines.specs.Lines.{told_to, without_return, is_skipped, asked, ended, answered}

-- the request that a line makes, if it makes one
unfoldable pub request_in : Bytes → Option Request
request_in line = let l = without_return line in cond (is_skipped l) None (asked l)

pub record Evidence : Type 0 where
  -- a line is answered as the request that it makes; one that makes none is skipped, or malformed
  pub by_request : (v : Volume) (line : Bytes) → answered v line ≡ cond (is_skipped (without_return line)) (saying [] v) (ended (told_to v (request_in line)))
  -- a line of bytes leaves a sound volume sound
  pub stays_sound : (v : Volume) → Sound v → (line : Bytes) → ByteList line → Sound (answered v line).volume
  -- an answer is one line of a log: its last byte is a newline, and no other
  pub one_line : (v : Volume) (line : Bytes)
      → ((answered v line).said ≡ []) ⊎ ((t : Bytes) × ((i : ℕ) → get_or t i 0 ≢ 10) × ((answered v line).said ≡ t ++ text "\n"))
  -- the number is read off the text: no other answer is written so
  pub by_text : (block : Bool) (a : Answer) (b : Bytes) → (answer_text block a b ≡ text "error 18 EXDEV") ↔ (a ≡ refused 18)
  -- a line is answered so exactly where it makes a request that is refused with 18
  pub by_line : (v : Volume) (line : Bytes)
      → ((answered v line).said ≡ text "error 18 EXDEV\n") ↔ ((r : Request) × (request_in line ≡ Some r) × GivesRefusal fscrypt v r)
  -- by that request an encrypted directory would have gained what lacks its policy, and the volume is as it was
  pub misplaced : (v : Volume) (line : Bytes) → (answered v line).said ≡ text "error 18 EXDEV\n"
      → (r : Request) × (request_in line ≡ Some r) × WouldMisplace v r × ((answered v line).volume ≡ v)
  -- on a sound volume the directory is one, and the inode is there
  pub on_sound : (v : Volume) → Sound v → (line : Bytes) → (answered v line).said ≡ text "error 18 EXDEV\n"
      → (r : Request) × (request_in line ≡ Some r) × (w : WouldMisplace v r) × (w.dir.kind ≡ 1) × (0 < w.node.kind)
