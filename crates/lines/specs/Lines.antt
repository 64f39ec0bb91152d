-- What is answered to a line, the request script's "Lines and words". Quotations are the request script's. Assumes nothing.
use Rattle.std.specs.Prelude.{ℕ, ◌+◌, ◌*◌, ◌-◌, ◌≤◌, ◌≡◌, Bool, true, false, cond, ◌&&◌, ◌||◌, [], ◌++◌, length, get_or, take, eqb, leb, ltb, Option, Some, None, option_map, option_and_then}
use Rattle.lists.specs.Bytes.{Bytes, zeros, laid_over}
use Rattle.fscrypt.specs.Cipher.{fscrypt}
use Rattle.volume.specs.Request.{Request, add_key, remove_key, set_policy, get_policy, create, link, rename, exchange, remove, find, show, seal, unseal, Lent, no_buffer, key_buffer, name_buffer, block_buffer, lends}
use Rattle.volume.specs.Step.{step}
use Rattle.volume.specs.declared.Volume.{Volume}
use Rattle.ids.specs.declared.InodeNumber.{InodeNumber}
use Rattle.ids.specs.declared.EntryNumber.{EntryNumber}
use Rattle.script.specs.Text.{text}
use Rattle.script.specs.Words.{first_word, after_word}
use Rattle.script.specs.Commands.{verb_of, shape_of, Reading, read_in, read_words}
use Rattle.script.specs.declared.Verb.{Verb}
use Rattle.script.specs.declared.Verb.TheVariants.{AddKey, RemoveKey, SetPolicy, GetPolicy, Create, Link, Rename, Exchange, Remove, Find, Show, Seal, Open}
use Rattle.script.specs.declared.Args.{Args}
use Rattle.lines.specs.Answers.{Said, saying, told, malformed, Written}
use Rattle.lines.specs.declared.text.Text.{Text}
use Rattle.lines.specs.declared.LineAnswer.{LineAnswer}

abbrev pub inode : ℕ → InodeNumber
inode n = record { 0 = n }

abbrev pub entry : ℕ → EntryNumber
entry n = record { 0 = n }

-- the request that a line's words make, if they make one: of the first and second number, the descriptor, the nonce, and the bytes of KEY, POLICY, NAME or BLOCK;
-- "SIZE is the size of the name buffer lent, .., at most 4096 (more is malformed)"
abbrev pub request_of : Verb → Args → Bytes → Option Request
request_of AddKey a t = Some (add_key a.descriptor t)
request_of RemoveKey a t = Some (remove_key a.descriptor)
request_of SetPolicy a t = Some (set_policy (inode a.first) t a.nonce)
request_of GetPolicy a t = Some (get_policy (inode a.first))
request_of Create a t = Some (create (inode a.first) a.second t a.nonce)
request_of Link a t = Some (link (inode a.first) (inode a.second) t)
request_of Rename a t = Some (rename (entry a.first) (inode a.second) t)
request_of Exchange a t = Some (exchange (entry a.first) (entry a.second))
request_of Remove a t = Some (remove (entry a.first))
request_of Find a t = Some (find (inode a.first) t)
request_of Show a t = cond (leb a.second 4096) (Some (show (entry a.first) (zeros a.second))) None
request_of Seal a t = Some (seal (inode a.first) a.second t)
request_of Open a t = Some (unseal (inode a.first) a.second t)

-- a request that lends a block, as seal and open do, answers with it
abbrev pub answers_block : Lent → Bool
answers_block no_buffer = false
answers_block (key_buffer b) = false
answers_block (name_buffer b) = false
answers_block (block_buffer b) = true

-- what is said to a request, or where there is none
abbrev pub told_to : Volume → Option Request → Said
told_to v None = malformed v
told_to v (Some r) = told (answers_block (lends r)) (step fscrypt v r)

unfoldable pub respond : Volume → Verb → Args → Bytes → Said
respond v verb a t = told_to v (request_of verb a t)

-- "one carriage return at the end is dropped"
unfoldable pub without_return : Bytes → Bytes
without_return l = cond (eqb (get_or l (length l - 1) 0) 13) (take (length l - 1) l) l

-- "A line with no word, and one whose first word begins with `#`, is skipped and has no answer."
unfoldable pub is_skipped : Bytes → Bool
is_skipped l = eqb (length (first_word l)) 0 || eqb (get_or (first_word l) 0 0) 35

-- "A line of more than 131,072 bytes (newline and carriage return not counted)"
abbrev pub is_overlong : Bytes → Bool
is_overlong l = ltb 131072 (length l)

-- the words of a line, where each is what it should be: the request's, and what those after it come to
unfoldable pub words_in : Bytes → Option (Verb × Reading)
words_in l =
    cond (is_overlong l) None
    (option_and_then (λ (verb : Verb). option_map (λ (p : Reading). (verb, p)) (read_words (shape_of verb) (after_word l))) (verb_of (first_word l)))

-- the same, where the bytes stand at the start of a buffer
abbrev pub words_beside : Bytes → Verb × Args → Verb × Reading
words_beside buffer w = (w.0, read_in buffer w.1)

-- the request that a line makes, if it makes one and is not skipped
abbrev pub asked : Bytes → Option Request
asked l = option_and_then (λ (w : Verb × Reading). request_of w.0 w.1.args w.1.bytes) (words_in l)

-- a line that is not skipped
unfoldable pub commanded : Volume → Bytes → Said
commanded v l = told_to v (asked l)

-- an answer ends with a newline
abbrev pub ended : Said → Said
ended s = saying (s.said ++ text "\n") s.volume

unfoldable pub answered : Volume → Bytes → Said
answered v line = let l = without_return line in cond (is_skipped l) (saying [] v) (ended (commanded v l))

-- what is said is the buffer's text now, and past it the buffer is as it was
pub record Replies (before after : Text) (v : Volume) (s : Said) : Type 0 where
  pub volume : v ≡ s.volume
  pub buffer : after.out.ghost_name ≡ before.out.ghost_name
  pub len : after.len ≡ length s.said
  pub out : after.out.now ≡ laid_over before.out.now s.said
  pub room : length s.said ≤ length before.out.now

-- the same, with room for one byte more
abbrev pub Responds : Text → Text → Volume → Said → Type 0
Responds before after v s = (v ≡ s.volume) × Written before after s.said

-- ---- a line and any buffers

-- the buffers lent have room for a line of so many bytes: one for the bytes that the line spells, and one for the answer
abbrev pub HasRoom : ℕ → ℕ → ℕ → Type 0
HasRoom line payload out = (line ≤ payload) × (1000 + 2 * line ≤ out)

-- the same, as a test
abbrev pub has_room : ℕ → ℕ → ℕ → Bool
has_room line payload out = leb line payload && leb (1000 + 2 * line) out

-- the answer to a line, and what the two buffers hold then
pub record LineOutcome : Type 0 where
  pub answer : LineAnswer
  pub payload : Bytes
  pub out : Bytes

abbrev pub line_outcome : LineAnswer → Bytes → Bytes → LineOutcome
line_outcome a payload out = record { answer = a; payload = payload; out = out }

-- where there is room: what is said stands at the start of `out`, and as many bytes of `payload` as the line has are zeros; past these the two are as they were
abbrev pub room_outcome : Said → ℕ → Bytes → Bytes → LineOutcome
room_outcome s n payload out = line_outcome (record { len = Some (length s.said); volume = s.volume }) (laid_over payload (zeros n)) (laid_over out s.said)

-- where there is not: nothing is done
abbrev pub no_room_outcome : Volume → Bytes → Bytes → LineOutcome
no_room_outcome v payload out = line_outcome (record { len = None; volume = v }) payload out

unfoldable pub answered_in : Volume → Bytes → Bytes → Bytes → LineOutcome
answered_in v line payload out =
    cond (has_room (length line) (length payload) (length out)) (room_outcome (answered v line) (length line) payload out) (no_room_outcome v payload out)
