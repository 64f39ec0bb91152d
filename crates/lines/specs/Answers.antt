-- Answers as text, the request script's "Requests and answers". Quotations are the request script's. Assumes nothing.
use Rattle.std.specs.Prelude.{ℕ, ◌+◌, ◌*◌, ◌<◌, ◌≤◌, ◌≡◌, Bool, true, false, cond, ◌++◌, length, take, eqb, Result, Ok, Err}
use Prim.Native.String.{String}
use Rattle.std.proofs.lemmas.List.Edits.{sets}
use Rattle.lists.specs.Bytes.{Bytes}
use Rattle.script.specs.Text.{text}
use Rattle.script.specs.Numbers.{decimal}
use Rattle.script.specs.Strings.{to_hex, name_text}
use Rattle.volume.specs.Request.{Answer, refused, done, created, at, policy_is, shown, Outcome, Form, Plain, Decrypted, Encoded, ShownEntry}
use Rattle.volume.specs.declared.Volume.{Volume}
use Rattle.errno.specs.Refusals.{number}
use Rattle.errno.specs.declared.Errno.{Errno}
use Rattle.lines.specs.declared.text.Text.{Text}

-- Linux's name of a refusal's number
unfoldable pub errno_name : ℕ → String
errno_name n =
    cond (eqb n 1) "EPERM"
    (cond (eqb n 2) "ENOENT"
    (cond (eqb n 17) "EEXIST"
    (cond (eqb n 18) "EXDEV"
    (cond (eqb n 20) "ENOTDIR"
    (cond (eqb n 22) "EINVAL"
    (cond (eqb n 28) "ENOSPC"
    (cond (eqb n 34) "ERANGE"
    (cond (eqb n 36) "ENAMETOOLONG"
    (cond (eqb n 39) "ENOTEMPTY"
    (cond (eqb n 61) "ENODATA"
    (cond (eqb n 76) "ENOTUNIQ"
    (cond (eqb n 117) "EUCLEAN"
    (cond (eqb n 126) "ENOKEY"
    "")))))))))))))

-- "A refusal is `error NUMBER NAME`, as `error 17 EEXIST`."
unfoldable pub error_text : ℕ → Bytes
error_text n = text "error " ++ (decimal n ++ (text " " ++ text (errno_name n)))

-- "FORM is `plain`, `decrypted` (read with the key) or `encoded` (shown without it)."
abbrev pub form_name : Form → String
form_name Plain = "plain"
form_name Decrypted = "decrypted"
form_name Encoded = "encoded"

-- a number among others
abbrev pub field : ℕ → Bytes
field n = decimal n ++ text " "

-- `ok PARENT INODE KIND FORM LENGTH NAME`
abbrev pub shown_head : ShownEntry → Bytes
shown_head s = text "ok " ++ (field s.parent.0 ++ (field s.inode.0 ++ field s.kind))

abbrev pub shown_tail : ShownEntry → Bytes → Bytes
shown_tail s name = text (form_name s.form) ++ (text " " ++ (field s.len ++ name_text name))

-- the name is at the buffer's start
unfoldable pub shown_text : ShownEntry → Bytes → Bytes
shown_text s b = shown_head s ++ shown_tail s (take s.len b)

-- an answer, and the lent buffer as it is left; the test says whether the request answers with its block, as seal and open do
unfoldable pub answer_text : Bool → Answer → Bytes → Bytes
answer_text block (refused n) b = error_text n
answer_text true done b = text "ok " ++ to_hex b
answer_text false done b = text "ok"
answer_text block (created i e) b = text "ok " ++ (decimal i.0 ++ (text " " ++ decimal e.0))
answer_text block (at e) b = text "ok " ++ decimal e.0
answer_text block (policy_is p) b = text "ok " ++ to_hex p
answer_text block (shown s) b = shown_text s b

-- what a request comes to, as an answer
abbrev pub result_answer : {A : Type 0} → (A → Answer) → Result A Errno → Answer
result_answer f (Ok a) = f a
result_answer f (Err e) = refused (number e)

-- a text is the buffer's text now, with room for one byte more
pub record Written (before after : Text) (t : Bytes) : Type 0 where
  pub buffer : after.out.ghost_name ≡ before.out.ghost_name
  pub len : after.len ≡ length t
  pub out : after.out.now ≡ sets before.out.now 0 t
  pub size : length after.out.now ≡ length before.out.now
  pub room : length t < length before.out.now

-- a text is put after the buffer's text
pub record Adds (before after : Text) (t : Bytes) : Type 0 where
  pub buffer : after.out.ghost_name ≡ before.out.ghost_name
  pub len : after.len ≡ before.len + length t
  pub out : after.out.now ≡ sets before.out.now before.len t
  pub size : length after.out.now ≡ length before.out.now

-- there is room for an answer with these bytes, and a newline
abbrev pub HasRoomFor : Bytes → Text → Type 0
HasRoomFor b t = 1000 + 2 * length b ≤ length t.out.now

-- what is said to a line, and the volume then
pub record Said : Type 0 where
  pub said : Bytes
  pub volume : Volume

abbrev pub saying : Bytes → Volume → Said
saying t v = record { said = t; volume = v }

abbrev pub told : Bool → Outcome → Said
told block o = saying (answer_text block o.answer o.buffer) o.volume

abbrev pub malformed : Volume → Said
malformed v = saying (text "malformed") v
