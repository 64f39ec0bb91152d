-- A request's outcome, said, where the code does not go as the definition does: what is done says nothing of the buffer, and show has its limit.
-- Assumes nothing.
use Prim.Native.Nat.{◌≤◌, ◌<◌}
use mathlib.Core.Path.{◌≡◌, refl}
use mathlib.Core.Bool.{false}
use mathlib.Core.List.{[]}
use borrow.Author.Tests.{le-leb, lt-leb}
use Rattle.std.specs.Prelude.{⊤, Result, Ok, Err}
use Rattle.errno.specs.declared.Errno.{Errno}
use Rattle.errno.specs.Refusals.{Checked}
use Rattle.ids.specs.declared.EntryNumber.{EntryNumber}
use Rattle.lists.specs.Bytes.{Bytes, zeros}
use Rattle.fscrypt.specs.Cipher.{fscrypt}
use Rattle.volume.specs.Request.{replied, create_answered, entry_answered, done, created, at, show}
use Rattle.volume.specs.Step.{step}
use Rattle.volume.specs.declared.Volume.{Volume}
use Rattle.volume.specs.declared.Created.{Created}
use Rattle.script.specs.declared.Args.{Args}
use Rattle.script.specs.declared.Verb.TheVariants.{Show}
use Rattle.lines.specs.Answers.{result_answer, answer_text, told, malformed}
use Rattle.lines.specs.Lines.{entry, respond}

-- an answer that says no more than that it was done says nothing of the buffer
pub says_done : (r : Checked) (b : Bytes) → answer_text false (replied r) b ≡ answer_text false (result_answer (λ (u : ⊤). done) r) []
unfolding answer_text
says_done (Ok u) b = refl
says_done (Err e) b = refl

pub says_created : (r : Result Created Errno) → create_answered r ≡ result_answer (λ (c : Created). created c.inode c.entry) r
says_created (Ok c) = refl
says_created (Err e) = refl

pub says_at : (r : Result EntryNumber Errno) → entry_answered r ≡ result_answer (λ (e : EntryNumber). at e) r
says_at (Ok n) = refl
says_at (Err e) = refl

-- "SIZE is the size of the name buffer lent, .., at most 4096 (more is malformed)"
module _ (v : Volume) (a : Args) (t : Bytes) where
  pub shows : a.second ≤ 4096 → respond v Show a t ≡ told false (step fscrypt v (show (entry a.first) (zeros a.second)))
  unfolding respond
  shows h = rw (le-leb _ _ h)

  pub shows_not : 4096 < a.second → respond v Show a t ≡ malformed v
  unfolding respond
  shows_not h = rw (lt-leb _ _ h)
