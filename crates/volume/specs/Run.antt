-- Runs: lists of requests on a volume. Document 01: "Each request finds the shelf as the one before it left it, and nobody else writes it in between."
-- Assumes nothing.
use Rattle.std.specs.Prelude.{List, [], ◌∷◌}
use Rattle.lists.specs.Bytes.{Bytes}
use Rattle.fscrypt.specs.Cipher.{Cipher}
use Rattle.volume.specs.Volume.{fresh}
use Rattle.volume.specs.Request.{Request, Answer, Outcome}
use Rattle.volume.specs.Step.{step}
use Rattle.volume.specs.declared.Volume.{Volume}

-- what one request of a run was, what it answered, and how it left the lent buffer and the volume
pub record Moment : Type 0 where
  pub request : Request
  pub answer : Answer
  pub buffer : Bytes
  pub volume : Volume

unfoldable pub moment_of : Request → Outcome → Moment
moment_of r o = record { request = r; answer = o.answer; buffer = o.buffer; volume = o.volume }

unfoldable pub run_from : Cipher → Volume → List Request → List Moment
run_from C v [] = []
run_from C v (r ∷ rs) = moment_of r (step C v r) ∷ run_from C (step C v r).volume rs

-- "Both shelves start fresh."
abbrev pub run : Cipher → List Request → List Moment
run C rs = run_from C fresh rs
