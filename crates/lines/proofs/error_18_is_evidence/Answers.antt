-- `error_18_is_evidence`: the theorem `evidence`. Assumes nothing.
use Rattle.lines.proofs.Evidence.{evidence}
use Rattle.lines.proofs.error_18_is_evidence.Goals as goal

pub returns : goal.returns
returns c = evidence
