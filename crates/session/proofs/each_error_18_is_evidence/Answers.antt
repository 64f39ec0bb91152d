-- `each_error_18_is_evidence`: the theorem `logged`. Assumes nothing.
use Rattle.session.proofs.Logged.{logged}
use Rattle.session.proofs.each_error_18_is_evidence.Goals as goal

pub returns : goal.returns
returns c = logged
