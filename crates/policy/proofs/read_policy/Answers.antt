-- `read_policy`: what is read stands for the answer. Assumes nothing.
use Rattle.policy.proofs.Meanings.{reads_policy}
use Rattle.policy.proofs.read_policy.Goals as goal

pub returns : goal.returns
returns c = reads_policy _ _ c.try_into.ensures
