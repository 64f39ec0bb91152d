-- `read_context`: what is read stands for the answer. Assumes nothing.
use Rattle.policy.proofs.Meanings.{reads_context}
use Rattle.policy.proofs.read_context.Goals as goal

pub returns : goal.returns
returns c = reads_context _ _ c.try_into.ensures
