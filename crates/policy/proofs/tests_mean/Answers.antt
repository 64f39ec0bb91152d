-- `tests_mean`: the laws of Meanings. Assumes nothing.
use Rattle.policy.proofs.Meanings.{policy_meanings}
use Rattle.policy.proofs.tests_mean.Goals as goal

pub returns : goal.returns
returns c = policy_meanings
