-- `no_context` is the definition of its name: the default of each field is zero. Assumes nothing.
use Rattle.policy.proofs.Codec.{policy_eq, context_eq}
use Rattle.policy.proofs.Writing.{default_zeros}
use Rattle.policy.proofs.no_context.Goals as goal

pub returns : goal.returns
returns c =
    let e = c.default.ensures in
    context_eq (policy_eq e.0.0 e.0.1.0 e.0.1.1.0 e.0.1.1.1.0 (default_zeros _ 8 e.0.1.1.1.1)) (default_zeros _ 16 e.1)
