-- The bytes of a policy: the fields fill all of the array. Assumes nothing.
use mathlib.Core.Path.{refl}
use lib.ListN.{replicate}
use Rattle.policy.proofs.Writing.{descriptor_length, policy_put}
use Rattle.policy.proofs.ArrayU812FromPolicy.from.Goals as goal

pub returns : goal.returns
returns c = policy_put (replicate 12 0) _ c.args.p refl (descriptor_length c.args.p c.well_formed.0) c.put_fields.ensures
