-- `bytes_round_trip`: the laws of Codec, both ways, of contexts and of policies. Assumes nothing.
use Rattle.policy.proofs.Codec.{read_context_context_bytes, context_bytes_read_context, read_policy_policy_bytes, policy_bytes_read_policy}
use Rattle.policy.proofs.bytes_round_trip.Goals as goal

pub returns : goal.returns
returns c = record {
  written_read = read_context_context_bytes;
  read_written = context_bytes_read_context;
  policy_written_read = read_policy_policy_bytes;
  policy_read_written = policy_bytes_read_policy;
}
