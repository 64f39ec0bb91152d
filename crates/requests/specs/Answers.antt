-- What stands beside an answer that carries bytes. Assumes nothing.
use Rattle.lists.specs.Bytes.{Bytes, zeros}
use Rattle.volume.specs.Request.{Answer, refused, done, created, at, policy_is, shown}

-- the 12 bytes beside get policy's answer: the policy, or zeros where it is refused
abbrev pub policy_beside : Answer → Bytes
policy_beside (policy_is p) = p
policy_beside (refused n) = zeros 12
policy_beside done = zeros 12
policy_beside (created i e) = zeros 12
policy_beside (at e) = zeros 12
policy_beside (shown s) = zeros 12
