-- The bytes of a context: the fields and the nonce fill all of the array. Assumes nothing.
use mathlib.Core.Path.{refl}
use lib.ListN.{replicate}
use borrow.Author.Rules.{rules}
use Rattle.policy.proofs.Writing.{context_put}
use Rattle.policy.proofs.ArrayU828FromContext.from.Goals as goal

pub returns : goal.returns
returns c = context_put (replicate 28 0) _ _ c.args.c refl (search rules) (search rules) c.put_fields.ensures c.copy_from_slice.ensures.after
