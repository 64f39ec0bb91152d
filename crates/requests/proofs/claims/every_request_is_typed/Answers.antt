-- `every_request_is_typed`: an array has the length of its type, and its elements and those of a slice are bytes. Assumes nothing.
use Rattle.volume.proofs.Typing.{each_typed}
use borrow.Author.Rules.{rules}
use Rattle.requests.proofs.claims.every_request_is_typed.Goals as goal

pub returns : goal.returns
returns c = each_typed _ _ _ _ _ _ _ _ _ (search rules) (search rules) c.are_bytes.ensures c.are_bytes-2.ensures c.are_bytes-3.ensures
