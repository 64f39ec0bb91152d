-- `perform`: each request, and its answer; the match has told which. Assumes nothing.
use mathlib.Core.Path.{refl}
use Rattle.lines.specs.Lines.{respond}
use Rattle.lines.proofs.Saying.{says_done, says_created, says_at}
use Rattle.lines.proofs.calls.perform.Goals as goal

pub returns-in-AddKey : goal.returns-in-AddKey
unfolding respond
returns-in-AddKey c =
    let request = c.add_key in
    rw (c.in-AddKey.is, ← request.ensures, says_done) c.changed.ensures

pub returns-in-RemoveKey : goal.returns-in-RemoveKey
unfolding respond
returns-in-RemoveKey c =
    let request = c.remove_key in
    rw (c.in-RemoveKey.is, ← request.ensures, says_done) c.changed-in-RemoveKey.ensures

pub returns-in-SetPolicy : goal.returns-in-SetPolicy
unfolding respond
returns-in-SetPolicy c =
    let request = c.set_policy in
    rw (c.in-SetPolicy.is, ← request.ensures, says_done) c.changed-in-SetPolicy.ensures

pub returns-in-Create : goal.returns-in-Create
unfolding respond
returns-in-Create c =
    let request = c.create in
    rw (c.in-Create.is, ← request.ensures, says_created) c.changed-in-Create.ensures

pub returns-in-Link : goal.returns-in-Link
unfolding respond
returns-in-Link c =
    let request = c.link in
    rw (c.in-Link.is, ← request.ensures, says_at) c.changed-in-Link.ensures

pub returns-in-Rename : goal.returns-in-Rename
unfolding respond
returns-in-Rename c =
    let request = c.rename in
    rw (c.in-Rename.is, ← request.ensures, says_done) c.changed-in-Rename.ensures

pub returns-in-Exchange : goal.returns-in-Exchange
unfolding respond
returns-in-Exchange c =
    let request = c.exchange in
    rw (c.in-Exchange.is, ← request.ensures, says_done) c.changed-in-Exchange.ensures

pub returns-in-Remove : goal.returns-in-Remove
unfolding respond
returns-in-Remove c =
    let request = c.remove in
    rw (c.in-Remove.is, ← request.ensures, says_done) c.changed-in-Remove.ensures

pub returns-in-GetPolicy : goal.returns-in-GetPolicy
unfolding respond
returns-in-GetPolicy c =
    let request = c.get_policy in
    rw (c.in-GetPolicy.is, ← request.ensures.0) (refl, c.say.ensures)

pub returns-in-Find : goal.returns-in-Find
unfolding respond
returns-in-Find c =
    let request = c.find in
    rw (c.in-Find.is, ← request.ensures, says_at) (refl, c.say-in-Find.ensures)

pub returns-in-Show : goal.returns-in-Show
unfolding respond
returns-in-Show c = rw c.in-Show.is c.show.ensures

pub returns-in-Seal : goal.returns-in-Seal
unfolding respond
returns-in-Seal c =
    let request = c.seal-answer in
    rw (c.in-Seal.is, ← request.ensures) c.block.ensures

pub returns-in-Open : goal.returns-in-Open
unfolding respond
returns-in-Open c =
    let request = c.open-answer in
    rw (c.in-Open.is, ← request.ensures) c.block-in-Open.ensures
