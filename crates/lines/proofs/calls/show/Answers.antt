-- `show`: a buffer of at most 4,096 bytes. `rw` finds the law's premise in the test's outcome, which a `let` binds. Assumes nothing.
use mathlib.Core.Path.{◌≡◌, refl}
use lib.ListN.{take}
use Rattle.lists.specs.Bytes.{zeros}
use Rattle.lists.proofs.ByteStrings.{take_zeros}
use Rattle.lines.proofs.Saying.{shows, shows_not}
use Rattle.lines.proofs.calls.show.Goals as goal

pub returns-then-a-gt4096 : goal.returns-then-a-gt4096
returns-then-a-gt4096 c =
    let large = c.if-a-gt4096.true in
    rw shows_not c.malformed.ensures

pub returns : goal.returns
returns c =
    let fits = c.if-a-gt4096.false in
    let request = c.show-answer in
    let buffer : take c.args.a.second c.zeros-room.result ≡ zeros c.args.a.second = rw c.zeros-room.ensures (take_zeros c.args.a.second 4096 fits) in
    rw (shows, ← buffer, ← request.ensures) (refl, c.say_shown.ensures)
