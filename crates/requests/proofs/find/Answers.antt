-- `find`: a name that its check lets through fits, and its directory's key is held. Assumes nothing.
use mathlib.Core.Path.{sym, ◌∙◌}
use Rattle.fscrypt.specs.Cipher.{fscrypt}
use Rattle.fscrypt.proofs.Padding.{name_fits}
use Rattle.volume.proofs.Passed.{find_passed}
use Rattle.requests.proofs.find.Goals as goal

pub find-requires : goal.find-requires
find-requires c =
    let k = find_passed fscrypt _ _ _ (sym c.find_check.ensures ∙ c.in_ok-find_check.was) in
    record { name_fits = name_fits _ k.name; key_held = k.key }
