-- `store` is safe and ends: a name that passed its check has at most 255 bytes. Assumes nothing.
use mathlib.Core.Path.{sym, ◌∙◌}
use Rattle.fscrypt.proofs.Padding.{name_fits}
use Rattle.vectors.proofs.name_calls.store.Goals as goal

pub encrypt_name-requires : goal.encrypt_name-requires
encrypt_name-requires g c = name_fits c.lay-name.result.now (sym c.check_name.ensures ∙ c.in_ok-check_name.was)
