-- `on_keyring`: the slot is in use, and `==` of the descriptors. Assumes nothing.
use mathlib.Core.Path.{sym, ◌∙◌}
use Rattle.lists.proofs.SameBytes.{same_pointwise}
use Rattle.lists.proofs.Predicates.{and_go, not_of_false}
use Rattle.lookup.proofs.keyring.on_keyring.Goals as goal

pub returns-then-not-is_free_key : goal.returns-then-not-is_free_key
returns-then-not-is_free_key c = and_go _ _ _ (not_of_false _ (sym c.is_free_key.ensures ∙ c.if-not-is_free_key.true)) (c.eq.ensures ∙ same_pointwise _ _)
