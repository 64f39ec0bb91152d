-- `entry_of`: the search for the name as the directory stores it. Assumes nothing.
use Rattle.names.proofs.Reading.{entry_by}
use Rattle.fscrypt.specs.Cipher.{fscrypt}
use Rattle.volume.specs.Lookup.{lacks_key}
use mathlib.Core.Path.{ap, ◌∙◌}
use Rattle.names.proofs.entry_of.Goals as goal

pub stored_name-requires : goal.stored_name-requires
stored_name-requires c = record { name_fits = c.requires.name_fits; key_held = ap (lacks_key _) c.inode_at-dir.ensures ∙ c.requires.key_held }

pub returns : goal.returns
returns c = entry_by fscrypt _ _ _ c.inode_at-dir.result c.stored_name.result _ c.inode_at-dir.ensures c.stored_name.ensures c.entry_named.ensures
