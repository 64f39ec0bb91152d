-- What show and find answer where nothing was read or found: a name that cannot be read shows no bytes, and a search that finds nothing ends at the number of slots.
-- Assumes nothing.
use mathlib.Core.Path.{◌≡◌}
use mathlib.Core.Bool.{true}
use mathlib.Core.List.{[]}
use native.Mathlib.Omega.{arith}
use lib.ListN.{length}
use Rattle.std.specs.Prelude.{Option, Result}
use Rattle.std.specs.Option.{unwrap_or}
use Rattle.std.specs.Result.{result_unwrap_or}
use Rattle.std.proofs.lemmas.Bool.Decides.{nat_tests}
use Rattle.lists.specs.Bytes.{Bytes}
use Rattle.lists.proofs.Tables.{first_at_le}
use Rattle.errno.specs.declared.Errno.{Errno}
use Rattle.fscrypt.specs.Cipher.{Cipher}
use Rattle.fscrypt.specs.Names.{packed}
use Rattle.fscrypt.specs.declared.Name.{Name}
use Rattle.names.specs.Shown.{shown_read}
use Rattle.lookup.specs.Found.{entry_found}
use Rattle.volume.specs.Volume.{entry_slots}
use Rattle.volume.specs.Lookup.{is_named, entry_named}
use Rattle.ids.specs.declared.InodeNumber.{InodeNumber}
use Rattle.volume.specs.DirectoryNames.{shown_name, is_unreadable}
use Rattle.ids.specs.declared.EntryNumber.{EntryNumber}
use Rattle.volume.specs.declared.Inode.{Inode}
use Rattle.volume.specs.declared.Volume.{Volume}

module _ (C : Cipher) (v : Volume) (dir : Inode) (n : EntryNumber) (s : Bytes) where
  none_shown : is_unreadable C v dir s ≡ true → shown_name C v dir n s ≡ []
  unfolding is_unreadable shown_name
  none_shown h = grind (arith, nat_tests)

  -- what was read, or the name of no bytes
  pub name_shown : (r : Result Name Errno) (none name : Name) → r ≡ shown_read C v dir n s → none ≡ packed [] → name ≡ result_unwrap_or r none
      → name ≡ packed (shown_name C v dir n s)
  unfolding shown_read
  name_shown r none name hr hn h = grind (arith, none_shown)

-- the number that a search came to, or that of the slots
pub found_or_slots : (v : Volume) (p : InodeNumber) (s : Bytes) (r : Option EntryNumber) (k : EntryNumber) → length v.entries ≡ entry_slots
    → r ≡ entry_found (entry_named v p s) → k ≡ unwrap_or r (record { 0 = entry_slots }) → k ≡ record { 0 = entry_named v p s }
unfolding entry_named
found_or_slots v p s r k l hr h = grind (arith, nat_tests, first_at_le (is_named p s) v.entries)
