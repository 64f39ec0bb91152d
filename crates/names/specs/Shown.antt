-- What show reads of a stored name: whether it can be read, and the name as it is shown. Assumes nothing.
use Rattle.std.specs.Prelude.{cond, Result, Ok, Err}
use Rattle.lists.specs.Bytes.{Bytes}
use Rattle.errno.specs.declared.Errno.TheVariants.{EUCLEAN}
use Rattle.fscrypt.specs.Cipher.{Cipher}
use Rattle.fscrypt.specs.Names.{packed}
use Rattle.volume.specs.DirectoryNames.{shown_name, is_unreadable}
use Rattle.ids.specs.declared.EntryNumber.{EntryNumber}
use Rattle.volume.specs.declared.Inode.{Inode}
use Rattle.volume.specs.declared.Volume.{Volume}
use Rattle.errno.specs.declared.Errno.{Errno}
use Rattle.fscrypt.specs.declared.Name.{Name}

unfoldable pub shown_read : Cipher → Volume → Inode → EntryNumber → Bytes → Result Name Errno
shown_read C v dir e s = cond (is_unreadable C v dir s) (Err EUCLEAN) (Ok (packed (shown_name C v dir e s)))
