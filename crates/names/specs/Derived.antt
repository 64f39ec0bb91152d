-- The key derived for an inode, by value: what code has in hand when it encrypts and decrypts. Assumes nothing.
use Rattle.std.specs.Prelude.{◌≤◌, ◌≡◌, length, drop}
use Rattle.policy.specs.Policies.{name_key_size}
use Rattle.fscrypt.specs.Cipher.{Cipher}
use Rattle.fscrypt.specs.Keys.{derived_bytes}
use Rattle.fscrypt.specs.declared.DerivedKey.{DerivedKey}
use Rattle.volume.specs.Lookup.{key_of, descriptor_of}
use Rattle.volume.specs.DirectoryNames.{derived_key}
use Rattle.volume.specs.declared.Inode.{Inode}
use Rattle.volume.specs.declared.Volume.{Volume}

pub record DerivedFor (C : Cipher) (v : Volume) (i : Inode) (k : DerivedKey) : Type 0 where
  pub bytes : derived_bytes k ≡ derived_key C v i
  -- past it stands what stands past the master key in its slot: zeros, on every volume that requests made
  pub rest : drop k.len k.bytes ≡ drop k.len (key_of v (descriptor_of i)).bytes
  -- it fits its array, and is long enough to be cut for names
  pub fits : k.len ≤ length k.bytes
  pub for_names : name_key_size i.context.policy ≤ k.len
