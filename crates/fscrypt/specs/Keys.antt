-- A derived key by value. Assumes nothing.
use Rattle.std.specs.Prelude.{take}
use Rattle.lists.specs.Bytes.{Bytes}
use Rattle.fscrypt.specs.declared.DerivedKey.{DerivedKey}

-- the key is the first bytes, as many as its length says
abbrev pub derived_bytes : DerivedKey → Bytes
derived_bytes k = take k.len k.bytes
