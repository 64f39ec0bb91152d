-- What the types say of a volume's byte strings: they are made of bytes, numbers below 256. Past the end of a table a free record is read, all zeros. Assumes nothing.
use Rattle.std.specs.Prelude.{ℕ}
use Rattle.lists.specs.Bytes.{ByteList}
use Rattle.volume.specs.Lookup.{key_at, node_at, slot_at}
use Rattle.volume.specs.declared.Volume.{Volume}

pub record Bytewise (v : Volume) : Type 0 where
  -- the 64 bytes of each slot for a key, and the descriptor that the key is found by
  pub keys : (k : ℕ) → ByteList (key_at v k).bytes
  pub key_descriptors : (k : ℕ) → ByteList (key_at v k).descriptor
  -- the descriptor in each inode's policy, and the inode's nonce
  pub context_descriptors : (i : ℕ) → ByteList (node_at v i).context.policy.descriptor
  pub nonces : (i : ℕ) → ByteList (node_at v i).context.nonce
  -- the 255 bytes of each slot for a stored name
  pub names : (e : ℕ) → ByteList (slot_at v e).name
