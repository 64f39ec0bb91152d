-- The two runs: get policy, find, seal and open, which leave the volume as it was. Their checks read neither key bytes nor ciphertext but through lookups that
-- TwinLookup has; a block has as many bytes as before, and its bytes may differ. Assumes nothing.
use Prim.Native.Nat.{ℕ}
use mathlib.Core.Path.{refl, ap}
use lib.Dec.{leb}
use Rattle.lists.specs.Bytes.{Bytes, ByteList, zeros}
use Rattle.volume.specs.Volume.{entry_slots}
use Rattle.volume.specs.Request.{get_policy, find, seal, unseal, at}
use Rattle.volume.specs.Lookup.{inode_at}
use Rattle.volume.specs.Checks.{get_policy_check, find_check, block_check}
use Rattle.volume.specs.Step.{check, effect}
use Rattle.volume.specs.GivenNames.{Names, named_by, naming, named}
use Rattle.volume.specs.TwoRuns.{blank_buffer, blank_block}
use Rattle.ids.specs.declared.InodeNumber.{InodeNumber}
use Rattle.volume.specs.declared.Volume.{Volume}
use Rattle.volume.proofs.Twin.{Setting, test, part, both_fine, Inv, Same}
use Rattle.volume.proofs.TwinLookup.{needed_twin, entry_named_twin, name_part, directory_part}

module _ (S : Setting) {g : Names} (v : Volume) (ok : Inv S g v) where
  pub get_policy_twin : (i : InodeNumber) → Same S g v (get_policy i) (get_policy i)
  unfolding Same check effect get_policy_check named_by naming named blank_buffer
  get_policy_twin i =
      test _ tt refl λ h₁.
      test _ tt refl λ h₂.
      both_fine (record { answers = refl; buffers = refl; volumes = refl; inv = ok; right = tt })

  pub find_twin : (p : InodeNumber) (n : Bytes) → ByteList n → Same S g v (find p n) (find p n)
  unfolding Same check effect find_check named_by naming named blank_buffer
  find_twin p n nb =
      part (name_part S v ok n) λ plain.
      part (directory_part S v ok p) λ dir.
      test _ tt (needed_twin S v ok (inode_at v p)) λ key.
      let e = entry_named_twin S v ok p n key nb in
      test _ tt (ap (leb entry_slots) e) λ h.
      both_fine (record { answers = ap (λ (m : ℕ). at (record { 0 = m })) e; buffers = refl; volumes = refl; inv = ok; right = tt })

  pub seal_twin : (i : InodeNumber) (n : ℕ) (b : Bytes) → Same S g v (seal i n b) (seal i n b)
  unfolding Same check effect block_check named_by naming named blank_buffer blank_block
  seal_twin i n b =
      test _ tt refl λ h₁.
      test _ tt refl λ h₂.
      test _ tt refl λ h₃.
      test _ tt refl λ h₄.
      test _ tt (needed_twin S v ok (inode_at v i)) λ key.
      both_fine (record { answers = refl; buffers = ap zeros (S.lawful.length_seal _ _ n b); volumes = refl; inv = ok; right = tt })

  pub unseal_twin : (i : InodeNumber) (n : ℕ) (b : Bytes) → Same S g v (unseal i n b) (unseal i n b)
  unfolding Same check effect block_check named_by naming named blank_buffer blank_block
  unseal_twin i n b =
      test _ tt refl λ h₁.
      test _ tt refl λ h₂.
      test _ tt refl λ h₃.
      test _ tt refl λ h₄.
      test _ tt (needed_twin S v ok (inode_at v i)) λ key.
      both_fine (record { answers = refl; buffers = ap zeros (S.lawful.length_unseal _ _ n b); volumes = refl; inv = ok; right = tt })
