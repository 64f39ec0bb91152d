-- No rule of `Sound` is idle: for each field a small volume that breaks it, and a proof, through that field, that this volume is not sound. Each is made to break that
-- rule alone, unless a comment says otherwise (this is not proved): without the rule it would be sound. Assumes nothing.
use Prim.Native.Nat.{ℕ}
use native.Mathlib.Omega.{arith}
use mathlib.Core.Path.{refl, ◌∙◌, ap}
use mathlib.Core.Logic.{⊎_elim}
use mathlib.Core.Bool.{false, true≢false, false≢true}
use mathlib.Core.List.{[], ◌∷◌, ◌++◌}
use lib.ListN.{get_or, replicate, set}
use lib.Dec.{leb}
use borrow.Author.Tests.{leb-false}
use Rattle.lists.specs.Bytes.{Bytes, zeros, first_at}
use Rattle.lists.proofs.Tests.{if_true, if_false}
use Rattle.lists.proofs.Slots.{by_test}
use Rattle.policy.specs.Policies.{no_policy}
use Rattle.policy.specs.declared.Policy.{Policy}
use Rattle.policy.specs.declared.Context.{Context}
use Rattle.fscrypt.specs.Names.{rounded, padded_length}
use Rattle.volume.specs.Volume.{no_key, no_inode, no_entry, plain_inode, encrypted_inode, key_slot, entry_slot, fresh}
use Rattle.volume.specs.Lookup.{first_link, parent_of, climb_from}
use Rattle.volume.specs.Step.{with_keys, with_inodes, with_entries}
use Rattle.volume.specs.Sound.{Sound}
use Rattle.volume.specs.declared.Key.{Key}
use Rattle.volume.specs.declared.Inode.{Inode}
use Rattle.volume.specs.declared.Entry.{Entry}
use Rattle.volume.specs.declared.Volume.{Volume}
use Rattle.volume.proofs.SoundClimb.{num, is_root}
use Rattle.volume.proofs.Soundness.{fresh_unused, climb_meets_root}

-- ---- volumes with one slot set

abbrev with_key : ℕ → Key → Volume → Volume
with_key k x v = with_keys v (set v.keys k x)

abbrev with_node : ℕ → Inode → Volume → Volume
with_node i x v = with_inodes v (set v.inodes i x)

abbrev with_slot : ℕ → Entry → Volume → Volume
with_slot e x v = with_entries v (set v.entries e x)

-- an entry in a directory, of an inode, with a stored name
abbrev entry_in : ℕ → ℕ → Bytes → Entry
entry_in p i s = entry_slot (num p) (num i) s

-- an inode with a context, by its kind, its policy's flags and descriptor, and its nonce
abbrev encrypted_node : ℕ → ℕ → Bytes → Bytes → Inode
encrypted_node kind flags d x = encrypted_inode kind (record { version = 0; contents = 1; names = 4; flags = flags; descriptor = d }) x

abbrev nonce : ℕ → Bytes
nonce n = n ∷ zeros 15

-- the inode 1 in the root, named `a`
abbrev holding : Inode → Volume
holding x = with_slot 0 (entry_in 0 1 (97 ∷ [])) (with_node 1 x fresh)

-- a file 1 in the root, by this entry
abbrev listing : Entry → Volume
listing x = with_slot 0 x (with_node 1 (plain_inode 2) fresh)

-- the inode 2 in an encrypted directory 1, under a stored name
abbrev within : Inode → Bytes → Volume
within x s = with_slot 1 (entry_in 1 2 s) (with_node 2 x (holding (encrypted_node 1 3 (zeros 8) (nonce 1))))

-- The heads below are those of the fields of `Sound`, in its order.

-- ---- document 01: "Keys: at most 8 .. Things: at most 64 .. Places: at most 64"

no_ninth_key : Sound (with_keys fresh (fresh.keys ++ no_key ∷ [])) → ⊥
unfolding fresh
no_ninth_key s = omega (arith, s.key_slots_lem)

no_inode_64 : Sound (with_inodes fresh (fresh.inodes ++ no_inode ∷ [])) → ⊥
unfolding fresh
no_inode_64 s = omega (arith, s.inode_slots_lem)

no_entry_64 : Sound (with_entries fresh (fresh.entries ++ no_entry ∷ [])) → ⊥
unfolding fresh
no_entry_64 s = omega (arith, s.entry_slots_lem)

-- ---- document 01: "each an 8-byte descriptor and a master key of 16, 32, 48 or 64 bytes"; a descriptor is on the keyring once

no_key_of_24 : Sound (with_key 0 (key_slot (zeros 8) (zeros 24)) fresh) → ⊥
unfolding fresh zeros
no_key_of_24 s = ⊎_elim (λ e. omega (arith, e)) (⊎_elim (λ e. omega (arith, e)) (⊎_elim (λ e. omega (arith, e)) (λ e. omega (arith, e)))) (s.key_lengths 0 refl)

no_lacking_key_bytes : Sound (with_key 0 (record { len = 64; descriptor = zeros 8; bytes = zeros 5 }) fresh) → ⊥
unfolding fresh zeros
no_lacking_key_bytes s = omega (arith, s.key_sizes 0)

no_short_descriptor : Sound (with_key 0 (key_slot (zeros 7) (zeros 16)) fresh) → ⊥
unfolding fresh zeros
no_short_descriptor s = omega (arith, s.descriptors 0)

no_descriptor_twice : Sound (with_key 1 (key_slot (zeros 8) (zeros 32)) (with_key 0 (key_slot (zeros 8) (zeros 16)) fresh)) → ⊥
unfolding fresh zeros
no_descriptor_twice s = omega (arith, s.descriptors_apart 0 1 refl refl refl)

-- ---- document 01: "Thing 0 is the root folder; it always exists and is never encrypted."

no_lacking_root : Sound (with_node 0 no_inode fresh) → ⊥
unfolding fresh
no_lacking_root s = omega (arith, s.root_directory)

no_root_file : Sound (with_node 0 (plain_inode 2) fresh) → ⊥
unfolding fresh
no_root_file s = omega (arith, s.root_directory)

no_encrypted_root : Sound (with_node 0 (encrypted_node 1 0 (zeros 8) (nonce 1)) fresh) → ⊥
unfolding fresh
no_encrypted_root s = true≢false s.root_plain

-- ---- document 01: "Kinds: 1 folder, 2 regular file, 3 symlink, 4 special"

no_kind_5 : Sound (holding (plain_inode 5)) → ⊥
unfolding fresh
no_kind_5 s = omega (arith, s.kinds 1)

-- ---- document 01: "A place joins a parent folder, a thing and a stored name of 1 to 255 bytes."

no_entry_in_file : Sound (with_slot 1 (entry_in 1 1 (98 ∷ [])) (holding (plain_inode 2))) → ⊥
unfolding fresh
no_entry_in_file s = omega (arith, s.parents 1 refl)

no_entry_of_none : Sound (with_slot 0 (entry_in 0 1 (97 ∷ [])) fresh) → ⊥
unfolding fresh
no_entry_of_none s = true≢false (s.inodes_in_use 0 refl)

no_lacking_name_bytes : Sound (listing (record { len = 255; parent = num 0; inode = num 1; name = 97 ∷ [] })) → ⊥
unfolding fresh
no_lacking_name_bytes s = omega (arith, s.name_sizes 0)

-- a name of no bytes or of more than 255 is no plain name, nor has it a padded length; so these break plain-names too, and the second, in use without a name,
-- also name-sizes
no_name_of_256 : Sound (listing (entry_in 0 1 (replicate 256 97))) → ⊥
unfolding fresh
no_name_of_256 s = omega (arith, (s.name_lengths 0 refl).1)

no_empty_name : Sound (listing (record { len = 255; parent = num 0; inode = num 1; name = [] })) → ⊥
unfolding fresh
no_empty_name s = omega (arith, (s.name_lengths 0 refl).0)

-- ---- document 01: "A thing other than the root has one place or more; a folder has exactly one."

no_entry_of_root : Sound (with_slot 0 (entry_in 0 0 (97 ∷ [])) fresh) → ⊥
unfolding fresh
no_entry_of_root s = s.root_unheld 0 refl refl

no_inode_unheld : Sound (with_node 1 (plain_inode 2) fresh) → ⊥
unfolding fresh
no_inode_unheld s = let r = s.has_entry 1 (λ q. omega (arith, q)) refl in fresh_unused r.0 r.1

no_directory_twice : Sound (with_slot 1 (entry_in 0 1 (98 ∷ [])) (holding (plain_inode 1))) → ⊥
unfolding fresh
no_directory_twice s = omega (arith, s.one_entry 0 1 refl refl refl refl)

-- ---- every directory is reachable: the climb from it meets the root, within its budget

no_two_in_each_other : Sound (with_slot 0 (entry_in 2 1 (97 ∷ [])) (with_slot 1 (entry_in 1 2 (98 ∷ [])) (with_node 2 (plain_inode 1) (holding (plain_inode 1))))) → ⊥
unfolding fresh first_at first_link parent_of climb_from
no_two_in_each_other s = false≢true (ap is_root (climb_meets_root _ s 1 refl))

-- ---- stored names within a directory are distinct

no_name_twice : Sound (with_slot 1 (entry_in 0 2 (97 ∷ [])) (with_node 2 (plain_inode 2) (holding (plain_inode 2)))) → ⊥
unfolding fresh
no_name_twice s = omega (arith, s.names_apart 0 1 refl refl refl refl)

-- ---- demand 2: "at no time does one stand there"

no_plain_file_within : Sound (within (plain_inode 2) (zeros 32)) → ⊥
unfolding fresh zeros
no_plain_file_within s = false≢true (s.policies 1 refl refl (omega arith)).has_context

no_other_flags_within : Sound (within (encrypted_node 1 2 (zeros 8) (nonce 2)) (zeros 32)) → ⊥
unfolding fresh zeros
no_other_flags_within s = omega (arith, ap (λ (p : Policy). p.flags) (s.policies 1 refl refl (omega arith)).same)

-- by its last byte alone
no_other_descriptor_within : Sound (within (encrypted_node 3 3 (zeros 7 ++ 1 ∷ []) (nonce 2)) (zeros 32)) → ⊥
unfolding fresh zeros
no_other_descriptor_within s = omega (arith, ap (λ (p : Policy). get_or p.descriptor 7 0) (s.policies 1 refl refl (omega arith)).same)

-- ---- document 01: "a special child gets no context"; a context's policy is valid, and its nonce is its own

no_encrypted_special : Sound (holding (encrypted_node 4 0 (zeros 8) (nonce 1))) → ⊥
unfolding fresh
no_encrypted_special s = true≢false (s.specials_plain 1 refl)

no_flags_4 : Sound (holding (encrypted_node 1 4 (zeros 8) (nonce 1))) → ⊥
unfolding fresh
no_flags_4 s = omega (arith, (s.contexts_valid 1 refl).flags)

no_short_context_descriptor : Sound (holding (encrypted_node 1 0 (zeros 7) (nonce 1))) → ⊥
unfolding fresh zeros
no_short_context_descriptor s = omega (arith, s.context_descriptors 1)

no_short_nonce : Sound (holding (encrypted_node 1 0 (zeros 8) (zeros 15))) → ⊥
unfolding fresh zeros
no_short_nonce s = omega (arith, s.context_nonces 1)

no_nonce_twice : Sound (within (encrypted_node 2 3 (zeros 8) (nonce 1)) (zeros 32)) → ⊥
unfolding fresh
no_nonce_twice s = omega (arith, s.nonces_apart 1 2 refl refl refl)

-- ---- a name in a plain directory is a plain name, and in an encrypted one it has the padded length of some plain name

no_slash : Sound (listing (entry_in 0 1 (97 ∷ 47 ∷ []))) → ⊥
unfolding fresh
no_slash s = (s.plain_names 0 refl refl).no_slash 1 (omega arith) refl

no_name_of_20_within : Sound (within (encrypted_node 2 3 (zeros 8) (nonce 2)) (zeros 20)) → ⊥
unfolding fresh zeros padded_length rounded
no_name_of_20_within s =
    let r = s.encrypted_lengths 1 refl refl in
    by_test (leb (rounded 32 r.0) 255) (λ e. omega (arith, r.3 ∙ if_true _ _ e)) (λ e. omega (arith, r.3 ∙ if_false _ _ e, leb-false (rounded 32 r.0) 255 e))

-- ---- document 01: "A freed record is all zeros, and so are a record's unused bytes."

no_descriptor_left : Sound (with_key 0 (record { len = 0; descriptor = 1 ∷ zeros 7; bytes = zeros 64 }) fresh) → ⊥
unfolding fresh zeros
no_descriptor_left s = omega (arith, ap (λ (x : Key). get_or x.descriptor 0 0) (s.free_keys 0 refl))

no_context_left : Sound (with_node 1 (encrypted_node 0 0 (zeros 8) (nonce 1)) fresh) → ⊥
unfolding fresh
no_context_left s = true≢false (ap (λ (x : Inode). x.encrypted) (s.free_inodes 1 refl))

no_parent_left : Sound (with_slot 0 (record { len = 0; parent = num 1; inode = num 0; name = zeros 255 }) fresh) → ⊥
unfolding fresh
no_parent_left s = omega (arith, ap (λ (x : Entry). x.parent.0) (s.free_entries 0 refl))

no_inode_left : Sound (with_slot 0 (record { len = 0; parent = num 0; inode = num 1; name = zeros 255 }) fresh) → ⊥
unfolding fresh
no_inode_left s = omega (arith, ap (λ (x : Entry). x.inode.0) (s.free_entries 0 refl))

no_key_bytes_left : Sound (with_key 0 (record { len = 16; descriptor = zeros 8; bytes = replicate 64 1 }) fresh) → ⊥
unfolding fresh zeros
no_key_bytes_left s = omega (arith, ap (λ (x : Bytes). get_or x 16 0) (s.unused_key_bytes 0))

no_name_bytes_left : Sound (listing (record { len = 1; parent = num 0; inode = num 1; name = replicate 255 97 })) → ⊥
unfolding fresh zeros
no_name_bytes_left s = omega (arith, ap (λ (x : Bytes). get_or x 1 0) (s.unused_name_bytes 0))

no_context_of_plain : Sound (holding (record { kind = 2; encrypted = false; context = record { policy = no_policy; nonce = nonce 1 } })) → ⊥
unfolding fresh zeros
no_context_of_plain s = omega (arith, ap (λ (x : Context). get_or x.nonce 0 0) (s.no_context_lem 1 refl))
