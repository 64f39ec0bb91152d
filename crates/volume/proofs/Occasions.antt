-- Each refusal on its occasion, computed from the definitions: most requests here fail two checks that stand next to each other in document 01's order, and
-- answer the number of the earlier. That a request is refused just when it should be is said in general, by `volume/specs/DoneWhen.antt`. The runs rule out what no
-- general statement does, but for EXDEV and EPERM: the wrong one of two refusals first, and a refusal with another's number. Assumes nothing.
use Prim.Native.Nat.{ℕ, zero, suc, ◌+◌, ◌-◌}
use mathlib.Core.Path.{◌≡◌, refl}
use mathlib.Core.List.{List, [], ◌∷◌, ◌++◌, map}
use lib.ListN.{replicate}
use Rattle.lists.specs.Bytes.{zeros}
use Rattle.volume.specs.Volume.{inode_slots, entry_slots}
use Rattle.volume.specs.Request.{add_key, remove_key, set_policy, get_policy, create, link, rename, exchange, remove, find, show, seal, unseal, refused, done, created, at, policy_is, Encoded}
use Rattle.volume.proofs.Computing.{counted, descriptor, nonce, key, policy, blank, inode, entry, seen, Occasion, ◌answers◌, ◌leaving◌, expected, computed, ran}

-- each request of a list, and what it answers
occasions : List Occasion
occasions =
    -- what stands: an encrypted directory 1 with a file 2, a special file 7 and a directory 8 with a file 11 below it, all under a key that is there; a
    -- plain file 3; plain directories 4, with an encrypted 5 in it that holds a file 12, and 10; and an encrypted directory 6 with a file 9, whose key has
    -- gone: one that leaves names as they are, so that without it they would still count as taken. The two descriptors agree but in the last byte
    add_key (descriptor 7) (key 9) answers done
    ∷ create (inode 0) 1 (100 ∷ []) (nonce 0) answers created (inode 1) (entry 0)
    ∷ set_policy (inode 1) (policy 0 7) (nonce 1) answers done
    ∷ create (inode 1) 2 (97 ∷ []) (nonce 2) answers created (inode 2) (entry 1)
    ∷ create (inode 0) 2 (112 ∷ []) (nonce 0) answers created (inode 3) (entry 2)
    ∷ create (inode 0) 1 (113 ∷ []) (nonce 0) answers created (inode 4) (entry 3)
    ∷ create (inode 4) 1 (114 ∷ []) (nonce 0) answers created (inode 5) (entry 4)
    ∷ create (inode 0) 1 (107 ∷ []) (nonce 0) answers created (inode 6) (entry 5)
    ∷ create (inode 1) 4 (115 ∷ []) (nonce 1) answers created (inode 7) (entry 6)
    ∷ create (inode 1) 1 (120 ∷ []) (nonce 4) answers created (inode 8) (entry 7)
    ∷ add_key (descriptor 8) (key 61) answers done
    ∷ set_policy (inode 6) (policy 0 8) (nonce 0) answers done
    ∷ create (inode 6) 2 (121 ∷ []) (nonce 5) answers created (inode 9) (entry 8)
    ∷ remove_key (descriptor 8) answers done
    ∷ create (inode 0) 1 (101 ∷ []) (nonce 0) answers created (inode 10) (entry 9)
    ∷ set_policy (inode 5) (policy 0 7) (nonce 6) answers done
    ∷ create (inode 8) 2 (116 ∷ []) (nonce 7) answers created (inode 11) (entry 10)
    ∷ create (inode 5) 2 (117 ∷ []) (nonce 8) answers created (inode 12) (entry 11)
    -- add key: length before descriptor
    ∷ add_key (descriptor 7) (zeros 5) answers refused 22
    -- remove key
    ∷ remove_key (descriptor 9) answers refused 126
    -- set policy: inode before bytes, bytes before another policy
    ∷ set_policy (inode 50) [] (nonce 1) answers refused 2
    ∷ set_policy (inode 1) (policy 4 7) (nonce 1) answers refused 22
    ∷ set_policy (inode 1) (policy 0 8) (nonce 1) answers refused 17
    -- another policy before a first one's checks, of a directory that has entries and of a file
    ∷ set_policy (inode 2) (policy 1 7) (nonce 1) answers refused 17
    -- the root before nonempty; a non-directory, and nonempty, before the nonce
    ∷ set_policy (inode 0) (policy 0 7) (nonce 1) answers refused 1
    ∷ set_policy (inode 3) (policy 0 7) (nonce 1) answers refused 20
    ∷ set_policy (inode 4) (policy 0 7) (nonce 1) answers refused 39
    ∷ set_policy (inode 10) (policy 0 7) (nonce 1) answers refused 76
    -- get policy: inode before context
    ∷ get_policy (inode 50) answers refused 2
    ∷ get_policy (inode 3) answers refused 61
    -- names: empty; too long before a bad byte; a bad byte and dot names before the parent
    ∷ find (inode 3) [] answers refused 2
    ∷ find (inode 3) (zeros 256) answers refused 36
    ∷ find (inode 3) (0 ∷ []) answers refused 22
    ∷ find (inode 3) (97 ∷ 47 ∷ []) answers refused 22
    ∷ find (inode 3) (46 ∷ []) answers refused 22
    ∷ find (inode 3) (46 ∷ 46 ∷ []) answers refused 22
    -- create: name, kind, parent there, parent a directory, key, name taken, nonce; each fails with the next
    ∷ create (inode 50) 9 (zeros 256) (nonce 1) answers refused 36
    ∷ create (inode 50) 9 (122 ∷ []) (nonce 1) answers refused 22
    ∷ create (inode 50) 2 (122 ∷ []) (nonce 1) answers refused 2
    ∷ create (inode 9) 2 (122 ∷ []) (nonce 1) answers refused 20
    ∷ create (inode 6) 2 (121 ∷ []) (nonce 1) answers refused 126
    ∷ create (inode 1) 2 (97 ∷ []) (nonce 1) answers refused 17
    ∷ create (inode 1) 2 (122 ∷ []) (nonce 1) answers refused 76
    -- link: name, inode, parent there, parent a directory, linked directory, key, policy, name taken
    ∷ link (inode 50) (inode 3) (zeros 256) answers refused 36
    ∷ link (inode 50) (inode 3) (122 ∷ []) answers refused 2
    ∷ link (inode 4) (inode 50) (122 ∷ []) answers refused 2
    ∷ link (inode 4) (inode 3) (122 ∷ []) answers refused 20
    ∷ link (inode 4) (inode 6) (122 ∷ []) answers refused 1
    ∷ link (inode 3) (inode 6) (122 ∷ []) answers refused 126
    ∷ link (inode 3) (inode 1) (97 ∷ []) answers refused 18
    ∷ link (inode 2) (inode 1) (97 ∷ []) answers refused 17
    -- rename: name, entry, parent there, parent a directory, key of the old parent, of the new, policy, directory under itself, name taken, its own name too
    ∷ rename (entry 50) (inode 3) (zeros 256) answers refused 36
    ∷ rename (entry 50) (inode 3) (122 ∷ []) answers refused 2
    ∷ rename (entry 8) (inode 50) (122 ∷ []) answers refused 2
    ∷ rename (entry 8) (inode 3) (122 ∷ []) answers refused 20
    ∷ rename (entry 8) (inode 1) (122 ∷ []) answers refused 126
    ∷ rename (entry 2) (inode 6) (122 ∷ []) answers refused 126
    ∷ rename (entry 3) (inode 5) (117 ∷ []) answers refused 18
    ∷ rename (entry 0) (inode 8) (116 ∷ []) answers refused 22
    -- the new parent itself
    ∷ rename (entry 0) (inode 1) (97 ∷ []) answers refused 22
    ∷ rename (entry 2) (inode 0) (112 ∷ []) answers refused 17
    -- exchange: entries, keys, policies, directories, each for both sides
    ∷ exchange (entry 8) (entry 50) answers refused 2
    ∷ exchange (entry 50) (entry 8) answers refused 2
    ∷ exchange (entry 1) (entry 8) answers refused 126
    ∷ exchange (entry 8) (entry 2) answers refused 126
    ∷ exchange (entry 2) (entry 8) answers refused 126
    -- an entry with itself needs the key
    ∷ exchange (entry 8) (entry 8) answers refused 126
    ∷ exchange (entry 1) (entry 2) answers refused 18
    ∷ exchange (entry 2) (entry 1) answers refused 18
    ∷ exchange (entry 3) (entry 11) answers refused 18
    ∷ exchange (entry 0) (entry 10) answers refused 22
    ∷ exchange (entry 10) (entry 0) answers refused 22
    ∷ exchange (entry 2) (entry 2) answers done
    ∷ exchange (entry 1) (entry 1) answers done
    -- remove: entry before entries, of the root, which a free record names
    ∷ remove (entry 50) answers refused 2
    ∷ remove (entry 0) answers refused 39
    -- find: parent there, parent a directory, key, match
    ∷ find (inode 50) (122 ∷ []) answers refused 2
    ∷ find (inode 9) (122 ∷ []) answers refused 20
    ∷ find (inode 6) (122 ∷ []) answers refused 126
    ∷ find (inode 0) (122 ∷ []) answers refused 2
    -- show: buffer, entry, name
    ∷ show (entry 50) (zeros 254) answers refused 34
    ∷ show (entry 50) (zeros 255) answers refused 2
    -- seal and open: block length, inode, kind, context, key
    ∷ seal (inode 50) 0 (zeros 16) answers refused 22
    ∷ seal (inode 50) 0 (zeros 4096) answers refused 2
    ∷ seal (inode 4) 0 (zeros 4096) answers refused 22
    ∷ seal (inode 3) 0 (zeros 4096) answers refused 61
    ∷ seal (inode 9) 0 (zeros 4096) answers refused 126
    ∷ unseal (inode 50) 0 (zeros 16) answers refused 22
    ∷ unseal (inode 50) 0 (zeros 4096) answers refused 2
    ∷ unseal (inode 4) 0 (zeros 4096) answers refused 22
    ∷ unseal (inode 3) 0 (zeros 4096) answers refused 61
    ∷ unseal (inode 9) 0 (zeros 4096) answers refused 126
    -- the same descriptor with other flags, and a descriptor that differs in its last byte alone, are other policies: link, rename, exchange
    ∷ create (inode 0) 1 (102 ∷ []) (nonce 0) answers created (inode 13) (entry 12)
    ∷ set_policy (inode 13) (policy 1 7) (nonce 9) answers done
    ∷ create (inode 13) 2 (97 ∷ []) (nonce 10) answers created (inode 14) (entry 13)
    ∷ link (inode 2) (inode 13) (122 ∷ []) answers refused 18
    ∷ link (inode 9) (inode 1) (122 ∷ []) answers refused 18
    ∷ rename (entry 1) (inode 13) (122 ∷ []) answers refused 18
    ∷ exchange (entry 1) (entry 13) answers refused 18
    ∷ exchange (entry 13) (entry 1) answers refused 18
    -- seal and open, each kind that is not a regular file: the encrypted directory 1 with its symlink 15 and special file 7, and the root with its symlink 16 and
    -- special file 17, where the context lacks too
    ∷ create (inode 1) 3 (98 ∷ []) (nonce 11) answers created (inode 15) (entry 14)
    ∷ create (inode 0) 3 (115 ∷ []) (nonce 0) answers created (inode 16) (entry 15)
    ∷ create (inode 0) 4 (116 ∷ []) (nonce 0) answers created (inode 17) (entry 16)
    ∷ seal (inode 1) 0 (zeros 4096) answers refused 22
    ∷ seal (inode 15) 0 (zeros 4096) answers refused 22
    ∷ seal (inode 7) 0 (zeros 4096) answers refused 22
    ∷ seal (inode 0) 0 (zeros 4096) answers refused 22
    ∷ seal (inode 16) 0 (zeros 4096) answers refused 22
    ∷ seal (inode 17) 0 (zeros 4096) answers refused 22
    ∷ unseal (inode 1) 0 (zeros 4096) answers refused 22
    ∷ unseal (inode 15) 0 (zeros 4096) answers refused 22
    ∷ unseal (inode 7) 0 (zeros 4096) answers refused 22
    ∷ unseal (inode 0) 0 (zeros 4096) answers refused 22
    ∷ unseal (inode 16) 0 (zeros 4096) answers refused 22
    ∷ unseal (inode 17) 0 (zeros 4096) answers refused 22
    -- set policy: a first one on a plain symlink, and on special files of a plain and of an encrypted directory; another on an encrypted symlink, and its own
    ∷ set_policy (inode 16) (policy 0 7) (nonce 1) answers refused 20
    ∷ set_policy (inode 17) (policy 0 7) (nonce 1) answers refused 20
    ∷ set_policy (inode 7) (policy 0 7) (nonce 1) answers refused 20
    ∷ set_policy (inode 15) (policy 1 7) (nonce 1) answers refused 17
    ∷ set_policy (inode 15) (policy 0 8) (nonce 1) answers refused 17
    ∷ set_policy (inode 15) (policy 0 7) (nonce 1) answers done
    ∷ get_policy (inode 15) answers policy_is (policy 0 7)
    ∷ get_policy (inode 16) answers refused 61
    ∷ get_policy (inode 17) answers refused 61
    -- a symlink and a special file as parents: before the nonce, the linked directory, and the key
    ∷ create (inode 15) 2 (122 ∷ []) (nonce 1) answers refused 20
    ∷ create (inode 17) 2 (122 ∷ []) (nonce 1) answers refused 20
    ∷ link (inode 4) (inode 15) (122 ∷ []) answers refused 20
    ∷ link (inode 4) (inode 17) (122 ∷ []) answers refused 20
    ∷ rename (entry 8) (inode 15) (122 ∷ []) answers refused 20
    ∷ rename (entry 8) (inode 17) (122 ∷ []) answers refused 20
    ∷ find (inode 15) (122 ∷ []) answers refused 20
    ∷ find (inode 17) (122 ∷ []) answers refused 20
    -- the root is a linked directory too: in one whose key has gone, in a plain one, and in itself under a name that is taken
    ∷ link (inode 0) (inode 6) (122 ∷ []) answers refused 1
    ∷ link (inode 0) (inode 4) (122 ∷ []) answers refused 1
    ∷ link (inode 0) (inode 0) (112 ∷ []) answers refused 1
    -- and so is an encrypted one, into a plain directory and into one of its own policy
    ∷ link (inode 1) (inode 0) (122 ∷ []) answers refused 1
    ∷ link (inode 8) (inode 1) (97 ∷ []) answers refused 1
    -- a plain symlink is kept out of the encrypted directory, and a special file is not: there its name is what is taken
    ∷ link (inode 16) (inode 1) (97 ∷ []) answers refused 18
    ∷ rename (entry 15) (inode 1) (97 ∷ []) answers refused 18
    ∷ exchange (entry 15) (entry 14) answers refused 18
    ∷ exchange (entry 14) (entry 15) answers refused 18
    ∷ link (inode 17) (inode 1) (97 ∷ []) answers refused 17
    ∷ rename (entry 16) (inode 1) (97 ∷ []) answers refused 17
    -- a wrong key, under which the name does not decrypt
    ∷ add_key (descriptor 8) (key 19) answers done
    ∷ show (entry 8) (zeros 255) answers refused 117
    ∷ rename (entry 8) (inode 1) (122 ∷ []) answers refused 18
    -- a full keyring: the descriptor before room
    ∷ add_key (descriptor 9) (key 9) answers done
    ∷ add_key (descriptor 10) (key 10) answers done
    ∷ add_key (descriptor 11) (key 11) answers done
    ∷ add_key (descriptor 12) (key 12) answers done
    ∷ add_key (descriptor 13) (key 13) answers done
    ∷ add_key (descriptor 14) (key 14) answers done
    ∷ add_key (descriptor 7) (key 9) answers refused 17
    ∷ add_key (descriptor 15) (key 0) answers refused 28
    ∷ []

-- ---- a full volume: the name taken, and the nonce, before room

-- the highest number of so many
highest : ℕ → ℕ
highest zero = zero
highest (suc n) = n

-- an encrypted directory 1 with a file 2
begun : List Occasion
begun =
    add_key (descriptor 7) (key 9) answers done
    ∷ create (inode 0) 1 (100 ∷ []) (nonce 0) answers created (inode 1) (entry 0)
    ∷ set_policy (inode 1) (policy 0 7) (nonce 1) answers done
    ∷ create (inode 1) 2 (97 ∷ []) (nonce 2) answers created (inode 2) (entry 1)
    ∷ []

-- a file in the root for each inode that is left, and one more entry of the last of them. That fills both tables, which are of one size
crowd : List Occasion
crowd =
    begun
    ++ map (λ (n : ℕ). create (inode 0) 2 (200 ∷ (100 + n) ∷ []) (nonce 0) answers created (inode (suc n)) (entry n)) (counted (inode_slots - 3) 2)
    ++ link (inode (highest inode_slots)) (inode 0) (108 ∷ []) answers at (entry (highest entry_slots))
    ∷ create (inode 1) 2 (97 ∷ []) (nonce 1) answers refused 17
    ∷ create (inode 1) 2 (98 ∷ []) (nonce 1) answers refused 76
    ∷ create (inode 1) 2 (98 ∷ []) (nonce 3) answers refused 28
    ∷ link (inode 2) (inode 1) (97 ∷ []) answers refused 17
    ∷ link (inode 2) (inode 1) (98 ∷ []) answers refused 28
    -- room for an entry alone
    ∷ remove (entry (highest entry_slots)) answers done
    ∷ create (inode 1) 2 (98 ∷ []) (nonce 3) answers refused 28
    ∷ link (inode 2) (inode 1) (98 ∷ []) answers at (entry (highest entry_slots))
    ∷ []

-- the file 2 in every entry that is left, under names of 161 bytes; inodes are free
links : List Occasion
links =
    begun
    ++ map (λ (n : ℕ). link (inode 2) (inode 1) ((100 + n) ∷ replicate 160 34) answers at (entry n)) (counted (entry_slots - 2) 2)
    ++ create (inode 1) 2 (97 ∷ []) (nonce 1) answers refused 17
    ∷ create (inode 1) 2 (98 ∷ []) (nonce 1) answers refused 76
    ∷ create (inode 1) 2 (98 ∷ []) (nonce 3) answers refused 28
    ∷ create (inode 0) 4 (98 ∷ []) (nonce 3) answers refused 28
    ∷ link (inode 2) (inode 1) (98 ∷ []) answers refused 28
    -- without the key: `_`, the letters of the first 160 bytes, and the entry's two digits
    ∷ remove_key (descriptor 7) answers done
    ∷ show (entry 26) blank answers seen 1 2 2 Encoded 217 leaving (95 ∷ 88 ∷ replicate 213 65 ++ 49 ∷ 97 ∷ 77 ∷ [])
    -- an entry of a file that has others; the number is used again
    ∷ remove (entry 26) answers done
    ∷ create (inode 0) 2 (98 ∷ []) (nonce 1) answers created (inode 3) (entry 26)
    ∷ []

runs : List (List Occasion)
runs = occasions ∷ crowd ∷ links ∷ []

on_its_occasion : map computed runs ≡ map expected runs
unfolding ran occasions highest begun crowd links runs
on_its_occasion = refl
