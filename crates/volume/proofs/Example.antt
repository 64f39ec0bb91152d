-- Requests that are done, with what they answer and write, computed from the definitions: every form of answer, and inodes of each kind created, shown, renamed,
-- exchanged, linked if no directory, and removed, in plain and in encrypted directories. That a request is done just when it should be is said in general, by
-- `volume/specs/DoneWhen.antt`. The runs have answers, records and buffers whole, and so rule out what the general statements leave open: a number or a byte that is
-- not looked at, or is written wrong. Assumes nothing.
use mathlib.Core.Path.{◌≡◌, refl}
use mathlib.Core.Bool.{cond}
use mathlib.Core.List.{List, [], ◌∷◌, ◌++◌, map}
use lib.ListN.{get_or, replicate}
use Rattle.lists.specs.Bytes.{Bytes, zeros}
use Rattle.policy.specs.Policies.{policy_bytes}
use Rattle.volume.specs.Volume.{fresh, no_key, no_inode, no_entry}
use Rattle.volume.specs.Request.{Request, add_key, remove_key, set_policy, get_policy, create, link, rename, exchange, remove, find, show, seal, unseal, refused, done, created, at, policy_is, Plain, Decrypted, Encoded}
use Rattle.volume.specs.Run.{Moment}
use Rattle.volume.specs.declared.Key.{Key}
use Rattle.volume.specs.declared.Inode.{Inode}
use Rattle.volume.specs.declared.Entry.{Entry}
use Rattle.volume.specs.declared.Volume.{Volume}
use Rattle.volume.proofs.Computing.{counted, descriptor, nonce, key, policy, blank, block, inode, entry, seen, Occasion, ◌answers◌, ◌leaving◌, expected, computed, ran}

-- ---- creating, linking, moving and removing

moves : List Occasion
moves =
    -- plain directories 1 and 2, and encrypted ones 3 and 4 of one policy
    add_key (descriptor 8) (key 9) answers done leaving (9 ∷ 130 ∷ [])
    ∷ create (inode 0) 1 (112 ∷ []) (nonce 0) answers created (inode 1) (entry 0)
    ∷ create (inode 0) 1 (113 ∷ []) (nonce 0) answers created (inode 2) (entry 1)
    ∷ create (inode 0) 1 (101 ∷ []) (nonce 0) answers created (inode 3) (entry 2)
    ∷ create (inode 0) 1 (102 ∷ []) (nonce 0) answers created (inode 4) (entry 3)
    ∷ set_policy (inode 3) (policy 2 8) (nonce 1) answers done
    ∷ set_policy (inode 4) (policy 2 8) (nonce 2) answers done
    -- each kind in a plain directory and in an encrypted one; the special one takes no nonce
    ∷ create (inode 1) 1 (97 ∷ []) (nonce 0) answers created (inode 5) (entry 4)
    ∷ create (inode 1) 2 (98 ∷ []) (nonce 0) answers created (inode 6) (entry 5)
    ∷ create (inode 1) 3 (99 ∷ []) (nonce 0) answers created (inode 7) (entry 6)
    ∷ create (inode 1) 4 (100 ∷ []) (nonce 0) answers created (inode 8) (entry 7)
    ∷ create (inode 3) 1 (97 ∷ []) (nonce 3) answers created (inode 9) (entry 8)
    ∷ create (inode 3) 2 (98 ∷ []) (nonce 4) answers created (inode 10) (entry 9)
    ∷ create (inode 3) 3 (99 ∷ []) (nonce 5) answers created (inode 11) (entry 10)
    ∷ create (inode 3) 4 (100 ∷ []) (nonce 1) answers created (inode 12) (entry 11)
    ∷ show (entry 4) blank answers seen 1 5 1 Plain 1 leaving (97 ∷ 77 ∷ [])
    ∷ show (entry 5) blank answers seen 1 6 2 Plain 1 leaving (98 ∷ 77 ∷ [])
    ∷ show (entry 6) blank answers seen 1 7 3 Plain 1 leaving (99 ∷ 77 ∷ [])
    ∷ show (entry 7) blank answers seen 1 8 4 Plain 1 leaving (100 ∷ 77 ∷ [])
    ∷ show (entry 8) blank answers seen 3 9 1 Decrypted 1 leaving (97 ∷ 77 ∷ [])
    ∷ show (entry 9) blank answers seen 3 10 2 Decrypted 1 leaving (98 ∷ 77 ∷ [])
    ∷ show (entry 10) blank answers seen 3 11 3 Decrypted 1 leaving (99 ∷ 77 ∷ [])
    ∷ show (entry 11) blank answers seen 3 12 4 Decrypted 1 leaving (100 ∷ 77 ∷ [])
    -- each child has the policy, but the special one
    ∷ get_policy (inode 9) answers policy_is (policy 2 8)
    ∷ get_policy (inode 10) answers policy_is (policy 2 8)
    ∷ get_policy (inode 11) answers policy_is (policy 2 8)
    ∷ get_policy (inode 12) answers refused 61
    -- found by name, in its own directory
    ∷ find (inode 3) (98 ∷ []) answers at (entry 9)
    ∷ find (inode 1) (98 ∷ []) answers at (entry 5)
    ∷ find (inode 4) (98 ∷ []) answers refused 2
    ∷ find (inode 3) (120 ∷ []) answers refused 2
    -- within a directory
    ∷ rename (entry 9) (inode 3) (110 ∷ []) answers done
    ∷ show (entry 9) blank answers seen 3 10 2 Decrypted 1 leaving (110 ∷ 77 ∷ [])
    ∷ find (inode 3) (98 ∷ []) answers refused 2
    ∷ find (inode 3) (110 ∷ []) answers at (entry 9)
    -- a directory from one directory to another: plain; encrypted; to the root, where the name is plain, and back
    ∷ rename (entry 4) (inode 2) (120 ∷ []) answers done
    ∷ show (entry 4) blank answers seen 2 5 1 Plain 1 leaving (120 ∷ 77 ∷ [])
    ∷ rename (entry 8) (inode 4) (120 ∷ []) answers done
    ∷ show (entry 8) blank answers seen 4 9 1 Decrypted 1 leaving (120 ∷ 77 ∷ [])
    ∷ rename (entry 8) (inode 0) (120 ∷ []) answers done
    ∷ show (entry 8) blank answers seen 0 9 1 Plain 1 leaving (120 ∷ 77 ∷ [])
    ∷ rename (entry 8) (inode 3) (120 ∷ []) answers done
    ∷ show (entry 8) blank answers seen 3 9 1 Decrypted 1 leaving (120 ∷ 77 ∷ [])
    -- a file out of its encrypted directory, and back
    ∷ rename (entry 9) (inode 1) (110 ∷ []) answers done
    ∷ show (entry 9) blank answers seen 1 10 2 Plain 1 leaving (110 ∷ 77 ∷ [])
    ∷ rename (entry 9) (inode 3) (110 ∷ []) answers done
    ∷ show (entry 9) blank answers seen 3 10 2 Decrypted 1 leaving (110 ∷ 77 ∷ [])
    -- exchange: names stay. A plain file with a directory of another directory
    ∷ exchange (entry 5) (entry 4) answers done
    ∷ show (entry 5) blank answers seen 1 5 1 Plain 1 leaving (98 ∷ 77 ∷ [])
    ∷ show (entry 4) blank answers seen 2 6 2 Plain 1 leaving (120 ∷ 77 ∷ [])
    -- two directories of two directories
    ∷ create (inode 2) 1 (111 ∷ []) (nonce 0) answers created (inode 13) (entry 12)
    ∷ exchange (entry 5) (entry 12) answers done
    ∷ show (entry 5) blank answers seen 1 13 1 Plain 1 leaving (98 ∷ 77 ∷ [])
    ∷ show (entry 12) blank answers seen 2 5 1 Plain 1 leaving (111 ∷ 77 ∷ [])
    -- two encrypted directories of one policy
    ∷ create (inode 4) 2 (111 ∷ []) (nonce 6) answers created (inode 14) (entry 13)
    ∷ exchange (entry 8) (entry 13) answers done
    ∷ show (entry 8) blank answers seen 3 14 2 Decrypted 1 leaving (120 ∷ 77 ∷ [])
    ∷ show (entry 13) blank answers seen 4 9 1 Decrypted 1 leaving (111 ∷ 77 ∷ [])
    -- special files of a plain and an encrypted directory
    ∷ exchange (entry 7) (entry 11) answers done
    ∷ show (entry 7) blank answers seen 1 12 4 Plain 1 leaving (100 ∷ 77 ∷ [])
    ∷ show (entry 11) blank answers seen 3 8 4 Decrypted 1 leaving (100 ∷ 77 ∷ [])
    -- links: an encrypted file in a plain directory, and in another of its policy; a special one in an encrypted directory
    ∷ link (inode 10) (inode 1) (97 ∷ []) answers at (entry 14)
    ∷ link (inode 10) (inode 4) (97 ∷ []) answers at (entry 15)
    ∷ link (inode 8) (inode 4) (98 ∷ []) answers at (entry 16)
    ∷ show (entry 14) blank answers seen 1 10 2 Plain 1 leaving (97 ∷ 77 ∷ [])
    ∷ show (entry 15) blank answers seen 4 10 2 Decrypted 1 leaving (97 ∷ 77 ∷ [])
    ∷ show (entry 16) blank answers seen 4 8 4 Decrypted 1 leaving (98 ∷ 77 ∷ [])
    -- a special file for an encrypted one that stood in a plain directory
    ∷ exchange (entry 11) (entry 14) answers done
    ∷ show (entry 11) blank answers seen 3 10 2 Decrypted 1 leaving (100 ∷ 77 ∷ [])
    ∷ show (entry 14) blank answers seen 1 8 4 Plain 1 leaving (97 ∷ 77 ∷ [])
    ∷ exchange (entry 14) (entry 11) answers done
    -- an empty directory goes; a file stays while it has an entry, and goes with the last; the lowest numbers are used again
    ∷ remove (entry 5) answers done
    ∷ get_policy (inode 13) answers refused 2
    ∷ remove (entry 9) answers done
    ∷ get_policy (inode 10) answers policy_is (policy 2 8)
    ∷ remove (entry 14) answers done
    ∷ remove (entry 15) answers done
    ∷ get_policy (inode 10) answers refused 2
    ∷ create (inode 2) 3 (98 ∷ []) (nonce 0) answers created (inode 10) (entry 5)
    ∷ create (inode 3) 2 (98 ∷ []) (nonce 3) answers refused 76
    ∷ []

-- ---- policies, and what goes without the key

policies : List Occasion
policies =
    -- one directory for each value of the flags, before its key is there; each gives back its 12 bytes
    create (inode 0) 1 (100 ∷ []) (nonce 0) answers created (inode 1) (entry 0)
    ∷ create (inode 0) 1 (101 ∷ []) (nonce 0) answers created (inode 2) (entry 1)
    ∷ create (inode 0) 1 (102 ∷ []) (nonce 0) answers created (inode 3) (entry 2)
    ∷ create (inode 0) 1 (103 ∷ []) (nonce 0) answers created (inode 4) (entry 3)
    ∷ set_policy (inode 1) (policy 0 8) (nonce 1) answers done
    ∷ set_policy (inode 2) (policy 1 8) (nonce 2) answers done
    ∷ set_policy (inode 3) (policy 2 8) (nonce 3) answers done
    ∷ set_policy (inode 4) (policy 3 8) (nonce 4) answers done
    ∷ get_policy (inode 1) answers policy_is (policy 0 8)
    ∷ get_policy (inode 2) answers policy_is (policy 1 8)
    ∷ get_policy (inode 3) answers policy_is (policy 2 8)
    ∷ get_policy (inode 4) answers policy_is (policy 3 8)
    -- descriptors that agree but in the last byte are two: this key is not theirs
    ∷ add_key (descriptor 9) (key 5) answers done
    ∷ create (inode 1) 2 (97 ∷ []) (nonce 5) answers refused 126
    -- keys under 64 bytes are held and count as absent
    ∷ add_key (descriptor 8) (counted 16 130) answers done
    ∷ create (inode 1) 2 (97 ∷ []) (nonce 5) answers refused 126
    ∷ remove_key (descriptor 8) answers done
    ∷ add_key (descriptor 8) (counted 32 130) answers done
    ∷ create (inode 1) 2 (97 ∷ []) (nonce 5) answers refused 126
    ∷ remove_key (descriptor 8) answers done
    ∷ add_key (descriptor 8) (counted 48 130) answers done
    ∷ create (inode 1) 2 (97 ∷ []) (nonce 5) answers refused 126
    ∷ remove_key (descriptor 8) answers done
    -- a name of 33 bytes in each: padded to 36, 40, 48 and 64
    ∷ add_key (descriptor 8) (key 9) answers done
    ∷ create (inode 1) 2 (counted 33 97) (nonce 5) answers created (inode 5) (entry 4)
    ∷ create (inode 2) 2 (counted 33 97) (nonce 6) answers created (inode 6) (entry 5)
    ∷ create (inode 3) 2 (counted 33 97) (nonce 7) answers created (inode 7) (entry 6)
    ∷ create (inode 4) 2 (counted 33 97) (nonce 8) answers created (inode 8) (entry 7)
    ∷ show (entry 4) blank answers seen 1 5 2 Decrypted 33 leaving (counted 33 97 ++ 77 ∷ [])
    ∷ show (entry 5) blank answers seen 2 6 2 Decrypted 33 leaving (counted 33 97 ++ 77 ∷ [])
    ∷ show (entry 6) blank answers seen 3 7 2 Decrypted 33 leaving (counted 33 97 ++ 77 ∷ [])
    ∷ show (entry 7) blank answers seen 4 8 2 Decrypted 33 leaving (counted 33 97 ++ 77 ∷ [])
    -- the same without the key; it still answers its policy, takes it again, whatever the nonce, and gives up its entries
    ∷ remove_key (descriptor 8) answers done
    ∷ show (entry 4) blank answers seen 1 5 2 Encoded 48 leaving (80 ∷ 48 ∷ 66 ∷ 66 ∷ 81 ∷ [])
    ∷ show (entry 5) blank answers seen 2 6 2 Encoded 54 leaving (86 ∷ 108 ∷ 100 ∷ 89 ∷ 87 ∷ [])
    ∷ show (entry 6) blank answers seen 3 7 2 Encoded 64 leaving (106 ∷ 89 ∷ 54 ∷ 80 ∷ 107 ∷ [])
    ∷ show (entry 7) blank answers seen 4 8 2 Encoded 86 leaving (122 ∷ 77 ∷ 51 ∷ 79 ∷ 122 ∷ [])
    ∷ get_policy (inode 5) answers policy_is (policy 0 8)
    ∷ set_policy (inode 1) (policy 0 8) (nonce 99) answers done
    ∷ set_policy (inode 1) (policy 0 9) (nonce 99) answers refused 17
    ∷ set_policy (inode 1) (policy 1 8) (nonce 99) answers refused 17
    ∷ get_policy (inode 1) answers policy_is (policy 0 8)
    ∷ remove (entry 7) answers done
    ∷ remove (entry 3) answers done
    ∷ get_policy (inode 4) answers refused 2
    ∷ find (inode 1) (counted 33 97) answers refused 126
    -- and once it is back, its names are as they were
    ∷ add_key (descriptor 8) (key 9) answers done
    ∷ find (inode 1) (counted 33 97) answers at (entry 4)
    ∷ show (entry 4) blank answers seen 1 5 2 Decrypted 33 leaving (counted 33 97 ++ 77 ∷ [])
    ∷ []

-- ---- blocks, and the lent buffers

blocks : List Occasion
blocks =
    -- two files in an encrypted directory: each block is sealed by its mode, under its own file's key and its own number
    add_key (descriptor 8) (key 9) answers done
    ∷ create (inode 0) 1 (100 ∷ []) (nonce 0) answers created (inode 1) (entry 0)
    ∷ set_policy (inode 1) (policy 2 8) (nonce 1) answers done
    ∷ create (inode 1) 2 (97 ∷ []) (nonce 2) answers created (inode 2) (entry 1)
    ∷ create (inode 1) 2 (98 ∷ []) (nonce 3) answers created (inode 3) (entry 2)
    ∷ seal (inode 2) 0 (block 1) answers done leaving (block 245)
    ∷ seal (inode 2) 255 (block 1) answers done leaving (block 249)
    ∷ seal (inode 2) 256 (block 1) answers done leaving (block 250)
    ∷ seal (inode 2) 65536 (block 1) answers done leaving (block 14)
    ∷ seal (inode 2) 4294967296 (block 1) answers done leaving (block 112)
    ∷ seal (inode 2) 9223372036854775808 (block 1) answers done leaving (block 149)
    ∷ seal (inode 2) 18446744073709551615 (block 1) answers done leaving (block 57)
    ∷ seal (inode 3) 0 (block 1) answers done leaving (block 162)
    ∷ unseal (inode 2) 0 (block 245) answers done leaving (block 1)
    ∷ unseal (inode 2) 18446744073709551615 (block 57) answers done leaving (block 1)
    -- another master key of the same file is another key
    ∷ remove_key (descriptor 8) answers done
    ∷ add_key (descriptor 8) (key 10) answers done
    ∷ seal (inode 2) 0 (block 1) answers done leaving (block 246)
    -- what was refused leaves the buffer, and show what stands past the name
    ∷ seal (inode 1) 0 (block 77) answers refused 22 leaving (77 ∷ 77 ∷ [])
    ∷ unseal (inode 50) 0 (block 77) answers refused 2 leaving (77 ∷ 77 ∷ [])
    ∷ seal (inode 2) 0 (replicate 4095 77) answers refused 22 leaving (77 ∷ 77 ∷ [])
    ∷ seal (inode 2) 0 (replicate 4097 77) answers refused 22 leaving (77 ∷ 77 ∷ [])
    ∷ show (entry 50) blank answers refused 2 leaving (77 ∷ 77 ∷ [])
    ∷ show (entry 0) (replicate 254 77) answers refused 34 leaving (77 ∷ 77 ∷ [])
    ∷ show (entry 0) (replicate 256 77) answers seen 0 1 1 Plain 1 leaving (100 ∷ 77 ∷ [])
    ∷ add_key (descriptor 9) (replicate 40 77) answers refused 22 leaving (77 ∷ 77 ∷ [])
    ∷ []

-- ---- names

-- a name for each letter of the alphabet in turn, once it is encrypted
alphabet : Bytes
alphabet =
    34 ∷ 50 ∷ 165 ∷ 50 ∷ 115 ∷ 169 ∷ 66 ∷ 180 ∷ 173 ∷ 82 ∷ 245 ∷ 177 ∷ 99 ∷ 54 ∷ 181 ∷ 115 ∷ 119 ∷ 185 ∷ 131 ∷ 184 ∷ 189 ∷ 147 ∷ 249 ∷ 193
    ∷ 164 ∷ 58 ∷ 197 ∷ 180 ∷ 123 ∷ 201 ∷ 196 ∷ 188 ∷ 205 ∷ 212 ∷ 253 ∷ 209 ∷ 229 ∷ 62 ∷ 213 ∷ 245 ∷ 127 ∷ 217 ∷ 5 ∷ 192 ∷ 221 ∷ 21 ∷ 1 ∷ 225
    ∷ []

names : List Occasion
names =
    -- the longest name, one with dots and one of odd bytes, in a plain and in an encrypted directory
    add_key (descriptor 8) (key 9) answers done
    ∷ create (inode 0) 1 (100 ∷ []) (nonce 0) answers created (inode 1) (entry 0)
    ∷ set_policy (inode 1) (policy 0 8) (nonce 1) answers done
    ∷ create (inode 0) 2 (replicate 255 34) (nonce 0) answers created (inode 2) (entry 1)
    ∷ create (inode 0) 2 (46 ∷ 46 ∷ 97 ∷ []) (nonce 0) answers created (inode 3) (entry 2)
    ∷ create (inode 0) 2 (1 ∷ 46 ∷ 48 ∷ 92 ∷ 255 ∷ []) (nonce 0) answers created (inode 4) (entry 3)
    ∷ create (inode 1) 2 (replicate 255 34) (nonce 2) answers created (inode 5) (entry 4)
    ∷ create (inode 1) 2 (46 ∷ 46 ∷ 97 ∷ []) (nonce 3) answers created (inode 6) (entry 5)
    ∷ create (inode 1) 2 (1 ∷ 46 ∷ 48 ∷ 92 ∷ 255 ∷ []) (nonce 4) answers created (inode 7) (entry 6)
    ∷ show (entry 1) blank answers seen 0 2 2 Plain 255 leaving (replicate 255 34)
    ∷ show (entry 2) blank answers seen 0 3 2 Plain 3 leaving (46 ∷ 46 ∷ 97 ∷ 77 ∷ [])
    ∷ show (entry 3) blank answers seen 0 4 2 Plain 5 leaving (1 ∷ 46 ∷ 48 ∷ 92 ∷ 255 ∷ 77 ∷ [])
    ∷ show (entry 4) blank answers seen 1 5 2 Decrypted 255 leaving (replicate 255 34)
    ∷ show (entry 5) blank answers seen 1 6 2 Decrypted 3 leaving (46 ∷ 46 ∷ 97 ∷ 77 ∷ [])
    ∷ show (entry 6) blank answers seen 1 7 2 Decrypted 5 leaving (1 ∷ 46 ∷ 48 ∷ 92 ∷ 255 ∷ 77 ∷ [])
    -- without the key: 255 bytes and 160, that are zeros once they are encrypted, 20, and the 48 that are every letter in turn
    ∷ create (inode 1) 2 (replicate 160 34) (nonce 5) answers created (inode 8) (entry 7)
    ∷ create (inode 1) 3 (replicate 17 34) (nonce 6) answers created (inode 9) (entry 8)
    ∷ create (inode 1) 1 alphabet (nonce 7) answers created (inode 10) (entry 9)
    ∷ remove_key (descriptor 8) answers done
    ∷ show (entry 4) blank answers seen 1 5 2 Encoded 217 leaving (95 ∷ replicate 214 65 ++ 48 ∷ 52 ∷ 77 ∷ [])
    ∷ show (entry 7) blank answers seen 1 8 2 Encoded 214 leaving (replicate 214 65 ++ 77 ∷ [])
    ∷ show (entry 8) blank answers seen 1 9 3 Encoded 27 leaving (replicate 22 65 ++ 68 ∷ 101 ∷ 51 ∷ 116 ∷ 52 ∷ 77 ∷ [])
    ∷ show (entry 9) blank answers seen 1 10 1 Encoded 64 leaving (counted 26 65 ++ counted 26 97 ++ counted 10 48 ++ 43 ∷ 44 ∷ 77 ∷ [])
    ∷ []

-- ---- exchange within one directory, and the kinds that are neither a directory nor a regular file

others : List Occasion
others =
    -- a plain directory 1 and an encrypted one 2, with one of each kind in each
    add_key (descriptor 8) (key 9) answers done
    ∷ create (inode 0) 1 (112 ∷ []) (nonce 0) answers created (inode 1) (entry 0)
    ∷ create (inode 0) 1 (101 ∷ []) (nonce 0) answers created (inode 2) (entry 1)
    ∷ set_policy (inode 2) (policy 1 8) (nonce 1) answers done
    ∷ create (inode 1) 1 (97 ∷ []) (nonce 0) answers created (inode 3) (entry 2)
    ∷ create (inode 1) 2 (98 ∷ []) (nonce 0) answers created (inode 4) (entry 3)
    ∷ create (inode 1) 3 (99 ∷ []) (nonce 0) answers created (inode 5) (entry 4)
    ∷ create (inode 1) 4 (100 ∷ []) (nonce 0) answers created (inode 6) (entry 5)
    ∷ create (inode 2) 1 (97 ∷ []) (nonce 2) answers created (inode 7) (entry 6)
    ∷ create (inode 2) 2 (98 ∷ []) (nonce 3) answers created (inode 8) (entry 7)
    ∷ create (inode 2) 3 (99 ∷ []) (nonce 4) answers created (inode 9) (entry 8)
    ∷ create (inode 2) 4 (100 ∷ []) (nonce 0) answers created (inode 10) (entry 9)
    -- two entries of one directory, plain and encrypted: the inodes change places, and the names stay
    ∷ exchange (entry 2) (entry 3) answers done
    ∷ show (entry 2) blank answers seen 1 4 2 Plain 1 leaving (97 ∷ 77 ∷ [])
    ∷ show (entry 3) blank answers seen 1 3 1 Plain 1 leaving (98 ∷ 77 ∷ [])
    ∷ exchange (entry 7) (entry 6) answers done
    ∷ show (entry 6) blank answers seen 2 8 2 Decrypted 1 leaving (97 ∷ 77 ∷ [])
    ∷ show (entry 7) blank answers seen 2 7 1 Decrypted 1 leaving (98 ∷ 77 ∷ [])
    ∷ find (inode 2) (97 ∷ []) answers at (entry 6)
    ∷ exchange (entry 8) (entry 9) answers done
    ∷ show (entry 8) blank answers seen 2 10 4 Decrypted 1 leaving (99 ∷ 77 ∷ [])
    ∷ show (entry 9) blank answers seen 2 9 3 Decrypted 1 leaving (100 ∷ 77 ∷ [])
    ∷ exchange (entry 8) (entry 9) answers done
    ∷ exchange (entry 5) (entry 4) answers done
    ∷ show (entry 4) blank answers seen 1 6 4 Plain 1 leaving (99 ∷ 77 ∷ [])
    ∷ show (entry 5) blank answers seen 1 5 3 Plain 1 leaving (100 ∷ 77 ∷ [])
    ∷ exchange (entry 4) (entry 5) answers done
    -- two entries of one inode, in one directory and in two: nothing changes
    ∷ link (inode 8) (inode 2) (108 ∷ []) answers at (entry 10)
    ∷ link (inode 8) (inode 1) (108 ∷ []) answers at (entry 11)
    ∷ exchange (entry 6) (entry 10) answers done
    ∷ exchange (entry 11) (entry 6) answers done
    ∷ show (entry 6) blank answers seen 2 8 2 Decrypted 1 leaving (97 ∷ 77 ∷ [])
    ∷ show (entry 10) blank answers seen 2 8 2 Decrypted 1 leaving (108 ∷ 77 ∷ [])
    ∷ show (entry 11) blank answers seen 1 8 2 Plain 1 leaving (108 ∷ 77 ∷ [])
    ∷ remove (entry 6) answers done
    ∷ remove (entry 10) answers done
    ∷ get_policy (inode 8) answers policy_is (policy 1 8)
    -- a symlink renamed within its directory, an encrypted one to a plain directory and back
    ∷ rename (entry 4) (inode 1) (115 ∷ []) answers done
    ∷ show (entry 4) blank answers seen 1 5 3 Plain 1 leaving (115 ∷ 77 ∷ [])
    ∷ rename (entry 8) (inode 1) (116 ∷ []) answers done
    ∷ show (entry 8) blank answers seen 1 9 3 Plain 1 leaving (116 ∷ 77 ∷ [])
    ∷ rename (entry 8) (inode 2) (117 ∷ []) answers done
    ∷ show (entry 8) blank answers seen 2 9 3 Decrypted 1 leaving (117 ∷ 77 ∷ [])
    -- a special file renamed within its directory, and from a plain one to an encrypted one
    ∷ rename (entry 9) (inode 2) (115 ∷ []) answers done
    ∷ show (entry 9) blank answers seen 2 10 4 Decrypted 1 leaving (115 ∷ 77 ∷ [])
    ∷ rename (entry 5) (inode 2) (116 ∷ []) answers done
    ∷ show (entry 5) blank answers seen 2 6 4 Decrypted 1 leaving (116 ∷ 77 ∷ [])
    -- a symlink linked: plain in a plain directory, encrypted in its own and in a plain one
    ∷ link (inode 5) (inode 0) (115 ∷ []) answers at (entry 6)
    ∷ link (inode 9) (inode 2) (118 ∷ []) answers at (entry 10)
    ∷ link (inode 9) (inode 1) (118 ∷ []) answers at (entry 12)
    ∷ show (entry 6) blank answers seen 0 5 3 Plain 1 leaving (115 ∷ 77 ∷ [])
    ∷ show (entry 10) blank answers seen 2 9 3 Decrypted 1 leaving (118 ∷ 77 ∷ [])
    ∷ show (entry 12) blank answers seen 1 9 3 Plain 1 leaving (118 ∷ 77 ∷ [])
    -- a symlink stays while it has an entry; with the last its number is free again, and its nonce
    ∷ remove (entry 8) answers done
    ∷ remove (entry 10) answers done
    ∷ get_policy (inode 9) answers policy_is (policy 1 8)
    ∷ create (inode 2) 3 (119 ∷ []) (nonce 4) answers refused 76
    ∷ remove (entry 12) answers done
    ∷ get_policy (inode 9) answers refused 2
    ∷ create (inode 2) 3 (119 ∷ []) (nonce 4) answers created (inode 9) (entry 8)
    ∷ remove (entry 4) answers done
    ∷ get_policy (inode 5) answers refused 61
    ∷ remove (entry 6) answers done
    ∷ get_policy (inode 5) answers refused 2
    ∷ create (inode 1) 2 (99 ∷ []) (nonce 0) answers created (inode 5) (entry 4)
    -- so is a special file's
    ∷ remove (entry 5) answers done
    ∷ get_policy (inode 6) answers refused 2
    ∷ create (inode 2) 4 (116 ∷ []) (nonce 0) answers created (inode 6) (entry 5)
    ∷ remove (entry 9) answers done
    ∷ get_policy (inode 10) answers refused 2
    ∷ create (inode 1) 3 (115 ∷ []) (nonce 0) answers created (inode 10) (entry 6)
    ∷ show (entry 5) blank answers seen 2 6 4 Decrypted 1 leaving (116 ∷ 77 ∷ [])
    ∷ show (entry 6) blank answers seen 1 10 3 Plain 1 leaving (115 ∷ 77 ∷ [])
    -- a plain file is renamed, linked and removed; so is a special file that goes from an encrypted directory to a plain one
    ∷ rename (entry 2) (inode 1) (102 ∷ []) answers done
    ∷ show (entry 2) blank answers seen 1 4 2 Plain 1 leaving (102 ∷ 77 ∷ [])
    ∷ link (inode 4) (inode 0) (102 ∷ []) answers at (entry 9)
    ∷ show (entry 9) blank answers seen 0 4 2 Plain 1 leaving (102 ∷ 77 ∷ [])
    ∷ remove (entry 2) answers done
    ∷ get_policy (inode 4) answers refused 61
    ∷ remove (entry 9) answers done
    ∷ get_policy (inode 4) answers refused 2
    ∷ rename (entry 5) (inode 1) (100 ∷ []) answers done
    ∷ show (entry 5) blank answers seen 1 6 4 Plain 1 leaving (100 ∷ 77 ∷ [])
    ∷ link (inode 6) (inode 0) (100 ∷ []) answers at (entry 2)
    ∷ show (entry 2) blank answers seen 0 6 4 Plain 1 leaving (100 ∷ 77 ∷ [])
    ∷ remove (entry 5) answers done
    ∷ get_policy (inode 6) answers refused 61
    ∷ remove (entry 2) answers done
    ∷ get_policy (inode 6) answers refused 2
    -- each kind that has the policy takes it again, whatever the nonce
    ∷ set_policy (inode 2) (policy 1 8) (nonce 4) answers done
    ∷ set_policy (inode 7) (policy 1 8) (nonce 4) answers done
    ∷ set_policy (inode 8) (policy 1 8) (nonce 4) answers done
    ∷ set_policy (inode 9) (policy 1 8) (nonce 4) answers done
    -- an empty directory of a plain and of an encrypted one goes, and a file of the encrypted one
    ∷ remove (entry 3) answers done
    ∷ get_policy (inode 3) answers refused 2
    ∷ remove (entry 7) answers done
    ∷ get_policy (inode 7) answers refused 2
    ∷ create (inode 2) 2 (97 ∷ []) (nonce 2) answers created (inode 3) (entry 2)
    ∷ remove (entry 2) answers done
    ∷ get_policy (inode 3) answers refused 2
    ∷ []

runs : List (List Occasion)
runs = moves ∷ policies ∷ blocks ∷ names ∷ others ∷ []

answers : map computed runs ≡ map expected runs
unfolding ran moves policies blocks alphabet names others runs
answers = refl

-- ---- records: "A freed record is all zeros, and so are a record's unused bytes."

key_record : Key → Bytes
key_record k = k.len ∷ k.descriptor ++ k.bytes

inode_record : Inode → Bytes
inode_record i = i.kind ∷ cond i.encrypted 1 0 ∷ policy_bytes i.context.policy ++ i.context.nonce

entry_record : Entry → Bytes
entry_record e = e.len ∷ e.parent.0 ∷ e.inode.0 ∷ e.name

last_of : List Moment → Volume
last_of [] = fresh
last_of (m ∷ []) = m.volume
last_of (m ∷ n ∷ ms) = last_of (n ∷ ms)

-- the keys 0 and 1, the inode 1 and the entry 0 after these requests
records : List Request → List Bytes
records rs =
    let v = last_of (ran rs) in
    key_record (get_or v.keys 0 no_key)
    ∷ key_record (get_or v.keys 1 no_key)
    ∷ inode_record (get_or v.inodes 1 no_inode)
    ∷ entry_record (get_or v.entries 0 no_entry)
    ∷ []

-- a key of 32 bytes and one of 64, and an encrypted directory in the root
standing : List Request
standing =
    add_key (descriptor 8) (counted 32 130)
    ∷ add_key (zeros 8) (key 9)
    ∷ create (inode 0) 1 (100 ∷ 101 ∷ []) (nonce 0)
    ∷ set_policy (inode 1) (policy 3 9) (nonce 1)
    ∷ []

-- they go, but one key; a new key takes the lowest free slot
gone : List Request
gone = standing ++ remove (entry 0) ∷ remove_key (descriptor 8) ∷ []

again : List Request
again = gone ++ add_key (descriptor 7) (counted 16 130) ∷ remove_key (zeros 8) ∷ []

freed : map records (standing ∷ gone ∷ again ∷ [])
    ≡ ((32 ∷ descriptor 8 ++ counted 32 130 ++ replicate 32 0)
    ∷ (64 ∷ replicate 8 0 ++ key 9)
    ∷ (1 ∷ 1 ∷ policy 3 9 ++ nonce 1)
    ∷ (2 ∷ 0 ∷ 1 ∷ 100 ∷ 101 ∷ replicate 253 0)
    ∷ [])
    ∷ (replicate 73 0 ∷ (64 ∷ replicate 8 0 ++ key 9) ∷ replicate 30 0 ∷ replicate 258 0 ∷ [])
    ∷ ((16 ∷ descriptor 7 ++ counted 16 130 ++ replicate 48 0) ∷ replicate 73 0 ∷ replicate 30 0 ∷ replicate 258 0 ∷ [])
    ∷ []
unfolding ran key_record inode_record entry_record last_of records standing gone again
freed = refl
