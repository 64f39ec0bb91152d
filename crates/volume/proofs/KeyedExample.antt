-- Two keys under one descriptor, computed from the definitions: a name is garbled or EUCLEAN under the other key, and shown as it was given once its own is back. So
-- neither what is claimed of the name's own key nor what is claimed of a wrong one is claimed of nothing; and each of the three reasons of EUCLEAN is met alone.
-- Assumes nothing.
use Prim.Native.Nat.{ℕ}
use mathlib.Core.Path.{◌≡◌, refl}
use mathlib.Core.List.{List, [], ◌∷◌, ◌++◌, map}
use mathlib.Core.Option.{Option, some}
use lib.ListN.{take, replicate}
use Rattle.lists.specs.Bytes.{Bytes}
use Rattle.volume.specs.Request.{add_key, remove_key, set_policy, create, rename, show, refused, done, created, Decrypted, Encoded}
use Rattle.volume.specs.GivenNames.{naming, named, named_by, names_from, given}
use Rattle.volume.specs.KeyedNames.{keys_from, named_under}
use Rattle.volume.proofs.Computing.{descriptor, nonce, key, policy, blank, inode, entry, seen, Occasion, ◌answers◌, ◌leaving◌, requests_of, expected, computed, ran}

replacing : List Occasion
replacing =
    -- three names under the key 9
    add_key (descriptor 8) (key 9) answers done
    ∷ create (inode 0) 1 (100 ∷ []) (nonce 0) answers created (inode 1) (entry 0)
    ∷ set_policy (inode 1) (policy 0 8) (nonce 1) answers done
    ∷ create (inode 1) 2 (97 ∷ []) (nonce 2) answers created (inode 2) (entry 1)
    ∷ create (inode 1) 2 (97 ∷ 98 ∷ replicate 14 97) (nonce 3) answers created (inode 3) (entry 2)
    ∷ create (inode 1) 2 (replicate 3 97 ++ replicate 29 98) (nonce 4) answers created (inode 4) (entry 3)
    ∷ show (entry 1) blank answers seen 1 2 2 Decrypted 1 leaving (97 ∷ 77 ∷ [])
    ∷ show (entry 2) blank answers seen 1 3 2 Decrypted 16 leaving (97 ∷ 98 ∷ replicate 14 97 ++ 77 ∷ [])
    ∷ show (entry 3) blank answers seen 1 4 2 Decrypted 32 leaving (97 ∷ 97 ∷ 97 ∷ replicate 29 98 ++ 77 ∷ [])
    -- under the key 5 the first is garbled: its padding reads as more of it
    ∷ remove_key (descriptor 8) answers done
    ∷ add_key (descriptor 8) (key 5) answers done
    ∷ show (entry 1) blank answers seen 1 2 2 Decrypted 16 leaving (101 ∷ replicate 15 4 ++ 77 ∷ [])
    -- under 54 it would have slashes in it
    ∷ remove_key (descriptor 8) answers done
    ∷ add_key (descriptor 8) (key 54) answers done
    ∷ show (entry 1) blank answers refused 117
    -- under 102 the second would go on after a NUL, and the third, of 3 bytes then, would have been padded to 16 and not 32
    ∷ remove_key (descriptor 8) answers done
    ∷ add_key (descriptor 8) (key 102) answers done
    ∷ show (entry 2) blank answers refused 117
    ∷ show (entry 3) blank answers refused 117
    -- without a key, and with their own again
    ∷ remove_key (descriptor 8) answers done
    ∷ show (entry 1) blank answers seen 1 2 2 Encoded 22 leaving (80 ∷ 57 ∷ 55 ∷ 101 ∷ 51 ∷ [])
    ∷ add_key (descriptor 8) (key 9) answers done
    ∷ show (entry 1) blank answers seen 1 2 2 Decrypted 1 leaving (97 ∷ 77 ∷ [])
    ∷ show (entry 2) blank answers seen 1 3 2 Decrypted 16 leaving (97 ∷ 98 ∷ replicate 14 97 ++ 77 ∷ [])
    ∷ show (entry 3) blank answers seen 1 4 2 Decrypted 32 leaving (97 ∷ 97 ∷ 97 ∷ replicate 29 98 ++ 77 ∷ [])
    -- renamed under another key it is that one's
    ∷ remove_key (descriptor 8) answers done
    ∷ add_key (descriptor 8) (key 5) answers done
    ∷ rename (entry 1) (inode 1) (98 ∷ []) answers done
    ∷ show (entry 1) blank answers seen 1 2 2 Decrypted 1 leaving (98 ∷ 77 ∷ [])
    ∷ []

answers : computed replacing ≡ expected replacing
unfolding ran replacing
answers = refl

-- what entry 1 was named by so many of them, and under which key
noted : ℕ → Option Bytes × Bytes
noted n = let ms = ran (requests_of (take n replacing)) in (given ms 1, named_under ms 1)

-- the other keys that came and went before the rename count for nothing, and the rename's counts
named_under_lem : map noted (27 ∷ 29 ∷ []) ≡ (some (97 ∷ []), key 9) ∷ (some (98 ∷ []), key 5) ∷ []
unfolding ran replacing noted names_from keys_from named_by naming named
named_under_lem = refl
