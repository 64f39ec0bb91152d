-- What a passed table of checks tells of what the effect asks: the laws of volume's Passed, for the search, and how long a key or a name is then. And, for a reader, what a
-- request comes to by what its check came to, and a fresh volume over any free records. Assumes nothing.
use mathlib.Core.Path.{◌≡◌, sym, ap, ◌∙◌}
use mathlib.Core.Bool.{false}
use Prim.Native.Nat.{ℕ, ◌≤◌}
use native.Mathlib.Omega.{arith}
use lib.ListN.{replicate, set}
use Rattle.errno.specs.Refusals.{Checked, fine, refuse, number}
use Rattle.errno.specs.declared.Errno.{Errno}
use Rattle.fscrypt.specs.Cipher.{Cipher}
use Rattle.volume.specs.Volume.{key_slots, inode_slots, entry_slots, no_key, no_inode, no_entry, fresh}
use Rattle.volume.specs.Request.{Request, refused, Outcome, outcome}
use Rattle.volume.specs.Step.{check, effect, settle, step, lent}
use Rattle.volume.specs.declared.Key.{Key}
use Rattle.volume.specs.declared.Inode.{Inode}
use Rattle.volume.specs.declared.Entry.{Entry}
use Rattle.volume.specs.declared.Volume.{Volume}
use Rattle.volume.specs.Checks.{is_bad_key_length}
use Rattle.fscrypt.proofs.Padding.{name_fits}
use Rattle.volume.proofs.Passed.{add_key_passed, remove_key_passed, create_passed, link_passed, rename_passed, find_passed, show_passed, block_passed}
use Rattle.std.proofs.lemmas.Bool.Decides.{nat_tests}

-- a key of a good length fits its slot
pub key_fits : (n : ℕ) → is_bad_key_length n ≡ false → n ≤ 64
unfolding is_bad_key_length
key_fits n h = grind (arith, nat_tests)

-- what a passed table tells of what the effect requires
pub ruleset passed = (add_key_passed, remove_key_passed, create_passed, link_passed, rename_passed, find_passed, show_passed, block_passed, name_fits, key_fits)

-- k is what the check's function returned
module _ (C : Cipher) (v : Volume) (r : Request) (k : Checked) (h : k ≡ check C v r) where
  pub refuses : (e : Errno) → k ≡ refuse e → outcome (refused (number e)) (lent r) v ≡ step C v r
  unfolding step settle
  refuses e q = ap (λ (x : Checked). settle v (lent r) x (effect C v r)) (sym q ∙ h)

  pub acts : (o : Outcome) → k ≡ fine → o ≡ effect C v r → o ≡ step C v r
  unfolding step settle
  acts o q e = e ∙ ap (λ (x : Checked). settle v (lent r) x (effect C v r)) (sym q ∙ h)

pub fresh_by : (k : Key) (n : Inode) (e : Entry) → k ≡ no_key → n ≡ no_inode → e ≡ no_entry
    → ◌≡◌ {A = Volume}
    (record {
      keys = replicate key_slots k;
      inodes = set (replicate inode_slots n) 0 (record { kind = 1; encrypted = n.encrypted; context = n.context });
      entries = replicate entry_slots e;
    })
    fresh
unfolding fresh
fresh_by k n e hk hn he i =
    record {
      keys = replicate key_slots (hk i);
      inodes = set (replicate inode_slots (hn i)) 0 (record { kind = 1; encrypted = (hn i).encrypted; context = (hn i).context });
      entries = replicate entry_slots (he i);
    }
