-- Document 01: "Every promise about a shelf speaks of one that started fresh and was changed by requests alone." Assumes nothing.
use Rattle.std.specs.Prelude.{◌≡◌, ◌≢◌}
use mathlib.Core.List.{List, Memᴰ}
use Rattle.lists.specs.Meanings.{ByteMeanings}
use Rattle.errno.specs.Meanings.{TableMeanings}
use Rattle.policy.specs.Meanings.{PolicyMeanings}
use Rattle.fscrypt.specs.Cipher.{Cipher}
use Rattle.fscrypt.specs.Meanings.{NameMeanings}
use Rattle.volume.specs.Volume.{inode_slots, fresh}
use Rattle.volume.specs.Request.{Request, AllTyped}
use Rattle.volume.specs.Lookup.{inode_at, climb_from}
use Rattle.volume.specs.Run.{Moment, run}
use Rattle.volume.specs.Sound.{Sound}
use Rattle.volume.specs.Bytewise.{Bytewise}
use Rattle.volume.specs.Meanings.{PlainMeanings, Meanings}
use Rattle.volume.specs.ShownApart.{KeepsPromise}
use Rattle.ids.specs.declared.InodeNumber.{InodeNumber}
use Rattle.volume.specs.declared.Met.TheVariants.{Neither}

-- a fresh volume is sound and its bytes are bytes, and so is the volume after every request of every list
abbrev pub AlwaysSound : Cipher → Type 0
AlwaysSound C = Sound fresh × Bytewise fresh × ((rs : List Request) → AllTyped rs → (m : Moment) → Memᴰ m (run C rs) → Sound m.volume × Bytewise m.volume)

-- names shown without the key keep their promise after every request of every list
abbrev pub PromiseKept : Cipher → Type 0
PromiseKept C = (rs : List Request) → AllTyped rs → (m : Moment) → Memᴰ m (run C rs) → KeepsPromise C m.volume

-- after every request of every list the climb from a directory "stops at whichever it meets first, the moved folder or the root" (document 01): its steps, one for
-- each inode there is room for, never run out before
abbrev pub ClimbEnds : Cipher → Type 0
ClimbEnds C =
    (rs : List Request) → AllTyped rs → (m : Moment) → Memᴰ m (run C rs)
    → (moved p : InodeNumber) → (inode_at m.volume p).kind ≡ 1 → climb_from m.volume moved inode_slots p ≢ Neither

-- the tests that these records name mean what they are to mean, in both directions: those of byte strings, of tables of checks, of policies, of names, of numbers and records,
-- and those on a volume, fresh or after any request of any list
pub record TestsMean (C : Cipher) : Type 0 where
  pub byte_strings : ByteMeanings
  pub tables : TableMeanings
  pub policies : PolicyMeanings
  pub names : NameMeanings
  pub plain : PlainMeanings
  pub on_fresh : Meanings fresh
  pub on_every : (rs : List Request) → AllTyped rs → (m : Moment) → Memᴰ m (run C rs) → Meanings m.volume
