-- Add key and remove key keep the invariant: a key that is added is of a good length, and its descriptor is on no other slot.
-- Assumes nothing.
use Prim.Native.Nat.{◌-◌}
use mathlib.Core.Path.{◌≡◌, refl, sym, ◌∙◌, ap, ap₂}
use mathlib.Core.Bool.{true, false, not, ◌&&◌, true≢false}
use mathlib.Core.List.{◌++◌}
use lib.ListN.{length}
use lib.Seq.{take-append_seam}
use Rattle.lists.specs.Bytes.{Bytes, zeros}
use Rattle.lists.proofs.Tests.{eqb-true, same_of_eq}
use Rattle.lists.proofs.Slots.{search_none}
use Rattle.fscrypt.specs.Cipher.{Cipher}
use Rattle.volume.specs.Volume.{key_slots, no_key, key_slot}
use Rattle.volume.specs.Request.{add_key, remove_key}
use Rattle.volume.specs.Lookup.{on_keyring, key_slot_of, free_key_slot, key_at}
use Rattle.volume.specs.Checks.{is_bad_key_length, add_key_check}
use Rattle.volume.specs.Step.{effect}
use Rattle.volume.specs.declared.Volume.{Volume}
use Rattle.volume.proofs.SoundCore.{KeyOk, no_key_ok, keys_core}
use Rattle.volume.proofs.SoundInvariant.{Inv}
use Rattle.volume.proofs.Passed.{add_key_passed}
use Rattle.errno.specs.Refusals.{fine}

key_ok : (d k : Bytes) → length d ≡ 8 → is_bad_key_length (length k) ≡ false → KeyOk (key_slot d k)
unfolding is_bad_key_length
key_ok d k dl h = record {
  size = λ u. h;
  descriptor = dl;
  bytes_there = ap length (take-append_seam k (zeros (64 - length k)));
  free = λ u. let z : length k ≡ 0 = eqb-true u in absurd (true≢false (sym (ap is_bad_key_length z) ∙ h));
  unused = ap (λ (b : Bytes). b ++ zeros (64 - length k)) (sym (take-append_seam k (zeros (64 - length k))));
}

module _ (C : Cipher) (v : Volume) (ok : Inv v) where
  pub add_key_keeps : (d k : Bytes) → length d ≡ 8 → add_key_check v d (length k) ≡ fine → Inv (effect C v (add_key d k)).volume
  unfolding effect key_slot_of
  add_key_keeps d k dl h =
      let c = add_key_passed v d (length k) h in
      record {
        core = keys_core v ok.core (free_key_slot v) (key_slot d k) (key_ok d k dl c.size)
            (λ j ne r.
            let t : on_keyring d (key_at v j) ≡ true = ap₂ ◌&&◌ (ap not r.0) (same_of_eq r.2) in
            true≢false (sym t ∙ search_none (on_keyring d) v.keys no_key key_slots ok.core.keyring_ok.key_slots_lem refl c.descriptor j));
        held = ok.held;
        tree = ok.tree;
      }

  pub remove_key_keeps : (d : Bytes) → Inv (effect C v (remove_key d)).volume
  unfolding effect
  remove_key_keeps d = record { core = keys_core v ok.core (key_slot_of v d) no_key no_key_ok (λ j ne r. true≢false r.1); held = ok.held; tree = ok.tree }
