-- The two runs: add key and remove key. Their checks read no key bytes, and what they write is what the identity run writes, with the key put back. Assumes nothing.
use Prim.Native.Nat.{ℕ, ◌-◌}
use mathlib.Core.Path.{◌≡◌, refl, sym, ◌∙◌, ap, ap₂}
use mathlib.Core.Bool.{false, not, ◌||◌, true≢false}
use mathlib.Core.List.{List, ◌++◌, map}
use lib.ListN.{length, get_or, set, drop}
use lib.Seq.{drop-append_seam}
use lib.Dec.{eqb, leb, ltb}
use Rattle.lists.specs.Bytes.{Bytes, zeros}
use Rattle.lists.proofs.Tests.{if_false, eqb_other}
use Rattle.lists.proofs.Tables.{map_set, all_set}
use Rattle.lists.proofs.ByteStrings.{length_zeros}
use Rattle.volume.specs.Volume.{key_slots, no_key, key_slot}
use Rattle.volume.specs.Request.{add_key, remove_key}
use Rattle.volume.specs.Lookup.{key_slot_of, free_key_slot}
use Rattle.volume.specs.Checks.{is_bad_key_length, add_key_check, remove_key_check}
use Rattle.volume.specs.Step.{with_keys, check, effect}
use Rattle.volume.specs.GivenNames.{Names, named_by, naming, named}
use Rattle.volume.specs.TwoRuns.{blank_buffer}
use Rattle.volume.specs.declared.Key.{Key}
use Rattle.volume.specs.declared.Volume.{Volume}
use Rattle.volume.proofs.Twin.{Setting, test, both_fine, enc_key, enc, KeyOk, Inv, Same}
use Rattle.volume.proofs.TwinLookup.{slot_twin, free_key_twin}

key_length_some : (n : ℕ) → is_bad_key_length n ≡ false → eqb n 0 ≡ false
unfolding is_bad_key_length
key_length_some n h = eqb_other n 0 (λ z. true≢false (ap (λ (m : ℕ). not (eqb m 16 || (eqb m 32 || (eqb m 48 || eqb m 64)))) (sym z) ∙ h))

module _ (S : Setting) {g : Names} (v : Volume) (ok : Inv S g v) where
  -- the keys change, and each is that of its descriptor
  keys_inv : (ks : List Key) → ((i : ℕ) → KeyOk S (get_or ks i no_key)) → Inv S g (with_keys v ks)
  keys_inv ks h = record { keys_ok = h; inodes_ok = ok.inodes_ok; entries_ok = ok.entries_ok; sized = ok.sized }

  -- a key slot with the key of its descriptor, and one with zeros
  slot_is : (d k : Bytes) → S.key d ≡ k → is_bad_key_length (length (zeros (length k))) ≡ false → key_slot d k ≡ enc_key S (key_slot d (zeros (length k)))
  slot_is d k e h =
      let z : Bytes = zeros (length k) in
      let w : Bytes = zeros (64 - length z) in
      let l : length z ≡ length k = length_zeros (length k) in
      let rest : drop (length (S.key d)) (z ++ w) ≡ w = ap (λ (n : ℕ). drop n (z ++ w)) (ap length e ∙ sym l) ∙ drop-append_seam z w in
      let b : k ++ zeros (64 - length k) ≡ S.key d ++ drop (length (S.key d)) (z ++ w) = ap₂ ◌++◌ (sym e) (ap (λ (n : ℕ). zeros (64 - n)) (sym l) ∙ sym rest) in
      λ i. record { len = sym l i; descriptor = d; bytes = (b ∙ sym (if_false (z ++ w) _ (key_length_some (length z) h))) i }

  pub add_key_twin : (d k : Bytes) → S.key d ≡ k → Same S g v (add_key d k) (add_key d (zeros (length k)))
  unfolding Same check effect add_key_check named_by naming named blank_buffer
  add_key_twin d k e =
      let z : Bytes = zeros (length k) in
      let l : length z ≡ length k = length_zeros (length k) in
      test _ tt (ap is_bad_key_length (sym l)) λ h₁.
      test _ tt (ap (λ (n : ℕ). ltb n key_slots) (slot_twin S v ok d)) λ h₂.
      test _ tt (ap (leb key_slots) (free_key_twin S v ok)) λ h₃.
      both_fine (record {
        answers = refl;
        buffers = ap zeros (sym l);
        volumes = ap (with_keys (enc S v))
            (ap₂ (λ (n : ℕ) (x : Key). set (map (enc_key S) v.keys) n x) (free_key_twin S v ok) (slot_is d k e h₁)
            ∙ sym (map_set (enc_key S) v.keys (free_key_slot v) (key_slot d z)));
        inv = keys_inv (set v.keys (free_key_slot v) (key_slot d z))
            (all_set (λ i y. KeyOk S y) v.keys no_key (free_key_slot v) (key_slot d z) (λ i u. absurd (true≢false u)) (λ i ne. ok.keys_ok i) (λ u. ap length e ∙ sym l));
        right = tt;
      })

  pub remove_key_twin : (d : Bytes) → Same S g v (remove_key d) (remove_key d)
  unfolding Same check effect remove_key_check named_by naming named blank_buffer
  remove_key_twin d =
      test _ tt (ap (leb key_slots) (slot_twin S v ok d)) λ h₁.
      both_fine (record {
        answers = refl;
        buffers = refl;
        volumes = ap (with_keys (enc S v))
            (ap (λ (n : ℕ). set (map (enc_key S) v.keys) n no_key) (slot_twin S v ok d) ∙ sym (map_set (enc_key S) v.keys (key_slot_of v d) no_key));
        inv = keys_inv (set v.keys (key_slot_of v d) no_key)
            (all_set (λ i k. KeyOk S k) v.keys no_key (key_slot_of v d) no_key (λ i u. absurd (true≢false u)) (λ i ne. ok.keys_ok i) (λ u. absurd (true≢false u)));
        right = tt;
      })
