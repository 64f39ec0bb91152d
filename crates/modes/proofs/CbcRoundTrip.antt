-- CBC: a step of decryption undoes one of encryption, and the other way round; blocks and what is carried are bytes; for any number of rounds and any expanded key
-- of bytes. Assumes nothing.
use mathlib.Core.Path.{◌≡◌, ap, ◌∙◌}
use mathlib.Core.List.{List}
use Prim.Native.Nat.{ℕ, zero, suc, ◌*◌}
use Rattle.lists.specs.Bytes.{ByteList}
use Rattle.aes.specs.States.{add_round_key, state_at}
use Rattle.aes.specs.Cipher.{cipher, inv_cipher}
use Rattle.aes.specs.declared.State.{State}
use Rattle.aes.proofs.ByteStates.{ByteState, add_round_key_bytes, cipher_bytes, inv_cipher_bytes}
use Rattle.aes.proofs.Inverse.{added_twice, inv_cipher_cipher, cipher_inv_cipher}
use Rattle.aes.proofs.ScheduleBytes.{state_at_bytes}
use Rattle.modes.specs.Walk.{carried}
use Rattle.modes.specs.Cbc.{cbc_step, cbc_next, cbc_inv_step, cbc_inv_next}
use Rattle.modes.proofs.RoundTrip.{out}

module _ (w : List ℕ) (key_bytes_lem : ByteList w) (n : ℕ) where
  -- ---- a step

  pub deciphered : (c p : State) → ByteState c → ByteState p → inv_cipher w n (cbc_step w n c p) ≡ add_round_key p c
  unfolding cbc_step
  deciphered c p hc hp = inv_cipher_cipher w key_bytes_lem n (add_round_key p c) (add_round_key_bytes p c hp hc)

  pub cbc_undo : (c p : State) → ByteState c → ByteState p → cbc_inv_step w n c (cbc_step w n c p) ≡ p
  unfolding cbc_inv_step
  cbc_undo c p hc hp = ap (λ (u : State). add_round_key u c) (deciphered c p hc hp) ∙ added_twice p c

  pub cbc_redo : (c o : State) → ByteState o → cbc_step w n c (cbc_inv_step w n c o) ≡ o
  unfolding cbc_step cbc_inv_step
  cbc_redo c o ho = ap (cipher w n) (added_twice (inv_cipher w n o) c) ∙ cipher_inv_cipher w key_bytes_lem n o ho

  pub step_bytes : (c p : State) → ByteState c → ByteState p → ByteState (cbc_step w n c p)
  unfolding cbc_step
  step_bytes c p hc hp = cipher_bytes w key_bytes_lem n _ (add_round_key_bytes p c hp hc)

  pub inv_step_bytes : (c o : State) → ByteState c → ByteState o → ByteState (cbc_inv_step w n c o)
  unfolding cbc_inv_step
  inv_step_bytes c o hc ho = add_round_key_bytes _ c (inv_cipher_bytes w key_bytes_lem n o ho) hc

  -- ---- a walk

  module _ (c : State) (hc : ByteState c) (l : List ℕ) (bytes : ByteList l) where
    pub carried_bytes : (i : ℕ) → ByteState (carried (cbc_step w n) cbc_next l c i)
    unfolding carried
    carried_bytes zero = hc
    carried_bytes (suc i) = step_bytes _ _ (carried_bytes i) (state_at_bytes l bytes (16 * i))

    pub inv_carried_bytes : (i : ℕ) → ByteState (carried (cbc_inv_step w n) cbc_inv_next l c i)
    unfolding carried
    inv_carried_bytes zero = hc
    inv_carried_bytes (suc i) = state_at_bytes l bytes (16 * i)

    pub out_bytes : (i : ℕ) → ByteState (out (cbc_step w n) cbc_next l c i)
    out_bytes i = step_bytes _ _ (carried_bytes i) (state_at_bytes l bytes (16 * i))

    pub inv_out_bytes : (i : ℕ) → ByteState (out (cbc_inv_step w n) cbc_inv_next l c i)
    inv_out_bytes i = inv_step_bytes _ _ (inv_carried_bytes i) (state_at_bytes l bytes (16 * i))

    pub undone : (i : ℕ) → cbc_inv_step w n (carried (cbc_step w n) cbc_next l c i) (out (cbc_step w n) cbc_next l c i) ≡ state_at l (16 * i)
    undone i = cbc_undo _ _ (carried_bytes i) (state_at_bytes l bytes (16 * i))

    pub redone : (i : ℕ) → cbc_step w n (carried (cbc_inv_step w n) cbc_inv_next l c i) (out (cbc_inv_step w n) cbc_inv_next l c i) ≡ state_at l (16 * i)
    redone i = cbc_redo _ _ (state_at_bytes l bytes (16 * i))
