-- ECB as a walk over blocks to which nothing is carried: the loop laws of BlockLoop.antt serve it too. Its length is kept, and its result is bytes.
-- Assumes nothing.
use mathlib.Core.Path.{◌≡◌, refl, ap, ◌∙◌, sym, subst}
use mathlib.Core.List.{List, ◌++◌}
use Prim.Native.Nat.{ℕ, zero, suc, ◌*◌}
use lib.ListN.{length}
use Rattle.aes.specs.States.{state_at}
use Rattle.aes.specs.Bytes.{state_bytes}
use Rattle.lists.specs.Bytes.{ByteList}
use Rattle.aes.specs.Cipher.{cipher}
use Rattle.aes.specs.declared.State.{State}
use Rattle.aes.proofs.ByteStates.{cipher_bytes}
use Rattle.aes.proofs.ScheduleBytes.{state_at_bytes}
use Rattle.modes.specs.Blocks.{zero_block}
use Rattle.modes.specs.Walk.{walked}
use Rattle.modes.specs.Ecb.{ecb_blocks}
use Rattle.modes.proofs.BlockLoop.{length_walked, walked_bytes}

abbrev pub ecb_step : List ℕ → ℕ → State → State → State
ecb_step w nr c p = cipher w nr p

abbrev pub ecb_next : State → State → State → State
ecb_next c p o = c

module _ (w : List ℕ) (nr : ℕ) (l : List ℕ) where
  pub ecb_walked : (c : State) (m : ℕ) → ecb_blocks w nr l m ≡ walked (ecb_step w nr) ecb_next l c m
  unfolding ecb_blocks walked
  ecb_walked c zero = refl
  ecb_walked c (suc m) = ap (λ (x : List ℕ). x ++ state_bytes (cipher w nr (state_at l (16 * m)))) (ecb_walked c m)

  pub length_ecb_blocks : (m : ℕ) → length (ecb_blocks w nr l m) ≡ 16 * m
  length_ecb_blocks m = ap length (ecb_walked zero_block m) ∙ length_walked (ecb_step w nr) ecb_next l zero_block m

  pub ecb_blocks_bytes : ByteList w → ByteList l → (m : ℕ) → ByteList (ecb_blocks w nr l m)
  ecb_blocks_bytes hw hl m =
      subst (λ (x : List ℕ). ByteList x) (sym (ecb_walked zero_block m))
      (walked_bytes (ecb_step w nr) ecb_next l zero_block (λ i. cipher_bytes w hw nr _ (state_at_bytes l hl (16 * i))) m)
