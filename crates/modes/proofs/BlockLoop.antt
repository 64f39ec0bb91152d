-- One turn of a loop that works through a buffer block by block, for any mode. Assumes nothing.
use mathlib.Core.Path.{◌≡◌, refl, sym, ap, ap₂, ◌∙◌}
use mathlib.Core.List.{List, ◌++◌, append-nil}
use Prim.Native.Nat.{ℕ, zero, suc, ◌+◌, ◌*◌, ◌≤◌}
use native.Mathlib.Nat.{mul-suc}
use native.Mathlib.Numerals.{add-one}
use native.Mathlib.Omega.{arith}
use lib.ListN.{length, drop, length-append, drop_of_length-le}
use Rattle.aes.specs.Bytes.{put_at, state_bytes}
use Rattle.lists.specs.Bytes.{ByteList}
use Rattle.aes.specs.States.{state_at}
use Rattle.aes.specs.declared.State.{State}
use Rattle.modes.specs.Walk.{carried, walked, Going}
use Rattle.aes.proofs.Appended.{seam_at, put_seam, length_state}
use Rattle.aes.proofs.ByteStates.{ByteState}
use Rattle.lists.proofs.ByteStrings.{nil_bytes, append_bytes}
use Rattle.aes.proofs.ScheduleBytes.{state_bytes_bytes}

module _ (step : State → State → State) (next : State → State → State → State) (l : List ℕ) (c : State) where
  pub length_walked : (i : ℕ) → length (walked step next l c i) ≡ 16 * i
  unfolding walked
  length_walked zero = refl
  length_walked (suc i) =
      simp (length-append, length_state) (omega (arith, length_walked i, mul-suc 16 i))

  -- what is written is bytes where each block is
  pub walked_bytes : ((i : ℕ) → ByteState (step (carried step next l c i) (state_at l (16 * i)))) → (i : ℕ) → ByteList (walked step next l c i)
  unfolding walked
  walked_bytes h zero = nil_bytes
  walked_bytes h (suc i) =
      append_bytes (walked step next l c i) (state_bytes (step (carried step next l c i) (state_at l (16 * i)))) (walked_bytes h i) (state_bytes_bytes _ (h i))

  walked_next : (i : ℕ) → walked step next l c (i + 1) ≡ walked step next l c i ++ state_bytes (step (carried step next l c i) (state_at l (16 * i)))
  unfolding walked
  walked_next i = rw add-one

  carried_next : (i : ℕ) → carried step next l c (i + 1)
      ≡ next (carried step next l c i) (state_at l (16 * i)) (step (carried step next l c i) (state_at l (16 * i)))
  unfolding carried
  carried_next i = rw add-one

  -- a turn: in the list L as it is before block i, with t carried, the block is that of l
  module _ (i : ℕ) (L : List ℕ) (t : State) (eL : L ≡ walked step next l c i ++ drop (16 * i) l) (et : t ≡ carried step next l c i) where
    same_block : state_at L (16 * i) ≡ state_at l (16 * i)
    same_block = ap (λ (x : List ℕ). state_at x (16 * i)) eL ∙ seam_at (walked step next l c i) l (16 * i) (length_walked i) (16 * i) (omega arith)

    same_step : step t (state_at L (16 * i)) ≡ step (carried step next l c i) (state_at l (16 * i))
    same_step = ap₂ step et same_block

    pub turn : put_at L (16 * i) (state_bytes (step t (state_at L (16 * i)))) ≡ walked step next l c (i + 1) ++ drop (16 * (i + 1)) l
    turn =
        let o : State = step (carried step next l c i) (state_at l (16 * i)) in
        let m : 16 * i + length (state_bytes o) ≡ 16 * (i + 1) = omega (arith, length_state o) in
        ap₂ (λ (x : List ℕ) (s : State). put_at x (16 * i) (state_bytes s)) eL same_step
        ∙ put_seam (walked step next l c i) l (16 * i) (length_walked i) (state_bytes o)
        ∙ ap₂ (λ (x : List ℕ) (k : ℕ). x ++ drop k l) (sym (walked_next i)) m

    pub turn_carried : next t (state_at L (16 * i)) (step t (state_at L (16 * i))) ≡ carried step next l c (i + 1)
    turn_carried = cc (same_block, same_step, carried_next i)

-- ---- a loop over the blocks: how it starts, a turn, and its end

module _ (step : State → State → State) (next : State → State → State → State) (l₀ : List ℕ) (c : State) where
  pub going_start : Going step next l₀ c 0 l₀ c
  unfolding walked carried
  going_start = record { list = refl; carry = refl }

  pub going_turn : (i : ℕ) (l l' : List ℕ) (t t' p o : State) → Going step next l₀ c i l t → p ≡ state_at l (16 * i) → o ≡ step t p → l' ≡ put_at l (16 * i) (state_bytes o)
      → t' ≡ next t p o → Going step next l₀ c (i + 1) l' t'
  going_turn i l l' t t' p o g ep eo el et =
      let eo' : o ≡ step t (state_at l (16 * i)) = eo ∙ ap (step t) ep in
      record {
        list = el ∙ ap (λ (s : State). put_at l (16 * i) (state_bytes s)) eo' ∙ turn step next l₀ c i l t g.list g.carry;
        carry = et ∙ ap₂ (next t) ep eo' ∙ turn_carried step next l₀ c i l t g.list g.carry;
      }

  pub going_end : (i : ℕ) (l : List ℕ) (t : State) → Going step next l₀ c i l t → length l₀ ≤ 16 * i → l ≡ walked step next l₀ c i
  going_end i l t g h =
      g.list ∙ ap (λ (x : List ℕ). walked step next l₀ c i ++ x) (drop_of_length-le l₀ h) ∙ append-nil (walked step next l₀ c i)
