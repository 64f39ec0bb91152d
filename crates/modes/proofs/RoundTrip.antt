-- A walk over the blocks of a list reads nothing else, and is undone by a walk of the inverse steps, for any mode. Assumes nothing.
use mathlib.Core.Path.{◌≡◌, refl, sym, ap, ap₂, ◌∙◌}
use mathlib.Core.List.{List, ◌++◌}
use Prim.Native.Nat.{ℕ, zero, suc, ◌+◌, ◌*◌, ◌≤◌, ◌<◌}
use native.Mathlib.Nat.{mul-suc}
use native.Mathlib.Decide.{dec_lt}
use native.Mathlib.Omega.{arith}
use lib.ListN.{length, take}
use lib.Seq.{take_all}
use Rattle.aes.specs.States.{state_at}
use Rattle.aes.specs.Bytes.{state_bytes}
use Rattle.aes.specs.declared.State.{State}
use Rattle.modes.specs.Walk.{carried, walked}
use Rattle.modes.proofs.BlockLoop.{length_walked}
use Rattle.modes.proofs.ListBlocks.{take_more, state_front, state_after}

-- ---- a walk over another list of the same n blocks

module _ (step : State → State → State) (next : State → State → State → State) (l P : List ℕ) (c : State) (n : ℕ)
    (same : (i : ℕ) → i < n → state_at P (16 * i) ≡ state_at l (16 * i)) where
  pub carried_same : (i : ℕ) → i ≤ n → carried step next P c i ≡ carried step next l c i
  unfolding carried
  carried_same zero h = refl
  carried_same (suc i) h = cc (carried_same i (omega arith), same i h)

  pub walked_same : (i : ℕ) → i ≤ n → walked step next P c i ≡ walked step next l c i
  unfolding walked
  walked_same zero h = refl
  walked_same (suc i) h = cc (walked_same i (omega arith), carried_same i (omega arith), same i h)

-- ---- the walk back

module _ (step : State → State → State) (next : State → State → State → State) (l : List ℕ) (c : State) where
  abbrev pub out : ℕ → State
  out i = step (carried step next l c i) (state_at l (16 * i))

  -- block i of what was written
  pub written : (n i : ℕ) → i < n → state_at (walked step next l c n) (16 * i) ≡ out i
  unfolding walked
  written zero i h = absurd (omega arith)
  written (suc m) i h =
      elim (dec_lt i m) [
        | yes g ↦ state_front (walked step next l c m) (state_bytes (out m)) (16 * i) (omega (arith, length_walked step next l c m)) ∙ written m i g
        | no g ↦
            let e : i ≡ m = omega (arith, g) in
            rw e (state_after (walked step next l c m) (out m) (16 * m) (length_walked step next l c m))
      ]

  -- L holds the blocks that were written
  module _ (unstep : State → State → State) (unnext : State → State → State → State) (n : ℕ)
      (undo : (i : ℕ) → i < n → unstep (carried step next l c i) (out i) ≡ state_at l (16 * i))
      (same : (t p : State) → unnext t (step t p) p ≡ next t p (step t p))
      (L : List ℕ) (wrote : (i : ℕ) → i < n → state_at L (16 * i) ≡ out i) where
    back : (i : ℕ) (t : State) → t ≡ carried step next l c i → i < n → unstep t (state_at L (16 * i)) ≡ state_at l (16 * i)
    back i t e h = ap₂ unstep e (wrote i h) ∙ undo i h

    pub carried_back : (i : ℕ) → i ≤ n → carried unstep unnext L c i ≡ carried step next l c i
    unfolding carried
    carried_back zero h = refl
    carried_back (suc i) h =
        let e : carried unstep unnext L c i ≡ carried step next l c i = carried_back i (omega arith) in
        cc (e, wrote i h, back i (carried unstep unnext L c i) e h, same (carried step next l c i) (state_at l (16 * i)))

    pub walked_back : 16 * n ≤ length l → (i : ℕ) → i ≤ n → walked unstep unnext L c i ≡ take (16 * i) l
    unfolding walked
    walked_back g zero h = refl
    walked_back g (suc i) h =
        let m : 16 * i + 16 ≡ 16 * suc i = omega (arith, mul-suc 16 i) in
        ap₂ (λ (x : List ℕ) (s : State). x ++ state_bytes s) (walked_back g i (omega arith)) (back i (carried unstep unnext L c i) (carried_back i (omega arith)) h)
        ∙ sym (take_more l (16 * i) (omega arith)) ∙ ap (λ (k : ℕ). take k l) m

  -- the walk back over what was written gives the list again
  pub unwalked : (unstep : State → State → State) (unnext : State → State → State → State) (n : ℕ)
      → ((i : ℕ) → i < n → unstep (carried step next l c i) (out i) ≡ state_at l (16 * i))
      → ((t p : State) → unnext t (step t p) p ≡ next t p (step t p)) → length l ≡ 16 * n → walked unstep unnext (walked step next l c n) c n ≡ l
  unwalked unstep unnext n undo same e =
      walked_back unstep unnext n undo same (walked step next l c n) (written n) (omega arith) n (omega arith) ∙ take_all (16 * n) l (omega arith)
