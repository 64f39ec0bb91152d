-- Modes of operation: a list of bytes is worked through block by block, and a state is carried from block to block. Assumes nothing.
use Rattle.std.specs.Prelude.{◌≡◌, List, [], ◌++◌, ℕ, zero, suc, ◌*◌, drop}
use Rattle.aes.specs.States.{state_at}
use Rattle.aes.specs.Bytes.{state_bytes}
use Rattle.aes.specs.declared.State.{State}

-- step c p is what becomes of the block p where c is carried, and next c p o what is carried on, with o for p. The first block is block 0, to which c is carried
module _ (step : State → State → State) (next : State → State → State → State) (l : List ℕ) (c : State) where
  -- what is carried to block i
  unfoldable pub carried : ℕ → State
  carried zero = c
  carried (suc i) = next (carried i) (state_at l (16 * i)) (step (carried i) (state_at l (16 * i)))

  -- what becomes of the i blocks before it
  unfoldable pub walked : ℕ → List ℕ
  walked zero = []
  walked (suc i) = walked i ++ state_bytes (step (carried i) (state_at l (16 * i)))

  -- a buffer that held l, on the way: its first i blocks are done, the others are as they were, and t is carried to block i
  pub record Going (i : ℕ) (buffer : List ℕ) (t : State) : Type 0 where
    pub list : buffer ≡ walked i ++ drop (16 * i) l
    pub carry : t ≡ carried i

-- code that makes, of the state c that is carried to a block and the block p, what is stored and what is carried on
abbrev pub Steps : (State → State → (State × State) → Type 0) → (State → State → State) → (State → State → State → State) → Type 0
Steps gives step next = (c p o t : State) → gives c p (o, t) → (o ≡ step c p) × (t ≡ next c p o)
