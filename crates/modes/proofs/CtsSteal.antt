-- What the code of ciphertext stealing does is what the definitions say: two blocks stored of which the second is cut, and the whole, in either direction: a walk over the
-- blocks but the last two, and then those. Assumes nothing.
use mathlib.Core.Path.{◌≡◌, sym, ap, ap₂, ◌∙◌}
use mathlib.Core.List.{List, ◌++◌}
use Prim.Native.Nat.{ℕ, ◌+◌, ◌-◌, ◌*◌, ◌/◌, ◌≤◌, ◌<◌}
use native.Mathlib.Omega.{arith}
use borrow.Author.Tests.{lt-ltb, le-ltb}
use lib.ListN.{length, take, drop, replicate}
use lib.Seq.{take-append-add, drop-drop}
use Rattle.aes.specs.States.{state_at}
use Rattle.aes.specs.Bytes.{put_at, state_bytes}
use Rattle.aes.specs.declared.State.{State}
use Rattle.aes.proofs.Appended.{length_state}
use Rattle.modes.specs.Walk.{carried, walked, Going}
use Rattle.modes.specs.Cts.{filled, long, cs3}
use Rattle.modes.proofs.BlockLoop.{going_end}
use Rattle.modes.proofs.ListBlocks.{state_part, filled_at}
use Rattle.modes.proofs.RoundTrip.{carried_same, walked_same}

-- ---- two blocks in an array of their own

-- the second, where the list is short of it
pub second_by : (l b : List ℕ) (z : State) → 16 ≤ length l → length l ≤ 32 → b ≡ put_at (replicate 32 0) 16 (state_bytes z) → state_at (l ++ drop (length l) b) 16 ≡ filled l 16 z
unfolding put_at state_bytes
second_by l b z lo hi e =
    let d : ℕ = length l - 16 in
    let k : length l ≡ 16 + d = omega arith in
    let whole : drop 16 b ≡ state_bytes z = ap (drop 16) e in
    ap (λ (x : List ℕ). state_at (l ++ x) 16) (ap (λ (i : ℕ). drop i b) k ∙ sym (drop-drop d 16 b) ∙ ap (drop d) whole) ∙ sym (filled_at l z 16 d k)

two_stored : (s u : State) (b b' : List ℕ) → b ≡ put_at (replicate 32 0) 0 (state_bytes s) → b' ≡ put_at b 16 (state_bytes u) → b' ≡ state_bytes s ++ state_bytes u
unfolding put_at state_bytes
two_stored s u b b' e e' = e' ∙ ap (λ (x : List ℕ). put_at x 16 (state_bytes u)) e

-- both, stored one after the other, and the first n of their bytes
pub two_by : (s u : State) (b b' l : List ℕ) (n : ℕ) → 16 ≤ n → b ≡ put_at (replicate 32 0) 0 (state_bytes s) → b' ≡ put_at b 16 (state_bytes u) → l ≡ take n b'
    → l ≡ state_bytes s ++ take (n - 16) (state_bytes u)
two_by s u b b' l n h e e' el =
    let k : n ≡ length (state_bytes s) + (n - 16) = omega (arith, length_state s) in
    el ∙ ap₂ take k (two_stored s u b b' e e') ∙ take-append-add (state_bytes s) (state_bytes u) (n - 16)

-- ---- the whole

module _ (step : State → State → State) (next : State → State → State → State) (last : State → List ℕ → List ℕ) where
  pub cs3_long : (c : State) (l : List ℕ) → 16 < length l → cs3 step next last c l ≡ long step next last c l ((length l - 17) / 16)
  unfolding cs3
  cs3_long c l h = simp (lt-ltb 16 (length l) h)

  pub cs3_one : (c : State) (l : List ℕ) → length l ≤ 16 → cs3 step next last c l ≡ walked step next l c 1
  unfolding cs3
  cs3_one c l h = simp (le-ltb 16 (length l) h)

  -- the blocks of the first part, walked, and the other part after them
  pub long_by : (c : State) (l front front' back back' : List ℕ) (m n : ℕ) (t : State) → front ≡ take (16 * m) l → back ≡ drop (16 * m) l → 16 * m ≤ length l → length front ≡ 16 * m
      → n ≡ m → Going step next front c n front' t → back' ≡ last t back → front' ++ back' ≡ long step next last c l m
  unfolding long
  long_by c l front front' back back' m n t ef eb h len en g e =
      let whole : length (take (16 * m) l) ≡ 16 * m = ap length (sym ef) ∙ len in
      let same : (i : ℕ) → i < m → state_at front (16 * i) ≡ state_at l (16 * i) =
      λ i k. ap (λ (x : List ℕ). state_at x (16 * i)) ef ∙ state_part l (16 * m) (16 * i) (omega arith) in
      let w : front' ≡ walked step next l c m =
      going_end step next front c n front' t g (omega arith) ∙ ap (walked step next front c) en ∙ walked_same step next l front c m same m (omega arith) in
      let k : t ≡ carried step next l c m = g.carry ∙ ap (carried step next front c) en ∙ carried_same step next l front c m same m (omega arith) in
      ap₂ (λ (x y : List ℕ). x ++ y) w (e ∙ ap₂ last k eb)
