-- The rounds of Cipher and InvCipher, in the terms in which code counts them. Assumes nothing.
use mathlib.Core.Path.{◌≡◌, refl, ap, ◌∙◌}
use mathlib.Core.List.{List}
use Prim.Native.Nat.{ℕ, ◌+◌, ◌-◌, ◌<◌, ◌≤◌}
use native.Mathlib.Numerals.{add-one}
use native.Mathlib.Omega.{arith}
use Rattle.aes.specs.Cipher.{round, rounds, inv_round, inv_rounds}
use Rattle.aes.specs.declared.State.{State}

-- Cipher: none of the rounds are done where round 1 comes next, and round i is done after those before it
pub rounds_none : (w : List ℕ) (s : State) → rounds w 0 s ≡ s
unfolding rounds
rounds_none w s = refl

rounds_next : (w : List ℕ) (i : ℕ) (s : State) → rounds w (i + 1) s ≡ round w (i + 1) (rounds w i s)
unfolding rounds
rounds_next w i s = rw add-one

pub rounds_turn : (w : List ℕ) (i : ℕ) (s : State) → 1 ≤ i → rounds w (i + 1 - 1) s ≡ round w i (rounds w (i - 1) s)
rounds_turn w i s h =
    let m : i + 1 - 1 ≡ i - 1 + 1 = omega arith in
    let n : i - 1 + 1 ≡ i = omega arith in
    cc (rounds_next w (i - 1) s)

-- InvCipher: of the rounds i - 1 to 1 the first is round i - 1, and none are left where i is 1
inv_rounds_next : (w : List ℕ) (i : ℕ) (s : State) → inv_rounds w (i + 1) s ≡ inv_rounds w i (inv_round w (i + 1) s)
unfolding inv_rounds
inv_rounds_next w i s = rw add-one

pub inv_rounds_turn : (w : List ℕ) (i : ℕ) (t : State) → 1 < i → inv_rounds w (i - 1) t ≡ inv_rounds w (i - 1 - 1) (inv_round w (i - 1) t)
inv_rounds_turn w i t h =
    let m : i - 1 - 1 + 1 ≡ i - 1 = omega arith in
    cc (inv_rounds_next w (i - 1 - 1) t)

inv_rounds_zero : (w : List ℕ) (t : State) → inv_rounds w 0 t ≡ t
unfolding inv_rounds
inv_rounds_zero w t = refl

pub inv_rounds_none : (w : List ℕ) (i : ℕ) (t : State) → i ≤ 1 → inv_rounds w (i - 1) t ≡ t
inv_rounds_none w i t h =
    let m : i - 1 ≡ 0 = omega arith in
    ap (λ (j : ℕ). inv_rounds w j t) m ∙ inv_rounds_zero w t
