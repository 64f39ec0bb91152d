-- An entry that undoes another, called after it: the answer is the first one's, and the buffer is what it was. Assumes nothing.
use mathlib.Core.Path.{◌≡◌, ap, ◌∙◌}
use mathlib.Core.List.{List}
use Prim.Native.Nat.{ℕ}
use Rattle.ciphers.specs.Entries.{Outcome, outcome}
use Rattle.ciphers.specs.declared.Status.{Status}

pub back : (first : Outcome) (second : List ℕ → Outcome) (l l' l'' : List ℕ) (r : Status) → second first.buffer ≡ outcome first.status l → l' ≡ first.buffer
    → outcome r l'' ≡ second l' → outcome r l'' ≡ outcome first.status l
back first second l l' l'' r undo e h = h ∙ ap second e ∙ undo
