-- Bytes copied into a buffer one after the other: what is copied by a loop or at once, and that a copy to the start lays the bytes over it, where they are read back.
-- Assumes nothing.
use Prim.Native.Nat.{ℕ, suc, ◌+◌, ◌-◌, ◌≤◌}
use native.Mathlib.Omega.{arith}
use native.Mathlib.Nat.{zero-add}
use mathlib.Core.Path.{◌≡◌, sym, ◌∙◌, ap, ap₂}
use mathlib.Core.List.{[], ◌∷◌, ◌++◌, append-nil, append_assoc}
use lib.ListN.{length, take, drop, set, drop_of_length-le}
use lib.Seq.{sets, sets-eq, take-append_seam, drop-drop}
use borrow.Rule.Slice.PartMut.{put_mid}
use Rattle.lists.specs.Bytes.{Bytes, laid_over}

-- one string after another is one string
pub sets_more : (b : Bytes) (at : ℕ) (s t : Bytes) → sets (sets b at s) (at + length s) t ≡ sets b at (s ++ t)
sets_more b at [] t = ap (λ (i : ℕ). sets b i t) (omega arith)
sets_more b at (x ∷ s) t = ap (λ (i : ℕ). sets (sets (set b at x) (suc at) s) i t) (omega arith) ∙ sets_more (set b at x) (suc at) s t

-- what `copy_from_slice` leaves of a buffer that was lent from a position to where the string ends
pub sets_lent : (b : Bytes) (at : ℕ) (s t : Bytes) → at + length s ≤ length b → t ≡ s → put_mid at (at + length s - at) b t ≡ sets b at s
sets_lent b at s t h e =
    let n : at + (at + length s - at) ≡ at + length s = omega arith in
    let d : drop (at + length s - at) (drop at b) ≡ drop (at + length s) b = drop-drop (at + length s - at) at b ∙ ap (λ (k : ℕ). drop k b) n in
    ap₂ (λ (x r : Bytes). take at b ++ (x ++ r)) e d ∙ sym (append_assoc (take at b) s (drop (at + length s) b)) ∙ sym (sets-eq s b at h)

pub copied_over : (b s : Bytes) → length s ≤ length b → sets b 0 s ≡ laid_over b s
copied_over b s h = sets-eq s b 0 (omega arith) ∙ rw zero-add

-- a string that fills the buffer is all that stands there
pub laid_whole : (b s : Bytes) → length s ≡ length b → laid_over b s ≡ s
laid_whole b s e = let h : length b ≤ length s = omega arith in ap (λ (r : Bytes). s ++ r) (drop_of_length-le b h) ∙ append-nil s

-- a string at the start, read back
pub laid_read : (b s : Bytes) (n : ℕ) → n ≡ length s → take n (laid_over b s) ≡ s
laid_read b s n e = ap (λ (k : ℕ). take k (laid_over b s)) e ∙ take-append_seam s (drop (length s) b)
