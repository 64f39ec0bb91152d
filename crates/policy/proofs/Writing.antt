-- The bytes of a policy and of a context as they are written: what fills all of an array is what it holds; and the length of a policy's descriptor, from what owning
-- the policy tells (`c.well_formed` at a function's entry). Assumes nothing.
use mathlib.Core.Path.{◌≡◌, sym, ap, ap₂, ◌∙◌}
use mathlib.Core.List.{List, [], ◌∷◌, ◌++◌, append-nil}
use Prim.Native.Nat.{ℕ, ◌≤◌}
use native.Mathlib.Omega.{arith}
use lib.ListN.{length, drop, length-drop, length-replicate, get_or-replicate, drop_of_length-le}
use lib.Seq.{ext_get_or, drop-drop, take_at, drop_at}
use borrow.Rule.Slice.PartMut.{put_mid}
use Rattle.std.specs.Array.{AllOfLen}
use mir.Val.{Val}
use denote.Laws.{Is}
use Rattle.lists.specs.Bytes.{Bytes, zeros, laid_over}
use Rattle.lists.proofs.Copies.{laid_whole}
use Rattle.policy.specs.Policies.{field_bytes, policy_bytes, context_bytes}
use Rattle.policy.specs.declared.Policy.{Policy}
use Rattle.policy.specs.declared.Context.{Context}
use Rattle.policy.specs.contracts.Policy.{the_row as policy_row}

pub descriptor_length : (p : Policy) {vs : List Val} → Is policy_row p vs → length p.descriptor ≡ 8
descriptor_length p g = g.1.1.1.1.1.1.0.1.0.1

-- four bytes and then the descriptor are laid over the start
pub fields_put : (o d : Bytes) (first : ℕ) (p : Policy) → length p.descriptor ≡ 8 → d ≡ p.descriptor
    → put_mid 4 8 ((first ∷ p.contents ∷ p.names ∷ p.flags ∷ []) ++ drop 4 o) d ≡ laid_over o (field_bytes first p)
fields_put o d first p l e =
    let n : 12 ≡ length (field_bytes first p) = omega arith in
    let r : drop 8 (drop 4 o) ≡ drop (length (field_bytes first p)) o = drop-drop 8 4 o ∙ ap (λ (k : ℕ). drop k o) n in
    ap₂ (λ (x y : Bytes). first ∷ p.contents ∷ p.names ∷ p.flags ∷ (x ++ y)) e r

pub policy_put : (z b : Bytes) (p : Policy) → length z ≡ 12 → length p.descriptor ≡ 8 → b ≡ laid_over z (field_bytes p.version p) → b ≡ policy_bytes p
unfolding policy_bytes
policy_put z b p k l e = e ∙ laid_whole z (field_bytes p.version p) (omega arith)

pub context_put : (z a n : Bytes) (c : Context) → length z ≡ 28 → length c.policy.descriptor ≡ 8 → length c.nonce ≡ 16
    → a ≡ laid_over z (field_bytes 1 c.policy) → n ≡ c.nonce → put_mid 12 16 a n ≡ context_bytes c
unfolding context_bytes
context_put z a n c k l m e f =
    let s = field_bytes 1 c.policy in
    let r = drop (length s) z in
    let ls : length s ≡ 12 = omega arith in
    let over : length r ≤ 16 = omega (arith, length-drop (length s) z) in
    let none : drop 16 r ≡ [] = drop_of_length-le r over in
    ap₂ (put_mid 12 16) e f
    ∙ ap₂ (λ (x y : Bytes). x ++ (c.nonce ++ drop 16 y)) (take_at s r 12 ls) (drop_at s r 12 ls)
    ∙ ap (λ (x : Bytes). s ++ (c.nonce ++ x)) none
    ∙ ap (s ++◌) (append-nil c.nonce)

-- an array's default is zeros
pub default_zeros : (x : Bytes) (n : ℕ) → AllOfLen (λ (y : ℕ). y ≡ 0) x n → x ≡ zeros n
unfolding zeros
default_zeros x n h =
    let l : length x ≡ n = h.long in
    ext_get_or 0 x (zeros n) (l ∙ sym (length-replicate n 0)) (λ i k. h.at i 0 (omega arith) ∙ sym (get_or-replicate n i 0 0 (omega arith)))
