-- The S-box tables: SBox() is the affine transformation of the inverse, InvSBox() the inverse of the inverse affine transformation, and each undoes the other.
-- Each law is one computed test over a table. Assumes nothing.
use mathlib.Core.Path.{◌≡◌, sym, ap, ◌∙◌}
use mathlib.Core.Bool.{Bool}
use mathlib.Core.List.{List}
use Prim.Native.Nat.{ℕ, ◌<◌}
use lib.Dec.{eqb, ltb, eqb→eq, ltb→lt, T}
use lib.ListN.{get_or}
use Rattle.field.specs.SBox.{rotl, affine, inv_affine, s_box_table, inv_s_box_table, s_box, inv_s_box}
use Rattle.field.specs.Field.{◌⊕◌, inverse}
use Rattle.field.proofs.Inverses.{inverses, inverse_is}
use Rattle.field.proofs.Table.{at, both, both_left, both_right}

-- ---- FIPS 197's S-boxes

-- the entry x at b is the affine transformation of b's inverse
affine_inverse : ℕ → ℕ → Bool
affine_inverse b x = eqb x (affine (get_or inverses b 0))

affine_inverse_all : (b : ℕ) → b < 256 → T (affine_inverse b (get_or s_box_table b 0))
unfolding affine_inverse s_box_table inverses affine rotl ◌⊕◌
affine_inverse_all b h = at affine_inverse s_box_table tt b h

pub s_box_is : (b : ℕ) → b < 256 → s_box b ≡ affine (inverse b)
unfolding s_box affine_inverse
s_box_is b h = eqb→eq (get_or s_box_table b 0) (affine (get_or inverses b 0)) (affine_inverse_all b h) ∙ ap affine (sym (inverse_is b h))

-- the entry x at b is the inverse of b's inverse affine transformation, which is a byte
inverse_affine : ℕ → ℕ → Bool
inverse_affine b x = both (eqb x (get_or inverses (inv_affine b) 0)) (ltb (inv_affine b) 256)

inverse_affine_all : (b : ℕ) → b < 256 → T (inverse_affine b (get_or inv_s_box_table b 0))
unfolding inverse_affine inv_s_box_table inverses inv_affine rotl ◌⊕◌
inverse_affine_all b h = at inverse_affine inv_s_box_table tt b h

pub inv_s_box_is : (b : ℕ) → b < 256 → inv_s_box b ≡ inverse (inv_affine b)
unfolding inv_s_box inverse_affine
inv_s_box_is b h =
    let small : inv_affine b < 256 = ltb→lt _ _ (both_right (eqb (get_or inv_s_box_table b 0) (get_or inverses (inv_affine b) 0)) (ltb (inv_affine b) 256) (inverse_affine_all b h)) in
    eqb→eq (get_or inv_s_box_table b 0) (get_or inverses (inv_affine b) 0) (both_left (eqb (get_or inv_s_box_table b 0) (get_or inverses (inv_affine b) 0)) (ltb (inv_affine b) 256) (inverse_affine_all b h))
    ∙ sym (inverse_is (inv_affine b) small)

-- ---- each table undoes the other, and holds bytes

-- the entry x at b leads back to b through the other table, and is a byte
back : List ℕ → ℕ → ℕ → Bool
back other b x = both (eqb (get_or other x 0) b) (ltb x 256)

module _ (other : List ℕ) (b x : ℕ) (t : T (back other b x)) where
  back_eq : get_or other x 0 ≡ b
  unfolding back
  back_eq = eqb→eq (get_or other x 0) b (both_left (eqb (get_or other x 0) b) (ltb x 256) t)

  back_lt : x < 256
  unfolding back
  back_lt = ltb→lt x 256 (both_right (eqb (get_or other x 0) b) (ltb x 256) t)

forth_all : (b : ℕ) → b < 256 → T (back inv_s_box_table b (get_or s_box_table b 0))
unfolding back s_box_table inv_s_box_table
forth_all b h = at (back inv_s_box_table) s_box_table tt b h

back_all : (b : ℕ) → b < 256 → T (back s_box_table b (get_or inv_s_box_table b 0))
unfolding back s_box_table inv_s_box_table
back_all b h = at (back s_box_table) inv_s_box_table tt b h

pub inv_s_box_s_box : (b : ℕ) → b < 256 → inv_s_box (s_box b) ≡ b
unfolding s_box inv_s_box
inv_s_box_s_box b h = back_eq inv_s_box_table b (get_or s_box_table b 0) (forth_all b h)

pub s_box_lt : (b : ℕ) → b < 256 → s_box b < 256
unfolding s_box
s_box_lt b h = back_lt inv_s_box_table b (get_or s_box_table b 0) (forth_all b h)

pub s_box_inv_s_box : (b : ℕ) → b < 256 → s_box (inv_s_box b) ≡ b
unfolding s_box inv_s_box
s_box_inv_s_box b h = back_eq s_box_table b (get_or inv_s_box_table b 0) (back_all b h)

pub inv_s_box_lt : (b : ℕ) → b < 256 → inv_s_box b < 256
unfolding inv_s_box
inv_s_box_lt b h = back_lt s_box_table b (get_or inv_s_box_table b 0) (back_all b h)
