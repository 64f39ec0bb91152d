-- Laws of `climb_from` for a loop that climbs: its three ways out, and one step.
-- Assumes nothing.
use mathlib.Core.Path.{◌≡◌, refl}
use mathlib.Core.Bool.{true, false}
use lib.Dec.{eqb}
use Prim.Native.Nat.{ℕ, zero, suc, ◌-◌}
use native.Mathlib.Numerals.{sub-one}
use borrow.Author.Tests.{eq-eqb, ne_eqb}
use Rattle.volume.specs.Lookup.{climb_from, parent_of}
use Rattle.volume.specs.declared.Volume.{Volume}
use Rattle.ids.specs.declared.InodeNumber.{InodeNumber}
use Rattle.volume.specs.declared.Met.TheVariants.{Moved, Root, Neither}

module _ (v : Volume) (moved at : InodeNumber) where
  pub met_moved : (left : ℕ) → eqb at.0 moved.0 ≡ true → climb_from v moved left at ≡ Moved
  unfolding climb_from
  met_moved zero h = rw h refl
  met_moved (suc k) h = rw h refl

  module _ (no-moved : eqb at.0 moved.0 ≡ false) where
    pub met_root : (left : ℕ) → at.0 ≡ 0 → climb_from v moved left at ≡ Root
    unfolding climb_from
    met_root zero h = simp (no-moved, eq-eqb _ _ h)
    met_root (suc k) h = simp (no-moved, eq-eqb _ _ h)

    module _ (no-root : at.0 ≡ 0 → ⊥) where
      pub met_neither : (left : ℕ) → left ≡ 0 → climb_from v moved left at ≡ Neither
      unfolding climb_from
      met_neither left h = rw h (simp (no-moved, ne_eqb _ _ no-root))

      pub met_later : (left : ℕ) → (left ≡ 0 → ⊥) → climb_from v moved left at ≡ climb_from v moved (left - 1) (parent_of v at)
      unfolding climb_from
      met_later zero h = absurd (h refl)
      met_later (suc k) h = simp (no-moved, ne_eqb _ _ no-root, sub-one)
