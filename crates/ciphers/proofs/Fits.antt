-- What the entries test: which lengths are taken. Assumes nothing.
use mathlib.Core.Path.{◌≡◌}
use mathlib.Core.Bool.{true}
use mathlib.Core.Logic.{◌⊎◌, ◌↔◌}
use Prim.Native.Nat.{ℕ, ◌*◌, ◌/◌, ◌≤◌}
use native.Mathlib.Omega.{arith}
use Rattle.std.proofs.lemmas.Bool.Decides.{nat_tests}
use Rattle.ciphers.specs.Entries.{cts_fits, xts_fits, ecb_fits}

pub cts_fits_lem : (k t : ℕ) → (cts_fits k t ≡ true) ↔ (((k ≡ 16) ⊎ (k ≡ 32)) × (16 ≤ t) × (t ≤ 4096))
unfolding cts_fits
cts_fits_lem k t = (λ h. grind (arith, nat_tests), λ g. grind (arith, nat_tests))

pub xts_fits_lem : (k t : ℕ) → (xts_fits k t ≡ true) ↔ ((k ≡ 64) × (t ≡ 4096))
unfolding xts_fits
xts_fits_lem k t = (λ h. grind (arith, nat_tests), λ g. grind (arith, nat_tests))

pub ecb_fits_lem : (k t : ℕ) → (ecb_fits k t ≡ true) ↔ ((k ≡ 16) × (t ≡ 16 * (t / 16)) × (16 ≤ t) × (t ≤ 64))
unfolding ecb_fits
ecb_fits_lem k t = (λ h. grind (arith, nat_tests), λ g. grind (arith, nat_tests))
