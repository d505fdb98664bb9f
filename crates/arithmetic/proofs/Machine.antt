-- Integers in 64-bit words: what fits, and what is read back. Assumes nothing.
use mathlib.Core.Path.{◌≡◌, ap, ◌∙◌}
use Prim.Native.Nat.{ℕ, ◌<◌, ◌≤◌}
use native.Mathlib.Omega.{arith}
use lib.Dec.{T, ltb, ltb→lt}
use lib.IntN.{ℤ, pos, negsuc, nat_abs}
use lib.Signed.{mag, mag_shr}
use mir.Syntax.{w64}
use mir.Val.{Fits, SFits, to_z, of_z}
use mir.ValLaws.{sfits_le, to_z-of_z, to_z_pos}
use Rattle.arithmetic.specs.Floor.{◌÷◌}
use Rattle.arithmetic.specs.Magnitude.{Magnitude}

mag_nat_abs : (z : ℤ) → mag z ≤ nat_abs z
mag_nat_abs (pos n) = omega arith
mag_nat_abs (negsuc n) = omega arith

-- a magnitude below 2^63, by computing
pub fits64 : {z : ℤ} {n : ℕ} → Magnitude z n → T (ltb n 9223372036854775808) → SFits w64 z
fits64 {z} {n} a t = record { sfits = omega (arith, mag_nat_abs z, a.bound, ltb→lt n 9223372036854775808 t) }

-- a natural number at most m, which is below 2^64 or 2^63
pub fits_unsigned : {n m : ℕ} → n ≤ m → T (ltb m 18446744073709551616) → Fits w64 n
fits_unsigned {n} {m} h t = record { fits = omega (arith, h, ltb→lt m 18446744073709551616 t) }

pub fits_natural : {n m : ℕ} → n ≤ m → T (ltb m 9223372036854775808) → SFits w64 (pos n)
fits_natural {n} {m} h t = record { sfits = omega (arith, h, ltb→lt m 9223372036854775808 t) }

pub fits64_floor : {z : ℤ} (m : ℕ) → SFits w64 z → SFits w64 (z ÷ m)
fits64_floor {z} m f = sfits_le (mag_shr z m) f

-- a word that is known to hold y, read back
pub read_back : {z y : ℤ} → z ≡ y → SFits w64 y → to_z w64 (of_z w64 z) ≡ y
read_back {z} {y} e f = ap (λ (x : ℤ). to_z w64 (of_z w64 x)) e ∙ to_z-of_z w64 y f

-- a signed number is read back from its word
pub word_back : (z : ℤ) → mag z < 9223372036854775808 → to_z w64 (of_z w64 z) ≡ z
word_back z h = to_z-of_z w64 z (record { sfits = h })

-- so is what a call answers, where that is y
pub read_result : {z y : ℤ} → mag z < 9223372036854775808 → z ≡ y → to_z w64 (of_z w64 z) ≡ y
read_result {z} h e = word_back z h ∙ e

-- a natural number below 2^63 is its own word
pub word_pos : {n : ℕ} → n < 9223372036854775808 → to_z w64 n ≡ pos n
word_pos {n} h = to_z_pos w64 n h

pub word_natural : {n m : ℕ} → n ≤ m → T (ltb m 9223372036854775808) → to_z w64 n ≡ pos n
word_natural {n} {m} h t = word_pos (omega (arith, h, ltb→lt m 9223372036854775808 t))

-- a natural number of 63 bits fits
pub fits_pos : {n : ℕ} → n < 9223372036854775808 → SFits w64 (pos n)
fits_pos h = record { sfits = h }
