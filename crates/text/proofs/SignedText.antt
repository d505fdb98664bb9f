-- A number with a sign, as decimal text. Assumes nothing.
use mathlib.Core.Path.{◌≡◌, refl, ap}
use mathlib.Core.List.{List, ◌∷◌}
use Prim.Native.Nat.{ℕ, suc, ◌<◌}
use native.Mathlib.Omega.{arith}
use lib.Dec.{T}
use lib.IntN.{ℤ, pos, negsuc, nat_abs}
use lib.Signed.{mag, non_neg, ◌<ℤ◌}
use Rattle.arithmetic.proofs.Order.{not_negative}
use Rattle.text.specs.DecimalText.{decimal_with, decimal_of, signed_decimal_of}
use Rattle.text.proofs.DecimalLaws.{places_enough}

-- 19 digits hold the magnitude of every negative number of 64 bits
pub negative_text : (z : ℤ) → z <ℤ pos 0 → mag z < 9223372036854775808 → 45 ∷ decimal_with 19 (nat_abs z) ≡ signed_decimal_of z
unfolding signed_decimal_of decimal_of
negative_text (pos n) b h = absurd (not_negative b)
negative_text (negsuc k) b h = ap (λ (l : List ℕ). 45 ∷ l) (places_enough 18 (suc k) (omega arith))

pub natural_text : (z : ℤ) → T (non_neg z) → decimal_of (nat_abs z) ≡ signed_decimal_of z
unfolding signed_decimal_of
natural_text (pos n) t = refl
natural_text (negsuc n) t = absurd t
