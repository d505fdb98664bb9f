-- A number within limits, as bounds. Assumes nothing.
use mathlib.Core.Path.{◌≡◌, refl, sym, subst}
use mathlib.Core.Bool.{true}
use Prim.Native.Nat.{ℕ, suc, ◌≤◌, suc-le-suc}
use borrow.Author.Tests.{leb-true}
use lib.Dec.{T, leb}
use lib.IntN.{ℤ, pos, negsuc}
use Rattle.arithmetic.specs.Magnitude.{Magnitude}
use Rattle.arithmetic.proofs.Test.{and_true}
use Rattle.arithmetic.proofs.Magnitude.{magnitude_pos}
use Rattle.refusal.specs.Checks.{in_range, in_signed_range}

pub range_bounds : (least most x : ℕ) → in_range least most x ≡ true → (least ≤ x) × (x ≤ most)
unfolding in_range
range_bounds least most x e =
    let h = and_true (leb least x) (leb x most) e in
    (leb-true least x h.0, leb-true x most h.1)

-- from -(n + 1) to n + 1
pub range_magnitude : (n : ℕ) (x : ℤ) → in_signed_range (negsuc n) (pos (suc n)) x ≡ true → Magnitude x (suc n)
unfolding in_signed_range
range_magnitude n (pos x) e = magnitude_pos (leb-true x (suc n) e)
range_magnitude n (negsuc x) e = record { bound = suc-le-suc (leb-true x n (and_true (leb x n) true e).0) }

-- from one natural number to another
pub range_natural : (least most : ℕ) (x : ℤ) → in_signed_range (pos least) (pos most) x ≡ true → (p : ℕ) × (x ≡ pos p) × (least ≤ p) × (p ≤ most)
unfolding in_signed_range
range_natural least most (pos p) e =
    let h = and_true (leb least p) (leb p most) e in
    (p, refl, leb-true least p h.0, leb-true p most h.1)
range_natural least most (negsuc p) e = absurd (subst T (sym e) tt)
