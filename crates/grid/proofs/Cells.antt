-- Columns, rows and cells. Assumes nothing.
use mathlib.Core.Path.{◌≡◌, refl, sym, subst}
use mathlib.Core.Bool.{true}
use Prim.Native.Nat.{ℕ, ◌<◌, ◌≤◌}
use native.Mathlib.Omega.{arith}
use borrow.Author.Tests.{ltb-true, lt-ltb}
use lib.Dec.{T, leb, ltb, leb-zero}
use lib.IntN.{ℤ, pos, negsuc, nat_abs}
use Rattle.grid.specs.Window.{in_span}
use Rattle.arithmetic.proofs.Test.{and_true}

-- an index of the grid is a natural number below the count
pub in_span_natural : (count : ℕ) (index : ℤ) → in_span count index ≡ true → (index ≡ pos (nat_abs index)) × (nat_abs index < count)
unfolding in_span
in_span_natural count (pos n) e = (refl, ltb-true n count (and_true (leb 0 n) (ltb n count) e).1)
in_span_natural count (negsuc n) e = absurd (subst T (sym e) tt)

pub in_span_wider : (count most : ℕ) (index : ℤ) → count ≤ most → in_span count index ≡ true → in_span most index ≡ true
unfolding in_span
in_span_wider count most (pos n) h e =
    let below : n < most = omega (arith, (in_span_natural count (pos n) e).1) in
    rw (leb-zero n, lt-ltb n most below)
in_span_wider count most (negsuc n) h e = absurd (subst T (sym e) tt)
