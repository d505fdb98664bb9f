-- A number of 32 bits, from one of any sign and size. Assumes nothing.
use mathlib.Core.Bool.{Bool, true, false, ◌&&◌, cond}
use mathlib.Core.Path.{◌≡◌, refl, sym, ◌∙◌}
use Prim.Native.Nat.{ℕ, ◌<◌}
use native.Mathlib.Omega.{arith}
use borrow.Author.Tests.{ltb-false, lt-leb}
use lib.Dec.{ltb, leb}
use lib.IntN.{ℤ, pos, negsuc}
use Rattle.arithmetic.proofs.Test.{and_false}
use Rattle.refusal.specs.Checks.{in_range, in_signed_range}
use Rattle.refusal.specs.Unsigned.{unsigned32}

-- What does not fit is refused by its rule: a limit on the number that 32 bits hold is the same limit on the number that was given

beyond : (least most n : ℕ) → most < n → in_range least most n ≡ false
unfolding in_range
beyond least most n h = rw (lt-leb n most h) (and_false (leb least n))

pub same_limits : (least most : ℕ) (z : ℤ) → most < 4294967295 → in_range least most (unsigned32 z) ≡ in_signed_range (pos least) (pos most) z
unfolding unsigned32 in_range in_signed_range
same_limits least most (pos n) h = go (ltb n 4294967296) refl
  where
    go : (t : Bool) → ltb n 4294967296 ≡ t → (leb least (cond t n 4294967295) && leb (cond t n 4294967295) most) ≡ (leb least n && leb n most)
    go true e = refl
    go false e = beyond least most 4294967295 h ∙ sym (beyond least most n (omega (arith, ltb-false n 4294967296 e)))
same_limits least most (negsuc n) h = beyond least most 4294967295 h
