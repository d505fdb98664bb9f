-- What is known where no check fails. Assumes nothing.
use mathlib.Core.Path.{◌≡◌, refl}
use mathlib.Core.Bool.{Bool, true, false, cond}
use Prim.Native.Nat.{ℕ, suc}
use native.Mathlib.Omega.{arith}

-- where no number is given, the first test passes and the other tests give none
pub passed : (b : Bool) (n rest : ℕ) → cond b rest (suc n) ≡ 0 → (b ≡ true) × (rest ≡ 0)
passed true n rest e = (refl, e)
passed false n rest e = absurd (omega arith)
