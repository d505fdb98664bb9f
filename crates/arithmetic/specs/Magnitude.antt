-- A bound on the magnitude of an integer. Assumes nothing.
use Rattle.std.specs.Prelude.{ℕ, ◌≤◌, ℤ, nat_abs}

-- z is from -n to n
pub record Magnitude (z : ℤ) (n : ℕ) : Type 0 where
  pub bound : nat_abs z ≤ n
