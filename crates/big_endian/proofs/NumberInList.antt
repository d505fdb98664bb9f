-- One number of the lists that a record holds, and 0 past their end. Assumes nothing.
use mathlib.Core.List.{List}
use mathlib.Core.Path.{◌≡◌}
use Prim.Native.Nat.{ℕ, ◌+◌, ◌*◌, ◌<◌, ◌≤◌}
use native.Mathlib.Omega.{arith}
use lib.ListN.{get_or, get_or-eq_default}
use Rattle.arithmetic.proofs.Places.{table_at}
use Rattle.big_endian.specs.BigEndian.{number_at, numbers_at}
use Rattle.big_endian.proofs.BigEndianLaws.{numbers_length}

module _ (width : ℕ) (bytes : List ℕ) (at count k : ℕ) where
  pub no_such_number : count ≤ k → get_or (numbers_at width bytes at count) k 0 ≡ 0
  no_such_number h = get_or-eq_default (numbers_at width bytes at count) 0 (omega (arith, numbers_length width bytes at count))

  pub number_there : k < count → get_or (numbers_at width bytes at count) k 0 ≡ number_at width bytes (at + width * k)
  unfolding numbers_at
  number_there h = table_at (λ j. number_at width bytes (at + width * j)) count k h
