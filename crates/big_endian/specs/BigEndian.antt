-- Document 01, "Scan record": whole numbers as bytes, big-endian, negative ones in two's complement. Assumes nothing.
use Rattle.std.specs.Prelude.{cond, List, [], ◌∷◌, ◌++◌, ℕ, zero, suc, ◌+◌, ◌-◌, ◌*◌, ◌/◌, ◌%◌, ◌^◌, ltb, ℤ, pos, negsuc, get_or}
use Rattle.arithmetic.specs.Places.{table}

-- ---- as written

-- a number in `width` bytes, the most significant byte first
unfoldable pub bytes_of : ℕ → ℕ → List ℕ
bytes_of zero n = []
bytes_of (suc width) n = bytes_of width (n / 256) ++ n % 256 ∷ []

-- numbers of `width` bytes each, one behind the other
unfoldable pub all_bytes_of : ℕ → List ℕ → List ℕ
all_bytes_of width [] = []
all_bytes_of width (n ∷ ns) = bytes_of width n ++ all_bytes_of width ns

-- two's complement, in a word of `span` values: -1 - n stands as span - 1 - n
unfoldable pub twos_complement : ℕ → ℤ → ℕ
twos_complement span (pos n) = n
twos_complement span (negsuc n) = span - suc n

unfoldable pub signed_bytes_of : ℕ → ℤ → List ℕ
signed_bytes_of width z = bytes_of width (twos_complement (256 ^ width) z)

-- ---- as read

-- the number in the `width` bytes from place `at` on
unfoldable pub number_at : ℕ → List ℕ → ℕ → ℕ
number_at zero bytes at = 0
number_at (suc width) bytes at = number_at width bytes at * 256 + get_or bytes (at + width) 0

-- `count` such numbers, one behind the other
unfoldable pub numbers_at : ℕ → List ℕ → ℕ → ℕ → List ℕ
numbers_at width bytes at count = table (λ k. number_at width bytes (at + width * k)) count

-- the upper half of the span stands for the negative numbers
unfoldable pub signed_of : ℕ → ℕ → ℤ
signed_of span n = cond (ltb n (span / 2)) (pos n) (negsuc (span - suc n))

unfoldable pub signed_at : ℕ → List ℕ → ℕ → ℤ
signed_at width bytes at = signed_of (256 ^ width) (number_at width bytes at)
