-- A number of any sign and size where a number of 32 bits without a sign is meant. Assumes nothing.
use Rattle.std.specs.Prelude.{cond, ℕ, ltb, ℤ, pos, negsuc}

-- 4,294,967,295 stands for a number that does not fit: it is beyond every limit, so that the number is refused by its rule
unfoldable pub unsigned32 : ℤ → ℕ
unsigned32 (pos n) = cond (ltb n 4294967296) n 4294967295
unsigned32 (negsuc n) = 4294967295
