-- What a gate contributes: document 01, "The scan" for values, "Ledger and cells" for the sums. Assumes nothing.
use Rattle.std.specs.Prelude.{Bool, not, cond, ℕ, ◌*◌, eqb}

-- 65,535 means not measured
unfoldable pub is_measured : ℕ → Bool
is_measured value = not (eqb value 65535)

-- to the value sum: the value; 65,534 means measured with no echo and counts as 0
unfoldable pub echo_of : ℕ → ℕ
echo_of value = cond (eqb value 65534) 0 value

-- to the weighted sum: value x quality
unfoldable pub weighted_echo : ℕ → ℕ → ℕ
weighted_echo value quality = echo_of value * quality
