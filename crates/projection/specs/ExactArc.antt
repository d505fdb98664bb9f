-- Document 01, "Exact reference", line by line beside Arc.antt: no floor, Q read as 1. A star marks an exact value.
-- Assumes nothing.
use Rattle.std.specs.Prelude.{ℕ, pos}
use Rattle.arithmetic.specs.Fraction.{Fraction, whole, ◌⊕◌, ◌⊖◌, ◌⊗◌, ◌⊘◌}

module _ (R r : ℕ) where
  unfoldable pub d* : Fraction
  d* = whole (pos r) ⊘ whole (pos R)

  unfoldable pub d2* : Fraction
  d2* = d* ⊗ d*

  unfoldable pub d3* : Fraction
  d3* = d2* ⊗ d*

  unfoldable pub d4* : Fraction
  d4* = d2* ⊗ d2*

  unfoldable pub d5* : Fraction
  d5* = d4* ⊗ d*

  unfoldable pub sd* : Fraction
  sd* = d* ⊖ d3* ⊘ whole (pos 6) ⊕ d5* ⊘ whole (pos 120)

  unfoldable pub cd* : Fraction
  cd* = whole (pos 1) ⊖ d2* ⊘ whole (pos 2) ⊕ d4* ⊘ whole (pos 24)
