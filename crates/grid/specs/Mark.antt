-- Document 02, T-02: a coordinate that lies near an edge line. Assumes nothing.
use Rattle.std.specs.Prelude.{Bool, ◌||◌, ℕ, ◌-◌, leb, ltb, ℤ, ◌-ℤ◌}
use Rattle.arithmetic.specs.Floor.{◌modulo◌}

-- demand 3: X and Y each lie within so many centimetres of what exact fractions give
abbrev pub tolerance : ℕ
tolerance = 50

-- the remainder of a coordinate less the corner, by the side and never negative
unfoldable pub past_line : ℤ → ℕ → ℤ → ℕ
past_line corner side x = (x -ℤ corner) modulo side

-- it is under 50 or at least the side less 50; the lines are prolonged beyond the grid
unfoldable pub near_line : ℤ → ℕ → ℤ → Bool
near_line corner side x = ltb (past_line corner side x) tolerance || leb (side - tolerance) (past_line corner side x)
