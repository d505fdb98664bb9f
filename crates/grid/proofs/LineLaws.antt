-- A coordinate past the line of its own column or row. Assumes nothing.
use mathlib.Core.Bool.{◌||◌}
use mathlib.Core.Path.{◌≡◌}
use Prim.Native.Nat.{ℕ, ◌-◌, ◌<◌, ◌≤◌}
use native.Mathlib.Omega.{arith}
use borrow.Author.Tests.{lt-ltb, le-ltb}
use lib.Dec.{leb, ltb}
use lib.IntN.{ℤ, pos, ◌-ℤ◌, ◌*ℤ◌}
use Rattle.arithmetic.specs.Magnitude.{Magnitude}
use Rattle.arithmetic.proofs.Floor.{modulo_below, past_floor}
use Rattle.arithmetic.proofs.Integer.{as_difference, same_difference, differences}
use Rattle.arithmetic.proofs.Magnitude.{magnitude_difference, magnitude_pos}
use Rattle.grid.specs.Mark.{past_line}
use Rattle.grid.specs.Window.{index_of}
use Rattle.grid.specs.LineRoom.{LineRoom}

other_part : (a b c : ℤ) → a -ℤ b ≡ c → b ≡ a -ℤ c
other_part a b c e = rw (← e, as_difference a, as_difference b) (simp differences (same_difference _ _ _ _ (omega arith)))

module _ {corner : ℤ} {side : ℕ} {x index : ℤ} (room : LineRoom corner side x index) where
  positive : 0 < side
  positive = omega (arith, room.side_least)

  pub from_corner : Magnitude (x -ℤ corner) 20000000000
  from_corner = magnitude_difference room.x_limit room.corner_limit

  -- the remainder is what is left past the line of the coordinate's own column or row
  pub past_is : x -ℤ corner -ℤ index *ℤ pos side ≡ pos (past_line corner side x)
  unfolding past_line index_of
  past_is = rw room.index_is (past_floor (x -ℤ corner) side positive)

  pub past_below : past_line corner side x < side
  unfolding past_line
  past_below = modulo_below (x -ℤ corner) side positive

  -- so the line is no farther from the corner than the coordinate and one side
  pub line_limit : Magnitude (index *ℤ pos side) 20010000000
  line_limit =
      rw (other_part (x -ℤ corner) (index *ℤ pos side) (pos (past_line corner side x)) past_is)
      (magnitude_difference from_corner (magnitude_pos {n = past_line corner side x} {m = 10000000} (omega (arith, past_below, room.side_most))))

-- ---- the first test decides, or the second

module _ (side : ℕ) {past rest : ℕ} (is : past ≡ rest) where
  pub first_decides : {width marked : ℕ} → width ≤ marked → past < width → ltb past width ≡ (ltb rest marked || leb (side - marked) rest)
  first_decides {width} {marked} most h = let before : past < marked = omega arith in rw (← is, lt-ltb past width h, lt-ltb past marked before)

  pub second_decides : {width : ℕ} → width ≤ past → leb (side - width) past ≡ (ltb rest width || leb (side - width) rest)
  second_decides {width} h = rw (← is, le-ltb past width h)
