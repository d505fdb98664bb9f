-- `grid::mark::near_line` meets its contract. Assumes nothing.
use lib.Dec.{lit≤}
use mir.Facts.{to_z-of_z}
use Rattle.grid.specs.Mark.{near_line}
use Rattle.grid.proofs.LineLaws.{first_decides, second_decides}
use Rattle.grid.proofs.mark.near_line.Goals as goal

pub returns-then-past-lt-TOLERANCE : goal.returns-then-past-lt-TOLERANCE
unfolding near_line
returns-then-past-lt-TOLERANCE c =
    let past = simp (to_z-of_z, c.ranges.x, c.ranges.corner) at c.past_line-past.ensures in
    first_decides _ past (lit≤ tt) c.if-past-lt-TOLERANCE.true

pub returns-else-past-lt-TOLERANCE : goal.returns-else-past-lt-TOLERANCE
unfolding near_line
returns-else-past-lt-TOLERANCE c =
    let past = simp (to_z-of_z, c.ranges.x, c.ranges.corner) at c.past_line-past.ensures in
    second_decides _ past c.if-past-lt-TOLERANCE.false
