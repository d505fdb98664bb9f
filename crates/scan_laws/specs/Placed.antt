-- The measured gates that are placed inside the grid, by the placement of each gate. Assumes nothing.
use Rattle.std.specs.Prelude.{Bool, false, Ok, Err, ◌&&◌, cond, ℕ, ◌+◌, ◌*◌, get_or}
use Rattle.std.specs.Option.{is_some}
use Rattle.arithmetic.specs.Places.{sum_to}
use Rattle.placement.specs.Gate.{PlaceAnswer, placement_of}
use Rattle.tally.specs.Gates.{is_measured}
use Rattle.scan.specs.Scan.{Scan}

unfoldable pub is_inside : PlaceAnswer → Bool
is_inside (Ok placement) = is_some placement.cell
is_inside (Err refusal) = false

module _ (scan : Scan) where
  -- the placement of gate g of ray i, which has its centre at first + g x spacing
  unfoldable pub gate_placement : ℕ → ℕ → PlaceAnswer
  gate_placement i g =
      placement_of scan.head.site scan.head.grid (get_or scan.azimuths i 0) (scan.head.first + g * scan.head.spacing)

  -- its value: gates are numbered ray by ray
  unfoldable pub gate_value : ℕ → ℕ → ℕ
  gate_value i g = get_or scan.values (i * scan.head.gates + g) 0

  unfoldable pub is_placed : ℕ → ℕ → Bool
  is_placed i g = is_inside (gate_placement i g) && is_measured (gate_value i g)

  -- how many there are: 1 for each, over all gates of all rays
  unfoldable pub placed_of : ℕ
  placed_of = sum_to (λ i. sum_to (λ g. cond (is_placed i g) 1 0) scan.head.gates) scan.head.rays
