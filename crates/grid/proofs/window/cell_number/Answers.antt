-- `grid::window::cell_number` meets its contract: column and row are small natural numbers. Assumes nothing.
use mathlib.Core.Path.{◌≡◌}
use Prim.Native.Nat.{◌*◌, ◌<◌, ◌≤◌}
use native.Mathlib.Nat.{mul-le-mul, le-pred_of_lt}
use native.Mathlib.Omega.{arith}
use lib.IntN.{pos, nat_abs}
use mir.Syntax.{w64}
use mir.Val.{to_z, of_z}
use Rattle.arithmetic.proofs.Machine.{read_back}
use Rattle.grid.specs.Window.{cell_number}
use Rattle.grid.proofs.Cells.{in_span_natural}
use Rattle.grid.proofs.window.cell_number.Goals as goal

row_small : (c : goal.Start) → nat_abs c.args.row < 1500
row_small c = (in_span_natural 1500 c.args.row c.requires.1).1

column-small : (c : goal.Start) → nat_abs c.args.column < 1500
column-small c = (in_span_natural 1500 c.args.column c.requires.2).1

-- what the words hold
row_is : (c : goal.Start) → to_z w64 (of_z w64 c.args.row) ≡ pos (nat_abs c.args.row)
row_is c = read_back (in_span_natural 1500 c.args.row c.requires.1).0 (record { sfits = omega (arith, row_small c) })

column_is : (c : goal.Start) → to_z w64 (of_z w64 c.args.column) ≡ pos (nat_abs c.args.column)
column_is c = read_back (in_span_natural 1500 c.args.column c.requires.2).0 (record { sfits = omega (arith, column-small c) })

product_small : (c : goal.Start) → nat_abs c.args.row * c.args.columns ≤ 1499 * 1500
product_small c = mul-le-mul (le-pred_of_lt (row_small c)) c.requires.0

pub overflow_cast-result : goal.overflow_cast-result
overflow_cast-result c = rw (row_is c) (tt, record { fits = omega (arith, row_small c) })

pub overflow_mul-result : goal.overflow_mul-result
overflow_mul-result c = rw (row_is c) (record { fits = omega (arith, product_small c) })

pub overflow_cast-result-2 : goal.overflow_cast-result-2
overflow_cast-result-2 c = rw (column_is c) (tt, record { fits = omega (arith, column-small c) })

pub overflow_add-result : goal.overflow_add-result
overflow_add-result c = rw (row_is c, column_is c) (record { fits = omega (arith, product_small c, column-small c) })

pub returns : goal.returns
unfolding cell_number
returns c = rw (row_is c, column_is c)
