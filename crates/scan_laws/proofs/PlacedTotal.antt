-- The counts of all cells together are the measured gates that are placed inside. Assumes nothing.
use mathlib.Core.Path.{◌≡◌, refl, ap, ◌∙◌}
use mathlib.Core.Bool.{Bool, true, false, ◌&&◌, cond}
use Prim.Native.Nat.{ℕ, zero, suc, ◌+◌, ◌*◌, ◌≤◌, ◌<◌}
use native.Mathlib.Nat.{mul_comm, suc-mul, mul-le-mul_right}
use native.Mathlib.Omega.{arith}
use borrow.Author.Tests.{lt-ltb, le-ltb}
use lib.Dec.{ltb}
use Rattle.std.proofs.Common.{Some, None}
use Rattle.std.specs.Option.{is_some, unwrap_or}
use lib.IntN.{nat_abs}
use lib.ListN.{length, get_or}
use Rattle.arithmetic.specs.Places.{sum_to}
use Rattle.arithmetic.proofs.Places.{sum_ext, sum_rows, sum_of_table}
use Rattle.arithmetic.proofs.Test.{and_true}
use Rattle.grid.specs.declared.window.Window.{Window}
use Rattle.projection.specs.declared.position.Position.{Position}
use Rattle.placement.specs.Gate.{PlaceAnswer, unless_refused, placement_of, entry_of, outside_entry}
use Rattle.grid.specs.Window.{window_of, in_span, cell_number}
use Rattle.placement.specs.Located.{in_window, cell_at, located, row, column}
use Rattle.grid.proofs.Cells.{in_span_natural}
use Rattle.tally.specs.Gates.{is_measured}
use Rattle.scan_laws.specs.Placed.{is_inside, gate_placement, gate_value, is_placed, placed_of}
use Rattle.scan_ledger.specs.ScanLedger.{gates_told}
use Rattle.accepted_tally.specs.TalliedLists.{tallied_lists}
use Rattle.scan.specs.Scan.{cells_of, Scan}
use Rattle.tally.specs.Tally.{count_of, tallied_sums}
use Rattle.tally.proofs.CountTotal.{count_total}
use Rattle.scan_laws.proofs.LedgerEntry.{so_many_gates, ledger_entry}

-- ---- the entry of a gate names one of the cells just where the gate is placed inside

Told : PlaceAnswer → ℕ → Type 0
Told placement cells = ltb (entry_of placement) cells ≡ is_inside placement

cell_below : (columns rows r c : ℕ) → r < rows → c < columns → r * columns + c < columns * rows
cell_below columns rows r c h i =
    omega (arith, mul-le-mul_right {m = suc r} {n = rows} columns h, suc-mul r columns, mul_comm rows columns)

module _ (window : Window) (at : Position) (h : window.columns * window.rows ≤ 4294967295) where
  located_by : (b : Bool) → in_window window at ≡ b → ltb (unwrap_or (cond b (Some (cell_number window.columns (row window at) (column window at))) None) outside_entry) (window.columns * window.rows) ≡ is_some (cond b (Some (cell_number window.columns (row window at) (column window at))) None)
  unfolding in_window cell_number
  located_by true e =
      let both = and_true (in_span window.columns (column window at)) (in_span window.rows (row window at)) e in
      lt-ltb _ _
      (cell_below window.columns window.rows (nat_abs (row window at)) (nat_abs (column window at))
      (in_span_natural window.rows (row window at) both.1).1
      (in_span_natural window.columns (column window at) both.0).1)
  located_by false e = le-ltb _ _ h

  unless_refused_lem : (number : ℕ) → Told (unless_refused number (located window at)) (window.columns * window.rows)
  unfolding unless_refused located cell_at Told entry_of is_inside
  unless_refused_lem zero = located_by (in_window window at) refl
  unless_refused_lem (suc number) = le-ltb _ _ h

gate_told : (scan : Scan) (i g : ℕ) → cells_of scan.head ≤ 4294967295 → Told (gate_placement scan i g) (cells_of scan.head)
unfolding gate_placement placement_of cells_of
gate_told scan i g h = unless_refused_lem (window_of scan.head.grid) _ h _

-- ---- the sum

module _ (scan : Scan) (azimuths : length scan.azimuths ≡ scan.head.rays) (cells : cells_of scan.head ≤ 4294967295) where
  ledger_length : length (tallied_lists scan).ledger ≡ scan.head.rays * scan.head.gates
  unfolding tallied_lists gates_told
  ledger_length = so_many_gates scan _ azimuths

  -- 1 where gate k is counted by some cell
  counted : ℕ → ℕ
  counted k = cond (ltb (get_or (tallied_lists scan).ledger k 0) (cells_of scan.head) && is_measured (get_or scan.values k 0)) 1 0

  -- which is just where it is placed
  gate_counted : (i g : ℕ) → i < scan.head.rays → g < scan.head.gates → counted (i * scan.head.gates + g) ≡ cond (is_placed scan i g) 1 0
  unfolding counted is_placed gate_placement gate_value Told
  gate_counted i g h k =
      ap (λ (entry : ℕ). cond {A = ℕ} (ltb entry (cells_of scan.head) && is_measured (gate_value scan i g)) 1 0) (ledger_entry scan i g (omega arith) k)
      ∙ ap (λ (inside : Bool). cond {A = ℕ} (inside && is_measured (gate_value scan i g)) 1 0) (gate_told scan i g cells)

  pub placed_total : sum_to (λ c. get_or (tallied_lists scan).sums.counts c 0) (length (tallied_lists scan).sums.counts) ≡ placed_of scan
  unfolding tallied_lists tallied_sums placed_of counted
  placed_total =
      let ledger = (tallied_lists scan).ledger in
      sum_of_table (count_of ledger scan.values scan.qualities) (cells_of scan.head)
      ∙ count_total ledger scan.values scan.qualities (cells_of scan.head)
      ∙ ap (sum_to counted) ledger_length
      ∙ sum_rows counted scan.head.rays scan.head.gates
      ∙ sum_ext _ _ scan.head.rays (λ i h. sum_ext _ _ scan.head.gates (λ g k. gate_counted i g h k))
