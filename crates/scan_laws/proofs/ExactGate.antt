-- Document 02, T-10, of one gate: without a mark its entry is the exact one, and it lies beside its exact cell. Assumes nothing.
use mathlib.Core.Bool.{Bool, true, false, cond}
use mathlib.Core.Path.{◌≡◌, refl, sym, subst, ap, ◌∙◌}
use Prim.Native.Nat.{ℕ, ◌/◌, ◌%◌, ◌<◌, ◌≤◌}
use native.Mathlib.Omega.{arith}
use borrow.Author.Tests.{le-leb}
use lib.Dec.{eqb}
use Rattle.std.proofs.Common.{Some, None, Ok}
use lib.IntN.{ℤ, pos, ◌-ℤ◌, nat_abs}
use Rattle.arithmetic.specs.Fraction.{Fraction}
use Rattle.arithmetic.specs.Nearness.{Within}
use Rattle.arithmetic.proofs.Floor.{small_division}
use Rattle.arithmetic.proofs.Test.{and_true}
use Rattle.grid.specs.declared.window.Window.{Window}
use Rattle.grid.specs.Mark.{tolerance}
use Rattle.grid.specs.Window.{in_span, cell_number}
use Rattle.grid.proofs.Cells.{in_span_natural}
use Rattle.projection.specs.declared.position.Position.{Position}
use Rattle.placement.specs.Gate.{entry_of, mark_number, mark_of, outside_entry}
use Rattle.placement.specs.Located.{column, row, marked, located}
use Rattle.placement.specs.ExactCell.{column*, row*, in_window*, located*, entry_of*}
use Rattle.placement.proofs.ExactCell.{column_beside, row_beside, entry_same}
use Rattle.scan_laws.specs.ExactCount.{at_most_one_apart, beside_cell, beside_of}

-- ---- what a placement tells

mark_told : (window : Window) (at : Position) → mark_of (Ok (located window at)) ≡ mark_number (marked window at)
unfolding located mark_of
mark_told window at = refl

beside_told : (window : Window) (cell : ℕ) (at : Position) → beside_of window cell (Ok (located window at)) ≡ cond (beside_cell window cell at) 1 0
unfolding located beside_of
beside_told window cell at = refl

-- a mark that is not 1 is none
no_mark : (mark : Bool) → eqb (mark_number mark) 1 ≡ false → mark ≡ false
no_mark true e = e
no_mark false e = refl

-- ---- the column and the row of a cell that a grid has

columns_rows : (window : Window) (x y : Fraction) → in_window* window x y ≡ true → let cell = cell_number window.columns (row* window x y) (column* window x y) in (column* window x y ≡ pos (cell % window.columns)) × (row* window x y ≡ pos (cell / window.columns))
unfolding in_window* cell_number
columns_rows window x y e =
    let both = and_true (in_span window.columns (column* window x y)) (in_span window.rows (row* window x y)) e in
    let c = in_span_natural window.columns (column* window x y) both.0 in
    let r = in_span_natural window.rows (row* window x y) both.1 in
    let parts = small_division (nat_abs (row* window x y)) window.columns (nat_abs (column* window x y)) c.1 in
    (c.0 ∙ ap pos (sym parts.1), r.0 ∙ ap pos (sym parts.0))

one_apart : (index : ℤ) {exact : ℤ} {ofCell : ℕ} → exact ≡ pos ofCell → nat_abs (index -ℤ exact) ≤ 1 → at_most_one_apart index ofCell ≡ true
unfolding at_most_one_apart
one_apart index e h = le-leb _ _ (subst (λ (z : ℤ). nat_abs (index -ℤ z) ≤ 1) e h)

module _ (window : Window) (at : Position) (x y : Fraction) (least : 10000 ≤ window.side) (x-near : Within tolerance at.x x) (y-near : Within tolerance at.y y) where
  pub unmarked_exact : eqb (mark_of (Ok (located window at))) 1 ≡ false → entry_of (Ok (located window at)) ≡ entry_of* (located* window x y)
  unmarked_exact e = sym (entry_same window at x y least x-near y-near (no_mark (marked window at) (rw (mark_told window at) at e)))

  module _ (cell : ℕ) (below : cell < outside_entry) where
    in_the_cell : in_window* window x y ≡ true → cell_number window.columns (row* window x y) (column* window x y) ≡ cell → beside_cell window cell at ≡ true
    unfolding beside_cell
    in_the_cell inside is =
        let known = rw is at (columns_rows window x y inside) in
        let of-column = one_apart (column window at) known.0 (column_beside window at x y least x-near y-near) in
        let of_row = one_apart (row window at) known.1 (row_beside window at x y least x-near y-near) in
        rw (of-column, of_row)

    by_span : (inside : Bool) → in_window* window x y ≡ inside → entry_of* (cond inside (Some (cell_number window.columns (row* window x y) (column* window x y))) None) ≡ cell → beside_cell window cell at ≡ true
    by_span true inside is = in_the_cell inside is
    by_span false inside is = absurd (omega arith)

    pub exactly_beside : entry_of* (located* window x y) ≡ cell → beside_of window cell (Ok (located window at)) ≡ 1
    unfolding located*
    exactly_beside is = beside_told window cell at ∙ ap (λ (b : Bool). cond {A = ℕ} b 1 0) (by_span (in_window* window x y) refl is)
