-- `sheet_text::page::sized_sheet` meets its contract. Assumes nothing.
use native.Mathlib.Omega.{arith}
use Rattle.sheet_text.proofs.SheetAnswers.{gates_too_many, cells_too_many, within_sizes}
use Rattle.text.proofs.StoredLaws.{appends_same}
use Rattle.sheet_lines.specs.SheetLines.{too_large}
use Rattle.text.specs.DecimalText.{line_of}
use Rattle.sheet_text.proofs.page.sized_sheet.Goals as goal

pub returns-then-gates_of-gt4096 : goal.returns-then-gates_of-gt4096
unfolding too_large line_of
returns-then-gates_of-gt4096 c =
    let put = c.put_too_large.ensures.appended in
    record { appended = appends_same (gates_too_many _ c.args.good.head_is (omega (arith, c.if-gates_of-gt4096.true, c.gates_of.ensures))) put; bounded = omega (arith, put.stored.the_end) }

pub returns-then-cells_of-gt1024 : goal.returns-then-cells_of-gt1024
unfolding too_large line_of
returns-then-cells_of-gt1024 c =
    let put = c.put_too_large-then-cells_of-gt1024.ensures.appended in
    record { appended = appends_same (cells_too_many _ c.args.good.head_is (omega (arith, c.if-gates_of-gt4096.false, c.gates_of.ensures)) (omega (arith, c.if-cells_of-gt1024.true, c.cells_of.ensures))) put; bounded = omega (arith, put.stored.the_end) }

pub good_sheet-requires : goal.good_sheet-requires
good_sheet-requires c = (
  record {
    accepted = c.args.good.good;
    is_head = c.args.good.head_is;
    gates_most = omega (arith, c.if-gates_of-gt4096.false, c.gates_of.ensures);
    cells_most = omega (arith, c.if-cells_of-gt1024.false, c.cells_of.ensures);
  },
  c.requires,
)

pub returns-clause-appended : goal.returns-clause-appended
returns-clause-appended c =
    appends_same (within_sizes _ c.args.good.head_is (omega (arith, c.if-gates_of-gt4096.false, c.gates_of.ensures)) (omega (arith, c.if-cells_of-gt1024.false, c.cells_of.ensures))) c.good_sheet.ensures.appended
