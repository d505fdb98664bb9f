-- `sheet_text::page::put_text` meets its contract. Assumes nothing.
use mathlib.Core.Path.{sym, ap, ◌∙◌}
use native.Mathlib.Omega.{arith}
use Rattle.sheet_lines.specs.SheetLines.{too_large}
use Rattle.text.specs.DecimalText.{line_of}
use Rattle.text.proofs.StoredLaws.{appends_same}
use Rattle.sheet_text.specs.SheetText.{sized_sheet}
use Rattle.sheet_text.proofs.SheetAnswers.{bytes_too_many, is_refused, is_sized}
use Rattle.sheet_text.proofs.page.put_text.Goals as goal

pub returns-then-bytes-gt16384 : goal.returns-then-bytes-gt16384
unfolding too_large line_of
returns-then-bytes-gt16384 c =
    let put = c.put_too_large.ensures.appended in
    record { appended = appends_same (bytes_too_many _ c.if-bytes-gt16384.true) put; bounded = omega (arith, put.stored.the_end) }

pub returns-in-Ok-clause-appended : goal.returns-in-Ok-clause-appended
returns-in-Ok-clause-appended c =
    appends_same (ap sized_sheet c.in-Ok.ensures.of_bytes ∙ is_sized _ c.if-bytes-gt16384.false (sym c.in-Ok.ensures.number)) c.sized_sheet.ensures.appended

pub returns-in-Err-clause-appended : goal.returns-in-Err-clause-appended
returns-in-Err-clause-appended c =
    appends_same (is_refused _ _ c.if-bytes-gt16384.false c.in-Err.ensures.number) (rw c.number.ensures at c.refused.ensures.appended)
