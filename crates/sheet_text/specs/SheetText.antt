-- Document 01, "The sheet program": the text that is printed, for any bytes that come in. Assumes nothing.
use Rattle.std.specs.Prelude.{◌&&◌, cond, List, ℕ, zero, suc, leb, length}
use Rattle.scan.specs.Scan.{gates_of, cells_of}
use Rattle.record_layout.specs.RecordPlaces.{head_in}
use Rattle.record_layout.specs.RecordRefusal.{head_refusal}
use Rattle.text.specs.RefusedLine.{refused_line}
use Rattle.sheet_lines.specs.SheetLines.{too_large}
use Rattle.record_sheet.specs.GoodSheet.{good_sheet}

-- a refusal prints `refused` and the number, and there is no sheet
unfoldable pub refused_or : ℕ → List ℕ → List ℕ
refused_or zero sheet = sheet
refused_or (suc number) sheet = refused_line (suc number)

module _ (bytes : List ℕ) where
  -- a good record of at most 4,096 gates and 1,024 cells
  unfoldable pub sized_sheet : List ℕ
  sized_sheet = cond (leb (gates_of (head_in bytes)) 4096 && leb (cells_of (head_in bytes)) 1024) (good_sheet bytes) too_large

  -- input over 16,384 bytes, then a refusal, then a good record beyond the two sizes
  unfoldable pub sheet_text : List ℕ
  sheet_text = cond (leb (length bytes) 16384) (refused_or (head_refusal bytes) sized_sheet) too_large
