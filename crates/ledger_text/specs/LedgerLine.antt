-- The line of a gate: RAY GATE AZIMUTH RANGE VALUE QUALITY X Y COLUMN ROW MARK, with the word outside for column and row. Assumes nothing.
use Rattle.std.specs.Prelude.{◌&&◌, cond, Option, Some, None, Result, Ok, Err, List, [], ◌∷◌, ◌++◌, ℕ, ◌+◌, ◌*◌, ◌/◌, ◌%◌, eqb, ltb, get_or}
use Rattle.placement.specs.declared.gate.Placement.{Placement}
use Rattle.refusal.specs.Numbered.{number_of}
use Rattle.refusal.specs.declared.numbered.Refusal.{Refusal}
use Rattle.placement.specs.Gate.{placement_of, mark_number}
use Rattle.grid.specs.Window.{window_of}
use Rattle.scan.specs.Scan.{gates_of}
use Rattle.record_layout.specs.RecordPlaces.{head_in, azimuths_in, values_in, qualities_in}
use Rattle.record_layout.specs.RecordRefusal.{head_refusal}
use Rattle.text.specs.DecimalText.{decimal_of, signed_decimal_of, line_of}
use Rattle.text.specs.RefusedLine.{refused_word}

-- the word `outside`
unfoldable pub outside_word : List ℕ
outside_word = 111 ∷ 117 ∷ 116 ∷ 115 ∷ 105 ∷ 100 ∷ 101 ∷ []

-- column and row, where a cell is row x columns + column; or the word `outside`
unfoldable pub cell_words : ℕ → Option ℕ → List (List ℕ)
cell_words columns (Some cell) = decimal_of (cell % columns) ∷ decimal_of (cell / columns) ∷ []
cell_words columns None = outside_word ∷ []

-- a gate of a good record is never refused (proofs/NeverRefused.antt)
unfoldable pub placement_words : ℕ → Result Placement Refusal → List (List ℕ)
placement_words columns (Ok placement) =
    (signed_decimal_of placement.x ∷ signed_decimal_of placement.y ∷ [])
    ++ cell_words columns placement.cell
    ++ decimal_of (mark_number placement.mark) ∷ []
placement_words columns (Err refusal) = refused_word ∷ decimal_of (number_of refusal) ∷ []

-- gate k of the scan is gate k mod gates of ray k div gates, with its centre at first + gate x spacing
module _ (bytes : List ℕ) (k : ℕ) where
  unfoldable pub ray_of : ℕ
  ray_of = k / (head_in bytes).gates

  unfoldable pub gate_of : ℕ
  gate_of = k % (head_in bytes).gates

  unfoldable pub azimuth_of : ℕ
  azimuth_of = get_or (azimuths_in bytes) ray_of 0

  unfoldable pub range_of : ℕ
  range_of = (head_in bytes).first + gate_of * (head_in bytes).spacing

  unfoldable pub gate_words : List (List ℕ)
  gate_words =
      decimal_of ray_of
      ∷ decimal_of gate_of
      ∷ decimal_of azimuth_of
      ∷ decimal_of range_of
      ∷ decimal_of (get_or (values_in bytes) k 0)
      ∷ decimal_of (get_or (qualities_in bytes) k 0)
      ∷ []

  -- where the record is good and has that gate
  unfoldable pub good_line : List ℕ
  good_line =
      line_of (
      gate_words
      ++ placement_words (window_of (head_in bytes).grid).columns (placement_of (head_in bytes).site (head_in bytes).grid azimuth_of range_of))

  -- a refused record, and one that has no such gate, has no line
  unfoldable pub ledger_line : List ℕ
  ledger_line = cond (eqb (head_refusal bytes) 0 && ltb k (gates_of (head_in bytes))) good_line []
