-- The line that answers words: where they give a gate, its placement, otherwise how the program is called. Assumes nothing.
use Rattle.std.specs.Prelude.{cond, Option, Some, None, Result, Ok, Err, List, [], ◌∷◌, ℕ, ◌/◌, ◌%◌}
use Rattle.placement.specs.declared.gate.Placement.{Placement}
use Rattle.refusal.specs.Numbered.{number_of}
use Rattle.refusal.specs.declared.numbered.Refusal.{Refusal}
use Rattle.limits.specs.declared.grid.Grid.{Grid}
use Rattle.placement.specs.Gate.{placement_of, mark_number}
use Rattle.grid.specs.Window.{window_of}
use Rattle.text.specs.DecimalText.{decimal_of, signed_decimal_of, line_of}
use Rattle.text.specs.RefusedLine.{refused_word}
use Rattle.refusal.specs.Unsigned.{unsigned32}
use Rattle.gate_words.specs.GivenWords.{number_at}
use Rattle.gate_words.specs.GivenGate.{given, site_given, hrap_given, radolan_given}
use Rattle.ledger_text.specs.LedgerLine.{outside_word}

-- the words `inside`, `hrap` and `radolan`
unfoldable pub inside_word : List ℕ
inside_word = 105 ∷ 110 ∷ 115 ∷ 105 ∷ 100 ∷ 101 ∷ []

unfoldable pub hrap_word : List ℕ
hrap_word = 104 ∷ 114 ∷ 97 ∷ 112 ∷ []

unfoldable pub radolan_word : List ℕ
radolan_word = 114 ∷ 97 ∷ 100 ∷ 111 ∷ 108 ∷ 97 ∷ 110 ∷ []

-- usage: gate latitude longitude azimuth range (hrap i j | radolan x y side) columns rows
unfoldable pub usage_line : List ℕ
usage_line =
    117 ∷ 115 ∷ 97 ∷ 103 ∷ 101 ∷ 58 ∷ 32 ∷ 103 ∷ 97 ∷ 116 ∷ 101 ∷ 32 ∷ 108 ∷ 97 ∷ 116 ∷ 105 ∷ 116 ∷ 117 ∷ 100 ∷ 101 ∷ 32 ∷ 108 ∷ 111 ∷ 110 ∷ 103 ∷ 105 ∷ 116 ∷ 117 ∷ 100 ∷ 101 ∷ 32 ∷ 97 ∷ 122 ∷ 105 ∷ 109 ∷ 117 ∷ 116 ∷ 104 ∷ 32 ∷ 114 ∷ 97 ∷ 110 ∷ 103 ∷ 101 ∷ 32 ∷ 40 ∷ 104 ∷ 114 ∷ 97 ∷ 112 ∷ 32 ∷ 105 ∷ 32 ∷ 106 ∷ 32 ∷ 124 ∷ 32 ∷ 114 ∷ 97 ∷ 100 ∷ 111 ∷ 108 ∷ 97 ∷ 110 ∷ 32 ∷ 120 ∷ 32 ∷ 121 ∷ 32 ∷ 115 ∷ 105 ∷ 100 ∷ 101 ∷ 41 ∷ 32 ∷ 99 ∷ 111 ∷ 108 ∷ 117 ∷ 109 ∷ 110 ∷ 115 ∷ 32 ∷ 114 ∷ 111 ∷ 119 ∷ 115 ∷ 10 ∷ []

-- inside X Y COLUMN ROW CELL MARK, or outside X Y MARK, or refused NUMBER
unfoldable pub placed_words : ℕ → Option ℕ → Placement → List (List ℕ)
placed_words columns (Some cell) placement =
    inside_word
    ∷ signed_decimal_of placement.x
    ∷ signed_decimal_of placement.y
    ∷ decimal_of (cell % columns)
    ∷ decimal_of (cell / columns)
    ∷ decimal_of cell
    ∷ decimal_of (mark_number placement.mark)
    ∷ []
placed_words columns None placement =
    outside_word ∷ signed_decimal_of placement.x ∷ signed_decimal_of placement.y ∷ decimal_of (mark_number placement.mark) ∷ []

unfoldable pub answer_words : ℕ → Result Placement Refusal → List (List ℕ)
answer_words columns (Ok placement) = placed_words columns placement.cell placement
answer_words columns (Err refusal) = refused_word ∷ decimal_of (number_of refusal) ∷ []

module _ (words : List ℕ) where
  unfoldable pub answer_text : Grid → List ℕ
  answer_text grid =
      line_of (answer_words (window_of grid).columns (placement_of (site_given words) grid (unsigned32 (number_at words 2)) (unsigned32 (number_at words 3))))

  unfoldable pub gate_text : List ℕ
  gate_text =
      cond (given words 9 hrap_word) (answer_text (hrap_given words))
      (cond (given words 10 radolan_word) (answer_text (radolan_given words)) usage_line)
