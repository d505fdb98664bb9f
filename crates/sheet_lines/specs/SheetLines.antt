-- Document 01, "The sheet program": the lines of a sheet. Assumes nothing.
use Rattle.std.specs.Prelude.{cond, List, [], ◌∷◌, ◌++◌, ℕ, zero, suc, ◌/◌, ◌%◌, eqb, length, get_or}
use Rattle.text.specs.DecimalText.{decimal_of, line_of}

-- ---- the words, in the bytes of ASCII

-- "grid"
unfoldable pub grid_word : List ℕ
grid_word = 103 ∷ 114 ∷ 105 ∷ 100 ∷ []

-- "gates"
unfoldable pub gates_word : List ℕ
gates_word = 103 ∷ 97 ∷ 116 ∷ 101 ∷ 115 ∷ []

-- "placed"
unfoldable pub placed_word : List ℕ
placed_word = 112 ∷ 108 ∷ 97 ∷ 99 ∷ 101 ∷ 100 ∷ []

-- "too" and "large"
unfoldable pub too_large : List ℕ
too_large = line_of ((116 ∷ 111 ∷ 111 ∷ []) ∷ (108 ∷ 97 ∷ 114 ∷ 103 ∷ 101 ∷ []) ∷ [])

-- ---- the sheet of a grid of so many columns

-- the grid's columns and rows, the gates and how many measured ones lie inside
unfoldable pub top_lines : ℕ → ℕ → ℕ → ℕ → List ℕ
top_lines columns rows gates placed =
    line_of (grid_word ∷ decimal_of columns ∷ decimal_of rows ∷ [])
    ++ line_of (gates_word ∷ decimal_of gates ∷ placed_word ∷ decimal_of placed ∷ [])

-- column, row, mean, quality, count: the ledger's number of a cell is row x columns + column
unfoldable pub cell_line : ℕ → ℕ → ℕ → ℕ → ℕ → List ℕ
cell_line columns cell mean quality count =
    line_of (decimal_of (cell % columns) ∷ decimal_of (cell / columns) ∷ decimal_of mean ∷ decimal_of quality ∷ decimal_of count ∷ [])

-- the first so many cells, each with a count, south to north, west to east
unfoldable pub cell_lines : ℕ → List ℕ → List ℕ → List ℕ → ℕ → List ℕ
cell_lines columns counts means qualities zero = []
cell_lines columns counts means qualities (suc cell) =
    cell_lines columns counts means qualities cell
    ++ cond (eqb (get_or counts cell 0) 0) [] (cell_line columns cell (get_or means cell 0) (get_or qualities cell 0) (get_or counts cell 0))

unfoldable pub sheet_lines : ℕ → ℕ → ℕ → ℕ → List ℕ → List ℕ → List ℕ → List ℕ
sheet_lines columns rows gates placed counts means qualities =
    top_lines columns rows gates placed ++ cell_lines columns counts means qualities (length counts)
