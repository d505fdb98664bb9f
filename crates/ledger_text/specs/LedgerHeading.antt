-- The heading of a ledger: the names of a line's fields, in their order. Assumes nothing.
use Rattle.std.specs.Prelude.{List, [], ◌∷◌, ℕ}
use Rattle.text.specs.DecimalText.{line_of}

-- ray gate azimuth range value quality x y column row mark
unfoldable pub field_names : List (List ℕ)
field_names =
    (114 ∷ 97 ∷ 121 ∷ [])
    ∷ (103 ∷ 97 ∷ 116 ∷ 101 ∷ [])
    ∷ (97 ∷ 122 ∷ 105 ∷ 109 ∷ 117 ∷ 116 ∷ 104 ∷ [])
    ∷ (114 ∷ 97 ∷ 110 ∷ 103 ∷ 101 ∷ [])
    ∷ (118 ∷ 97 ∷ 108 ∷ 117 ∷ 101 ∷ [])
    ∷ (113 ∷ 117 ∷ 97 ∷ 108 ∷ 105 ∷ 116 ∷ 121 ∷ [])
    ∷ (120 ∷ [])
    ∷ (121 ∷ [])
    ∷ (99 ∷ 111 ∷ 108 ∷ 117 ∷ 109 ∷ 110 ∷ [])
    ∷ (114 ∷ 111 ∷ 119 ∷ [])
    ∷ (109 ∷ 97 ∷ 114 ∷ 107 ∷ [])
    ∷ []

unfoldable pub ledger_heading : List ℕ
ledger_heading = line_of field_names
