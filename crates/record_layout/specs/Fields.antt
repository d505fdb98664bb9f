-- The seven fields in their order and the record's end, and the number of each. Assumes nothing.
use Rattle.std.specs.Prelude.{ℕ}
use Rattle.record_layout.specs.declared.field.Field.{Field}
use Rattle.record_layout.specs.declared.field.Field.TheVariants.{Site, Gates, Grid, Weighting, Azimuths, Values, Qualities, End}

-- how many fields stand before it
abbrev pub index_of : Field → ℕ
index_of Site = 0
index_of Gates = 1
index_of Grid = 2
index_of Weighting = 3
index_of Azimuths = 4
index_of Values = 5
index_of Qualities = 6
index_of End = 7
