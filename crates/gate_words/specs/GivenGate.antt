-- One gate given in words: LATITUDE LONGITUDE AZIMUTH RANGE hrap I J COLUMNS ROWS, or LATITUDE LONGITUDE AZIMUTH RANGE radolan X Y SIDE
-- COLUMNS ROWS. Assumes nothing.
use Rattle.std.specs.Prelude.{Bool, ◌&&◌, List, ℕ, ◌-◌}
use Rattle.refusal.specs.Unsigned.{unsigned32}
use Rattle.limits.specs.declared.grid.Grid.{Grid}
use Rattle.limits.specs.declared.grid.Grid.TheVariants.{Radolan, Hrap}
use Rattle.limits.specs.declared.site.Site.{Site}
use Rattle.gate_words.specs.GivenWords.{same_word, word, are_words, number_at, are_numbers}

module _ (words : List ℕ) where
  -- so many words, the fifth of them the kind, all others numbers
  unfoldable pub given : ℕ → List ℕ → Bool
  given count kind =
      are_words words count && same_word (word words 4) kind && are_numbers words 0 4 && are_numbers words 5 (count - 5)

  unfoldable pub site_given : Site
  site_given = record { latitude = number_at words 0; longitude = number_at words 1 }

  unfoldable pub hrap_given : Grid
  hrap_given = Hrap (record {
    i = number_at words 5;
    j = number_at words 6;
    columns = unsigned32 (number_at words 7);
    rows = unsigned32 (number_at words 8);
  })

  unfoldable pub radolan_given : Grid
  radolan_given = Radolan (record {
    x = number_at words 5;
    y = number_at words 6;
    side = unsigned32 (number_at words 7);
    columns = unsigned32 (number_at words 8);
    rows = unsigned32 (number_at words 9);
  })
