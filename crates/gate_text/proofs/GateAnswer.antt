-- The line that answers words, from what the code reads of them. Assumes nothing.
use mathlib.Core.Bool.{true, false}
use mathlib.Core.List.{List}
use mathlib.Core.Path.{◌≡◌}
use Prim.Native.Nat.{ℕ}
use Rattle.limits.specs.declared.grid.Grid.{Grid}
use Rattle.limits.specs.declared.site.Site.{Site}
use Rattle.placement.specs.Gate.{PlaceAnswer, placement_of}
use Rattle.grid.specs.Window.{window_of}
use Rattle.text.specs.DecimalText.{line_of}
use Rattle.refusal.specs.Unsigned.{unsigned32}
use Rattle.gate_words.specs.GivenWords.{number_at}
use Rattle.gate_words.specs.GivenGate.{given, site_given, hrap_given, radolan_given}
use Rattle.gate_text.specs.GateText.{hrap_word, radolan_word, usage_line, answer_words, answer_text, gate_text}

module _ (words : List ℕ) (grid : Grid) {site : Site} {azimuth range columns : ℕ} {answer : PlaceAnswer} where
  pub answer_text_is : site ≡ site_given words → azimuth ≡ unsigned32 (number_at words 2) → range ≡ unsigned32 (number_at words 3) → columns ≡ (window_of grid).columns → answer ≡ placement_of site grid azimuth range → line_of (answer_words columns answer) ≡ answer_text words grid
  unfolding answer_text
  answer_text_is s a r c p = rw (p, c, s, a, r)

-- ---- what is answered

module _ (words : List ℕ) where
  pub hrap_text : given words 9 hrap_word ≡ true → answer_text words (hrap_given words) ≡ gate_text words
  unfolding gate_text
  hrap_text h = rw h

  pub radolan_text : given words 9 hrap_word ≡ false → given words 10 radolan_word ≡ true → answer_text words (radolan_given words) ≡ gate_text words
  unfolding gate_text
  radolan_text h r = rw (h, r)

  pub usage_text : given words 9 hrap_word ≡ false → given words 10 radolan_word ≡ false → usage_line ≡ gate_text words
  unfolding gate_text
  usage_text h r = rw (h, r)
