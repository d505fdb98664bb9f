-- Document 01, "Arc": the arc of a range r on a sphere of radius R, and its sine and cosine times Q. Assumes nothing.
use Rattle.std.specs.Prelude.{ℕ, ℤ, pos, ◌+ℤ◌, ◌-ℤ◌, ◌*ℤ◌}
use Rattle.arithmetic.specs.Floor.{◌÷◌}
use Rattle.sine_series.specs.Tables.{Q}
use Rattle.projection.specs.declared.arc.ArcTerms.{ArcTerms}

module _ (R r : ℕ) where
  unfoldable pub d : ℤ
  d = pos r *ℤ pos Q ÷ R

  unfoldable pub d2 : ℤ
  d2 = d *ℤ d ÷ Q

  unfoldable pub d3 : ℤ
  d3 = d2 *ℤ d ÷ Q

  unfoldable pub d4 : ℤ
  d4 = d2 *ℤ d2 ÷ Q

  unfoldable pub d5 : ℤ
  d5 = d4 *ℤ d ÷ Q

  unfoldable pub sd : ℤ
  sd = d -ℤ d3 ÷ 6 +ℤ d5 ÷ 120

  unfoldable pub cd : ℤ
  cd = pos Q -ℤ d2 ÷ 2 +ℤ d4 ÷ 24

  unfoldable pub arc_terms : ArcTerms
  arc_terms = record { sd = sd; cd = cd }
