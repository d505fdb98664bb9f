-- `coarse_sines::coarse_sines` meets its contract: each number of the code's table rounds Q times the series. Assumes nothing.
use mathlib.Core.List.{List}
use Prim.Native.Nat.{ℕ, ◌*◌}
use lib.Dec.{T}
use lib.IntN.{pos}
use lib.ListN.{get_or}
use Rattle.arithmetic.proofs.Table.{all_from}
use Rattle.sine_series.specs.Series.{sine_series}
use Rattle.sine_series.specs.Tables.{S, Tabulates}
use Rattle.sine_series.proofs.TableTest.{rounds, rounds_at_each}
use Rattle.coarse_sines.proofs.coarse_sines.Goals as goal

tabulates : (xs : List ℕ) → T (all_from (λ a. rounds (a * 1000) 1 (pos (get_or xs a 0))) 0 901) → Tabulates S 901 xs
unfolding S sine_series
tabulates xs p = record { at = rounds_at_each (λ a. a * 1000) 1 901 (λ a. get_or xs a 0) p }

pub returns : goal.returns
unfolding rounds
returns c = tabulates _ tt
