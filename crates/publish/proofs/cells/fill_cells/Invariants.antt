use Rattle.std.proofs.Common.{◌≡◌, ℕ, slice_get, Some, ◌<◌}
use Rattle.publish.proofs.cells.fill_cells.Given as goal

abbrev pub invariant-loop-c : goal.invariant-loop-c
invariant-loop-c g l = (k : ℕ) (s : _) (d : _) (q : _) → k < l.c → slice_get l.sums k ≡ Some s → slice_get l.divisors k ≡ Some d → slice_get l.cells k ≡ Some q → goal.F-post g l.quotient s d q
