-- Gates that are added onto cleared sums are tallied from nothing. Assumes nothing.
use mathlib.Core.List.{List}
use mathlib.Core.Path.{◌≡◌, refl, ap, ◌∙◌}
use Prim.Native.Nat.{ℕ, zero, suc, ◌+◌}
use native.Mathlib.Omega.{arith}
use lib.ListN.{length, get_or, replicate, length-replicate}
use Rattle.arithmetic.specs.Places.{table}
use Rattle.arithmetic.proofs.Places.{table_ext}
use Rattle.tally.specs.LentSums.{Sums}
use Rattle.tally.specs.Tally.{count_of, quality_sum_of, value_sum_of, weighted_sum_of, tallied_sums, cleared, added, added_first, added_sums}

pub zeros_at : (n cell : ℕ) → ◌≡◌ {A = ℕ} (get_or (replicate n 0) cell 0) 0
zeros_at zero cell = refl
zeros_at (suc n) zero = refl
zeros_at (suc n) (suc cell) = zeros_at n cell

added_to_zeros : (share : ℕ → ℕ) (n : ℕ) {m : ℕ} → n ≡ m → added share (replicate n 0) ≡ table share m
unfolding added
added_to_zeros share n {m} e =
    ap (table (λ cell. get_or (replicate n 0) cell 0 + share cell)) (length-replicate n 0 ∙ e)
    ∙ table_ext _ _ m (λ cell h. omega (arith, zeros_at n cell))

pub from_nothing : (ledger values qualities : List ℕ) (sums : Sums) {cells : ℕ} → length sums.counts ≡ cells → length sums.quality_sums ≡ cells → length sums.value_sums ≡ cells → length sums.weighted_sums ≡ cells → added_sums ledger values qualities (cleared sums) ≡ tallied_sums ledger values qualities cells
unfolding tallied_sums added_first added_sums cleared count_of quality_sum_of value_sum_of weighted_sum_of
from_nothing ledger values qualities sums c q v w i = record {
  counts = added_to_zeros (count_of ledger values qualities) _ c i;
  quality_sums = added_to_zeros (quality_sum_of ledger values qualities) _ q i;
  value_sums = added_to_zeros (value_sum_of ledger values qualities) _ v i;
  weighted_sums = added_to_zeros (weighted_sum_of ledger values qualities) _ w i;
}
