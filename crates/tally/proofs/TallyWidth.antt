-- No count or sum passes its width. Assumes nothing.
use mathlib.Core.Path.{◌≡◌, refl}
use mathlib.Core.Bool.{Bool, true, false, cond}
use mathlib.Core.List.{List}
use Prim.Native.Nat.{ℕ, ◌*◌, ◌≤◌, zero-le}
use native.Mathlib.Nat.{le_refl, le_trans, mul-le-mul}
use native.Mathlib.Omega.{arith}
use borrow.Author.Tests.{eqb-false, not-true}
use lib.Dec.{eqb}
use lib.ListN.{length, get_or, replicate}
use Rattle.tally.specs.Gates.{is_measured, echo_of, weighted_echo}
use Rattle.tally.specs.LentSums.{Sums}
use Rattle.tally.specs.Tally.{sum_over, count_of, quality_sum_of, value_sum_of, weighted_sum_of, cleared, added, added_first, added_sums}
use Rattle.tally.specs.Width.{most32, most64, within, fit_widths}
use Rattle.tally.proofs.TallyTurn.{added_length, added_at, sum_over_most}
use Rattle.tally.proofs.TallyFromNothing.{zeros_at}
use Rattle.tally.proofs.WidthLaws.{within_true, all_fit}

-- ---- what one measured gate gives at most

pub echo_most : (value : ℕ) → value ≤ 65535 → is_measured value ≡ true → echo_of value ≤ 65533
unfolding is_measured echo_of
echo_most value h m = go (eqb value 65534) refl
  where
    go : (t : Bool) → eqb value 65534 ≡ t → cond t 0 value ≤ 65533
    go true e = zero-le
    go false e = omega (arith, eqb-false value 65534 e, eqb-false value 65535 (not-true (eqb value 65535) m))

pub echo_within : (value : ℕ) → echo_of value ≤ value
unfolding echo_of
echo_within value = go (eqb value 65534)
  where
    go : (t : Bool) → cond t 0 value ≤ value
    go true = zero-le
    go false = le_refl value

weighted_echo_most : (value quality : ℕ) → value ≤ 65535 → quality ≤ 100 → is_measured value ≡ true → weighted_echo value quality ≤ 65533 * 100
unfolding weighted_echo
weighted_echo_most value quality h i m = mul-le-mul (echo_most value h m) i

-- ---- what all gates of a scan give at most

-- at most 720,000 gates, each with a 16-bit value and a quality of at most 100
pub record GatesMost (ledger values qualities : List ℕ) : Type 0 where
  pub gates_most : length ledger ≤ 720000
  pub values_most : (k : ℕ) → get_or values k 0 ≤ 65535
  pub qualities_most : (k : ℕ) → get_or qualities k 0 ≤ 100

module _ {ledger values qualities : List ℕ} (g : GatesMost ledger values qualities) where
  all_most : (share : ℕ → ℕ → ℕ) (b cell : ℕ) → ((k : ℕ) → is_measured (get_or values k 0) ≡ true → share (get_or values k 0) (get_or qualities k 0) ≤ b) → sum_over ledger values qualities share (length ledger) cell ≤ 720000 * b
  all_most share b cell h = le_trans (sum_over_most ledger values qualities share b (length ledger) cell h) (mul-le-mul g.gates_most (le_refl b))

  pub count_most : (cell : ℕ) → count_of ledger values qualities cell ≤ 720000
  unfolding count_of
  count_most cell = all_most (λ value quality. 1) 1 cell (λ k m. le_refl 1)

  pub quality_sum_most : (cell : ℕ) → quality_sum_of ledger values qualities cell ≤ 72000000
  unfolding quality_sum_of
  quality_sum_most cell = all_most (λ value quality. quality) 100 cell (λ k m. g.qualities_most k)

  pub value_sum_most : (cell : ℕ) → value_sum_of ledger values qualities cell ≤ 720000 * 65533
  unfolding value_sum_of
  value_sum_most cell = all_most (λ value quality. echo_of value) 65533 cell (λ k m. echo_most _ (g.values_most k) m)

  pub weighted_sum_most : (cell : ℕ) → weighted_sum_of ledger values qualities cell ≤ 720000 * 65533 * 100
  unfolding weighted_sum_of
  weighted_sum_most cell =
      all_most weighted_echo (65533 * 100) cell (λ k m. weighted_echo_most _ _ (g.values_most k) (g.qualities_most k) m)

  -- so from nothing no count or sum passes its width
  from_zeros : (f : ℕ → ℕ) (most n : ℕ) → ((cell : ℕ) → f cell ≤ most) → within most (added f (replicate n 0)) ≡ true
  from_zeros f most n h =
      within_true most _ (λ cell i. omega (arith, added_at f (replicate n 0) cell (omega (arith, added_length f (replicate n 0))), zeros_at n cell, h cell))

  pub from_nothing_fits : (sums : Sums) → fit_widths (added_sums ledger values qualities (cleared sums)) ≡ true
  unfolding added_sums added_first cleared count_of quality_sum_of value_sum_of weighted_sum_of
  from_nothing_fits sums =
      all_fit _
      (from_zeros (count_of ledger values qualities) most32 (length sums.counts) (λ cell. omega (arith, count_most cell)))
      (from_zeros (quality_sum_of ledger values qualities) most32 (length sums.quality_sums) (λ cell. omega (arith, quality_sum_most cell)))
      (from_zeros (value_sum_of ledger values qualities) most64 (length sums.value_sums) (λ cell. omega (arith, value_sum_most cell)))
      (from_zeros (weighted_sum_of ledger values qualities) most64 (length sums.weighted_sums) (λ cell. omega (arith, weighted_sum_most cell)))
