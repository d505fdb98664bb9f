-- Where fewer gates have no room, more have none. Assumes nothing.
use mathlib.Core.Path.{◌≡◌, refl, sym, ◌∙◌}
use mathlib.Core.Bool.{Bool, true, false}
use mathlib.Core.List.{List}
use Prim.Native.Nat.{ℕ, ◌<◌, ◌≤◌, zero-le}
use native.Mathlib.Omega.{arith}
use borrow.Author.Tests.{leb-true, le-leb}
use lib.Dec.{leb}
use lib.ListN.{length, get_or}
use Rattle.arithmetic.proofs.Places.{all_at}
use Rattle.arithmetic.proofs.Test.{and_true}
use Rattle.tally.specs.Gates.{echo_of, weighted_echo}
use Rattle.tally.specs.LentSums.{Sums}
use Rattle.tally.specs.Tally.{sum_over, added, added_first}
use Rattle.tally.specs.Width.{most32, most64, within, fit_widths}
use Rattle.tally.proofs.TallyTurn.{added_length, added_at, fewer_gates}
use Rattle.tally.proofs.WidthLaws.{within_true, all_fit}

within_at : (most : ℕ) (sums : List ℕ) → within most sums ≡ true → (cell : ℕ) → get_or sums cell 0 ≤ most
unfolding within
within_at most sums e cell = leb-true _ most (all_at (λ sum. leb sum most) sums (le-leb 0 most zero-le) e cell)

module _ (ledger values qualities : List ℕ) (n m : ℕ) (h : n ≤ m) where
  list_fits : (share : ℕ → ℕ → ℕ) (most : ℕ) (held : List ℕ) → within most (added (sum_over ledger values qualities share m) held) ≡ true → within most (added (sum_over ledger values qualities share n) held) ≡ true
  list_fits share most held e =
      let more = sum_over ledger values qualities share m in
      let fewer = sum_over ledger values qualities share n in
      within_true most _ (λ cell i.
      let j : cell < length held = omega (arith, added_length fewer held) in
      omega (arith, within_at most (added more held) e cell, added_at more held cell j, added_at fewer held cell j, fewer_gates ledger values qualities share n m cell h))

  fewer_fit : (sums : Sums) → fit_widths (added_first ledger values qualities m sums) ≡ true → fit_widths (added_first ledger values qualities n sums) ≡ true
  unfolding fit_widths added_first
  fewer_fit sums e =
      let first = and_true _ _ e in
      let second = and_true _ _ first.1 in
      let third = and_true _ _ second.1 in
      all_fit _
      (list_fits (λ value quality. 1) most32 sums.counts first.0)
      (list_fits (λ value quality. quality) most32 sums.quality_sums second.0)
      (list_fits (λ value quality. echo_of value) most64 sums.value_sums third.0)
      (list_fits weighted_echo most64 sums.weighted_sums third.1)

  pub more_fail : (sums : Sums) → fit_widths (added_first ledger values qualities n sums) ≡ false → fit_widths (added_first ledger values qualities m sums) ≡ false
  more_fail sums e = go (fit_widths (added_first ledger values qualities m sums)) refl
    where
      go : (t : Bool) → fit_widths (added_first ledger values qualities m sums) ≡ t → t ≡ false
      go true f = sym (fewer_fit sums f) ∙ e
      go false f = refl
