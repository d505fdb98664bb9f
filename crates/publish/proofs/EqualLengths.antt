-- Document 02, T-05, refusal 6: what lists that are all equally long have, and the number of those that are not. Assumes nothing.
use mathlib.Core.Bool.{true, false}
use mathlib.Core.Path.{◌≡◌}
use borrow.Author.Tests.{eqb-true, eq-eqb}
use Rattle.arithmetic.proofs.Test.{and_true}
use Rattle.refusal.specs.Checks.{first_refusal}
use Rattle.tally.specs.LentSums.{Sums, Cells}
use Rattle.publish.specs.Publication.{equally_long, publish_refusal}
use Rattle.publish.specs.PublishRoom.{Publishable}

module _ (sums : Sums) (cells : Cells) where
  pub all_equal : equally_long sums cells ≡ true → Publishable sums cells
  unfolding equally_long
  all_equal e =
      let qualities = and_true _ _ e in
      let means = and_true _ _ qualities.0 in
      let weighted_sums = and_true _ _ means.0 in
      let both = and_true _ _ weighted_sums.0 in
      record {
        quality_sums_length = eqb-true _ _ both.0;
        value_sums_length = eqb-true _ _ both.1;
        weighted_sums_length = eqb-true _ _ weighted_sums.1;
        means_length = eqb-true _ _ means.1;
        cell_qualities_length = eqb-true _ _ qualities.1;
      }

  pub equal_from : Publishable sums cells → equally_long sums cells ≡ true
  unfolding equally_long
  equal_from p =
      rw (eq-eqb _ _ p.quality_sums_length, eq-eqb _ _ p.value_sums_length, eq-eqb _ _ p.weighted_sums_length, eq-eqb _ _ p.means_length, eq-eqb _ _ p.cell_qualities_length)

  pub equal_accepted : equally_long sums cells ≡ true → publish_refusal sums cells ≡ 0
  unfolding publish_refusal first_refusal
  equal_accepted e = rw e

  pub unequal_refused : equally_long sums cells ≡ false → publish_refusal sums cells ≡ 6
  unfolding publish_refusal first_refusal
  unequal_refused e = rw e
