-- Document 02, T-05: what the publisher answers of any sums and lists, and what the lists hold afterwards. Assumes nothing.
use Rattle.std.specs.Prelude.{Bool, ◌&&◌, [], ◌∷◌, ◌≡◌, ℕ, Result, eqb, length}
use denote.Triple.Both.{Both}
use Rattle.refusal.specs.Answer.{answered, afterwards}
use Rattle.refusal.specs.Checks.{◌unless◌, first_refusal}
use Rattle.refusal.specs.Numbered.{answer_of}
use Rattle.refusal.specs.declared.numbered.Refusal.{Refusal}
use Rattle.limits.specs.declared.weighting.Weighting.{Weighting}
use Rattle.tally.specs.LentSums.{Sums, Cells}
use Rattle.publish.specs.Publish.{published_cells}

-- all equally long
unfoldable pub equally_long : Sums → Cells → Bool
equally_long sums cells =
    eqb (length sums.quality_sums) (length sums.counts)
    && eqb (length sums.value_sums) (length sums.counts)
    && eqb (length sums.weighted_sums) (length sums.counts)
    && eqb (length cells.means) (length sums.counts)
    && eqb (length cells.qualities) (length sums.counts)

-- "Refusals: 6 for unequal list lengths"
unfoldable pub publish_refusal : Sums → Cells → ℕ
publish_refusal sums cells = first_refusal ((6 unless equally_long sums cells) ∷ [])

-- any sums are published
pub record Publishes (weighting : Weighting) (sums : Sums) (cells : Both Cells Cells) (answer : Result (Unit {0}) Refusal) : Type 0 where
  pub the_answer : answer_of answer ≡ answered (publish_refusal sums cells.entry) tt
  pub the_cells : cells.exit ≡ afterwards (publish_refusal sums cells.entry) cells.entry (published_cells weighting sums)
