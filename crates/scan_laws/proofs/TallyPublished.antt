-- Document 02, T-05, and demand 2 over the pair: what holds of a tally that is done, and of what is published from its sums. Assumes nothing.
use mathlib.Core.Path.{◌≡◌, refl, sym, ◌∙◌}
use Prim.Native.Nat.{ℕ, ◌≤◌, ◌<◌}
use denote.Triple.Both.{Both}
use lib.ListN.{length, get_or}
use Rattle.arithmetic.proofs.Places.{table_length, table_at}
use Rattle.refusal.specs.Answer.{gives, answered}
use Rattle.refusal.specs.Numbered.{answer_of}
use Rattle.refusal.specs.declared.numbered.Refusal.{Refusal}
use Rattle.std.proofs.Common.{Result, Ok, Err}
use Rattle.refusal.proofs.AnswerLaws.{given_is, filled_is}
use Rattle.limits.specs.declared.weighting.Weighting.{Weighting}
use Rattle.tally.specs.LentSums.{Cells}
use Rattle.tally.specs.Tally.{tallied_sums}
use Rattle.publish.specs.CellMeans.{cell_mean, cells_from}
use Rattle.publish.specs.Publication.{publish_refusal, Publishes}
use Rattle.publish.specs.Publish.{published_cells}
use Rattle.publish.specs.PublishRoom.{Publishable}
use Rattle.publish.proofs.EqualLengths.{equal_from, equal_accepted}
use Rattle.publish.proofs.MeanBetween.{mean_between}
use Rattle.publish.proofs.TalliedCells.{tally_published}
use Rattle.scan.specs.LentLists.{Lists}
use Rattle.scan.specs.Scan.{Scan, rays_of, gates_of, cells_of}
use Rattle.scan.specs.ScanRefusal.{lists_accepted, given_exact, lists_exact, scan_number, scan_refusal, refusal_for}
use Rattle.scan_ledger.specs.ScanLedger.{gates_told}
use Rattle.scan.proofs.AcceptedScan.{AcceptedScan, cells_most, accepted_scan}
use Rattle.accepted_tally.specs.TalliedLists.{tallied_lists}
use Rattle.accepted_tally.proofs.AcceptedTally.{qualities_most, tally_fits}
use Rattle.scan_tally.specs.ScanTally.{Tallies}
use Rattle.scan_laws.specs.TallyPublished.{with_weighting, scan_cells, PublishedScan, TallyPublished}
use Rattle.scan_laws.proofs.PlacedTotal.{placed_total}
use Rattle.scan_laws.proofs.ExactCount.{exact_by_marks}

-- an answer that gives is the one that is done
only_done : (answer : Result (Unit {0}) Refusal) → answer_of answer ≡ gives tt → answer ≡ Ok tt
only_done (Ok value) e = refl
only_done (Err refusal) e = cc

module _ (scan : Scan) where
  mean_at : (weighting : Weighting) (cell : ℕ) → cell < cells_of scan.head → get_or (scan_cells weighting scan).means cell 0 ≡ cell_mean weighting (tallied_lists scan).ledger scan.values scan.qualities cell
  unfolding scan_cells tallied_lists cells_from
  mean_at weighting cell h = table_at _ _ cell h

  -- lists of columns x rows are as long as the sums
  as_long : {cells : Cells} → length cells.means ≡ cells_of scan.head → length cells.qualities ≡ cells_of scan.head → Publishable (tallied_lists scan).sums cells
  unfolding tallied_lists tallied_sums
  as_long m q =
      let n = cells_of scan.head in
      let counts = sym (table_length _ n) in
      record {
        quality_sums_length = table_length _ n ∙ counts;
        value_sums_length = table_length _ n ∙ counts;
        weighted_sums_length = table_length _ n ∙ counts;
        means_length = m ∙ counts;
        cell_qualities_length = q ∙ counts;
      }

  module _ {lent : Lists} (good : AcceptedScan scan lent) (small : (k : ℕ) → get_or scan.values k 0 ≤ 65535) where
    cells_are : (weighting : Weighting) → published_cells weighting (tallied_lists scan).sums ≡ scan_cells weighting scan
    unfolding scan_cells tallied_lists
    cells_are weighting = tally_published _ scan.values scan.qualities (cells_of scan.head) weighting small (qualities_most good)

    pub published_scan : (weighting : Weighting) (cells : Both Cells Cells) (answer : Result (Unit {0}) Refusal) → length cells.entry.means ≡ cells_of scan.head → length cells.entry.qualities ≡ cells_of scan.head → Publishes weighting (tallied_lists scan).sums cells answer → PublishedScan weighting scan (tallied_lists scan).ledger cells answer
    unfolding answered
    published_scan weighting cells answer m q published =
        let none : publish_refusal (tallied_lists scan).sums cells.entry ≡ 0 = equal_accepted _ _ (equal_from _ _ (as_long {cells = cells.entry} m q)) in
        let left : cells.exit ≡ scan_cells weighting scan = filled_is cells.entry none published.the_cells ∙ cells_are weighting in
        record {
          is_done = only_done answer (rw none at published.the_answer);
          the_cells = left;
          mean_between = λ cell h.
              rw (left, mean_at weighting cell h)
              (λ ne least greatest bound. mean_between weighting (tallied_lists scan).ledger scan.values scan.qualities cell least greatest bound ne);
        }

    all_of_it : TallyPublished scan (tallied_lists scan)
    all_of_it = record {
      sums_fit = tally_fits good small;
      count_total = placed_total scan good.lengths.azimuths_length (cells_most scan.head good.grid);
      exact_by_marks = exact_by_marks scan good.lengths.azimuths_length good.gates_least good.centres good.site good.grid good.azimuths_good (tallied_lists scan).ledger (tallied_lists scan).marks (λ k i. refl) (λ k i. refl);
      published = published_scan;
    }

-- every scan whose tally is done, with values of 16 bits
pub tally_then_publish : (scan : Scan) (lists : Both Lists Lists) → ((k : ℕ) → get_or scan.values k 0 ≤ 65535) → Tallies scan lists (Ok tt) → TallyPublished scan lists.exit
tally_then_publish scan lists small tallied =
    let none : refusal_for scan lists.entry ≡ 0 = (given_is (refusal_for scan lists.entry) tallied.the_answer).0 in
    rw (filled_is lists.entry none tallied.the_lists) (all_of_it scan (accepted_scan scan lists.entry none) small)

-- a tally knows no weighting: with any, the refusal and the lists are the same
pub no_weighting : (weighting : Weighting) (scan : Scan) (lists : Lists) → (refusal_for (with_weighting weighting scan) lists ≡ refusal_for scan lists) × (tallied_lists (with_weighting weighting scan) ≡ tallied_lists scan)
unfolding with_weighting refusal_for scan_refusal scan_number lists_exact given_exact lists_accepted gates_of cells_of tallied_lists rays_of gates_told
no_weighting weighting scan lists = (refl, refl)
