-- Document 02, T-01 with T-02's marks, T-10's counts and T-05's sums, and demand 2 over a sweep: what a caller holds, beside the whole scan made of
-- the accepted rays. Assumes nothing.
use Rattle.std.specs.Prelude.{true, cond, ◌≡◌, length, get_or}
use Rattle.std.proofs.lemmas.List.Edits.{sets}
use Rattle.arithmetic.specs.Places.{sum_to}
use Rattle.limits.specs.declared.weighting.Weighting.{Weighting}
use Rattle.publish.specs.Publish.{published_cells}
use Rattle.scan.specs.declared.head.ScanHead.{ScanHead}
use Rattle.scan.specs.LentLists.{Lists}
use Rattle.accepted_tally.specs.TalliedLists.{tallied_lists}
use Rattle.scan_laws.specs.Placed.{placed_of}
use Rattle.scan_laws.specs.ExactCount.{ExactByMarks}
use Rattle.scan_laws.specs.TallyPublished.{scan_cells}
use Rattle.sweep_checks.specs.RayGroup.{RayGroup}
use Rattle.sweep_laws.specs.SweepSequence.{SweepLists, Held, whole_scan}

-- by document 01's rules
pub record WholeSweep (head : ScanHead) (lent : SweepLists) (rays : RayGroup) (held : Held) : Type 0 where
  -- the state has the head that was opened, and counts the accepted rays; a closed one has all that were announced
  pub same_head : held.sweep.head ≡ head
  pub rays_counted : held.sweep.taken ≡ length rays.azimuths
  pub all_when_closed : held.sweep.closed ≡ true → length rays.azimuths ≡ head.rays
  -- the first entries and marks are those of the whole scan; those of rays not yet taken are as lent
  pub the_ledger : held.lists.tally.ledger ≡ sets lent.tally.ledger 0 (tallied_lists (whole_scan head rays)).ledger
  pub the_marks : held.lists.tally.marks ≡ sets lent.tally.marks 0 (tallied_lists (whole_scan head rays)).marks
  pub the_sums : held.lists.tally.sums ≡ (tallied_lists (whole_scan head rays)).sums
  -- until closing as lent
  pub the_cells : held.lists.cells ≡ cond held.sweep.closed (scan_cells head.weighting (whole_scan head rays)) lent.cells
  -- document 02, T-05: either sheet can be had by publishing from the same sums
  pub either_sheet : (weighting : Weighting) → published_cells weighting held.lists.tally.sums ≡ scan_cells weighting (whole_scan head rays)
  -- demand 2: the counts over the grid add up to the measured gates placed inside it
  pub count_total : sum_to (λ cell. get_or held.lists.tally.sums.counts cell 0) (length held.lists.tally.sums.counts) ≡ placed_of (whole_scan head rays)
  -- document 02, T-10: what the ledger and the marks say of the exact positions of the accepted rays' gates
  pub exact_by_marks : ExactByMarks (whole_scan head rays) held.lists.tally.ledger held.lists.tally.marks

-- by what `tally` leaves of it, and what is published from that
pub record AsTallied (head : ScanHead) (lent : SweepLists) (held : Held) (tallied : Lists) : Type 0 where
  pub same_ledger : held.lists.tally.ledger ≡ sets lent.tally.ledger 0 tallied.ledger
  pub same_marks : held.lists.tally.marks ≡ sets lent.tally.marks 0 tallied.marks
  pub same_sums : held.lists.tally.sums ≡ tallied.sums
  pub same_cells : held.lists.cells ≡ cond held.sweep.closed (published_cells head.weighting tallied.sums) lent.cells
