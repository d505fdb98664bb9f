-- Document 02, T-01 and T-10, and demand 2 over a sweep: what holds after any sequence of calls from an accepted opening. Assumes nothing.
use mathlib.Core.Bool.{Bool, true, cond}
use mathlib.Core.List.{List, [], ◌∷◌, flat_map}
use mathlib.Core.Path.{◌≡◌, refl, sym, ap, ◌∙◌}
use Prim.Native.Nat.{ℕ, ◌*◌, ◌<◌, ◌≤◌}
use native.Mathlib.Nat.{zero-mul}
use native.Mathlib.Omega.{arith}
use denote.Triple.Both.{Both}
use borrow.Author.Tests.{le-leb}
use lib.ListN.{length, get_or}
use lib.Seq.{sets}
use Rattle.arithmetic.specs.Places.{sum_to, all_of}
use Rattle.arithmetic.proofs.SetsLaws.{sets_start_at}
use Rattle.refusal.specs.Checks.{in_range, first_refusal}
use Rattle.refusal.proofs.AnswerLaws.{given_is, filled_is}
use Rattle.refusal.specs.declared.numbered.Refusal.{Refusal}
use Rattle.std.specs.Prelude.{Result, Ok}
use Rattle.publish.specs.Publish.{published_cells}
use Rattle.refusal.proofs.RangeBounds.{range_bounds}
use Rattle.placement.specs.Gate.{PlaceAnswer, entry_of, mark_of}
use Rattle.tally.specs.LentSums.{Sums}
use Rattle.tally.specs.Tally.{cleared, added_sums}
use Rattle.tally.proofs.TallySplit.{added_none}
use Rattle.scan.specs.declared.head.ScanHead.{ScanHead}
use Rattle.scan.specs.LentLists.{Lists}
use Rattle.scan.specs.Rays.{regular_rays, all_gates}
use Rattle.scan.specs.Scan.{rays_of, gates_of, cells_of}
use Rattle.scan.specs.ScanRefusal.{lists_exact, scan_number, scan_refusal, refusal_for}
use Rattle.scan.proofs.AcceptedScan.{cells_most, AcceptedNumbers, accepted_numbers}
use Rattle.scan_ledger.specs.ScanLedger.{gates_told}
use Rattle.accepted_tally.specs.TalliedLists.{tallied_lists}
use Rattle.scan_tally.specs.ScanTally.{Tallies}
use Rattle.scan_laws.specs.Placed.{placed_of}
use Rattle.scan_laws.specs.ExactCount.{ExactByMarks}
use Rattle.scan_laws.proofs.ExactCount.{exact_by_marks}
use Rattle.scan_laws.proofs.PlacedTotal.{placed_total}
use Rattle.sweep_checks.specs.SweepLengths.{sums_accepted}
use Rattle.sweep_checks.specs.SweepNumbers.{open_number}
use Rattle.sweep_checks.proofs.AcceptedSums.{accepted_sums}
use Rattle.sweep_checks.specs.RayGroup.{RayGroup}
use Rattle.sweep.specs.declared.Sweep.{Sweep}
use Rattle.sweep.specs.SweepOperations.{open_refusal, opened, Opens}
use Rattle.sweep_laws.specs.SweepSequence.{SweepLists, Held, held_from, Call, Sixteen, Sequence, held_after, no_rays, accepted_rays, whole_scan, NotRefusedBy, accepted_with, handed_on}
use Rattle.sweep_laws.specs.WholeSweep.{WholeSweep, AsTallied}
use Rattle.sweep_laws.proofs.JoinedRays.{told_length}
use Rattle.sweep_laws.proofs.GoodRays.{told_so_far}
use Rattle.sweep_laws.proofs.SweepInvariant.{SoFar, sums_are, either_published, after_call}
use Rattle.sweep_laws.proofs.NoWidthRefusal.{call_other}

-- ---- from what is kept by every call

module _ {head : ScanHead} {lengths azimuths qualities : Bool} (numbers : AcceptedNumbers head lengths azimuths qualities) {lent : SweepLists} {rays : RayGroup} {held : Held} (so_far : SoFar head lent rays held) where
  ledger_is : held.lists.tally.ledger ≡ sets lent.tally.ledger 0 (tallied_lists (whole_scan head rays)).ledger
  unfolding tallied_lists whole_scan rays_of gates_told
  ledger_is = so_far.the_ledger

  marks_are : held.lists.tally.marks ≡ sets lent.tally.marks 0 (tallied_lists (whole_scan head rays)).marks
  unfolding tallied_lists whole_scan rays_of gates_told
  marks_are = so_far.the_marks

  total : sum_to (λ cell. get_or held.lists.tally.sums.counts cell 0) (length held.lists.tally.sums.counts) ≡ placed_of (whole_scan head rays)
  unfolding whole_scan cells_of
  total =
      ap (λ (s : Sums). sum_to (λ cell. get_or s.counts cell 0) (length s.counts)) (sums_are so_far)
      ∙ placed_total (whole_scan head rays) refl (cells_most head numbers.grid_passes)

  -- where gates of the accepted rays stand, the lists hold what was written
  told_at : (tell : PlaceAnswer → ℕ) (list : List ℕ) → length rays.azimuths * head.gates ≤ length list → (k : ℕ) → k < gates_of (whole_scan head rays).head → get_or (sets list 0 (told_so_far tell head rays)) k 0 ≡ get_or (told_so_far tell head rays) k 0
  unfolding whole_scan gates_of
  told_at tell list room k h =
      let so_many = told_length tell head head.gates rays.azimuths in
      sets_start_at list (told_so_far tell head rays) k (omega (arith, so_many)) (omega (arith, so_many))

  exact : ExactByMarks (whole_scan head rays) held.lists.tally.ledger held.lists.tally.marks
  unfolding tallied_lists whole_scan rays_of gates_told
  exact =
      exact_by_marks (whole_scan head rays) refl (range_bounds 1 1000 head.gates numbers.gates_accepted).0 numbers.centres_pass numbers.site_passes numbers.grid_passes so_far.rays_good.azimuths_good held.lists.tally.ledger held.lists.tally.marks
      (λ k i. ap (λ (l : List ℕ). get_or l k 0) so_far.the_ledger ∙ told_at entry_of lent.tally.ledger so_far.ledger_room k i)
      (λ k i. ap (λ (l : List ℕ). get_or l k 0) so_far.the_marks ∙ told_at mark_of lent.tally.marks so_far.marks_room k i)

  whole : WholeSweep head lent rays held
  whole = record {
    same_head = so_far.same_head;
    rays_counted = so_far.rays_counted;
    all_when_closed = so_far.all_when_closed;
    the_ledger = ledger_is;
    the_marks = marks_are;
    the_sums = sums_are so_far;
    the_cells = so_far.the_cells;
    either_sheet = either_published so_far;
    count_total = total;
    exact_by_marks = exact;
  }

-- call after call
after_calls : {head : ScanHead} {lent : SweepLists} {rays : RayGroup} {held : Held} (calls : List Call) → SoFar head lent rays held → Sequence held calls → SoFar head lent (accepted_rays rays calls) (held_after held calls) × NotRefusedBy 31 calls
unfolding Sequence accepted_rays held_after NotRefusedBy
after_calls [] so_far done = (so_far, tt)
after_calls {rays = rays} {held = held} (call ∷ calls) so_far (this, others) =
    let rest = after_calls {rays = accepted_with rays call} {held = handed_on held call} calls (after_call so_far call this) others in
    (rest.0, call_other so_far call this calls rest.1)

-- ---- from an accepted opening

module _ (head : ScanHead) (lent : SweepLists) (sums : Sums) (sweep : Sweep) (opens : Opens head (record { entry = lent.tally.sums; exit = sums }) (Ok sweep)) where
  told : (open_refusal head lent.tally.sums ≡ 0) × (sweep ≡ opened head)
  told = given_is (open_refusal head lent.tally.sums) opens.the_answer

  numbers : AcceptedNumbers head (sums_accepted head lent.tally.sums) true true
  unfolding open_refusal open_number
  numbers = accepted_numbers head _ _ _ told.0

  at_first : SoFar head lent no_rays (held_from (opened head) lent (cleared lent.tally.sums))
  unfolding held_from opened no_rays added_sums gates_told all_gates flat_map regular_rays all_of Sixteen
  at_first = record {
    rays_good = record {
      rays_most = omega arith;
      gates_most = (range_bounds 1 1000 head.gates numbers.gates_accepted).1;
      values_length = sym (zero-mul head.gates);
      qualities_length = sym (zero-mul head.gates);
      azimuths_good = refl;
      qualities_good = refl;
      values_good = refl;
    };
    sums_exact = accepted_sums head lent.tally.sums numbers.lengths_pass;
    same_head = refl;
    rays_counted = refl;
    all_when_closed = λ was. let wrong : ◌≡◌ {A = ℕ} 0 1 = ap (λ (b : Bool). cond b 1 0) was in absurd (omega (arith, wrong));
    the_ledger = refl;
    the_marks = refl;
    ledger_room = omega (arith, zero-mul head.gates);
    marks_room = omega (arith, zero-mul head.gates);
    the_sums = sym (added_none [] [] [] (cleared lent.tally.sums));
    the_cells = refl;
  }

  begun : SoFar head lent no_rays (held_from sweep lent sums)
  begun = rw (told.1, filled_is lent.tally.sums told.0 opens.the_sums) at_first

  module _ (calls : List Call) (sequence : Sequence (held_from sweep lent sums) calls) where
    -- "While the caller hands on the latest state and untouched lists, ledger, sums and cells equal those of the whole scan made of the accepted
    -- rays, however these were divided; demand 2 reads over them."
    pub whole_sweep : WholeSweep head lent (accepted_rays no_rays calls) (held_after (held_from sweep lent sums) calls)
    whole_sweep = whole numbers (after_calls calls begun sequence).0

    -- and 31 is never given
    pub never_31 : NotRefusedBy 31 calls
    never_31 = (after_calls calls begun sequence).1

    -- the whole scan made of the accepted rays is one that `tally` accepts, if there is a ray
    pub whole_accepted : (length (accepted_rays no_rays calls).azimuths ≡ 0 → ⊥) → (lists : Lists) → lists_exact (whole_scan head (accepted_rays no_rays calls)) lists ≡ true → refusal_for (whole_scan head (accepted_rays no_rays calls)) lists ≡ 0
    unfolding whole_scan refusal_for scan_refusal scan_number first_refusal in_range
    whole_accepted some lists exact =
        let rays = accepted_rays no_rays calls in
        let good = (after_calls calls begun sequence).0.rays_good in
        rw (le-leb 1 (length rays.azimuths) (omega arith), le-leb (length rays.azimuths) 720 good.rays_most, numbers.gates_accepted, numbers.centres_pass, numbers.site_passes, numbers.grid_passes, exact, good.azimuths_good, good.qualities_good)

    -- so whatever `tally` is lent for that scan, of exact lengths, it leaves what the caller holds
    pub as_tallied : (length (accepted_rays no_rays calls).azimuths ≡ 0 → ⊥) → (lists : Both Lists Lists) (answer : Result (Unit {0}) Refusal) → lists_exact (whole_scan head (accepted_rays no_rays calls)) lists.entry ≡ true → Tallies (whole_scan head (accepted_rays no_rays calls)) lists answer → AsTallied head lent (held_after (held_from sweep lent sums) calls) lists.exit
    as_tallied some lists answer exact tallies =
        let same = filled_is lists.entry (whole_accepted some lists.entry exact) tallies.the_lists in
        let sheet = ap (published_cells head.weighting) (sym whole_sweep.the_sums) ∙ whole_sweep.either_sheet head.weighting in
        rw same (record {
          same_ledger = whole_sweep.the_ledger;
          same_marks = whole_sweep.the_marks;
          same_sums = whole_sweep.the_sums;
          same_cells = rw sheet whole_sweep.the_cells;
        })
