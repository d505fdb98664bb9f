-- What is known of a group that is not refused, and what each step of taking it needs. Assumes nothing.
use mathlib.Core.Bool.{Bool, true, false}
use mathlib.Core.List.{List}
use mathlib.Core.Path.{◌≡◌, refl, sym, ap, ◌∙◌}
use Prim.Native.Nat.{ℕ, ◌+◌, ◌*◌, ◌≤◌}
use native.Mathlib.Nat.{add-mul, mul-le-mul, mul-le-mul_right}
use native.Mathlib.Omega.{arith}
use borrow.Author.Tests.{eqb-true, eqb-false, not-true}
use borrow.Rule.Slice.PartMut.{mid_of, put_mid}
use lib.ListN.{length, drop, length-drop}
use lib.Seq.{sets, length-take-le}
use Rattle.arithmetic.specs.Places.{all_of}
use Rattle.arithmetic.proofs.Test.{and_true}
use Rattle.refusal.proofs.RangeBounds.{range_bounds}
use Rattle.refusal.proofs.Then.{then_none}
use Rattle.limits.specs.Accepted.{azimuth_accepted, site_accepted, grid_accepted}
use Rattle.placement.specs.declared.centres.Centres.{Centres}
use Rattle.placement.specs.Gate.{PlaceAnswer}
use Rattle.placement.specs.SurveyTerms.{SurveyTerms}
use Rattle.placement.specs.Survey.{survey_of}
use Rattle.tally.specs.LentSums.{Sums}
use Rattle.tally.specs.Tally.{added_sums}
use Rattle.scan.specs.declared.head.ScanHead.{ScanHead}
use Rattle.scan.specs.LentLists.{Lists, lists_held}
use Rattle.scan.specs.Rays.{regular_rays}
use Rattle.scan.specs.Scan.{gates_of}
use Rattle.scan.specs.ScanRefusal.{centres_accepted, quality_accepted}
use Rattle.scan.proofs.AcceptedScan.{accepted_numbers}
use Rattle.scan_ledger.specs.LedgerRoom.{RaysSpan, surveyed_gates}
use Rattle.scan_ledger.specs.ScanLedger.{gates_told}
use Rattle.scan_ledger.proofs.AcceptedLedger.{centres_most, accepted_gates}
use Rattle.scan_ledger.proofs.RaysWritten.{put_stored, told_length, told_whole}
use Rattle.ray_sums.specs.RaySums.{AddsAll, RayRanges}
use Rattle.group_sums.specs.GroupRoom.{GroupAddable}
use Rattle.sweep_checks.specs.RayGroup.{RayGroup}
use Rattle.sweep_checks.specs.SweepLengths.{group_accepted}
use Rattle.sweep_checks.specs.SweepNumbers.{take_number}
use Rattle.sweep_checks.proofs.AcceptedSums.{AcceptedSums, accepted_sums}
use Rattle.sweep_checks.proofs.PassedState.{passed_state}
use Rattle.accepted_take.specs.TakenLists.{group_ledger, group_marks, taken_lists, take_checks, TakesGroup}

-- ---- a group that is not refused, with the lists that are lent for it

pub record AcceptedGroup (head : ScanHead) (closed : Bool) (taken : ℕ) (group : RayGroup) (lists : Lists) : Type 0 where
  pub open_yet : closed ≡ false
  pub rays_most : taken + length group.azimuths ≤ head.rays
  pub rays_limit : head.rays ≤ 720
  pub gates_least : 1 ≤ head.gates
  pub gates_most : head.gates ≤ 1000
  pub centres : centres_accepted head.gates head.first head.spacing ≡ true
  pub site : site_accepted head.site ≡ true
  pub grid : grid_accepted head.grid ≡ true
  pub some_ray : length group.azimuths ≡ 0 → ⊥
  pub values_length : length group.values ≡ length group.azimuths * head.gates
  pub qualities_length : length group.qualities ≡ length group.azimuths * head.gates
  pub ledger_length : length lists.ledger ≡ gates_of head
  pub marks_length : length lists.marks ≡ gates_of head
  pub sums : AcceptedSums head lists.sums
  pub azimuths_good : all_of azimuth_accepted group.azimuths ≡ true
  pub qualities_good : all_of quality_accepted group.qualities ≡ true

pub accepted_group : (head : ScanHead) (closed : Bool) (taken : ℕ) (group : RayGroup) (lists : Lists) → take_checks head closed taken group lists ≡ 0 → AcceptedGroup head closed taken group lists
unfolding take_checks take_number group_accepted
accepted_group head closed taken group lists e =
    let both = then_none _ _ e in
    let state = passed_state head closed taken (length group.azimuths) both.0 in
    let numbers = accepted_numbers head _ _ _ both.1 in
    let gates = range_bounds 1 1000 head.gates numbers.gates_accepted in
    let lengths = and_true (group_accepted head group lists) _ numbers.lengths_pass in
    let first = and_true _ _ lengths.0 in
    let second = and_true _ _ first.1 in
    let third = and_true _ _ second.1 in
    let fourth = and_true _ _ third.1 in
    record {
      open_yet = state.open_yet;
      rays_most = state.rays_most;
      rays_limit = (range_bounds 1 720 head.rays numbers.rays_accepted).1;
      gates_least = gates.0;
      gates_most = gates.1;
      centres = numbers.centres_pass;
      site = numbers.site_passes;
      grid = numbers.grid_passes;
      some_ray = eqb-false (length group.azimuths) 0 (not-true _ first.0);
      values_length = eqb-true _ _ second.0;
      qualities_length = eqb-true _ _ third.0;
      ledger_length = eqb-true _ _ fourth.0;
      marks_length = eqb-true _ _ fourth.1;
      sums = accepted_sums head lists.sums lengths.1;
      azimuths_good = numbers.azimuths_accepted;
      qualities_good = numbers.qualities_accepted;
    }

-- ---- what each step needs

abbrev pub centres_in : ScanHead → Centres
centres_in head = record { first = head.first; spacing = head.spacing }

module _ {head : ScanHead} {closed : Bool} {taken : ℕ} {group : RayGroup} {lists : Lists} (good : AcceptedGroup head closed taken group lists) where
  -- no gate of so many in a ray lies beyond the greatest range
  in_ranges : {gates : ℕ} → gates ≡ head.gates → RayRanges (centres_in head) gates
  in_ranges e = record {
    gates_most = omega (arith, good.gates_most);
    ranges = λ g h. centres_most head.gates head.first head.spacing g good.centres (omega arith);
  }

  pub addable : {gates : ℕ} → gates ≡ head.gates → GroupAddable (centres_in head) gates group.azimuths group.values group.qualities lists.sums
  addable {gates} e =
      let same : length group.azimuths * head.gates ≡ length group.azimuths * gates = ap (λ (g : ℕ). length group.azimuths * g) (sym e) in
      record {
        in_range = in_ranges e;
        values_length = good.values_length ∙ same;
        qualities_length = good.qualities_length ∙ same;
        quality_sums_length = good.sums.quality_sums_length ∙ sym good.sums.counts_length;
        value_sums_length = good.sums.value_sums_length ∙ sym good.sums.counts_length;
        weighted_sums_length = good.sums.weighted_sums_length ∙ sym good.sums.counts_length;
      }

  pub behind : taken * head.gates + length group.azimuths * head.gates ≤ gates_of head
  unfolding gates_of
  behind = omega (arith, add-mul taken (length group.azimuths) head.gates, mul-le-mul_right head.gates good.rays_most)

  pub end_most : taken * head.gates + length group.azimuths * head.gates ≤ 720000
  unfolding gates_of
  end_most = omega (arith, behind, mul-le-mul {n₂ = 720} {m₂ = 1000} good.rays_limit good.gates_most)

  -- ledger and marks are lent from the place behind the rays that were taken before, as many places as the rays have gates
  pub rays_span : {ledger marks : List ℕ} → length ledger ≡ length group.azimuths * head.gates → length marks ≡ length group.azimuths * head.gates → RaysSpan head.gates (centres_in head) group.azimuths ledger marks
  rays_span e m = record {
    gates_most = good.gates_most;
    ledger_most = omega (arith, e);
    marks_most = omega (arith, m);
    ranges = λ g h. centres_most head.gates head.first head.spacing g good.centres h;
  }

  pub told_is : (told : PlaceAnswer → ℕ) (survey : SurveyTerms) (gates : ℕ) → survey ≡ survey_of head.site head.grid → gates ≡ head.gates → surveyed_gates told survey (centres_in head) (regular_rays gates group.azimuths) ≡ gates_told told head (regular_rays head.gates group.azimuths)
  told_is told survey gates s g = rw (s, g) (accepted_gates head good.centres good.site good.grid told group.azimuths good.azimuths_good)

  -- what is told of the rays' gates, written there
  pub told_stored : (told : PlaceAnswer → ℕ) (survey : SurveyTerms) (lent : List ℕ) {places : ℕ} {written : List ℕ} → survey ≡ survey_of head.site head.grid → length lent ≡ gates_of head → places ≡ length group.azimuths * head.gates → written ≡ sets (mid_of (taken * head.gates) places lent) 0 (surveyed_gates told survey (centres_in head) (regular_rays head.gates group.azimuths)) → put_mid (taken * head.gates) places lent written ≡ sets lent (taken * head.gates) (gates_told told head (regular_rays head.gates group.azimuths))
  unfolding gates_told
  told_stored told survey lent {places} s all p w =
      let start = taken * head.gates in
      let there : start + places ≤ length lent = omega (arith, behind, all, p) in
      let same = told_is told survey head.gates s refl in
      let part : length (mid_of start places lent) ≡ places = length-take-le places (drop start lent) (omega (arith, length-drop start lent)) in
      let is = w ∙ told_whole told survey head.gates (centres_in head) group.azimuths (mid_of start places lent) (part ∙ p) ∙ same in
      let size = ap (length {A = ℕ}) (is ∙ sym same) ∙ told_length told survey head.gates (centres_in head) group.azimuths ∙ sym p in
      put_stored start places lent _ size there ∙ ap (sets lent start) is

  -- ---- the answer

  module _ {written : List ℕ} {sums : Sums} {added : Bool} (is : written ≡ group_ledger head group) (adds : AddsAll written group.values group.qualities (record { entry = lists.sums; exit = sums }) added) where
    -- the sums are lent as four slices of their own
    module _ {counts quality_sums value_sums weighted_sums : List ℕ} (c : counts ≡ sums.counts) (q : quality_sums ≡ sums.quality_sums) (v : value_sums ≡ sums.value_sums) (w : weighted_sums ≡ sums.weighted_sums) where
      pub group_taken : {ledger marks : List ℕ} → added ≡ true → ledger ≡ sets lists.ledger (taken * head.gates) (group_ledger head group) → marks ≡ sets lists.marks (taken * head.gates) (group_marks head group) → TakesGroup head taken group (record { entry = lists; exit = lists_held ledger marks counts quality_sums value_sums weighted_sums }) true
      unfolding taken_lists
      group_taken was e m =
          let there = rw is at adds in
          let all : sums ≡ added_sums (group_ledger head group) group.values group.qualities lists.sums = rw was at there.the_sums in
          record {
            the_answer = sym was ∙ there.the_answer;
            the_lists = rw (c, q, v, w) (λ i. record { ledger = e i; marks = m i; sums = all i });
          }

      pub group_left : added ≡ false → TakesGroup head taken group (record { entry = lists; exit = lists_held lists.ledger lists.marks counts quality_sums value_sums weighted_sums }) false
      unfolding taken_lists
      group_left was =
          let there = rw is at adds in
          let same : sums ≡ lists.sums = rw was at there.the_sums in
          record { the_answer = sym was ∙ there.the_answer; the_lists = rw (c, q, v, w) (λ i. record { ledger = lists.ledger; marks = lists.marks; sums = same i }) }
