-- What each step of an accepted scan needs, and that the steps' lists are document 01's. Assumes nothing.
use mathlib.Core.Bool.{true}
use mathlib.Core.List.{List}
use mathlib.Core.Path.{◌≡◌, refl, sym, ap, ◌∙◌}
use Prim.Native.Nat.{ℕ, ◌*◌, ◌≤◌}
use native.Mathlib.Nat.{mul-le-mul}
use native.Mathlib.Omega.{arith}
use denote.Triple.Both.{Both}
use borrow.Author.Tests.{leb-true}
use lib.ListN.{length, get_or, length-replicate}
use lib.Seq.{sets}
use Rattle.arithmetic.proofs.Places.{all_at}
use Rattle.placement.specs.declared.centres.Centres.{Centres}
use Rattle.placement.specs.Gate.{PlaceAnswer, entry_of, mark_of}
use Rattle.placement.specs.Survey.{survey_of}
use Rattle.tally.specs.LentSums.{Sums}
use Rattle.tally.specs.Tally.{cleared, added_sums}
use Rattle.tally.specs.TallyRoom.{Addable, AddsGates}
use Rattle.tally.specs.Width.{fit_widths}
use Rattle.tally.proofs.AllAdded.{all_added}
use Rattle.tally.proofs.TallyWidth.{GatesMost, from_nothing_fits}
use Rattle.tally.proofs.TallyFromNothing.{from_nothing}
use Rattle.scan.specs.Rays.{regular_rays}
use Rattle.scan.specs.LentLists.{Lists, lists_held}
use Rattle.scan.specs.Scan.{Scan, rays_of, gates_of}
use Rattle.scan.specs.ScanRefusal.{quality_accepted}
use Rattle.scan.proofs.AcceptedScan.{AcceptedScan}
use Rattle.scan.proofs.RayLaws.{gates_length, regular_gates}
use Rattle.scan_ledger.specs.LedgerRoom.{RaysSpan, surveyed_gates}
use Rattle.scan_ledger.specs.ScanLedger.{gates_told}
use Rattle.scan_ledger.proofs.AcceptedLedger.{centres_most, accepted_gates}
use Rattle.scan_ledger.proofs.RaysWritten.{told_whole}
use Rattle.accepted_tally.specs.TalliedLists.{tallied_lists}

module _ {scan : Scan} {lists : Lists} (good : AcceptedScan scan lists) where
  abbrev centres : Centres
  centres = record { first = scan.head.first; spacing = scan.head.spacing }

  -- a place for each gate
  as_many : {many : ℕ} → many ≡ gates_of scan.head → many ≡ length scan.azimuths * scan.head.gates
  unfolding gates_of
  as_many e = e ∙ ap (λ (n : ℕ). n * scan.head.gates) (sym good.lengths.azimuths_length)

  pub rays_span : RaysSpan scan.head.gates centres scan.azimuths lists.ledger lists.marks
  rays_span = record {
    gates_most = good.gates_most;
    ledger_most = omega (arith, as_many good.lengths.ledger_length);
    marks_most = omega (arith, as_many good.lengths.marks_length);
    ranges = λ g h. centres_most scan.head.gates scan.head.first scan.head.spacing g good.centres h;
  }

  -- what is told of each gate
  module _ (told : PlaceAnswer → ℕ) where
    told_length : length (gates_told told scan.head (rays_of scan)) ≡ gates_of scan.head
    unfolding gates_told rays_of gates_of
    told_length = gates_length _ _ _ _ ∙ regular_gates scan.head.gates scan.azimuths ∙ ap (λ (n : ℕ). n * scan.head.gates) good.lengths.azimuths_length

    told_is : surveyed_gates told (survey_of scan.head.site scan.head.grid) centres (regular_rays scan.head.gates scan.azimuths) ≡ gates_told told scan.head (rays_of scan)
    unfolding rays_of
    told_is = accepted_gates scan.head good.centres good.site good.grid told scan.azimuths good.azimuths_good

  pub ledger_is : surveyed_gates entry_of (survey_of scan.head.site scan.head.grid) centres (regular_rays scan.head.gates scan.azimuths) ≡ (tallied_lists scan).ledger
  unfolding tallied_lists
  ledger_is = told_is entry_of

  pub marks_are : surveyed_gates mark_of (survey_of scan.head.site scan.head.grid) centres (regular_rays scan.head.gates scan.azimuths) ≡ (tallied_lists scan).marks
  unfolding tallied_lists
  marks_are = told_is mark_of

  -- stored over the whole of what is lent
  pub ledger_stored : sets lists.ledger 0 (surveyed_gates entry_of (survey_of scan.head.site scan.head.grid) centres (regular_rays scan.head.gates scan.azimuths)) ≡ (tallied_lists scan).ledger
  ledger_stored = told_whole entry_of _ _ _ _ lists.ledger (as_many good.lengths.ledger_length) ∙ ledger_is

  pub marks_stored : sets lists.marks 0 (surveyed_gates mark_of (survey_of scan.head.site scan.head.grid) centres (regular_rays scan.head.gates scan.azimuths)) ≡ (tallied_lists scan).marks
  marks_stored = told_whole mark_of _ _ _ _ lists.marks (as_many good.lengths.marks_length) ∙ marks_are

  gates_most : gates_of scan.head ≤ 720000
  unfolding gates_of
  gates_most = mul-le-mul good.rays_most good.gates_most

  pub qualities_most : (k : ℕ) → get_or scan.qualities k 0 ≤ 100
  unfolding quality_accepted
  qualities_most k = leb-true _ _ (all_at quality_accepted scan.qualities refl good.qualities_good k)

  -- ---- the sums of an accepted scan

  ledger_length : length (tallied_lists scan).ledger ≡ gates_of scan.head
  unfolding tallied_lists
  ledger_length = told_length entry_of

  -- document 02, T-05: no count or quality sum passes 32 bits, and no value sum or weighted sum 64
  pub tally_fits : ((k : ℕ) → get_or scan.values k 0 ≤ 65535) → fit_widths (tallied_lists scan).sums ≡ true
  unfolding tallied_lists
  tally_fits small =
      let most : GatesMost (tallied_lists scan).ledger scan.values scan.qualities = record { gates_most = rw ledger_length gates_most; values_most = small; qualities_most = qualities_most } in
      let lengths = good.lengths in
      ap fit_widths (sym (from_nothing _ _ _ lists.sums lengths.counts_length lengths.quality_sums_length lengths.value_sums_length lengths.weighted_sums_length))
      ∙ from_nothing_fits most lists.sums

  -- ---- over the ledger that was written

  module _ {written : List ℕ} (ledger-written : written ≡ (tallied_lists scan).ledger) where
    written_length : length written ≡ gates_of scan.head
    unfolding tallied_lists
    written_length = ap length ledger-written ∙ told_length entry_of

    pub addable : Addable written scan.values scan.qualities (cleared lists.sums)
    unfolding cleared
    addable = record {
      values_length = good.lengths.values_length ∙ sym written_length;
      qualities_length = good.lengths.qualities_length ∙ sym written_length;
      quality_sums_length = simp length-replicate (good.lengths.quality_sums_length ∙ sym good.lengths.counts_length);
      value_sums_length = simp length-replicate (good.lengths.value_sums_length ∙ sym good.lengths.counts_length);
      weighted_sums_length = simp length-replicate (good.lengths.weighted_sums_length ∙ sym good.lengths.counts_length);
    }

    -- no count or sum passes its width, so all gates are added
    pub sums_are : {sums : Both Sums Sums} {gates : ℕ} → ((k : ℕ) → get_or scan.values k 0 ≤ 65535) → sums.entry ≡ cleared lists.sums → AddsGates written scan.values scan.qualities sums gates → sums.exit ≡ (tallied_lists scan).sums
    unfolding tallied_lists
    sums_are small from adds =
        let most : GatesMost written scan.values scan.qualities = record { gates_most = rw written_length gates_most; values_most = small; qualities_most = qualities_most } in
        let lengths = good.lengths in
        all_added adds (ap (λ (s : Sums). fit_widths (added_sums written scan.values scan.qualities s)) from ∙ from_nothing_fits most lists.sums)
        ∙ ap (added_sums written scan.values scan.qualities) from
        ∙ rw ledger-written (from_nothing _ _ _ lists.sums lengths.counts_length lengths.quality_sums_length lengths.value_sums_length lengths.weighted_sums_length)

pub lists_are : {ledger marks counts quality_sums value_sums weighted_sums : List ℕ} {told : Lists} → ledger ≡ told.ledger → marks ≡ told.marks → counts ≡ told.sums.counts → quality_sums ≡ told.sums.quality_sums → value_sums ≡ told.sums.value_sums → weighted_sums ≡ told.sums.weighted_sums → lists_held ledger marks counts quality_sums value_sums weighted_sums ≡ told
lists_are l m c q v w = λ i. record { ledger = l i; marks = m i; sums = record { counts = c i; quality_sums = q i; value_sums = v i; weighted_sums = w i } }
