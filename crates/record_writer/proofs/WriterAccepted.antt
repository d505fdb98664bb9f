-- What the writer knows of an accepted site, grid and scan. Assumes nothing.
use mathlib.Core.Path.{◌≡◌, refl, sym, ◌∙◌}
use mathlib.Core.List.{List}
use Prim.Native.Nat.{ℕ, ◌<◌, ◌≤◌}
use borrow.Author.Tests.{le-leb, lt-leb}
use lib.ListN.{length}
use lib.Seq.{sets}
use Rattle.refusal.specs.Checks.{first_refusal}
use Rattle.refusal.proofs.RangeBounds.{range_bounds}
use Rattle.scan.specs.Scan.{Scan, gates_of}
use Rattle.scan.specs.ScanRefusal.{given_exact, scan_refusal}
use Rattle.scan.proofs.AcceptedScan.{AcceptedLists, accepted_lists, accepted_numbers}
use Rattle.record_writer.specs.RecordWritten.{buffer_with}
use Rattle.record_contents.specs.RecordBytes.{record_of}
use Rattle.record_writer.specs.WriteRefusal.{write_refusal}
use Rattle.record_writer.specs.RecordRoom.{record_length, Writable}
use Rattle.record_writer.proofs.AcceptedWriting.{accepted_writing}
use Rattle.record_writer.proofs.RecordLength.{record_length_lem}
use Rattle.arithmetic.proofs.SetsLaws.{sets_start}
use Rattle.refusal.proofs.Then.{then_kept, then_next}

-- ---- the writer's refusal

module _ (scan : Scan) where
  exact : scan_refusal scan (given_exact scan) ≡ 0 → AcceptedLists scan.head (length scan.azimuths) (length scan.values) (length scan.qualities)
  unfolding scan_refusal given_exact
  exact e = accepted_lists scan.head _ _ _ (accepted_numbers scan.head _ _ _ e).lengths_pass

  length_known : scan_refusal scan (given_exact scan) ≡ 0 → length (record_of scan) ≡ record_length scan.head
  length_known e =
      let lists = exact e in
      record_length_lem scan lists.azimuths_length lists.values_length lists.qualities_length

  pub refused_scan : (room : ℕ) → (scan_refusal scan (given_exact scan) ≡ 0 → ⊥) → scan_refusal scan (given_exact scan) ≡ write_refusal scan room
  unfolding write_refusal
  refused_scan room wrong = then_kept _ refl wrong

  pub refused_gates : (room : ℕ) → scan_refusal scan (given_exact scan) ≡ 0 → 32767 < gates_of scan.head → 15 ≡ write_refusal scan room
  unfolding write_refusal first_refusal
  refused_gates room e h = sym (then_next _ e ∙ rw (lt-leb (gates_of scan.head) 32767 h))

  pub refused_room : (room : ℕ) → scan_refusal scan (given_exact scan) ≡ 0 → gates_of scan.head ≤ 32767 → room < record_length scan.head → 16 ≡ write_refusal scan room
  unfolding write_refusal first_refusal
  refused_room room e h k = sym (then_next _ e ∙ rw (le-leb (gates_of scan.head) 32767 h, length_known e, lt-leb (record_length scan.head) room k))

  pub not_refused : (room : ℕ) → scan_refusal scan (given_exact scan) ≡ 0 → gates_of scan.head ≤ 32767 → record_length scan.head ≤ room → 0 ≡ write_refusal scan room
  unfolding write_refusal first_refusal
  not_refused room e h k = sym (then_next _ e ∙ rw (le-leb (gates_of scan.head) 32767 h, length_known e, le-leb (record_length scan.head) room k))

  -- what is not refused may be written
  pub writable : (room : ℕ) → write_refusal scan room ≡ 0 → Writable scan room
  writable room e =
      let known = accepted_writing scan room e in
      let lists = exact known.none in
      record {
        rays_most = (range_bounds 1 720 scan.head.rays known.numbers.rays_accepted).1;
        gates_most = known.gates_most;
        site = known.numbers.site_passes;
        grid = known.numbers.grid_passes;
        azimuths_length = lists.azimuths_length;
        values_length = lists.values_length;
        qualities_length = lists.qualities_length;
        room_least = rw (← (length_known known.none)) known.room_enough;
      }

  pub size_known : (room : ℕ) → write_refusal scan room ≡ 0 → length (record_of scan) ≡ record_length scan.head
  size_known room e = length_known (accepted_writing scan room e).none

  -- the record, and what came in behind it
  pub record_placed : (buffer : List ℕ) {after : List ℕ} → write_refusal scan (length buffer) ≡ 0 → after ≡ sets buffer 0 (record_of scan) → after ≡ buffer_with scan buffer
  unfolding buffer_with
  record_placed buffer e f = f ∙ sets_start buffer (record_of scan) (accepted_writing scan (length buffer) e).room_enough
