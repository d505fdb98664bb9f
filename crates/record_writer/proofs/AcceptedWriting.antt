-- What is known of a scan that the writer does not refuse. Assumes nothing.
use mathlib.Core.Path.{◌≡◌}
use Prim.Native.Nat.{ℕ, ◌≤◌}
use borrow.Author.Tests.{leb-true}
use lib.ListN.{length}
use Rattle.arithmetic.specs.Places.{all_of}
use Rattle.limits.specs.Accepted.{azimuth_accepted}
use Rattle.refusal.specs.Checks.{first_refusal}
use Rattle.scan.specs.Scan.{Scan, gates_of}
use Rattle.scan.specs.ScanRefusal.{quality_accepted, given_exact, scan_refusal}
use Rattle.scan.proofs.AcceptedScan.{AcceptedNumbers, accepted_numbers}
use Rattle.refusal.proofs.CheckLaws.{passed}
use Rattle.record_contents.specs.RecordBytes.{record_of}
use Rattle.record_writer.specs.WriteRefusal.{write_refusal}
use Rattle.refusal.proofs.Then.{then_none}

pub record AcceptedWriting (scan : Scan) (room : ℕ) : Type 0 where
  pub none : scan_refusal scan (given_exact scan) ≡ 0
  pub numbers : AcceptedNumbers scan.head (given_exact scan) (all_of azimuth_accepted scan.azimuths) (all_of quality_accepted scan.qualities)
  pub gates_most : gates_of scan.head ≤ 32767
  pub room_enough : length (record_of scan) ≤ room

pub accepted_writing : (scan : Scan) (room : ℕ) → write_refusal scan room ≡ 0 → AcceptedWriting scan room
unfolding write_refusal scan_refusal first_refusal
accepted_writing scan room e =
    let parts = then_none _ _ e in
    let gates = passed _ 14 _ parts.1 in
    record {
      none = parts.0;
      numbers = accepted_numbers scan.head _ _ _ parts.0;
      gates_most = leb-true _ _ gates.0;
      room_enough = leb-true _ _ (passed _ 15 _ gates.1).0;
    }
