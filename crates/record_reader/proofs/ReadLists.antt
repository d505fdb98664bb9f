-- What an accepted record says of the lists that the reader fills. Assumes nothing.
use mathlib.Core.List.{List}
use mathlib.Core.Path.{◌≡◌}
use Prim.Native.Nat.{ℕ, ◌≤◌}
use native.Mathlib.Nat.{mul-le-mul}
use lib.ListN.{length}
use Rattle.refusal.proofs.RangeBounds.{range_bounds}
use Rattle.scan.specs.Scan.{gates_of}
use Rattle.scan.proofs.AcceptedScan.{accepted_lists}
use Rattle.record_layout.specs.RecordPlaces.{rays_in, gates_in, head_in}
use Rattle.record_layout.specs.RecordLists.{RecordLists}
use Rattle.record_layout.specs.RecordRefusal.{read_refusal}
use Rattle.record_layout.proofs.AcceptedRecord.{record_numbers}

pub record KnownLists (bytes : List ℕ) (lists : RecordLists) : Type 0 where
  pub azimuths_length : length lists.azimuths ≡ rays_in bytes
  pub values_length : length lists.values ≡ gates_in bytes
  pub qualities_length : length lists.qualities ≡ gates_in bytes
  pub rays_most : rays_in bytes ≤ 720
  pub gates_most : gates_in bytes ≤ 720000

pub known_lists : (bytes : List ℕ) (lists : RecordLists) → read_refusal bytes lists ≡ 0 → KnownLists bytes lists
unfolding read_refusal head_in gates_of rays_in gates_in
known_lists bytes lists e =
    let numbers = record_numbers bytes _ e in
    let exact = accepted_lists (head_in bytes) (length lists.azimuths) (length lists.values) (length lists.qualities) numbers.lengths_pass in
    let rays = (range_bounds 1 720 (head_in bytes).rays numbers.rays_accepted).1 in
    record {
      azimuths_length = exact.azimuths_length;
      values_length = exact.values_length;
      qualities_length = exact.qualities_length;
      rays_most = rays;
      gates_most = mul-le-mul rays (range_bounds 1 1000 (head_in bytes).gates numbers.gates_accepted).1;
    }
