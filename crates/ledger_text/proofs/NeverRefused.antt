-- A gate of a good record is never refused, so that no line of a ledger is that of a refused gate. Assumes nothing.
use mathlib.Core.Bool.{true}
use mathlib.Core.List.{List}
use mathlib.Core.Path.{◌≡◌, refl, sym, ◌∙◌}
use Prim.Native.Nat.{ℕ}
use native.Mathlib.Nat.{mod-lt}
use native.Mathlib.Omega.{arith}
use Rattle.arithmetic.proofs.Places.{all_at}
use Rattle.std.specs.Prelude.{Ok, Err}
use Rattle.refusal.specs.declared.numbered.Refusal.{Refusal}
use Rattle.limits.specs.declared.grid.Grid.{Grid}
use Rattle.limits.specs.declared.site.Site.{Site}
use Rattle.placement.specs.Gate.{unless_refused, placement_of}
use Rattle.projection.specs.Position.{position_of}
use Rattle.limits.specs.Accepted.{azimuth_accepted}
use Rattle.placement.specs.GateRefusal.{gate_refusal}
use Rattle.grid.specs.Sphere.{sphere_of}
use Rattle.grid.specs.Window.{window_of}
use Rattle.placement.specs.Located.{located}
use Rattle.refusal.proofs.RangeBounds.{range_bounds}
use Rattle.scan_ledger.proofs.AcceptedLedger.{gate_accepted}
use Rattle.record_layout.specs.RecordPlaces.{head_in, azimuths_in}
use Rattle.record_layout.specs.RecordRefusal.{head_refusal}
use Rattle.record_layout.proofs.AcceptedRecord.{record_numbers}
use Rattle.ledger_text.specs.LedgerLine.{ray_of, gate_of, azimuth_of, range_of}

accepted_located : (site : Site) (grid : Grid) (azimuth range : ℕ) → gate_refusal site grid azimuth range ≡ 0 → placement_of site grid azimuth range ≡ Ok (located (window_of grid) (position_of (sphere_of grid) site azimuth range))
unfolding placement_of unless_refused
accepted_located site grid azimuth range e = rw e

-- past the last ray stands azimuth 0
azimuth_zero : azimuth_accepted 0 ≡ true
unfolding azimuth_accepted
azimuth_zero = refl

module _ (bytes : List ℕ) (good : head_refusal bytes ≡ 0) (k : ℕ) where
  none_refused : gate_refusal (head_in bytes).site (head_in bytes).grid (azimuth_of bytes k) (range_of bytes k) ≡ 0
  unfolding head_refusal ray_of gate_of azimuth_of range_of
  none_refused =
      let numbers = record_numbers bytes true good in
      gate_accepted (head_in bytes) numbers.centres_pass numbers.site_passes numbers.grid_passes _ (gate_of bytes k)
      (all_at azimuth_accepted (azimuths_in bytes) azimuth_zero numbers.azimuths_accepted (ray_of bytes k))
      (mod-lt k (range_bounds 1 1000 (head_in bytes).gates numbers.gates_accepted).0)

  -- for every k, those of the record's gates among them
  pub never_refused : (refusal : Refusal) → placement_of (head_in bytes).site (head_in bytes).grid (azimuth_of bytes k) (range_of bytes k) ≡ Err refusal → ⊥
  never_refused refusal e =
      let placed = sym (accepted_located (head_in bytes).site (head_in bytes).grid (azimuth_of bytes k) (range_of bytes k) none_refused) ∙ e in
      let z : ◌≡◌ {A = ℕ} 0 1 = cc in absurd (omega arith)
