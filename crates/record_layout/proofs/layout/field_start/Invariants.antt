use mathlib.Core.Path.{◌≡◌}
use Prim.Native.Nat.{◌*◌, ◌≤◌}
use Rattle.record_layout.specs.RecordPlaces.{field_start}
use Rattle.record_layout.proofs.layout.field_start.Given as goal

-- a field has at most 3 + 8,589,672,450 bytes
abbrev pub invariant-loop-before : goal.invariant-loop-before
invariant-loop-before l = (l.start ≡ field_start l.bytes l.before-index) × (l.start ≤ l.before-index * 8589672453)
