use mathlib.Core.Path.{◌≡◌}
use Rattle.record_layout.specs.RecordRefusal.{fields_refusal}
use Rattle.record_layout.proofs.layout.check_layout.Given as goal

-- the fields so far are not refused
abbrev pub invariant-loop-field : goal.invariant-loop-field
invariant-loop-field l = fields_refusal l.bytes l.field-index ≡ 0
