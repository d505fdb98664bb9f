-- Document 01, "Scan record": a field's part of an accepted record is the content that is written for it. Assumes nothing.
use mathlib.Core.Path.{◌≡◌, sym, ap, ◌∙◌}
use mathlib.Core.Bool.{true}
use mathlib.Core.List.{List, []}
use Prim.Native.Nat.{ℕ, ◌+◌, ◌<◌}
use native.Mathlib.Omega.{arith}
use lib.ListN.{get_or, take, drop}
use Rattle.record_contents.specs.RecordBytes.{contents_of}
use Rattle.record_layout.specs.RecordPlaces.{content_length, content_start, scan_in}
use Rattle.record_layout.specs.RecordRefusal.{head_refusal}
use Rattle.record_reader.specs.FieldPart.{part, field_part}
use Rattle.record_layout.proofs.AcceptedRecord.{accepted_record}
use Rattle.record_reader.proofs.FieldParts.{part_there, part_given}
use Rattle.round_trips.proofs.ReadThenWrite.{content_length_lem, content_stands}

-- fields 1 to 7 of a record that is not refused
accepted_part : (bytes : List ℕ) (k : ℕ) → k < 7 → head_refusal bytes ≡ 0 → field_part bytes (k + 1) ≡ part (content_start bytes k) (content_length bytes k) bytes
accepted_part bytes k h e =
    sym (part_given bytes (k + 1) (part_there bytes (k + 1) (omega arith) (omega arith) e)) ∙ ap (λ (j : ℕ). part (content_start bytes j) (content_length bytes j) bytes) (omega arith)

pub field_contents : (bytes : List ℕ) → ((k : ℕ) → get_or bytes k 0 < 256) → head_refusal bytes ≡ 0 → (k : ℕ) → k < 7 → field_part bytes (k + 1) ≡ get_or (contents_of (scan_in bytes)) k []
unfolding part head_refusal
field_contents bytes small e k h =
    accepted_part bytes k h e
    ∙ ap (λ (n : ℕ). take n (drop (content_start bytes k) bytes)) (sym (content_length_lem bytes k h))
    ∙ (content_stands bytes small (accepted_record bytes true e).layout k h).same
