-- The length of the whole record. Assumes nothing.
use mathlib.Core.Path.{◌≡◌}
use native.Mathlib.Omega.{arith}
use lib.ListN.{length, length-append}
use Rattle.scan.specs.Scan.{Scan, gates_of}
use Rattle.record_contents.specs.RecordBytes.{contents_of, fields_bytes, record_of}
use Rattle.record_writer.specs.RecordRoom.{record_length}
use Rattle.big_endian.proofs.BigEndianLaws.{bytes_length, all_bytes_length}
use Rattle.record_contents.proofs.ContentLengths.{site_length, gates_length, field_length}

pub record_length_lem : (scan : Scan) → length scan.azimuths ≡ scan.head.rays → length scan.values ≡ gates_of scan.head → length scan.qualities ≡ gates_of scan.head → length (record_of scan) ≡ record_length scan.head
unfolding record_of contents_of fields_bytes record_length
record_length_lem scan a v q =
    simp (length-append, field_length, site_length, gates_length, bytes_length, all_bytes_length, a, v, q) (omega arith)
