-- `record_contents::put_weighting` meets its contract. Assumes nothing.
use mathlib.Core.Path.{ap}
use Rattle.big_endian.specs.BigEndian.{bytes_of}
use Rattle.record_contents.specs.RecordBytes.{weighting_byte}
use Rattle.big_endian.proofs.BigEndianLaws.{bytes_length}
use Rattle.record_contents.proofs.WrittenBytes.{field_stored}
use Rattle.record_contents.proofs.put_weighting.Goals as goal

pub returns : goal.returns
returns c =
    let byte = c in
    let header = byte in
    let args = header.args in
    let content = ap (bytes_of 1) byte.weighting_byte.ensures in
    field_stored args.buffer.now args.at 4 (bytes_of 1 (weighting_byte args.weighting)) (bytes_length 1 _) header.put_header.ensures (rw content at byte.put.ensures)
