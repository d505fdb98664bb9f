-- `record_contents::put_header` meets its contract. Assumes nothing.
use Rattle.record_contents.proofs.WrittenBytes.{header_stored}
use Rattle.record_contents.proofs.put_header.Goals as goal

pub returns : goal.returns
returns c =
    let count = c in
    let tag = count in
    let args = tag.args in
    header_stored args.buffer.now args.at args.tag args.count tag.put.ensures count.put-2.ensures
