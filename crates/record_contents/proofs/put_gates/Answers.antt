-- `record_contents::put_gates` meets its contract. Assumes nothing.
use mathlib.Core.List.{List}
use mathlib.Core.Path.{◌≡◌}
use Prim.Native.Nat.{ℕ}
use lib.Seq.{sets}
use Rattle.scan.specs.declared.head.ScanHead.{ScanHead}
use Rattle.big_endian.specs.BigEndian.{bytes_of}
use Rattle.record_contents.specs.RecordBytes.{gates_bytes, header_bytes, field_bytes}
use Rattle.record_contents.proofs.put_gates.Goals as goal

-- header, rays, gates, first centre, spacing: each right behind the one before
gates-stored : (a : List ℕ) (head : ScanHead) {b c d e f : List ℕ} → b ≡ sets a 11 (header_bytes 2 12) → c ≡ sets b 14 (bytes_of 2 head.rays) → d ≡ sets c 16 (bytes_of 2 head.gates) → e ≡ sets d 18 (bytes_of 4 head.first) → f ≡ sets e 22 (bytes_of 4 head.spacing) → f ≡ sets a 11 (field_bytes 2 (gates_bytes head))
unfolding bytes_of gates_bytes header_bytes field_bytes
gates-stored a head h r g f s = rw (s, f, g, r, h)

pub returns : goal.returns
returns c =
    let spacing = c in
    let first = spacing in
    let gates = first in
    let rays = gates in
    let header = rays in
    let args = header.args in
    gates-stored args.buffer.now args.head header.put_header.ensures rays.put.ensures gates.put-2.ensures first.put-3.ensures spacing.put-4.ensures
