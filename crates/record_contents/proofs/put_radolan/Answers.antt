-- `record_contents::put_radolan` meets its contract. Assumes nothing.
use mathlib.Core.List.{List}
use mathlib.Core.Path.{◌≡◌}
use Prim.Native.Nat.{ℕ}
use borrow.Author.Rules.{rules}
use lib.Seq.{sets}
use Rattle.limits.specs.declared.grid.Grid.TheVariants.{Radolan}
use Rattle.limits.specs.declared.grid.RadolanGrid.{RadolanGrid}
use Rattle.limits.proofs.Accepted.{accepted_radolan}
use Rattle.big_endian.specs.BigEndian.{bytes_of, signed_bytes_of}
use Rattle.record_contents.specs.RecordBytes.{grid_bytes, header_bytes, field_bytes}
use Rattle.record_contents.proofs.SignedWords.{word_same, word_small}
use Rattle.record_contents.proofs.put_radolan.Goals as goal

-- header, kind 1, x, y, side, columns, rows: each right behind the one before
radolan-stored : (a : List ℕ) (g : RadolanGrid) {b c d e f h i : List ℕ} → b ≡ sets a 26 (header_bytes 3 17) → c ≡ sets b 29 (bytes_of 1 1) → d ≡ sets c 30 (signed_bytes_of 4 g.x) → e ≡ sets d 34 (signed_bytes_of 4 g.y) → f ≡ sets e 38 (bytes_of 4 g.side) → h ≡ sets f 42 (bytes_of 2 g.columns) → i ≡ sets h 44 (bytes_of 2 g.rows) → i ≡ sets a 26 (field_bytes 3 (grid_bytes (Radolan g)))
unfolding bytes_of signed_bytes_of grid_bytes header_bytes field_bytes
radolan-stored a g header kind x y side columns rows = rw (rows, columns, side, y, x, kind, header)

pub put_signed-requires : goal.put_signed-requires
put_signed-requires c =
    let start = c in
    (search rules, search rules, word_small 4294967296 (accepted_radolan start.args.g start.requires.0).x_limit tt tt)

pub put_signed-requires-2 : goal.put_signed-requires-2
put_signed-requires-2 c =
    let start = c in
    (search rules, search rules, word_small 4294967296 (accepted_radolan start.args.g start.requires.0).y_limit tt tt)

pub returns : goal.returns
returns c =
    let rows = c in
    let columns = rows in
    let side = columns in
    let y = side in
    let x = y in
    let kind = x in
    let header = kind in
    let start = header in
    let g = start.args.g in
    let known = accepted_radolan g start.requires.0 in
    radolan-stored start.args.buffer.now g header.put_header.ensures kind.put.ensures
    (rw (word_same known.x_limit tt) at x.put_signed.ensures)
    (rw (word_same known.y_limit tt) at y.put_signed-2.ensures)
    side.put-2.ensures columns.put-3.ensures rows.put-4.ensures
