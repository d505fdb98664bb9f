-- `record_contents::put_hrap` meets its contract. Assumes nothing.
use mathlib.Core.List.{List}
use mathlib.Core.Path.{◌≡◌}
use Prim.Native.Nat.{ℕ}
use borrow.Author.Rules.{rules}
use lib.Seq.{sets}
use Rattle.limits.specs.declared.grid.Grid.TheVariants.{Hrap}
use Rattle.limits.specs.declared.grid.HrapGrid.{HrapGrid}
use Rattle.limits.proofs.Accepted.{accepted_hrap}
use Rattle.big_endian.specs.BigEndian.{bytes_of, signed_bytes_of}
use Rattle.record_contents.specs.RecordBytes.{grid_bytes, header_bytes, field_bytes}
use Rattle.record_contents.proofs.SignedWords.{word_same, word_small}
use Rattle.record_contents.proofs.put_hrap.Goals as goal

-- header, kind 2, I, J, columns, rows: each right behind the one before
hrap-stored : (a : List ℕ) (g : HrapGrid) {b c d e f h : List ℕ} → b ≡ sets a 26 (header_bytes 3 9) → c ≡ sets b 29 (bytes_of 1 2) → d ≡ sets c 30 (signed_bytes_of 2 g.i) → e ≡ sets d 32 (signed_bytes_of 2 g.j) → f ≡ sets e 34 (bytes_of 2 g.columns) → h ≡ sets f 36 (bytes_of 2 g.rows) → h ≡ sets a 26 (field_bytes 3 (grid_bytes (Hrap g)))
unfolding bytes_of signed_bytes_of grid_bytes header_bytes field_bytes
hrap-stored a g header kind i j columns rows = rw (rows, columns, j, i, kind, header)

pub put_signed-requires : goal.put_signed-requires
put_signed-requires c =
    let start = c in
    (search rules, search rules, word_small 65536 (accepted_hrap start.args.g start.requires.0).i_limit tt tt)

pub put_signed-requires-2 : goal.put_signed-requires-2
put_signed-requires-2 c =
    let start = c in
    (search rules, search rules, word_small 65536 (accepted_hrap start.args.g start.requires.0).j_limit tt tt)

pub returns : goal.returns
returns c =
    let rows = c in
    let columns = rows in
    let j = columns in
    let i = j in
    let kind = i in
    let header = kind in
    let start = header in
    let g = start.args.g in
    let known = accepted_hrap g start.requires.0 in
    hrap-stored start.args.buffer.now g header.put_header.ensures kind.put.ensures
    (rw (word_same known.i_limit tt) at i.put_signed.ensures)
    (rw (word_same known.j_limit tt) at j.put_signed-2.ensures)
    columns.put-2.ensures rows.put-3.ensures
