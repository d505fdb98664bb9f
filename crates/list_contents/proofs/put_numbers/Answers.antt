-- `list_contents::put_numbers` meets its contract. Assumes nothing.
use mathlib.Core.Path.{sym, ap}
use Prim.Native.Nat.{ℕ, ◌*◌}
use lib.ListN.{length}
use Rattle.std.specs.Prelude.{map}
use Rattle.std.proofs.lemmas.List.{length-map}
use Rattle.record_contents.proofs.WrittenBytes.{numbers_stored}
use Rattle.list_contents.proofs.put_numbers.Goals as goal

pub returns : goal.returns
returns g c =
    numbers_stored g.T.Word.WIDTH c.args.buffer.now c.args.at c.args.tag (map g.T.Word.number c.args.numbers.now)
    (rw length-map (ap (λ (width : ℕ). width * length c.args.numbers.now) (sym c.WIDTH.ensures))) c.put_header.ensures c.put_list.ensures
