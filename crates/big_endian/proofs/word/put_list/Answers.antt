-- `big_endian::word::put_list` meets its contract. Assumes nothing.
use mathlib.Core.Path.{ap}
use Prim.Native.Nat.{ℕ, ◌+◌, ◌*◌}
use Rattle.std.specs.Prelude.{map}
use Rattle.std.proofs.lemmas.List.{length-map}
use Rattle.big_endian.proofs.StoredLists.{list_none, list_more, number_of_word}
use Rattle.big_endian.proofs.word.put_list.Goals as goal

pub loop-k-init : goal.loop-k-init
loop-k-init g c = list_none g.T.Word.WIDTH _ _ (map g.T.Word.number c.args.list.now)

pub loop-k-preserved : goal.loop-k-preserved
loop-k-preserved g c =
    list_more g.T.Word.WIDTH _ _ _ c.loop-k.k (rw length-map c.loop-k-test.true) c.loop-k.invariant
    (ap (λ (width : ℕ). c.args.at + width * c.loop-k.k) c.WIDTH.ensures)
    (number_of_word g.T.Word.number _ _ _ c.loop-k-test.true c.index-list-k.is) c.put.ensures
