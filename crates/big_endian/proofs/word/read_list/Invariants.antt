use Prim.Native.Nat.{◌+◌, ◌*◌}
use Rattle.std.specs.Prelude.{map}
use Rattle.arithmetic.specs.Places.{Written}
use Rattle.big_endian.specs.BigEndian.{number_at}
use Rattle.big_endian.proofs.word.read_list.Given as goal

abbrev pub invariant-loop-k : goal.invariant-loop-k
invariant-loop-k g l =
    let number = g.T.Word.number in
    Written (λ j. number_at g.T.Word.WIDTH l.bytes (l.at + g.T.Word.WIDTH * j)) 0 l.k (map number l.initial.list) (map number l.list)
