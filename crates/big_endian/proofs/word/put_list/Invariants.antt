use mathlib.Core.Path.{◌≡◌}
use lib.ListN.{take}
use lib.Seq.{sets}
use Rattle.std.specs.Prelude.{map}
use Rattle.big_endian.specs.BigEndian.{all_bytes_of}
use Rattle.big_endian.proofs.word.put_list.Given as goal

-- the first k numbers stand
abbrev pub invariant-loop-k : goal.invariant-loop-k
invariant-loop-k g l =
    l.buffer ≡ sets l.initial.buffer l.at (all_bytes_of g.T.Word.WIDTH (take l.k (map g.T.Word.number l.list)))
