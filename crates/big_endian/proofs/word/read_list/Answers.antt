-- `big_endian::word::read_list` meets its contract. Assumes nothing.
use mathlib.Core.Path.{ap, ◌∙◌}
use Prim.Native.Nat.{ℕ, ◌+◌, ◌*◌}
use native.Mathlib.Omega.{arith}
use Rattle.big_endian.specs.BigEndian.{number_at, numbers_at}
use Rattle.big_endian.proofs.StoredLists.{word_read, words_read}
use Rattle.big_endian.proofs.word.read_list.Goals as goal

pub loop-k-preserved : goal.loop-k-preserved
loop-k-preserved g c =
    let width = g.T.Word.WIDTH in
    word_read g.T.Word.number _ _ _ _ _ c.loop-k.invariant (omega arith) (c.read.ensures ∙ ap (λ (m : ℕ). number_at width c.args.bytes.now (c.args.at + m * c.loop-k.k)) c.WIDTH.ensures)

pub returns : goal.returns
unfolding numbers_at
returns g c = words_read g.T.Word.number _ _ _ _ _ c.loop-k.invariant (omega arith) (omega arith)
