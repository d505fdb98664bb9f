-- `gate_words::words::word_start` meets its contract. Assumes nothing.
use Rattle.std.proofs.Common.{refl, ap, ◌∙◌, arith, length, length-drop}
use Rattle.gate_words.specs.GivenWords.{word_length, word_start}
use Rattle.gate_words.proofs.GivenLaws.{start_next}
use Rattle.gate_words.proofs.words.word_start.Goals as goal

pub loop-init : goal.loop-init
unfolding word_start
loop-init c = (refl, omega arith)

pub loop-preserved : goal.loop-preserved
loop-preserved c =
    let next = c.word_length.ensures in (
      start_next c.args.words.now c.loop.counter c.loop.invariant.0 (next.value ∙ ap word_length c.rest.ensures),
      omega (arith, next.bounded, ap length c.rest.ensures ∙ length-drop c.loop.start c.args.words.now, c.loop.invariant.1),
    )
