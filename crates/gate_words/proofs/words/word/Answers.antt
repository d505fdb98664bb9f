-- `gate_words::words::word` meets its contract. Assumes nothing.
use Rattle.std.proofs.Common.{rules}
use Rattle.gate_words.specs.GivenWords.{word}
use Rattle.gate_words.proofs.words.word.Goals as goal

pub returns : goal.returns
unfolding word
returns c = search rules
