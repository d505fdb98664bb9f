use Rattle.std.proofs.Common.{◌≡◌, ◌≤◌, length, ◌+◌}
use Rattle.gate_words.specs.GivenWords.{word_start}
use Rattle.gate_words.proofs.words.word_start.Given as goal

abbrev pub invariant-loop : goal.invariant-loop
invariant-loop l = (l.start ≡ word_start l.words l.counter) × (l.start ≤ length l.words + l.counter)
