-- What was joined lies within the words.
use Rattle.std.proofs.Common.{length, ◌≤◌}
use Rattle.gate.proofs.join_arguments.Given as goal

abbrev pub invariant-loop-i : goal.invariant-loop-i
invariant-loop-i g l = l.end ≤ length l.words
