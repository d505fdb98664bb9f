-- `gate_words::given::unsigned_at` meets its contract. Assumes nothing.
use mathlib.Core.Path.{ap, ◌∙◌}
use Rattle.arithmetic.proofs.Machine.{read_result}
use Rattle.refusal.specs.Unsigned.{unsigned32}
use Rattle.gate_words.proofs.given.unsigned_at.Goals as goal

pub returns : goal.returns
returns c = c.unsigned32.ensures ∙ ap unsigned32 (read_result c.number_at.type_inv c.number_at.ensures)
