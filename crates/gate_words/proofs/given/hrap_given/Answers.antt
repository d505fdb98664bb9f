-- `gate_words::given::hrap_given` meets its contract. Assumes nothing.
use Rattle.arithmetic.proofs.Machine.{read_result}
use Rattle.gate_words.specs.GivenGate.{hrap_given}
use Rattle.gate_words.proofs.given.hrap_given.Goals as goal

pub returns : goal.returns
unfolding hrap_given
returns c = simp (read_result c.number_at.type_inv c.number_at.ensures, read_result c.number_at-2.type_inv c.number_at-2.ensures, c.unsigned_at.ensures, c.unsigned_at-2.ensures)
