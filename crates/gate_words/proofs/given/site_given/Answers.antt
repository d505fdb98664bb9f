-- `gate_words::given::site_given` meets its contract. Assumes nothing.
use Rattle.arithmetic.proofs.Machine.{read_result}
use Rattle.gate_words.specs.GivenGate.{site_given}
use Rattle.gate_words.proofs.given.site_given.Goals as goal

pub returns : goal.returns
unfolding site_given
returns c = simp (read_result c.number_at.type_inv c.number_at.ensures, read_result c.number_at-2.type_inv c.number_at-2.ensures)
