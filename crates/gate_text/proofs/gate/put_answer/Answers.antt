-- `gate_text::gate::put_answer` meets its contract. Assumes nothing.
use mathlib.Core.Path.{sym, ap, ◌∙◌}
use Rattle.text.specs.RefusedLine.{refused_line}
use Rattle.gate_text.specs.GateText.{answer_words}
use Rattle.ledger_text.specs.PlacedColumns.{columns_there}
use Rattle.gate_text.proofs.gate.put_answer.Goals as goal

pub put_placement-requires : goal.put_placement-requires
unfolding columns_there
put_placement-requires c = (ap (columns_there c.args.columns) (sym c.in-Ok.is) ∙ c.requires.0, c.requires.1)

pub returns-in-Ok-clause-appended : goal.returns-in-Ok-clause-appended
unfolding answer_words
returns-in-Ok-clause-appended c = rw c.in-Ok.is c.put_placement.ensures.appended

pub returns-in-Err-clause-appended : goal.returns-in-Err-clause-appended
unfolding answer_words refused_line
returns-in-Err-clause-appended c = rw c.in-Err.is (rw c.number.ensures at c.refused.ensures.appended)
