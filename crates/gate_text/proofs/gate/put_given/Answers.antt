-- `gate_text::gate::put_given` meets its contract. Assumes nothing.
use Rattle.gate_text.proofs.GateAnswer.{answer_text_is}
use Rattle.ledger_text.proofs.PlacedColumns.{placed_columns}
use Rattle.text.proofs.StoredLaws.{appends_same}
use Rattle.gate_text.proofs.gate.put_given.Goals as goal

pub put_answer-requires : goal.put_answer-requires
put_answer-requires c = (rw (c.columns_of.ensures, c.place-answer.ensures.rule) (placed_columns _ _ _ _), c.requires)

pub returns-clause-appended : goal.returns-clause-appended
returns-clause-appended c =
    appends_same (answer_text_is _ _ c.site_given-site.ensures c.unsigned_at-azimuth.ensures c.unsigned_at-range.ensures c.columns_of.ensures c.place-answer.ensures.rule) c.put_answer.ensures.appended
