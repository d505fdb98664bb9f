-- `Text::number` meets its contract. Assumes nothing.
use Rattle.text.proofs.StoredLaws.{appends_next}
use Rattle.text.proofs.text.Text.number.Goals as goal

pub returns-clause-appended : goal.returns-clause-appended
returns-clause-appended c = appends_next c.decimal.ensures.appended c.byte.ensures
