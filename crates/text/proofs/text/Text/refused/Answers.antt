-- `Text::refused` meets its contract. Assumes nothing.
use Rattle.text.specs.RefusedLine.{refused_word, refused_line}
use Rattle.text.proofs.StoredLaws.{appends_number, line_last, line_before}
use Rattle.text.proofs.text.Text.refused.Goals as goal

pub returns-clause-appended : goal.returns-clause-appended
unfolding refused_word refused_line
returns-clause-appended c = line_before _ _ _ c.field.ensures (line_last _ (appends_number _ c.from.ensures c.number.ensures.appended))
