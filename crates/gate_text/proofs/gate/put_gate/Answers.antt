-- `gate_text::gate::put_gate` meets its contract. Assumes nothing.
use mathlib.Core.Path.{sym, ap, ◌∙◌}
use native.Mathlib.Omega.{arith}
use Rattle.gate_text.specs.GateText.{hrap_word, radolan_word, usage_line, answer_text}
use Rattle.gate_text.proofs.GateAnswer.{hrap_text, radolan_text, usage_text}
use Rattle.text.proofs.StoredLaws.{appends_same}
use Rattle.gate_text.proofs.gate.put_gate.Goals as goal

pub returns-then-is_given : goal.returns-then-is_given
unfolding hrap_word
returns-then-is_given c =
    let put = c.put_given.ensures in
    let hrap = sym c.is_given.ensures ∙ c.if-is_given.true in
    record { appended = appends_same (ap (answer_text _) c.hrap_given.ensures ∙ hrap_text _ hrap) put.appended; bounded = put.bounded }

pub returns-then-is_given-2 : goal.returns-then-is_given-2
unfolding hrap_word radolan_word
returns-then-is_given-2 c =
    let put = c.put_given-then-is_given-2.ensures in
    let hrap = sym c.is_given.ensures ∙ c.if-is_given.false in
    let radolan = sym c.is_given-2.ensures ∙ c.if-is_given-2.true in
    record { appended = appends_same (ap (answer_text _) c.radolan_given.ensures ∙ radolan_text _ hrap radolan) put.appended; bounded = put.bounded }

pub returns : goal.returns
unfolding hrap_word radolan_word usage_line
returns c =
    let hrap = sym c.is_given.ensures ∙ c.if-is_given.false in
    let radolan = sym c.is_given-2.ensures ∙ c.if-is_given-2.false in
    record { appended = appends_same (usage_text _ hrap radolan) c.word.ensures; bounded = omega (arith, c.word.ensures.stored.the_end) }
