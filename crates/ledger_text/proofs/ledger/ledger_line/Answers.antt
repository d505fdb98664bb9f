-- `ledger_text::ledger::ledger_line` meets its contract. Assumes nothing.
use mathlib.Core.Path.{ap}
use native.Mathlib.Omega.{arith}
use Rattle.refusal.proofs.AnswerLaws.{given_is, refused_is}
use Rattle.scan.specs.Scan.{gates_of}
use Rattle.ledger_text.proofs.LedgerHead.{refused_no_line, no_such_gate}
use Rattle.text.proofs.StoredLaws.{stored_none, stored_same, answered}
use Rattle.ledger_text.proofs.ledger.ledger_line.Goals as goal

pub good_line-requires : goal.good_line-requires
good_line-requires c =
    let good = given_is _ c.in-Ok.ensures in
    (good.0, omega (arith, c.if-k-gates_of.true, c.gates_of.ensures, ap gates_of good.1))

pub returns-in_default : goal.returns-in_default
returns-in_default c =
    let good = given_is _ c.in-Ok.ensures in
    let all = answered (stored_same (no_such_gate _ _ good.0 (omega (arith, c.if-k-gates_of.false, c.gates_of.ensures, ap gates_of good.1))) stored_none) (omega arith) in
    record { value = all.0; bounded = all.1.0; line_after = all.1.1 }

pub returns-in_default-2 : goal.returns-in_default-2
returns-in_default-2 c =
    let refused = refused_is _ _ c.in_default.ensures in
    let all = answered (stored_same (refused_no_line _ _ refused.1) stored_none) (omega arith) in
    record { value = all.0; bounded = all.1.0; line_after = all.1.1 }
