-- `scan_tally::tally` meets its contract. Assumes nothing.
use mathlib.Core.Path.{refl}
use Rattle.std.proofs.Common.{rules}
use Rattle.scan.specs.ScanRefusal.{scan_refusal, refusal_for}
use Rattle.scan_tally.proofs.TallyAnswers.{scan_refused, scan_tallied}
use Rattle.scan_tally.proofs.tally.Goals as goal

pub returns-in_err-check_scan-clause-tallied : goal.returns-in_err-check_scan-clause-tallied
unfolding refusal_for scan_refusal
returns-in_err-check_scan-clause-tallied c = scan_refused _ (search rules) (search rules) refl

pub returns-clause-tallied : goal.returns-clause-tallied
unfolding refusal_for scan_refusal
returns-clause-tallied c = scan_tallied (search rules) c.accepted_tally.ensures.tallied
