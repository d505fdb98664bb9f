-- `record_layout::checks::check_record` meets its contract. Assumes nothing.
use mathlib.Core.Path.{◌≡◌, sym, ◌∙◌}
use Rattle.std.proofs.Common.{rules}
use Rattle.refusal.specs.Numbered.{number_of, refusal_in}
use Rattle.scan.specs.ScanRefusal.{scan_refusal}
use Rattle.record_layout.specs.RecordPlaces.{scan_in}
use Rattle.record_layout.specs.RecordRefusal.{record_refusal}
use Rattle.refusal.proofs.NumberedLaws.{numbered}
use Rattle.refusal.proofs.Then.{then_kept, then_next}
use Rattle.record_layout.proofs.checks.check_record.Goals as goal

pub returns-in_err-check_layout : goal.returns-in_err-check_layout
unfolding record_refusal
returns-in_err-check_layout c =
    let refusal = c.in_err-check_layout.field-0.0 in
    let same : refusal_in c.from_residual.result ≡ number_of refusal = search rules in
    same ∙ then_kept _ c.in_err-check_layout.ensures (numbered refusal)

pub returns : goal.returns
unfolding record_refusal scan_refusal scan_in
returns c =
    c.check_scan.ensures
    ∙ simp (c.head_in.ensures, c.azimuths_accepted.ensures, c.qualities_accepted.ensures)
    (sym (then_next _ (sym c.in_ok-check_layout.ensures)))
