-- `record_writer::writer::check_write` meets its contract: the first check that fails decides. Assumes nothing.
use mathlib.Core.Bool.{Bool}
use mathlib.Core.Path.{◌≡◌, sym, ◌∙◌}
use Prim.Native.Nat.{ℕ}
use native.Mathlib.Omega.{arith}
use Rattle.std.proofs.Common.{rules}
use Rattle.arithmetic.specs.Places.{all_of}
use Rattle.limits.specs.Accepted.{azimuth_accepted}
use Rattle.refusal.specs.Numbered.{number_of, refusal_in}
use Rattle.refusal.proofs.NumberedLaws.{numbered}
use Rattle.scan.specs.Scan.{Scan, scan_of}
use Rattle.scan.specs.ScanRefusal.{quality_accepted, given_exact, scan_number, scan_refusal}
use Rattle.record_writer.proofs.WriterAccepted.{refused_scan, refused_gates, refused_room, not_refused}
use Rattle.record_writer.proofs.writer.check_write.Goals as goal

-- the number of the scan itself, as the code asks for it
is_number_lem : (scan : Scan) {number : ℕ} {lists azimuths qualities : Bool} → lists ≡ given_exact scan → azimuths ≡ all_of azimuth_accepted scan.azimuths → qualities ≡ all_of quality_accepted scan.qualities → number ≡ scan_number scan.head lists azimuths qualities → number ≡ scan_refusal scan (given_exact scan)
unfolding scan_refusal
is_number_lem scan lists azimuths qualities number = number ∙ simp (lists, azimuths, qualities)

pub returns-in_err-check_scan : goal.returns-in_err-check_scan
returns-in_err-check_scan c =
    let refusal = c.in_err-check_scan.field-0.0 in
    let same : refusal_in c.from_residual.result ≡ number_of refusal = search rules in
    let number = is_number_lem (scan_of c.args.head c.args.rays) c.lists_accepted.ensures c.azimuths_accepted.ensures c.qualities_accepted.ensures c.in_err-check_scan.ensures in
    same ∙ number ∙ refused_scan _ _ (λ e. numbered refusal (number ∙ e))

pub returns-then-gates_of-gt32767 : goal.returns-then-gates_of-gt32767
returns-then-gates_of-gt32767 c =
    let number = is_number_lem (scan_of c.args.head c.args.rays) c.lists_accepted.ensures c.azimuths_accepted.ensures c.qualities_accepted.ensures c.in_ok-check_scan.ensures in
    refused_gates _ _ (sym number) (omega arith)

pub returns-then-room-record_length : goal.returns-then-room-record_length
returns-then-room-record_length c =
    let number = is_number_lem (scan_of c.args.head c.args.rays) c.lists_accepted.ensures c.azimuths_accepted.ensures c.qualities_accepted.ensures c.in_ok-check_scan.ensures in
    refused_room _ _ (sym number) (omega arith) (omega arith)

pub returns : goal.returns
returns c =
    let number = is_number_lem (scan_of c.args.head c.args.rays) c.lists_accepted.ensures c.azimuths_accepted.ensures c.qualities_accepted.ensures c.in_ok-check_scan.ensures in
    not_refused _ _ (sym number) (omega arith) (omega arith)
