-- `scan_ledger::scan_ledger` meets its contract. The loop's invariant: with the rays that are left stored behind what is written, ledger and marks
-- are those that were asked for. Assumes nothing.
use mathlib.Core.Path.{◌≡◌}
use native.Mathlib.Omega.{arith}
use lib.ListN.{length}
use Rattle.scan_ledger.proofs.RaysWritten.{none_written, stretch_told, next_written, all_written}
use Rattle.scan_ledger.proofs.scan_ledger.Goals as goal

pub loop-ray-init : goal.loop-ray-init
loop-ray-init c = record { entries = none_written _ _ _ _ _ _; marks = none_written _ _ _ _ _ _ }

pub loop-ray-preserved : goal.loop-ray-preserved
loop-ray-preserved c =
    let l = c.loop-ray in
    let here = c.loop-ray-test.true in
    let ledger_most = rw (← l.auto.ledger) at c.requires.ledger_most in
    let marks_most = rw (← l.auto.marks) at c.requires.marks_most in
    record {
      entries = next_written _ _ _ _ _ _ _ _ here ledger_most c.ray_ledger.ensures.entries l.invariant.entries;
      marks = next_written _ _ _ _ _ _ _ _ here marks_most (stretch_told _ _ _ _ _ _ _ _ here ledger_most marks_most c.ray_ledger.ensures.marks) l.invariant.marks;
    }

pub returns : goal.returns
returns c =
    let l = c.loop-ray in
    let all : l.ray ≡ length c.args.azimuths.now = omega arith in
    record {
      entries = all_written _ _ _ _ _ _ _ _ all l.invariant.entries;
      marks = all_written _ _ _ _ _ _ _ _ all l.invariant.marks;
    }
