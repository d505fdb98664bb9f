use mathlib.Core.Path.{◌≡◌}
use Prim.Native.Nat.{◌*◌}
use lib.ListN.{length}
use Rattle.tally.specs.LentSums.{KeepsSums, sums_in}
use Rattle.group_sums.proofs.RayOfGroup.{group_ledger}
use Rattle.group_sums.proofs.RaysUndone.{RaysUndone}
use Rattle.group_sums.proofs.undo.take_out_rays.Given as goal

abbrev pub invariant-loop-ray : goal.invariant-loop-ray
invariant-loop-ray l = record {
  kept : KeepsSums l.initial.sums l.sums;
  room : length l.entries ≡ length l.initial.entries;
  undone : RaysUndone (group_ledger l.survey l.centres (length l.initial.entries) l.rays.azimuths.now) l.rays.values.now l.rays.qualities.now (l.count * length l.initial.entries) (l.ray * length l.initial.entries) (sums_in l.initial.sums) (sums_in l.sums);
}
