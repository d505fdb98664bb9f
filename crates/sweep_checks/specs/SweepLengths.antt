-- Document 02, T-01, refusal 6: the lengths of the lists that an operation of a sweep is lent. Assumes nothing.
use Rattle.std.specs.Prelude.{Bool, ◌&&◌, not, ◌*◌, eqb, length}
use Rattle.tally.specs.LentSums.{Sums, Cells}
use Rattle.scan.specs.declared.head.ScanHead.{ScanHead}
use Rattle.scan.specs.LentLists.{Lists}
use Rattle.scan.specs.Scan.{gates_of, cells_of}
use Rattle.sweep_checks.specs.RayGroup.{RayGroup}

-- columns x rows
unfoldable pub sums_accepted : ScanHead → Sums → Bool
sums_accepted head sums =
    eqb (length sums.counts) (cells_of head)
    && (eqb (length sums.quality_sums) (cells_of head)
    && (eqb (length sums.value_sums) (cells_of head) && eqb (length sums.weighted_sums) (cells_of head)))

-- not a group of no rays; as many gates as its rays have; the whole ledger and all marks, of all rays that were announced
unfoldable pub group_accepted : ScanHead → RayGroup → Lists → Bool
group_accepted head group lists =
    not (eqb (length group.azimuths) 0)
    && (eqb (length group.values) (length group.azimuths * head.gates)
    && (eqb (length group.qualities) (length group.azimuths * head.gates)
    && (eqb (length lists.ledger) (gates_of head) && eqb (length lists.marks) (gates_of head))))

-- columns x rows
unfoldable pub cells_accepted : ScanHead → Cells → Bool
cells_accepted head cells = eqb (length cells.means) (cells_of head) && eqb (length cells.qualities) (cells_of head)
