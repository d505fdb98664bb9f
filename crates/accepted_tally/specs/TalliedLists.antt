-- Document 01, "Ledger and cells", and document 02, T-02 and T-05: what the lists of an accepted scan hold afterwards. Assumes nothing.
use Rattle.scan.specs.LentLists.{Lists}
use Rattle.scan.specs.Scan.{Scan, rays_of, cells_of}
use Rattle.scan_ledger.specs.ScanLedger.{ledger_of, marks_of}
use Rattle.tally.specs.Tally.{tallied_sums}

-- the weighting plays no part
unfoldable pub tallied_lists : Scan → Lists
tallied_lists scan =
    let ledger = ledger_of scan.head (rays_of scan) in
    record {
      ledger = ledger;
      marks = marks_of scan.head (rays_of scan);
      sums = tallied_sums ledger scan.values scan.qualities (cells_of scan.head);
    }
