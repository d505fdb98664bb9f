-- A good record within the two sizes: what is read, what is tallied and published, and that its sheet is printed. Assumes nothing.
use mathlib.Core.Path.{◌≡◌, ap, ◌∙◌}
use mathlib.Core.Bool.{true}
use mathlib.Core.List.{List}
use Prim.Native.Nat.{ℕ, ◌≤◌}
use native.Mathlib.Omega.{arith}
use borrow.Author.Tests.{eq-eqb}
use denote.Triple.Both.{Both}
use lib.ListN.{length, get_or}
use Rattle.arithmetic.specs.Places.{sum_to, all_of}
use Rattle.arithmetic.proofs.Places.{table_length}
use Rattle.limits.specs.Accepted.{azimuth_accepted, grid_accepted}
use Rattle.grid.specs.Window.{window_of}
use Rattle.refusal.proofs.RangeBounds.{range_bounds}
use Rattle.scan.specs.declared.head.ScanHead.{ScanHead}
use Rattle.scan.specs.Scan.{gates_of, cells_of, Scan}
use Rattle.scan.specs.ScanRefusal.{lists_accepted, quality_accepted, lists_exact, refusal_for}
use Rattle.scan.specs.LentLists.{Lists}
use Rattle.accepted_tally.specs.TalliedLists.{tallied_lists}
use Rattle.scan_tally.specs.ScanTally.{Tallies}
use Rattle.publish.specs.CellMeans.{cells_from}
use Rattle.publish.specs.Publication.{Publishes}
use Rattle.std.specs.Prelude.{Result}
use Rattle.refusal.specs.declared.numbered.Refusal.{Refusal}
use Rattle.refusal.proofs.AnswerLaws.{filled_is}
use Rattle.tally.specs.LentSums.{Sums, Cells}
use Rattle.tally.specs.Tally.{tallied_sums}
use Rattle.scan_laws.specs.Placed.{placed_of}
use Rattle.scan_laws.specs.TallyPublished.{scan_cells}
use Rattle.scan_laws.proofs.PlacedTotal.{placed_total}
use Rattle.scan_laws.proofs.TallyPublished.{published_scan}
use Rattle.scan.proofs.AcceptedScan.{AcceptedLists, AcceptedLengths, accepted_lengths, accepted_scan, exact_for_another, AcceptedNumbers, window_size}
use Rattle.big_endian.specs.BigEndian.{numbers_at}
use Rattle.record_layout.specs.RecordPlaces.{rays_in, gates_in, head_in, azimuths_in, values_in, qualities_in, scan_in}
use Rattle.record_layout.specs.RecordLists.{RecordLists}
use Rattle.record_layout.specs.RecordRefusal.{head_refusal, record_refusal, read_refusal}
use Rattle.record_reader.specs.RecordRead.{lists_in, Reads}
use Rattle.record_layout.proofs.AcceptedRecord.{accepted_record, record_numbers}
use Rattle.sheet_lines.specs.SheetLines.{sheet_lines}
use Rattle.record_sheet.specs.GoodSheet.{good_sheet}
use Rattle.record_sheet.specs.SheetRoom.{Sized, CellRoom}

-- ---- its numbers

numbers : {bytes : List ℕ} {head : ScanHead} → Sized bytes head → AcceptedNumbers (head_in bytes) true (all_of azimuth_accepted (azimuths_in bytes)) (all_of quality_accepted (qualities_in bytes))
unfolding head_refusal
numbers {bytes} {head} s = record_numbers bytes true s.accepted

pub rays_most : {bytes : List ℕ} {head : ScanHead} → Sized bytes head → head.rays ≤ 720
rays_most {bytes} {head} s = rw s.is_head (range_bounds 1 720 (head_in bytes).rays (numbers s).rays_accepted).1

pub grid_good : {bytes : List ℕ} {head : ScanHead} → Sized bytes head → grid_accepted head.grid ≡ true
grid_good {bytes} {head} s = rw s.is_head (numbers s).grid_passes

pub columns_least : {bytes : List ℕ} {head : ScanHead} → Sized bytes head → 1 ≤ (window_of head.grid).columns
columns_least {bytes} {head} s = (window_size head.grid (grid_good s)).columns_least

-- ---- what is read

azimuths_length : (bytes : List ℕ) → length (azimuths_in bytes) ≡ (head_in bytes).rays
unfolding azimuths_in numbers_at head_in rays_in
azimuths_length bytes = table_length _ _

values_length : (bytes : List ℕ) → length (values_in bytes) ≡ gates_of (head_in bytes)
unfolding values_in numbers_at head_in gates_in gates_of
values_length bytes = table_length _ _

qualities_length : (bytes : List ℕ) → length (qualities_in bytes) ≡ gates_of (head_in bytes)
unfolding qualities_in numbers_at head_in gates_in gates_of
qualities_length bytes = table_length _ _

lists_exact_lem : (head : ScanHead) (a v q : ℕ) → a ≡ head.rays → v ≡ gates_of head → q ≡ gates_of head → lists_accepted head a v q ≡ true
unfolding lists_accepted
lists_exact_lem head a v q d e f = rw (eq-eqb a head.rays d, eq-eqb v (gates_of head) e, eq-eqb q (gates_of head) f)

module _ {bytes : List ℕ} (scan : Scan) (lists : Lists) (s : Sized bytes scan.head) (exact : lists_exact scan lists ≡ true) where
  lengths : AcceptedLengths scan lists
  unfolding lists_exact
  lengths = accepted_lengths scan lists exact

  -- the lists that the reader fills
  abbrev to_fill : RecordLists
  to_fill = record { azimuths = scan.azimuths; values = scan.values; qualities = scan.qualities }

  no_refusal : read_refusal bytes to_fill ≡ 0
  unfolding read_refusal head_refusal
  no_refusal =
      ap (record_refusal bytes)
      (lists_exact_lem (head_in bytes) _ _ _ (lengths.azimuths_length ∙ ap (λ (h : ScanHead). h.rays) s.is_head) (lengths.values_length ∙ ap gates_of s.is_head) (lengths.qualities_length ∙ ap gates_of s.is_head))
      ∙ s.accepted

  pub scan_read_lem : {answer : Result ScanHead Refusal} {after : RecordLists} → Reads bytes (record { entry = to_fill; exit = after }) answer → record { head = scan.head; azimuths = after.azimuths; values = after.values; qualities = after.qualities } ≡ scan_in bytes
  unfolding scan_in lists_in
  scan_read_lem r =
      let read = filled_is to_fill no_refusal r.the_lists in
      λ i. record { head = s.is_head i; azimuths = (read i).azimuths; values = (read i).values; qualities = (read i).qualities }

  own_lists : AcceptedLists (head_in bytes) (length (azimuths_in bytes)) (length (values_in bytes)) (length (qualities_in bytes))
  own_lists = record { azimuths_length = azimuths_length bytes; values_length = values_length bytes; qualities_length = qualities_length bytes }

  not_refused : refusal_for (scan_in bytes) lists ≡ 0
  unfolding scan_in refusal_for head_refusal
  not_refused = rw (exact_for_another scan (scan_in bytes) lists s.is_head own_lists exact) (accepted_record bytes true s.accepted).number

  pub tallied : {given : Scan} {after : Lists} {answer : Result (Unit {0}) Refusal} → given ≡ scan_in bytes → Tallies given (record { entry = lists; exit = after }) answer → after ≡ tallied_lists (scan_in bytes)
  tallied e r = filled_is lists not_refused (rw e at r.the_lists)

  -- published in the weighting that the record asks for
  pub published : {given : Scan} {sums : Sums} {cells : Both Cells Cells} {answer : Result (Unit {0}) Refusal} → given ≡ scan_in bytes → ((k : ℕ) → get_or given.values k 0 ≤ 65535) → sums ≡ (tallied_lists (scan_in bytes)).sums → CellRoom scan.head cells.entry → Publishes scan.head.weighting sums cells answer → cells.exit ≡ scan_cells (head_in bytes).weighting (scan_in bytes)
  unfolding scan_in
  published {cells = cells} {answer = answer} e small is room p =
      let good = accepted_scan (scan_in bytes) lists not_refused in
      let known = rw (is, s.is_head) at p in
      (published_scan (scan_in bytes) good (rw e at small) (head_in bytes).weighting cells answer (room.means_length ∙ ap cells_of s.is_head) (room.cell_qualities_length ∙ ap cells_of s.is_head) known).the_cells

-- what is known once the record is read, tallied and published
pub record CellsDone (bytes : List ℕ) (sums : Sums) (cells : Cells) : Type 0 where
  pub the_sums : sums ≡ (tallied_lists (scan_in bytes)).sums
  pub the_cells : cells ≡ scan_cells (head_in bytes).weighting (scan_in bytes)

module _ {bytes : List ℕ} (scan : Scan) (lists : Lists) {cells : Both Cells Cells} (s : Sized bytes scan.head) (exact : lists_exact scan lists ≡ true) (room : CellRoom scan.head cells.entry) {head_answer : Result ScanHead Refusal} {read : RecordLists} {tally_answer : Result (Unit {0}) Refusal} {after : Lists} {publish_answer : Result (Unit {0}) Refusal} where
  pub cells_done : ((k : ℕ) → get_or read.values k 0 ≤ 65535) → Reads bytes (record { entry = to_fill scan lists s exact; exit = read }) head_answer → Tallies (record { head = scan.head; azimuths = read.azimuths; values = read.values; qualities = read.qualities }) (record { entry = lists; exit = after }) tally_answer → Publishes scan.head.weighting after.sums cells publish_answer → CellsDone bytes after.sums cells.exit
  cells_done small r t p =
      let is = scan_read_lem scan lists s exact r in
      let sums = ap (λ (l : Lists). l.sums) (tallied scan lists s exact is t) in
      record { the_sums = sums; the_cells = published scan lists s exact is small sums room p }

-- each list has the grid's cells
module _ (bytes : List ℕ) where
  pub counts_length : {sums : Sums} → sums ≡ (tallied_lists (scan_in bytes)).sums → length sums.counts ≡ cells_of (head_in bytes)
  unfolding scan_in tallied_lists tallied_sums
  counts_length e = ap (λ (s : Sums). length s.counts) e ∙ table_length _ _

  module _ {cells : Cells} (e : cells ≡ scan_cells (head_in bytes).weighting (scan_in bytes)) where
    pub means_length : length cells.means ≡ cells_of (head_in bytes)
    unfolding scan_in scan_cells cells_from
    means_length = ap (λ (c : Cells). length c.means) e ∙ table_length _ _

    pub cell_qualities_length : length cells.qualities ≡ cells_of (head_in bytes)
    unfolding scan_in scan_cells cells_from
    cell_qualities_length = ap (λ (c : Cells). length c.qualities) e ∙ table_length _ _

-- ---- what is printed

abbrev lines_of : ScanHead → ℕ → List ℕ → Cells → List ℕ
lines_of head placed counts cells = sheet_lines (window_of head.grid).columns (window_of head.grid).rows (gates_of head) placed counts cells.means cells.qualities

pub is_sheet : {bytes : List ℕ} {head : ScanHead} {sums : Sums} {cells : Cells} → Sized bytes head → sums ≡ (tallied_lists (scan_in bytes)).sums → cells ≡ scan_cells (head_in bytes).weighting (scan_in bytes) → lines_of head (sum_to (λ k. get_or sums.counts k 0) (length sums.counts)) sums.counts cells ≡ good_sheet bytes
unfolding good_sheet scan_in
is_sheet {bytes} {head} {sums} {cells} s e f =
    ap (λ (l : Sums). lines_of head (sum_to (λ k. get_or l.counts k 0) (length l.counts)) l.counts cells) e
    ∙ ap (lines_of head _ _) f
    ∙ ap (λ (placed : ℕ). lines_of head placed (tallied_lists (scan_in bytes)).sums.counts (scan_cells (head_in bytes).weighting (scan_in bytes))) (placed_total (scan_in bytes) (azimuths_length bytes) (omega (arith, s.cells_most, ap cells_of s.is_head)))
    ∙ ap (λ (h : ScanHead). lines_of h (placed_of (scan_in bytes)) (tallied_lists (scan_in bytes)).sums.counts (scan_cells (head_in bytes).weighting (scan_in bytes))) s.is_head
