-- A turn of the loop that takes gates out, for the four lists. Assumes nothing.
use mathlib.Core.Path.{◌≡◌, refl, sym, ap, ◌∙◌}
use mathlib.Core.Bool.{true, false}
use mathlib.Core.List.{List}
use Prim.Native.Nat.{ℕ, ◌+◌, ◌<◌, ◌≤◌}
use native.Mathlib.Omega.{arith}
use lib.ListN.{length, length-set, get_or}
use Rattle.tally.specs.declared.cell_sums.CellSums.{CellSums}
use Rattle.tally.specs.CellSums.{HasGate, cell_of, gate_added, with_cell}
use Rattle.tally.specs.Gates.{is_measured, echo_of, weighted_echo}
use Rattle.tally.specs.LentSums.{Sums}
use Rattle.tally.specs.Tally.{added_first, added_sums}
use Rattle.take_out.specs.TakeOutRoom.{AddedBefore}
use Rattle.take_out.proofs.TakeOutTurn.{Holding, holding, out_no_cell, out_unmeasured, share_there, out_measured, all_out}

-- some sums, with all gates added, are those that came in; with the first k gates added, they are those that are left
pub record Undone (ledger values qualities : List ℕ) (k : ℕ) (sums₀ sums : Sums) : Type 0 where
  pub before : Sums
  pub added_then : sums₀ ≡ added_sums ledger values qualities before
  pub counts_held : Holding ledger values qualities (λ value quality. 1) k before.counts sums.counts
  pub quality_sums_held : Holding ledger values qualities (λ value quality. quality) k before.quality_sums sums.quality_sums
  pub value_sums_held : Holding ledger values qualities (λ value quality. echo_of value) k before.value_sums sums.value_sums
  pub weighted_sums_held : Holding ledger values qualities weighted_echo k before.weighted_sums sums.weighted_sums
  -- a place for each cell in every list
  pub cells_length : length before.counts ≡ length sums.counts
  pub quality_cells_length : length before.quality_sums ≡ length sums.counts
  pub value_cells_length : length before.value_sums ≡ length sums.counts
  pub weighted_cells_length : length before.weighted_sums ≡ length sums.counts
  pub quality_sums_length : length sums.quality_sums ≡ length sums.counts
  pub value_sums_length : length sums.value_sums ≡ length sums.counts
  pub weighted_sums_length : length sums.weighted_sums ≡ length sums.counts
  pub same_counts : length sums.counts ≡ length sums₀.counts
  pub same_quality_sums : length sums.quality_sums ≡ length sums₀.quality_sums
  pub same_value_sums : length sums.value_sums ≡ length sums₀.value_sums
  pub same_weighted_sums : length sums.weighted_sums ≡ length sums₀.weighted_sums

module _ {ledger values qualities : List ℕ} where
  pub undone_none : {sums₀ : Sums} → AddedBefore ledger values qualities sums₀ → Undone ledger values qualities (length ledger) sums₀ sums₀
  unfolding added_sums added_first
  undone_none {sums₀} p =
      let e = p.added_then in
      let c = holding ledger values qualities (λ value quality. 1) (length ledger) p.before.counts sums₀.counts (ap (λ (s : Sums). s.counts) e) in
      let q = holding ledger values qualities (λ value quality. quality) (length ledger) p.before.quality_sums sums₀.quality_sums (ap (λ (s : Sums). s.quality_sums) e) in
      let v = holding ledger values qualities (λ value quality. echo_of value) (length ledger) p.before.value_sums sums₀.value_sums (ap (λ (s : Sums). s.value_sums) e) in
      let w = holding ledger values qualities weighted_echo (length ledger) p.before.weighted_sums sums₀.weighted_sums (ap (λ (s : Sums). s.weighted_sums) e) in
      let a = p.addable in
      record {
        before = p.before;
        added_then = e;
        counts_held = c;
        quality_sums_held = q;
        value_sums_held = v;
        weighted_sums_held = w;
        cells_length = sym c.cells_length;
        quality_cells_length = a.quality_sums_length ∙ sym c.cells_length;
        value_cells_length = a.value_sums_length ∙ sym c.cells_length;
        weighted_cells_length = a.weighted_sums_length ∙ sym c.cells_length;
        quality_sums_length = q.cells_length ∙ a.quality_sums_length ∙ sym c.cells_length;
        value_sums_length = v.cells_length ∙ a.value_sums_length ∙ sym c.cells_length;
        weighted_sums_length = w.cells_length ∙ a.weighted_sums_length ∙ sym c.cells_length;
        same_counts = refl;
        same_quality_sums = refl;
        same_value_sums = refl;
        same_weighted_sums = refl;
      }

  module _ {n : ℕ} {sums₀ sums : Sums} (u : Undone ledger values qualities n sums₀ sums) where
    -- gate k gave nothing
    nothing_out : {k : ℕ} → Holding ledger values qualities (λ value quality. 1) k u.before.counts sums.counts → Holding ledger values qualities (λ value quality. quality) k u.before.quality_sums sums.quality_sums → Holding ledger values qualities (λ value quality. echo_of value) k u.before.value_sums sums.value_sums → Holding ledger values qualities weighted_echo k u.before.weighted_sums sums.weighted_sums → Undone ledger values qualities k sums₀ sums
    nothing_out c q v w = record {
      before = u.before;
      added_then = u.added_then;
      counts_held = c;
      quality_sums_held = q;
      value_sums_held = v;
      weighted_sums_held = w;
      cells_length = u.cells_length;
      quality_cells_length = u.quality_cells_length;
      value_cells_length = u.value_cells_length;
      weighted_cells_length = u.weighted_cells_length;
      quality_sums_length = u.quality_sums_length;
      value_sums_length = u.value_sums_length;
      weighted_sums_length = u.weighted_sums_length;
      same_counts = u.same_counts;
      same_quality_sums = u.same_quality_sums;
      same_value_sums = u.same_value_sums;
      same_weighted_sums = u.same_weighted_sums;
    }

    module _ (k : ℕ) (last : n ≡ k + 1) where
      pub undone_no_cell : length sums.counts ≤ get_or ledger k 0 → Undone ledger values qualities k sums₀ sums
      undone_no_cell h =
          nothing_out
          (out_no_cell u.counts_held k last (omega (arith, u.cells_length)))
          (out_no_cell u.quality_sums_held k last (omega (arith, u.quality_cells_length)))
          (out_no_cell u.value_sums_held k last (omega (arith, u.value_cells_length)))
          (out_no_cell u.weighted_sums_held k last (omega (arith, u.weighted_cells_length)))

      pub undone_unmeasured : is_measured (get_or values k 0) ≡ false → Undone ledger values qualities k sums₀ sums
      undone_unmeasured h =
          nothing_out (out_unmeasured u.counts_held k last h) (out_unmeasured u.quality_sums_held k last h) (out_unmeasured u.value_sums_held k last h) (out_unmeasured u.weighted_sums_held k last h)

      module _ (h : get_or ledger k 0 < length sums.counts) where
        module _ (m : is_measured (get_or values k 0) ≡ true) where
          pub gate_there : HasGate (cell_of sums (get_or ledger k 0)) (get_or values k 0) (get_or qualities k 0)
          gate_there = record {
            in_count = share_there u.counts_held k last (omega (arith, u.cells_length)) m refl;
            in_quality_sum = share_there u.quality_sums_held k last (omega (arith, u.quality_cells_length)) m refl;
            in_value_sum = share_there u.value_sums_held k last (omega (arith, u.value_cells_length)) m refl;
            in_weighted_sum = share_there u.weighted_sums_held k last (omega (arith, u.weighted_cells_length)) m refl;
          }

          pub undone_measured : (less : CellSums) → cell_of sums (get_or ledger k 0) ≡ gate_added less (get_or values k 0) (get_or qualities k 0) → Undone ledger values qualities k sums₀ (with_cell sums (get_or ledger k 0) less)
          undone_measured less e =
              let cell = get_or ledger k 0 in
              let counts = length-set sums.counts cell less.count in
              let quality-sums = length-set sums.quality_sums cell less.quality_sum in
              let value-sums = length-set sums.value_sums cell less.value_sum in
              let weighted-sums = length-set sums.weighted_sums cell less.weighted_sum in
              record {
                before = u.before;
                added_then = u.added_then;
                counts_held = out_measured u.counts_held k last (omega (arith, u.cells_length)) m refl _ (ap (λ (c : CellSums). c.count) e);
                quality_sums_held = out_measured u.quality_sums_held k last (omega (arith, u.quality_cells_length)) m refl _ (ap (λ (c : CellSums). c.quality_sum) e);
                value_sums_held = out_measured u.value_sums_held k last (omega (arith, u.value_cells_length)) m refl _ (ap (λ (c : CellSums). c.value_sum) e);
                weighted_sums_held = out_measured u.weighted_sums_held k last (omega (arith, u.weighted_cells_length)) m refl _ (ap (λ (c : CellSums). c.weighted_sum) e);
                cells_length = u.cells_length ∙ sym counts;
                quality_cells_length = u.quality_cells_length ∙ sym counts;
                value_cells_length = u.value_cells_length ∙ sym counts;
                weighted_cells_length = u.weighted_cells_length ∙ sym counts;
                quality_sums_length = quality-sums ∙ u.quality_sums_length ∙ sym counts;
                value_sums_length = value-sums ∙ u.value_sums_length ∙ sym counts;
                weighted_sums_length = weighted-sums ∙ u.weighted_sums_length ∙ sym counts;
                same_counts = counts ∙ u.same_counts;
                same_quality_sums = quality-sums ∙ u.same_quality_sums;
                same_value_sums = value-sums ∙ u.same_value_sums;
                same_weighted_sums = weighted-sums ∙ u.same_weighted_sums;
              }

    -- all gates are out
    pub undone_all : n ≡ 0 → sums₀ ≡ added_sums ledger values qualities sums
    undone_all e =
        u.added_then
        ∙ ap (added_sums ledger values qualities) (λ i. record {
          counts = sym (all_out u.counts_held e) i;
          quality_sums = sym (all_out u.quality_sums_held e) i;
          value_sums = sym (all_out u.value_sums_held e) i;
          weighted_sums = sym (all_out u.weighted_sums_held e) i;
        })
