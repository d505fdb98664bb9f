-- The loop that adds gates, for the four lists: each holds its sums over the first gates, added onto what it held, and none passes its width. Assumes
-- nothing.
use mathlib.Core.Path.{◌≡◌, refl}
use mathlib.Core.Bool.{true, false}
use mathlib.Core.List.{List}
use Prim.Native.Nat.{ℕ, ◌+◌, ◌<◌, ◌≤◌}
use native.Mathlib.Omega.{arith}
use lib.ListN.{length, get_or}
use Rattle.std.proofs.Common.{Some, None, subst}
use Rattle.tally.specs.declared.cell_sums.CellSums.{CellSums}
use Rattle.tally.specs.CellSums.{cell_of, with_cell, with_gate}
use Rattle.tally.specs.Gates.{is_measured, echo_of, weighted_echo}
use Rattle.tally.specs.LentSums.{Sums}
use Rattle.tally.specs.Tally.{added_first, added_sums}
use Rattle.tally.specs.TallyRoom.{Addable, AddsGates}
use Rattle.tally.specs.Width.{most32, most64, Fitting}
use Rattle.tally.proofs.TallyTurn.{SumsAfter, before_first, no_cell, unmeasured, measured, none_for_all, room_for_all}
use Rattle.tally.proofs.WidthLaws.{all_fit, room, is_added, no_room, stopped, finished}

pub record Tallied (ledger values qualities : List ℕ) (n : ℕ) (held sums : Sums) : Type 0 where
  pub of_counts : SumsAfter ledger values qualities (λ value quality. 1) most32 n held.counts sums.counts
  pub of_quality_sums : SumsAfter ledger values qualities (λ value quality. quality) most32 n held.quality_sums sums.quality_sums
  pub of_value_sums : SumsAfter ledger values qualities (λ value quality. echo_of value) most64 n held.value_sums sums.value_sums
  pub of_weighted_sums : SumsAfter ledger values qualities weighted_echo most64 n held.weighted_sums sums.weighted_sums

pub tallied_none : {ledger values qualities : List ℕ} {sums : Sums} → Fitting sums → Tallied ledger values qualities 0 sums sums
tallied_none fit = record {
  of_counts = before_first fit.counts_fit;
  of_quality_sums = before_first fit.quality_sums_fit;
  of_value_sums = before_first fit.value_sums_fit;
  of_weighted_sums = before_first fit.weighted_sums_fit;
}

module _ {ledger values qualities : List ℕ} {n : ℕ} {held sums : Sums} (lengths : Addable ledger values qualities held) (t : Tallied ledger values qualities n held sums) where
  pub tallied_no_cell : length sums.counts ≤ get_or ledger n 0 → Tallied ledger values qualities (n + 1) held sums
  tallied_no_cell h = record {
    of_counts = no_cell t.of_counts (omega (arith, t.of_counts.cells_length));
    of_quality_sums = no_cell t.of_quality_sums (omega (arith, t.of_counts.cells_length, lengths.quality_sums_length));
    of_value_sums = no_cell t.of_value_sums (omega (arith, t.of_counts.cells_length, lengths.value_sums_length));
    of_weighted_sums = no_cell t.of_weighted_sums (omega (arith, t.of_counts.cells_length, lengths.weighted_sums_length));
  }

  pub tallied_unmeasured : is_measured (get_or values n 0) ≡ false → Tallied ledger values qualities (n + 1) held sums
  tallied_unmeasured h = record {
    of_counts = unmeasured t.of_counts h;
    of_quality_sums = unmeasured t.of_quality_sums h;
    of_value_sums = unmeasured t.of_value_sums h;
    of_weighted_sums = unmeasured t.of_weighted_sums h;
  }

  module _ (h : get_or ledger n 0 < length sums.counts) where
    in_held_counts : get_or ledger n 0 < length held.counts
    in_held_counts = omega (arith, t.of_counts.cells_length)

    in_held_quality_sums : get_or ledger n 0 < length held.quality_sums
    in_held_quality_sums = omega (arith, in_held_counts, lengths.quality_sums_length)

    in_held_value_sums : get_or ledger n 0 < length held.value_sums
    in_held_value_sums = omega (arith, in_held_counts, lengths.value_sums_length)

    in_held_weighted_sums : get_or ledger n 0 < length held.weighted_sums
    in_held_weighted_sums = omega (arith, in_held_counts, lengths.weighted_sums_length)

    module _ (m : is_measured (get_or values n 0) ≡ true) where
      -- a measured gate of a cell, with room for it
      pub tallied_measured : {more : CellSums} → Some more ≡ with_gate (cell_of sums (get_or ledger n 0)) (get_or values n 0) (get_or qualities n 0) → Tallied ledger values qualities (n + 1) held (with_cell sums (get_or ledger n 0) more)
      tallied_measured {more} e =
          let enough = room _ _ _ _ e in
          rw (is_added _ _ _ _ e) (record {
            of_counts = measured t.of_counts in_held_counts m refl enough.count_room;
            of_quality_sums = measured t.of_quality_sums in_held_quality_sums m refl enough.quality_room;
            of_value_sums = measured t.of_value_sums in_held_value_sums m refl enough.value_room;
            of_weighted_sums = measured t.of_weighted_sums in_held_weighted_sums m refl enough.weighted_room;
          })

      -- and with none
      pub tallied_full : None ≡ with_gate (cell_of sums (get_or ledger n 0)) (get_or values n 0) (get_or qualities n 0) → n < length ledger → AddsGates ledger values qualities (record { entry = held; exit = sums }) n
      unfolding added_first added_sums
      tallied_full e here = record {
        gates_most = omega arith;
        whether_all =
            stopped here (no_room _ _ _ _ e
            (none_for_all t.of_counts in_held_counts m refl here)
            (none_for_all t.of_quality_sums in_held_quality_sums m refl here)
            (none_for_all t.of_value_sums in_held_value_sums m refl here)
            (none_for_all t.of_weighted_sums in_held_weighted_sums m refl here));
        the_sums = λ i. record { counts = t.of_counts.cell_sums i; quality_sums = t.of_quality_sums.cell_sums i; value_sums = t.of_value_sums.cell_sums i; weighted_sums = t.of_weighted_sums.cell_sums i };
      }

  -- after the last gate
  pub tallied_all : n ≡ length ledger → AddsGates ledger values qualities (record { entry = held; exit = sums }) (length ledger)
  unfolding added_first added_sums
  tallied_all e =
      let h : n ≤ length ledger = omega arith in
      let last : length ledger ≤ n = omega arith in
      let after : AddsGates ledger values qualities (record { entry = held; exit = sums }) n = record {
        gates_most = h;
        whether_all = finished h last (all_fit _ (room_for_all t.of_counts h last) (room_for_all t.of_quality_sums h last) (room_for_all t.of_value_sums h last) (room_for_all t.of_weighted_sums h last));
        the_sums = λ i. record { counts = t.of_counts.cell_sums i; quality_sums = t.of_quality_sums.cell_sums i; value_sums = t.of_value_sums.cell_sums i; weighted_sums = t.of_weighted_sums.cell_sums i };
      } in
      subst (λ (gates : ℕ). AddsGates ledger values qualities (record { entry = held; exit = sums }) gates) e after
