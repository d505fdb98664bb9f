-- Every case of the table holds. Assumes nothing.
use mathlib.Core.Bool.{true}
use mathlib.Core.List.{List, [], ◌∷◌, flat_map}
use mathlib.Core.Path.{◌≡◌, refl, ap, ◌∙◌}
use Prim.Native.Nat.{ℕ}
use Rattle.arithmetic.specs.Floor.{◌modulo◌}
use Rattle.arithmetic.specs.Fraction.{◌⊕◌, opposite}
use Rattle.arithmetic.specs.Nearness.{nearest}
use Rattle.arithmetic.specs.Places.{table, sum_to, all_of}
use Rattle.sine.specs.Quarters.{by_quarters, in_turn, in_quarter}
use Rattle.sine_series.specs.Series.{arc, arc_unit, factorial, term, alternating, sine_series, cosine_series}
use Rattle.sine.specs.Sine.{quarter_sine, sine_of, cosine_of}
use Rattle.sine_series.specs.Tables.{S, F, G}
use Rattle.projection.specs.Arc.{d, d2, d3, d4, d5, sd, cd, arc_terms}
use Rattle.placement.specs.Gate.{unless_refused, placement_of, entry_of}
use Rattle.placement.specs.GateCases.{example_grid, any_radolan, GateHolds}
use Rattle.projection.specs.Position.{site_terms, ray_terms, w, e, n, m, u, v, divisor, X, Y, position_by, position_of}
use Rattle.refusal.specs.Checks.{in_range, in_signed_range, first_refusal}
use Rattle.limits.specs.Accepted.{range_accepted, azimuth_accepted, site_accepted, size_accepted, grid_accepted}
use Rattle.placement.specs.GateRefusal.{gate_refusal}
use Rattle.grid.specs.Sphere.{sphere_of, radolan_sphere, hrap_sphere}
use Rattle.grid.specs.Window.{window_of, index_of, in_span, cell_number}
use Rattle.placement.specs.Located.{column, row, in_window, cell_at, located}
use Rattle.placement.proofs.GateCases.{hrap_meridian, radolan_meridian, mesh_column_of_zero_lem, west_of_edge, on_edge, west_of_next_edge, on_next_edge}
use Rattle.tally.specs.Gates.{is_measured, echo_of, weighted_echo}
use Rattle.scan_laws.specs.StarredCases.{example_head, example, example_scan, example_with, RefusedBy, sums_after, CountIs, CellsHold, Holds, AllHold, starred_cases}
use Rattle.limits.specs.declared.weighting.Weighting.{Weighting}
use Rattle.limits.specs.declared.weighting.Weighting.TheVariants.{Plain, ByQuality}
use Rattle.tally.specs.LentSums.{Sums, Cells}
use Rattle.publish.specs.Publication.{equally_long, publish_refusal}
use Rattle.publish.proofs.EqualLengths.{equal_accepted}
use Rattle.publish.specs.Publish.{mean_of, quality_of, published_mean, published_quality, dividends, divisors, published_cells}
use Rattle.scan.specs.LentLists.{Lists}
use Rattle.scan.specs.Rays.{ray_gates, all_gates, regular_rays}
use Rattle.scan.specs.Scan.{rays_of, cells_of}
use Rattle.scan_ledger.specs.ScanLedger.{gates_told, ledger_of}
use Rattle.accepted_tally.specs.TalliedLists.{tallied_lists}
use Rattle.refusal.specs.Answer.{afterwards}
use Rattle.refusal.proofs.AnswerLaws.{filled_is}
use Rattle.scan.specs.ScanRefusal.{centres_accepted, quality_accepted, lists_exact, scan_number, scan_refusal, refusal_for}
use Rattle.tally.specs.Tally.{contributes, sum_over, count_of, quality_sum_of, value_sum_of, weighted_sum_of, tallied_sums}

-- both gates lie in cell 1
example_ledger : ledger_of example (regular_rays 2 (0 ∷ [])) ≡ 1 ∷ 1 ∷ []
unfolding gates_told regular_rays all_gates ray_gates flat_map table example example_head example_grid entry_of placement_of unless_refused gate_refusal first_refusal range_accepted site_accepted grid_accepted size_accepted azimuth_accepted in_range in_signed_range window_of located cell_at in_window in_span cell_number column row index_of sphere_of hrap_sphere position_of position_by site_terms ray_terms arc_terms d d2 d3 d4 d5 sd cd w e n m u v divisor X Y cosine_of sine_of by_quarters in_turn in_quarter ◌modulo◌ quarter_sine S F G nearest sine_series cosine_series alternating term factorial arc arc_unit ◌⊕◌ opposite
example_ledger = refl

-- so its tally has these sums of the two cells
tallied : (values qualities : List ℕ) → (tallied_lists (example_scan example values qualities)).sums ≡ tallied_sums (1 ∷ 1 ∷ []) values qualities 2
unfolding tallied_lists rays_of example_scan cells_of window_of example example_head example_grid
tallied values qualities = rw example_ledger

none_refused : (values qualities : List ℕ) → all_of quality_accepted qualities ≡ true → (lists : Lists) → lists_exact (example_scan example values qualities) lists ≡ true → refusal_for (example_scan example values qualities) lists ≡ 0
unfolding example_scan example example_head example_grid refusal_for scan_refusal scan_number first_refusal centres_accepted site_accepted grid_accepted size_accepted azimuth_accepted in_range in_signed_range all_of
none_refused values qualities good lists exact = rw (exact, good)

sums_are : (values qualities : List ℕ) → all_of quality_accepted qualities ≡ true → (lists : Lists) → lists_exact (example_scan example values qualities) lists ≡ true → sums_after (example_scan example values qualities) lists ≡ tallied_sums (1 ∷ 1 ∷ []) values qualities 2
unfolding sums_after
sums_are values qualities good lists exact =
    ap (λ (l : Lists). l.sums) (filled_is lists (none_refused values qualities good lists exact) refl) ∙ tallied values qualities

-- and they are published
published : (weighting : Weighting) (values qualities : List ℕ) → all_of quality_accepted qualities ≡ true → (list : Cells → List ℕ) {is : List ℕ} → list (published_cells weighting (tallied_sums (1 ∷ 1 ∷ []) values qualities 2)) ≡ is → (lists : Lists) (cells : Cells) → lists_exact (example_scan example values qualities) lists ≡ true → equally_long (sums_after (example_scan example values qualities) lists) cells ≡ true → list (afterwards (publish_refusal (sums_after (example_scan example values qualities) lists) cells) cells (published_cells weighting (sums_after (example_scan example values qualities) lists))) ≡ is
unfolding afterwards
published weighting values qualities good list e lists cells exact equal =
    rw (equal_accepted (sums_after (example_scan example values qualities) lists) cells equal)
    (ap (λ (sums : Sums). list (published_cells weighting sums)) (sums_are values qualities good lists exact) ∙ e)

abbrev means_of : Cells → List ℕ
means_of cells = cells.means

abbrev qualities_of : Cells → List ℕ
qualities_of cells = cells.qualities

-- ---- the table

infixr 5 ◌and◌
◌and◌ : {A B : Type 0} → A → B → A × B
a and b = (a, b)

pub every_case : AllHold starred_cases
unfolding AllHold starred_cases Holds GateHolds CellsHold example_grid any_radolan example_head example example_scan example_with RefusedBy afterwards sums_after CountIs tallied_lists tallied_sums publish_refusal published_cells dividends divisors published_mean published_quality table mean_of quality_of count_of quality_sum_of value_sum_of weighted_sum_of sum_over sum_to contributes is_measured echo_of weighted_echo rays_of refusal_for scan_refusal scan_number centres_accepted cells_of quality_accepted all_of gate_refusal first_refusal range_accepted site_accepted grid_accepted size_accepted azimuth_accepted in_range in_signed_range window_of index_of sphere_of hrap_sphere radolan_sphere
every_case =
    hrap_meridian and mesh_column_of_zero_lem and radolan_meridian and west_of_edge and on_edge and west_of_next_edge and on_next_edge
    and published Plain _ _ refl means_of refl
    and published ByQuality _ _ refl means_of refl
    and published ByQuality _ _ refl qualities_of refl
    and published ByQuality _ _ refl means_of refl
    and (λ lists exact. ap (λ (sums : Sums). sums.counts) (sums_are _ _ refl lists exact))
    and published ByQuality _ _ refl qualities_of refl
    and published Plain _ _ refl means_of refl
    and (λ lists exact. rw exact) and (λ lists exact. refl) and refl and refl
    and (λ lists exact. rw exact) and (λ lists exact. rw exact) and (λ lists exact. refl) and (λ lists exact. refl) and refl and refl and refl and refl
    and (λ lists exact. rw exact) and (λ lists exact. rw exact) and refl and refl
    and (λ lists exact. rw exact)
    and (λ lists exact. refl)
    and tt
