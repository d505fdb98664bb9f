-- `accepted_take::accepted_take` meets its contract: the sums of all rays or none, then ledger and marks. Assumes nothing.
use mathlib.Core.Path.{sym, ◌∙◌}
use Prim.Native.Nat.{◌+◌, ◌*◌, ◌≤◌}
use native.Mathlib.Nat.{mul-le-mul}
use native.Mathlib.Omega.{arith}
use borrow.Author.Tests.{not-true, not-false}
use borrow.Rule.Slice.PartMut.{mid_len}
use Rattle.std.proofs.Common.{rules}
use lib.ListN.{length}
use lib.Seq.{length-take-le}
use Rattle.arithmetic.proofs.Machine.{fits_unsigned}
use Rattle.placement.specs.Gate.{entry_of, mark_of}
use Rattle.accepted_take.proofs.AcceptedGroup.{accepted_group, addable, behind, end_most, rays_span, told_is, told_stored, group_taken, group_left}
use Rattle.accepted_take.proofs.accepted_take.Goals as goal

pub survey_of-survey-requires : goal.survey_of-survey-requires
survey_of-survey-requires c = let g = accepted_group _ _ _ _ _ c.requires in (g.site, g.grid)

pub add_rays-requires : goal.add_rays-requires
add_rays-requires c =
    let g = accepted_group _ _ _ _ _ c.requires in
    addable g (length-take-le _ _ g.gates_most)

pub slice_bounds-entries-end : goal.slice_bounds-entries-end
slice_bounds-entries-end c = omega (arith, (accepted_group _ _ _ _ _ c.requires).gates_most)

pub slice_bounds-add_rays-end : goal.slice_bounds-add_rays-end
slice_bounds-add_rays-end c = sym (length-take-le _ _ (accepted_group _ _ _ _ _ c.requires).gates_most)

pub returns-then-not-add_rays-clause-takes : goal.returns-then-not-add_rays-clause-takes
returns-then-not-add_rays-clause-takes c =
    let g = accepted_group _ _ _ _ _ c.requires in
    group_left g (told_is g entry_of _ _ c.survey_of-survey.ensures (length-take-le _ _ g.gates_most)) c.add_rays.ensures.added (search rules) (search rules) (search rules) (search rules) (not-true _ c.if-not-add_rays.true-raw)

pub overflow_mul-end : goal.overflow_mul-end
overflow_mul-end c =
    let g = accepted_group _ _ _ _ _ c.requires in
    fits_unsigned {m = 720 * 1000} (mul-le-mul {n₂ = 720} {m₂ = 1000} (omega (arith, g.rays_most, g.rays_limit)) g.gates_most) tt

pub overflow_add-end : goal.overflow_add-end
overflow_add-end c = fits_unsigned (end_most (accepted_group _ _ _ _ _ c.requires)) tt

pub offset_bounds-lists-start : goal.offset_bounds-lists-start
offset_bounds-lists-start c = record { fits = omega (arith, end_most (accepted_group _ _ _ _ _ c.requires)) }

pub slice_bounds-scan_ledger-end : goal.slice_bounds-scan_ledger-end
slice_bounds-scan_ledger-end c =
    let g = accepted_group _ _ _ _ _ c.requires in
    let within : c.args.taken * c.args.head.gates + length c.args.rays.azimuths.now * c.args.head.gates ≤ length c.args.lists.now.ledger.now = omega (arith, behind g, g.ledger_length) in
    within

pub slice_bounds-scan_ledger-end-2 : goal.slice_bounds-scan_ledger-end-2
slice_bounds-scan_ledger-end-2 c =
    let g = accepted_group _ _ _ _ _ c.requires in
    let within : c.args.taken * c.args.head.gates + length c.args.rays.azimuths.now * c.args.head.gates ≤ length c.args.lists.now.marks.now = omega (arith, behind g, g.marks_length) in
    within

pub scan_ledger-requires : goal.scan_ledger-requires
scan_ledger-requires c =
    let g = accepted_group _ _ _ _ _ c.requires in
    let start = c.args.taken * c.args.head.gates in
    let end = start + length c.args.rays.azimuths.now * c.args.head.gates in
    rays_span g (mid_len start end c.args.lists.now.ledger.now (omega (arith, behind g, g.ledger_length)) ∙ omega arith) (mid_len start end c.args.lists.now.marks.now (omega (arith, behind g, g.marks_length)) ∙ omega arith)

pub returns-clause-takes : goal.returns-clause-takes
returns-clause-takes c =
    let g = accepted_group _ _ _ _ _ c.requires in
    let surveyed = c.survey_of-survey.ensures in
    group_taken g (told_is g entry_of _ _ surveyed (length-take-le _ _ g.gates_most)) c.add_rays.ensures.added (search rules) (search rules) (search rules) (search rules) (not-false _ c.if-not-add_rays.false-raw)
    (told_stored g entry_of _ _ surveyed g.ledger_length (omega arith) c.scan_ledger.ensures.entries)
    (told_stored g mark_of _ _ surveyed g.marks_length (omega arith) c.scan_ledger.ensures.marks)
