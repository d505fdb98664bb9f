-- `ledger_text::ledger::good_line` meets its contract. Assumes nothing.
use mathlib.Core.Path.{ap, ◌∙◌}
use native.Mathlib.Omega.{arith}
use native.Mathlib.Nat.{mod-lt}
use lib.ListN.{length}
use Rattle.ledger_text.proofs.LedgerHead.{good_head, good_line_is, line_of_gate, placement_line}
use Rattle.ledger_text.proofs.PlacedColumns.{placed_columns}
use Rattle.text.proofs.StoredLaws.{appends_same, appends_next, answered}
use Rattle.ledger_text.proofs.ledger.good_line.Goals as goal

pub nonzero_div-ray : goal.nonzero_div-ray
nonzero_div-ray c = omega (arith, (good_head _ c.head_in-head.ensures c.requires.0).gates_least)

pub nonzero_rem-gate : goal.nonzero_rem-gate
nonzero_rem-gate c = omega (arith, (good_head _ c.head_in-head.ensures c.requires.0).gates_least)

pub overflow_cast-range : goal.overflow_cast-range
overflow_cast-range c = let good = good_head _ c.head_in-head.ensures c.requires.0 in record { fits = omega (arith, mod-lt c.args.k good.gates_least, good.gates_most) }

pub overflow_mul-range : goal.overflow_mul-range
overflow_mul-range c = record { fits = omega (arith, (good_head _ c.head_in-head.ensures c.requires.0).range_most c.args.k) }

pub overflow_add-range : goal.overflow_add-range
overflow_add-range c = record { fits = omega (arith, (good_head _ c.head_in-head.ensures c.requires.0).range_most c.args.k) }

pub put_place-requires : goal.put_place-requires
put_place-requires c =
    let gate = c.put_gate.ensures in
    (rw (c.columns_of-columns.ensures, c.place-placed.ensures.rule) (placed_columns _ _ _ _), omega (arith, gate.bounded, gate.appended.same_length, c.new-text.ensures.empty, ap length c.new-text.ensures.same_bytes))

pub returns : goal.returns
returns c =
    let gate = c.put_gate.ensures in
    let place = c.put_place.ensures in
    let text = good_line_is _ _ c.head_in-head.ensures c.azimuth_in-azimuth.ensures c.value_in-value.ensures c.quality_in-quality.ensures c.columns_of-columns.ensures c.place-placed.ensures.rule in
    let put = appends_same (placement_line _ _ _ ∙ text ∙ line_of_gate _ _ c.requires.0 c.requires.1) (appends_next gate.appended place.appended) in
    let all = answered (rw (c.new-text.ensures.empty, c.new-text.ensures.same_bytes) at put.stored) (omega (arith, gate.bounded, place.bounded, c.new-text.ensures.empty)) in
    record { value = all.0; bounded = all.1.0; line_after = all.1.1 }
