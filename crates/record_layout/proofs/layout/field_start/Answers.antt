-- `record_layout::layout::field_start` meets its contract. Assumes nothing.
use mathlib.Core.Path.{◌≡◌, refl, sym, ap, ◌∙◌}
use native.Mathlib.Omega.{arith}
use Rattle.arithmetic.specs.Places.{sum_to}
use Rattle.record_layout.specs.RecordPlaces.{content_length, field_start}
use Rattle.record_layout.proofs.FieldOrder.{first_in_order, index_most}
use Rattle.record_layout.proofs.LayoutSteps.{next_start}
use Rattle.record_layout.proofs.layout.field_start.Goals as goal

pub loop-before-init : goal.loop-before-init
unfolding field_start sum_to
loop-before-init c = (refl, omega arith)

pub loop-before-preserved : goal.loop-before-preserved
loop-before-preserved c =
    let known = c.loop-before.invariant in
    let length = c.content_length.ensures in
    let k = c.loop-before.before-index in
    let here : c.content_length.result ≡ content_length c.args.bytes.now k = length.value ∙ ap (content_length c.args.bytes.now) (first_in_order c.index.result k _ (omega arith) (omega (arith, c.index.ensures, index_most c.args.field))) in
    (sym (next_start _ _ ∙ sym (omega (arith, known.0, here))), omega (arith, known.1, length.bounded))
