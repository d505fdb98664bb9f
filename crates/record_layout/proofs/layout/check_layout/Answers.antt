-- `record_layout::layout::check_layout` meets its contract: the first field that is refused gives the number. Assumes nothing.
use mathlib.Core.Path.{◌≡◌, refl, sym, ap, ◌∙◌}
use native.Mathlib.Omega.{arith}
use borrow.Author.Rules.{rules}
use borrow.Author.Tests.{eq-eqb, ne_eqb}
use Rattle.refusal.specs.Checks.{first_refusal}
use Rattle.refusal.specs.Numbered.{number_of, refusal_in}
use Rattle.record_layout.specs.RecordRefusal.{field_refusal, fields_refusal, layout_refusal}
use Rattle.record_layout.proofs.FieldOrder.{in_order}
use Rattle.record_layout.proofs.LayoutSteps.{fields_step, fields_stop}
use Rattle.refusal.proofs.NumberedLaws.{numbered}
use Rattle.refusal.proofs.Then.{then_next}
use Rattle.record_layout.proofs.layout.check_layout.Goals as goal

pub loop-field-init : goal.loop-field-init
unfolding fields_refusal
loop-field-init c = refl

pub returns-in_err-check_field : goal.returns-in_err-check_field
unfolding layout_refusal
returns-in_err-check_field c =
    let refusal = c.in_err-check_field.field-0.0 in
    let k = c.loop-field.field-index in
    let same : refusal_in c.from_residual.result ≡ number_of refusal = search rules in
    let here : number_of refusal ≡ field_refusal c.args.bytes.now k = c.in_err-check_field.ensures ∙ ap (field_refusal c.args.bytes.now) (in_order k _ (omega arith)) in
    same ∙ fields_stop _ _ _ c.loop-field.invariant (omega arith) here (numbered refusal)

pub loop-field-preserved : goal.loop-field-preserved
loop-field-preserved c =
    let k = c.loop-field.field-index in
    fields_step _ _ c.loop-field.invariant ∙ sym (c.in_ok-check_field.ensures ∙ ap (field_refusal c.args.bytes.now) (in_order k _ (omega arith)))

-- no field is refused
all-passed : (c : goal.Then-bytes-field_start) → fields_refusal c.args.bytes.now 7 ≡ 0
all-passed c = ap (fields_refusal c.args.bytes.now) (omega arith) ∙ c.loop-field.invariant

all-passed-2 : (c : goal.Else-bytes-field_start) → fields_refusal c.args.bytes.now 7 ≡ 0
all-passed-2 c = ap (fields_refusal c.args.bytes.now) (omega arith) ∙ c.loop-field.invariant

pub returns-then-bytes-field_start : goal.returns-then-bytes-field_start
unfolding layout_refusal first_refusal
returns-then-bytes-field_start c = sym (then_next _ (all-passed c) ∙ rw (ne_eqb _ _ (λ e. c.if-bytes-field_start.true (e ∙ sym c.field_start.ensures.value))))

pub returns : goal.returns
unfolding layout_refusal first_refusal
returns c = sym (then_next _ (all-passed-2 c) ∙ rw (eq-eqb _ _ (c.if-bytes-field_start.false ∙ c.field_start.ensures.value)))
