-- `placement::ledger::ray_ledger` meets its contract. The loop's invariant: in ledger and marks the places up to the gate hold what their gates
-- tell, and the others what they held. Assumes nothing.
use mathlib.Core.Path.{◌≡◌, refl, ap, ◌∙◌}
use native.Mathlib.Omega.{arith}
use lib.ListN.{length}
use Rattle.std.specs.Prelude.{Option, Some, None, ℕ, unwrap_or}
use Rattle.arithmetic.proofs.Places.{written_more, written_all}
use Rattle.projection.specs.Position.{ray_terms}
use Rattle.placement.specs.declared.gate.Placement.{Placement}
use Rattle.placement.specs.Centres.{centre_of}
use Rattle.placement.specs.Gate.{entry_of, mark_of, outside_entry, mark_number}
use Rattle.placement.specs.Survey.{surveyed, surveyed_gate, surveyed_ray}
use Rattle.placement.proofs.MarkByte.{mark_byte}
use Rattle.placement.proofs.MarksStored.{written_start}
use Rattle.placement.proofs.ledger.ray_ledger.Goals as goal

-- what the entry of a gate is by its cell
some_entry : {cell : Option ℕ} {n : ℕ} → cell ≡ Some n → n ≡ unwrap_or cell outside_entry
some_entry e = rw e

none_entry : (cell : Option ℕ) → ((n : ℕ) → cell ≡ Some n → ⊥) → outside_entry ≡ unwrap_or cell outside_entry
none_entry None e = refl
none_entry (Some n) e = absurd (e n refl)

pub loop-gate-preserved : goal.loop-gate-preserved
unfolding entry_of mark_of surveyed_gate
loop-gate-preserved c =
    let placed : c.gate_at-placement.result ≡ surveyed c.args.survey (ray_terms c.args.azimuth) (centre_of c.args.centres c.loop-gate.gate) = rw (c.ray_terms-ray.ensures, c.centre.ensures) at c.gate_at-placement.ensures in
    record {
      entries = written_more _ _ _ _ _ _ c.loop-gate.invariant.entries (omega arith) (omega arith) (some_entry c.in-Some.is ∙ ap (λ (p : Placement). unwrap_or p.cell outside_entry) placed);
      marks = written_more _ _ _ _ _ _ c.loop-gate.invariant.marks (omega arith) (omega arith) (c.from.ensures ∙ mark_byte _ ∙ ap (λ (p : Placement). mark_number p.mark) placed);
    }

pub loop-gate-preserved-in_default : goal.loop-gate-preserved-in_default
unfolding entry_of mark_of surveyed_gate
loop-gate-preserved-in_default c =
    let placed : c.gate_at-placement.result ≡ surveyed c.args.survey (ray_terms c.args.azimuth) (centre_of c.args.centres c.loop-gate.gate) = rw (c.ray_terms-ray.ensures, c.centre.ensures) at c.gate_at-placement.ensures in
    record {
      entries = written_more _ _ _ _ _ _ c.loop-gate.invariant.entries (omega arith) (omega arith) (none_entry _ c.in_default.not-Some ∙ ap (λ (p : Placement). unwrap_or p.cell outside_entry) placed);
      marks = written_more _ _ _ _ _ _ c.loop-gate.invariant.marks (omega arith) (omega arith) (c.from.ensures ∙ mark_byte _ ∙ ap (λ (p : Placement). mark_number p.mark) placed);
    }

pub returns : goal.returns
unfolding surveyed_ray
returns c =
    let all : c.loop-gate.gate ≡ length c.args.ledger.now = omega arith in
    let l = rw all at c.loop-gate.invariant in
    record { entries = written_all _ _ _ _ l.entries refl; marks = written_start _ _ _ _ l.marks c.requires.marks_most }
