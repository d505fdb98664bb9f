-- The placement of one gate: its cell, or none outside, its position and its mark, or a refusal. Assumes nothing.
use Rattle.std.specs.Prelude.{Bool, cond, unwrap_or, Result, Ok, Err, ℕ, zero, suc, eqb, ℤ}
use Rattle.placement.specs.declared.gate.Placement.{Placement}
use Rattle.limits.specs.declared.grid.Grid.{Grid}
use Rattle.limits.specs.declared.site.Site.{Site}
use Rattle.refusal.specs.Answer.{Answer, gives, refuses}
use Rattle.refusal.specs.Numbered.{number_of}
use Rattle.refusal.specs.declared.numbered.Refusal.{Refusal}
use Rattle.refusal.specs.declared.numbered.Refusal.TheVariants.{Centres, Site as SiteRefused, Grid as GridRefused, Azimuth}
use Rattle.grid.specs.Sphere.{sphere_of}
use Rattle.projection.specs.Position.{position_of}
use Rattle.grid.specs.Window.{window_of}
use Rattle.placement.specs.Located.{located}
use Rattle.placement.specs.GateRefusal.{gate_refusal}

-- what `place` answers
abbrev pub PlaceAnswer : Type 0
PlaceAnswer = Result Placement Refusal

-- the refusal of a number of one gate's checks
unfoldable pub refusal_of : ℕ → Refusal
refusal_of number = cond (eqb number 3) Centres (cond (eqb number 4) SiteRefused (cond (eqb number 5) GridRefused Azimuth))

-- a refusal gives its reason only
unfoldable pub unless_refused : ℕ → Placement → PlaceAnswer
unless_refused zero placement = Ok placement
unless_refused (suc number) placement = Err (refusal_of (suc number))

unfoldable pub placement_of : Site → Grid → ℕ → ℕ → PlaceAnswer
placement_of site grid azimuth range =
    unless_refused (gate_refusal site grid azimuth range)
    (located (window_of grid) (position_of (sphere_of grid) site azimuth range))

-- ---- the numbers of documents 01 and 02 for each case of the answer

abbrev pub outside_entry : ℕ
outside_entry = 4294967295

-- the ledger entry: the cell, or 4,294,967,295
unfoldable pub entry_of : PlaceAnswer → ℕ
entry_of (Ok placement) = unwrap_or placement.cell outside_entry
entry_of (Err refusal) = outside_entry

-- 1 or 0
abbrev pub mark_number : Bool → ℕ
mark_number mark = cond mark 1 0

-- the mark; a refused gate has none
unfoldable pub mark_of : PlaceAnswer → ℕ
mark_of (Ok placement) = mark_number placement.mark
mark_of (Err refusal) = 0

-- what is told of a gate that is not refused: its entry, its position and its mark
pub record PlacedGate : Type 0 where
  pub entry : ℕ
  pub x : ℤ
  pub y : ℤ
  pub mark : ℕ

abbrev pub gate_of : Placement → PlacedGate
gate_of placement = record { entry = unwrap_or placement.cell outside_entry; x = placement.x; y = placement.y; mark = mark_number placement.mark }

-- these four numbers, or the refusal number
unfoldable pub placement_answer : PlaceAnswer → Answer PlacedGate
placement_answer (Ok placement) = gives (gate_of placement)
placement_answer (Err refusal) = refuses (number_of refusal)

-- those of documents 01 and 02
unfoldable pub placed_gate : Site → Grid → ℕ → ℕ → PlacedGate
placed_gate site grid azimuth range = gate_of (located (window_of grid) (position_of (sphere_of grid) site azimuth range))
