-- A placement tells the numbers of documents 01 and 02: the entry, the position and the mark of the gate, or the refusal number. Assumes nothing.
use mathlib.Core.Bool.{true, false}
use mathlib.Core.List.{List, [], ◌∷◌}
use mathlib.Core.Path.{◌≡◌, refl, ap, ◌∙◌}
use Prim.Native.Nat.{ℕ}
use Rattle.std.specs.Prelude.{⊤}
use Rattle.limits.specs.declared.grid.Grid.{Grid}
use Rattle.limits.specs.declared.site.Site.{Site}
use Rattle.refusal.specs.Answer.{answered}
use Rattle.refusal.specs.Checks.{Check, ◌unless◌, first_refusal}
use Rattle.grid.specs.Sphere.{sphere_of}
use Rattle.grid.specs.Window.{window_of}
use Rattle.projection.specs.Position.{position_of}
use Rattle.placement.specs.declared.gate.Placement.{Placement}
use Rattle.placement.specs.Gate.{PlaceAnswer, refusal_of, unless_refused, placement_of, gate_of, placement_answer, placed_gate}
use Rattle.placement.specs.GateRefusal.{gate_refusal}
use Rattle.placement.specs.Located.{located}

-- the answer that a refusal number calls for tells that number
Told : Placement → ℕ → Type 0
Told placement number = placement_answer (unless_refused number placement) ≡ answered number (gate_of placement)

AllTold : Placement → List Check → Type 0
AllTold placement [] = ⊤
AllTold placement ((number unless passes) ∷ checks) = Told placement number × AllTold placement checks

-- whichever check fails first, or none
first_told : (placement : Placement) (checks : List Check) → AllTold placement checks → Told placement (first_refusal checks)
unfolding Told AllTold first_refusal placement_answer unless_refused answered
first_told placement [] h = refl
first_told placement ((number unless true) ∷ checks) h = first_told placement checks h.1
first_told placement ((number unless false) ∷ checks) h = h.0

each_told : (site : Site) (grid : Grid) (azimuth range : ℕ) (placement : Placement) → Told placement (gate_refusal site grid azimuth range)
unfolding Told AllTold gate_refusal placement_answer unless_refused refusal_of answered
each_told site grid azimuth range placement = first_told placement _ (refl, (refl, (refl, (refl, tt))))

pub numbers_told : (site : Site) (grid : Grid) (azimuth range : ℕ) {placement : PlaceAnswer} → placement ≡ placement_of site grid azimuth range → placement_answer placement ≡ answered (gate_refusal site grid azimuth range) (placed_gate site grid azimuth range)
unfolding Told placement_of placed_gate
numbers_told site grid azimuth range e =
    ap placement_answer e ∙ each_told site grid azimuth range (located (window_of grid) (position_of (sphere_of grid) site azimuth range))
