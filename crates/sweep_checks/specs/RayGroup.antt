-- A group of rays as it is given, as a record, and a contract's parameters as this record. Assumes nothing.
use Rattle.std.specs.Prelude.{List, ℕ}
use Rattle.scan.specs.declared.lists.Rays.{Rays}

-- an azimuth for each ray; a value and a quality for each gate, ray by ray
pub record RayGroup : Type 0 where
  pub azimuths : List ℕ
  pub values : List ℕ
  pub qualities : List ℕ

abbrev pub group_held : List ℕ → List ℕ → List ℕ → RayGroup
group_held azimuths values qualities = record { azimuths = azimuths; values = values; qualities = qualities }

-- a group whose lists these slices are
abbrev pub group_of : Rays → RayGroup
group_of rays = group_held rays.azimuths.now rays.values.now rays.qualities.now
