-- The seven fields, gone through in their order. Assumes nothing.
use mathlib.Core.Path.{◌≡◌, refl, ap, ◌∙◌}
use mathlib.Core.List.{List, [], ◌∷◌}
use Prim.Native.Nat.{ℕ, zero, suc, ◌<◌}
use native.Mathlib.Omega.{arith}
use lib.ListN.{get_or, take}
use lib.Seq.{get_or-take}
use Rattle.record_layout.specs.Fields.{index_of}
use Rattle.record_layout.specs.declared.field.Field.{Field}
use Rattle.record_layout.specs.declared.field.Field.TheVariants.{Site, Gates, Grid, Weighting, Azimuths, Values, Qualities, End}

abbrev pub all_fields : List Field
all_fields = Site ∷ Gates ∷ Grid ∷ Weighting ∷ Azimuths ∷ Values ∷ Qualities ∷ []

-- each stands behind as many as its index says
pub in_order : (k : ℕ) (none : Field) → k < 7 → index_of (get_or all_fields k none) ≡ k
in_order zero none h = refl
in_order (suc zero) none h = refl
in_order (suc (suc zero)) none h = refl
in_order (suc (suc (suc zero))) none h = refl
in_order (suc (suc (suc (suc zero)))) none h = refl
in_order (suc (suc (suc (suc (suc zero))))) none h = refl
in_order (suc (suc (suc (suc (suc (suc zero)))))) none h = refl
in_order (suc (suc (suc (suc (suc (suc (suc k))))))) none h = absurd (omega arith)

pub first_in_order : (n k : ℕ) (none : Field) → k < n → k < 7 → index_of (get_or (take n all_fields) k none) ≡ k
first_in_order n k none h i = ap index_of (get_or-take n all_fields k none h) ∙ in_order k none i

pub index_most : (field : Field) → index_of field < 8
index_most Site = omega arith
index_most Gates = omega arith
index_most Grid = omega arith
index_most Weighting = omega arith
index_most Azimuths = omega arith
index_most Values = omega arith
index_most Qualities = omega arith
index_most End = omega arith
