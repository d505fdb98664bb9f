-- `grid::window::window_of` meets its contract: the corner of an accepted grid fits 64 bits. Assumes nothing.
use mathlib.Core.Path.{sym, ap}
use mir.Facts.{to_z-of_z}
use Rattle.arithmetic.proofs.Machine.{fits64}
use Rattle.grid.specs.Window.{window_of}
use Rattle.limits.proofs.Accepted.{AcceptedRadolan, AcceptedHrap, accepted_radolan, accepted_hrap, hrap_distance, hrap_corner}
use Rattle.grid.proofs.window.window_of.Goals as goal

-- what the contract says of the grid of each kind
radolan : (c : goal.After-struct_told-1) → AcceptedRadolan c.in-Radolan.g
radolan c = accepted_radolan c.in-Radolan.g (rw c.in-Radolan.is at c.requires)

hrap : (c : goal.After-struct_told-in-Hrap-1) → AcceptedHrap c.in-Hrap.g
hrap c = accepted_hrap c.in-Hrap.g (rw c.in-Hrap.is at c.requires)

hrap-2 : (c : goal.After-struct_told-in-Hrap-2-1) → AcceptedHrap c.in-Hrap.g
hrap-2 c = accepted_hrap c.in-Hrap.g (rw c.in-Hrap.is at c.requires)

pub overflow_sub-result : goal.overflow_sub-result
overflow_sub-result c =
    let i = (hrap c).i_limit in
    simp (to_z-of_z, fits64 i tt) (fits64 (hrap_distance 401 i) tt)

pub overflow_mul-result : goal.overflow_mul-result
overflow_mul-result c =
    let i = (hrap c).i_limit in
    simp (to_z-of_z, fits64 i tt, fits64 (hrap_distance 401 i) tt) (fits64 (hrap_corner 401 i) tt)

pub overflow_sub-result-in-Hrap : goal.overflow_sub-result-in-Hrap
overflow_sub-result-in-Hrap c =
    let j = (hrap-2 c).j_limit in
    simp (to_z-of_z, fits64 j tt) (fits64 (hrap_distance 1601 j) tt)

pub overflow_mul-result-in-Hrap : goal.overflow_mul-result-in-Hrap
overflow_mul-result-in-Hrap c =
    let j = (hrap-2 c).j_limit in
    simp (to_z-of_z, fits64 j tt, fits64 (hrap_distance 1601 j) tt) (fits64 (hrap_corner 1601 j) tt)

pub returns-in-Radolan : goal.returns-in-Radolan
unfolding window_of
returns-in-Radolan c =
    let h = radolan c in
    simp (to_z-of_z, fits64 h.x_limit tt, fits64 h.y_limit tt, c.from.ensures) (sym (ap window_of c.in-Radolan.is))

pub returns-in-Hrap : goal.returns-in-Hrap
unfolding window_of
returns-in-Hrap c =
    let i = (hrap-2 c).i_limit in
    let j = (hrap-2 c).j_limit in
    simp
    (to_z-of_z, fits64 i tt, fits64 (hrap_distance 401 i) tt, fits64 (hrap_corner 401 i) tt, fits64 j tt, fits64 (hrap_distance 1601 j) tt, fits64 (hrap_corner 1601 j) tt)
    (sym (ap window_of c.in-Hrap.is))
