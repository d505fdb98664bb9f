-- Every number of a struct has an answer: a limit is held to the number that C gave, of any sign and size, and what 32 bits can't hold is
-- refused by its rule; a kind other than 1 and 2 is a grid that is refused. Assumes nothing.
use mathlib.Core.Bool.{Bool, true, false, ◌&&◌, cond}
use mathlib.Core.List.{List}
use mathlib.Core.Path.{◌≡◌, refl, ap₂}
use Prim.Native.Nat.{ℕ}
use native.Mathlib.Omega.{arith}
use borrow.Author.Tests.{le-leb}
use lib.Dec.{leb}
use lib.IntN.{ℤ, pos, negsuc}
use lib.ListN.{get_or}
use Rattle.limits.specs.declared.grid.Grid.{Grid}
use Rattle.limits.specs.declared.grid.Grid.TheVariants.{Radolan, Hrap}
use Rattle.refusal.specs.Checks.{in_range, in_signed_range}
use Rattle.limits.specs.Accepted.{range_accepted, azimuth_accepted, size_accepted, grid_accepted}
use Rattle.refusal.specs.Unsigned.{unsigned32}
use Rattle.refusal.proofs.UnsignedLaws.{same_limits}
use Rattle.c_structs.specs.declared.GridNumbers.{GridNumbers}
use Rattle.c_structs.specs.Structs.{is_number, no_grid, grid_of, head_of}

-- a limit from 0 on
at_most : (most : ℕ) (z : ℤ) → in_range 0 most (unsigned32 z) ≡ in_signed_range (pos 0) (pos most) z → leb (unsigned32 z) most ≡ in_signed_range (pos 0) (pos most) z
unfolding in_range
at_most most z e = rw (le-leb 0 (unsigned32 z) (omega arith)) at e

-- ---- the numbers of a scan's head

pub record HeadLimits (numbers : List ℤ) : Type 0 where
  pub rays : in_range 1 720 (head_of numbers).rays ≡ in_signed_range (pos 1) (pos 720) (get_or numbers 2 (pos 0))
  pub gates : in_range 1 1000 (head_of numbers).gates ≡ in_signed_range (pos 1) (pos 1000) (get_or numbers 3 (pos 0))
  pub first : leb (head_of numbers).first 46000000 ≡ in_signed_range (pos 0) (pos 46000000) (get_or numbers 4 (pos 0))
  pub spacing : in_range 1 1000000 (head_of numbers).spacing ≡ in_signed_range (pos 1) (pos 1000000) (get_or numbers 5 (pos 0))

pub head_limits : (numbers : List ℤ) → HeadLimits numbers
unfolding head_of
head_limits numbers = record {
  rays = same_limits 1 720 _ (omega arith);
  gates = same_limits 1 1000 _ (omega arith);
  first = at_most 46000000 _ (same_limits 0 46000000 _ (omega arith));
  spacing = same_limits 1 1000000 _ (omega arith);
}

-- ---- of a grid

-- columns and rows 1 to 1,500
unfoldable pub size_within : GridNumbers → Bool
size_within g = in_signed_range (pos 1) (pos 1500) g.columns && in_signed_range (pos 1) (pos 1500) g.rows

-- document 01's limits of each kind, on the numbers that C gave
unfoldable pub radolan_within : GridNumbers → Bool
radolan_within g =
    in_signed_range (negsuc 1999999999) (pos 2000000000) g.x
    && in_signed_range (negsuc 1999999999) (pos 2000000000) g.y
    && in_signed_range (pos 10000) (pos 10000000) g.side
    && size_within g

unfoldable pub hrap_within : GridNumbers → Bool
hrap_within g = in_signed_range (negsuc 9999) (pos 10000) g.x && in_signed_range (negsuc 9999) (pos 10000) g.y && size_within g

-- no other kind is within them
unfoldable pub grid_within : GridNumbers → Bool
grid_within g = cond (is_number 1 g.kind) (radolan_within g) (cond (is_number 2 g.kind) (hrap_within g) false)

size_same : (g : GridNumbers) → size_accepted (unsigned32 g.columns) (unsigned32 g.rows) ≡ size_within g
unfolding size_accepted size_within
size_same g = ap₂ (λ (s t : Bool). s && t) (same_limits 1 1500 g.columns (omega arith)) (same_limits 1 1500 g.rows (omega arith))

none_refused : grid_accepted no_grid ≡ false
unfolding grid_accepted no_grid in_signed_range in_range
none_refused = refl

radolan_same : (g : GridNumbers) → grid_accepted (Radolan (record { x = g.x; y = g.y; side = unsigned32 g.side; columns = unsigned32 g.columns; rows = unsigned32 g.rows })) ≡ radolan_within g
unfolding grid_accepted radolan_within
radolan_same g = rw (same_limits 10000 10000000 g.side (omega arith), size_same g)

hrap_same : (g : GridNumbers) → grid_accepted (Hrap (record { i = g.x; j = g.y; columns = unsigned32 g.columns; rows = unsigned32 g.rows })) ≡ hrap_within g
unfolding grid_accepted hrap_within
hrap_same g = rw (size_same g)

by_kind : (s t : Bool) (a b : Grid) {p q : Bool} → grid_accepted a ≡ p → grid_accepted b ≡ q → grid_accepted (cond s a (cond t b no_grid)) ≡ cond s p (cond t q false)
by_kind true t a b e f = e
by_kind false true a b e f = f
by_kind false false a b e f = none_refused

pub grid_limits : (g : GridNumbers) → grid_accepted (grid_of g) ≡ grid_within g
unfolding grid_of grid_within
grid_limits g = by_kind (is_number 1 g.kind) (is_number 2 g.kind) _ _ (radolan_same g) (hrap_same g)

-- ---- of a single gate

pub azimuth_limits : (z : ℤ) → azimuth_accepted (unsigned32 z) ≡ in_signed_range (pos 0) (pos 3599999) z
unfolding azimuth_accepted
azimuth_limits z = at_most 3599999 z (same_limits 0 3599999 z (omega arith))

pub range_limits : (z : ℤ) → range_accepted (unsigned32 z) ≡ in_signed_range (pos 0) (pos 46000000) z
unfolding range_accepted
range_limits z = at_most 46000000 z (same_limits 0 46000000 z (omega arith))
