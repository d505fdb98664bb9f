-- Floor division with its remainder. Assumes nothing.
use mathlib.Core.Path.{◌≡◌, refl, sym, ◌∙◌, ap}
use Prim.Native.Nat.{ℕ, suc, ◌+◌, ◌*◌, ◌-◌, ◌/◌, ◌%◌, ◌<◌, ◌≤◌}
use native.Mathlib.Nat.{mod-lt, mod-eq_of_lt, div-add-mod', div-eq_of_lt-le, mul-add-mod_self_right}
use native.Mathlib.Omega.{arith}
use lib.IntN.{ℤ, pos, negsuc, ◌+ℤ◌, ◌-ℤ◌, ◌*ℤ◌, nat_abs}
use Rattle.std.specs.Int.{int_rem_euclid}
use Rattle.arithmetic.specs.Floor.{◌÷◌, ◌modulo◌}
use Rattle.arithmetic.proofs.Integer.{as_difference, same_difference, differences}

pub modulo_below : (z : ℤ) (m : ℕ) → 0 < m → z modulo m < m
unfolding ◌modulo◌
modulo_below (pos a) m h = mod-lt a h
modulo_below (negsuc a) m h = omega arith

-- z is m times its floor, and the remainder
pub floor_modulo : (z : ℤ) (m : ℕ) → 0 < m → z ≡ (z ÷ m) *ℤ pos m +ℤ pos (z modulo m)
unfolding ◌modulo◌
floor_modulo (pos a) m h = ap pos (sym (div-add-mod' a m))
floor_modulo (negsuc a) m h =
    simp differences (same_difference _ _ _ _ (omega (arith, div-add-mod' a m, mod-lt a h)))

-- the machine's remainder that is never negative
pub remainder_modulo : (z : ℤ) (m : ℕ) → int_rem_euclid z (pos m) ≡ pos (z modulo m)
unfolding ◌modulo◌
remainder_modulo (pos a) m = refl
remainder_modulo (negsuc a) m = ap pos (omega arith)

less_floor : (z a : ℤ) (r : ℕ) → z ≡ a +ℤ pos r → z -ℤ a ≡ pos r
less_floor z a r e =
    ap (λ (w : ℤ). w -ℤ a) e ∙ rw (as_difference a) (simp differences (same_difference _ _ _ _ (omega arith)))

-- so far past m times its floor
pub past_floor : (z : ℤ) (m : ℕ) → 0 < m → z -ℤ (z ÷ m) *ℤ pos m ≡ pos (z modulo m)
past_floor z m h = less_floor z ((z ÷ m) *ℤ pos m) (z modulo m) (floor_modulo z m h)

pub floor_near : (z : ℤ) (m : ℕ) → 0 < m → nat_abs (z -ℤ (z ÷ m) *ℤ pos m) ≤ m
floor_near z m h = rw (past_floor z m h) (omega (arith, modulo_below z m h))

-- ---- floor and remainder are the only such numbers

pub small_division : (a m r : ℕ) → r < m → ((a * m + r) / m ≡ a) × ((a * m + r) % m ≡ r)
small_division a m r h =
    (div-eq_of_lt-le {k = a} m (omega arith) (omega arith), rw (mul-add-mod_self_right a m r) (mod-eq_of_lt h))

-- less than a multiple of m, as the machine counts below 0
under_multiple : (a m r : ℕ) → r < m → negsuc a *ℤ pos m +ℤ pos r ≡ negsuc (a * m + (m - suc r))
under_multiple a m r h = simp differences (same_difference _ _ _ _ (omega arith))

pub floor_only : (q : ℤ) (m r : ℕ) → r < m → (q *ℤ pos m +ℤ pos r) ÷ m ≡ q
floor_only (pos a) m r h = ap pos (small_division a m r h).0
floor_only (negsuc a) m r h =
    rw (under_multiple a m r h) (ap negsuc (small_division a m (m - suc r) (omega arith)).0)

pub modulo_only : (q : ℤ) (m r : ℕ) → r < m → (q *ℤ pos m +ℤ pos r) modulo m ≡ r
unfolding ◌modulo◌
modulo_only (pos a) m r h = (small_division a m r h).1
modulo_only (negsuc a) m r h =
    rw (under_multiple a m r h, (small_division a m (m - suc r) (omega arith)).1) (omega arith)

-- ---- the floor and the remainder of a sum

carried : (z q : ℤ) (m r k a b : ℕ) → z ≡ q *ℤ pos m +ℤ pos r → a * m + b ≡ r + k → z +ℤ pos k ≡ (q +ℤ pos a) *ℤ pos m +ℤ pos b
carried z q m r k a b e f =
    rw (e, as_difference q) (simp differences (same_difference _ _ _ _ (omega arith)))

none_left : (q : ℤ) (m : ℕ) → q *ℤ pos m ≡ q *ℤ pos m +ℤ pos 0
none_left q m = rw (as_difference q) (simp differences (same_difference _ _ _ _ (omega arith)))

-- of whole numbers of m and k more
pub floor_of_sum : (q : ℤ) (m k : ℕ) → 0 < m → (q *ℤ pos m +ℤ pos k) ÷ m ≡ q +ℤ pos (k / m)
floor_of_sum q m k h =
    rw (carried (q *ℤ pos m) q m 0 k (k / m) (k % m) (none_left q m) (omega (arith, div-add-mod' k m)))
    (floor_only (q +ℤ pos (k / m)) m (k % m) (mod-lt k h))

pub modulo_sum : (z : ℤ) (k m : ℕ) → 0 < m → (z +ℤ pos k) modulo m ≡ (z modulo m + k) % m
modulo_sum z k m h =
    let s = z modulo m + k in
    rw (carried z (z ÷ m) m (z modulo m) k (s / m) (s % m) (floor_modulo z m h) (div-add-mod' s m))
    (modulo_only ((z ÷ m) +ℤ pos (s / m)) m (s % m) (mod-lt s h))
