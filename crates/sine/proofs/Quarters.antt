-- What holds from 0 to 900,000, and of opposites, holds at every angle. Assumes nothing.
use mathlib.Core.Path.{◌≡◌, refl, ap}
use Prim.Native.Nat.{ℕ, zero, suc, ◌+◌, ◌-◌, ◌/◌, ◌%◌, ◌≤◌}
use native.Mathlib.Omega.{arith}
use lib.Dec.{lit<}
use lib.IntN.{ℤ, pos, ◌+ℤ◌}
use Rattle.arithmetic.specs.Floor.{◌modulo◌}
use Rattle.arithmetic.proofs.Floor.{modulo_sum}
use Rattle.sine.specs.Quarters.{in_quarter, in_turn, by_quarters}

module _ {A B : Type 0} (minus : A → A) (first : ℕ → A) (minus' : B → B) (first' : ℕ → B) (R : A → B → Type 0) (holds : (t : ℕ) → t ≤ 900000 → R (first t) (first' t)) (opposites : (a : A) (b : B) → R a b → R (minus a) (minus' b)) where
  in_each_quarter : (q t : ℕ) → t ≤ 900000 → R (in_quarter minus first q t) (in_quarter minus' first' q t)
  unfolding in_quarter
  in_each_quarter zero t h = holds t h
  in_each_quarter (suc zero) t h = holds (900000 - t) (omega arith)
  in_each_quarter (suc (suc zero)) t h = opposites _ _ (holds t h)
  in_each_quarter (suc (suc (suc q))) t h = opposites _ _ (holds (900000 - t) (omega arith))

  pub at_every_angle : (angle : ℤ) → R (by_quarters minus first angle) (by_quarters minus' first' angle)
  unfolding by_quarters in_turn
  at_every_angle angle = in_each_quarter _ _ (omega arith)

module _ {A : Type 0} (minus : A → A) (first : ℕ → A) where
  -- document 01 gives the first quarter by itself, 900,000 with it
  pub in_first_quarter : (t : ℕ) → t ≤ 900000 → by_quarters minus first (pos t) ≡ first t
  unfolding by_quarters in_turn in_quarter ◌modulo◌
  in_first_quarter t h = go (t % 3600000 / 900000) (t % 3600000 % 900000) refl refl
    where
      go : (q r : ℕ) → q ≡ t % 3600000 / 900000 → r ≡ t % 3600000 % 900000 → in_quarter minus first q r ≡ first t
      go zero r e f = ap first (omega arith)
      go (suc zero) r e f = ap first (omega arith)
      go (suc (suc zero)) r e f = absurd (omega arith)
      go (suc (suc (suc q))) r e f = absurd (omega arith)

  -- a sum's angle, from that of its first part
  pub later_in_turn : (angle : ℤ) (k : ℕ) → by_quarters minus first (angle +ℤ pos k) ≡ in_turn minus first ((angle modulo 3600000 + k) % 3600000)
  unfolding by_quarters
  later_in_turn angle k = ap (in_turn minus first) (modulo_sum angle k 3600000 (lit< tt))
