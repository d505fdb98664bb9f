-- Sums within their widths: of one cell with a gate more, and of all cells. Assumes nothing.
use mathlib.Core.Path.{◌≡◌, refl, sym, ◌∙◌}
use mathlib.Core.Bool.{Bool, true, false, ◌&&◌}
use mathlib.Core.List.{List, [], ◌∷◌}
use Prim.Native.Nat.{ℕ, zero, suc, ◌+◌, ◌<◌, ◌≤◌}
use native.Mathlib.Nat.{le_antisymm}
use native.Mathlib.Omega.{arith}
use borrow.Author.Tests.{eq-eqb, ne_eqb, le-leb, lt-leb}
use lib.Dec.{eqb, leb}
use lib.ListN.{length, set, get_or}
use Rattle.arithmetic.proofs.Places.{all_true, all_false}
use Rattle.arithmetic.proofs.Test.{and_false}
use Rattle.tally.specs.LentSums.{Sums}
use Rattle.std.proofs.Common.{Some, None}
use Rattle.std.proofs.lemmas.Bool.Decides.{nat_tests}
use Rattle.tally.specs.declared.cell_sums.CellSums.{CellSums}
use Rattle.tally.specs.CellSums.{gate_added, with_gate}
use Rattle.tally.specs.Gates.{echo_of, weighted_echo}
use Rattle.tally.specs.Width.{most32, most64, within, fit_widths, has_room}

-- ---- one list

pub within_true : (most : ℕ) (sums : List ℕ) → ((cell : ℕ) → cell < length sums → get_or sums cell 0 ≤ most) → within most sums ≡ true
unfolding within
within_true most sums h = all_true _ sums (λ cell i. le-leb _ most (h cell i))

pub within_false : (most : ℕ) (sums : List ℕ) (cell : ℕ) → cell < length sums → most < get_or sums cell 0 → within most sums ≡ false
unfolding within
within_false most sums cell i h = all_false _ sums cell i (lt-leb _ most h)

-- a small number stored among small ones
pub set_small : (most : ℕ) (sums : List ℕ) (cell v : ℕ) → ((other : ℕ) → get_or sums other 0 ≤ most) → v ≤ most → (other : ℕ) → get_or (set sums cell v) other 0 ≤ most
set_small most [] cell v h i other = h other
set_small most (x ∷ xs) zero v h i zero = i
set_small most (x ∷ xs) zero v h i (suc other) = h (suc other)
set_small most (x ∷ xs) (suc cell) v h i zero = h zero
set_small most (x ∷ xs) (suc cell) v h i (suc other) = set_small most xs cell v (λ o. h (suc o)) i other

-- ---- four lists

pub all_fit : (sums : Sums) → within most32 sums.counts ≡ true → within most32 sums.quality_sums ≡ true → within most64 sums.value_sums ≡ true → within most64 sums.weighted_sums ≡ true → fit_widths sums ≡ true
unfolding fit_widths
all_fit sums c q v w = rw (c, q, v, w)

-- where one of two tests fails, one of two others fails
one_fails : (a b : Bool) {x y : Bool} → (a ≡ false → x ≡ false) → (b ≡ false → y ≡ false) → (a && b) ≡ false → (x && y) ≡ false
one_fails false b {x} {y} f g e = rw (f refl)
one_fails true b {x} {y} f g e = rw (g e) (and_false x)

-- ---- the room that a gate has

pub record Room (sums : CellSums) (value quality : ℕ) : Type 0 where
  pub count_room : sums.count + 1 ≤ most32
  pub quality_room : sums.quality_sum + quality ≤ most32
  pub value_room : sums.value_sum + echo_of value ≤ most64
  pub weighted_room : sums.weighted_sum + weighted_echo value quality ≤ most64

pub room : (sums added : CellSums) (value quality : ℕ) → Some added ≡ with_gate sums value quality → Room sums value quality
unfolding with_gate has_room
room sums added value quality e = record {
  count_room = grind (arith, nat_tests, e);
  quality_room = grind (arith, nat_tests, e);
  value_room = grind (arith, nat_tests, e);
  weighted_room = grind (arith, nat_tests, e);
}

pub is_added : (sums added : CellSums) (value quality : ℕ) → Some added ≡ with_gate sums value quality → added ≡ gate_added sums value quality
unfolding with_gate
is_added sums added value quality e = grind (arith, nat_tests, e)

-- a gate that has none: a list passes its width
pub no_room : (cell : CellSums) (value quality : ℕ) (sums : Sums) → None ≡ with_gate cell value quality → (leb (cell.count + 1) most32 ≡ false → within most32 sums.counts ≡ false) → (leb (cell.quality_sum + quality) most32 ≡ false → within most32 sums.quality_sums ≡ false) → (leb (cell.value_sum + echo_of value) most64 ≡ false → within most64 sums.value_sums ≡ false) → (leb (cell.weighted_sum + weighted_echo value quality) most64 ≡ false → within most64 sums.weighted_sums ≡ false) → fit_widths sums ≡ false
unfolding with_gate has_room fit_widths
no_room cell value quality sums e f g h j = grind (arith, nat_tests, e, f, g, h, j)

-- ---- the number of gates that were added says whether all were

pub stopped : {k n : ℕ} {all : Bool} → k < n → all ≡ false → eqb k n ≡ all
stopped {k} {n} h e = ne_eqb k n (λ q. omega arith) ∙ sym e

pub finished : {k n : ℕ} {all : Bool} → k ≤ n → n ≤ k → all ≡ true → eqb k n ≡ all
finished {k} {n} h i e = eq-eqb k n (le_antisymm h i) ∙ sym e
