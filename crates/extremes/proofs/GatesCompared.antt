-- The loop that compares gates, for both lists: each holds its choice over the first gates, from what it held. Assumes nothing.
use mathlib.Core.Path.{◌≡◌, sym, ap, ◌∙◌}
use mathlib.Core.Bool.{true, false}
use mathlib.Core.List.{List}
use Prim.Native.Nat.{ℕ, ◌+◌, ◌<◌, ◌≤◌, min, max}
use native.Mathlib.Omega.{arith}
use lib.ListN.{length, get_or, set}
use Rattle.std.proofs.Common.{subst}
use Rattle.std.proofs.lemmas.Bool.Decides.{nat_tests}
use Rattle.tally.specs.Gates.{echo_of, is_measured}
use Rattle.extremes.specs.CompareRoom.{Comparable}
use Rattle.extremes.specs.Extremes.{lesser, greater, compared}
use Rattle.extremes.specs.LentExtremes.{Extremes}
use Rattle.extremes.proofs.CompareTurn.{ChosenAfter, before_first, no_cell, unmeasured, measured, after_last}

is_lesser : (a b : ℕ) → min a b ≡ lesser a b
unfolding lesser
is_lesser a b = grind (arith, nat_tests)

is_greater : (a b : ℕ) → max a b ≡ greater a b
unfolding greater
is_greater a b = grind (arith, nat_tests)

pub record ComparedSoFar (ledger values : List ℕ) (n : ℕ) (held now : Extremes) : Type 0 where
  pub of_least : ChosenAfter ledger values lesser n held.least now.least
  pub of_greatest : ChosenAfter ledger values greater n held.greatest now.greatest

pub compared_none : {ledger values : List ℕ} {held : Extremes} → ComparedSoFar ledger values 0 held held
compared_none = record { of_least = before_first; of_greatest = before_first }

-- the next gate, with the number of gates up to it
module _ {ledger values : List ℕ} {n : ℕ} {held now : Extremes} (lengths : Comparable ledger values held) (s : ComparedSoFar ledger values n held now) where
  module _ {cell value m : ℕ} (names : cell ≡ get_or ledger n 0) (has : value ≡ get_or values n 0) (next : m ≡ n + 1) where
    counted : {after : Extremes} → ComparedSoFar ledger values (n + 1) held after → ComparedSoFar ledger values m held after
    counted {after} c = subst (λ (k : ℕ). ComparedSoFar ledger values k held after) (sym next) c

    pub compared_no_cell : length now.least ≤ cell → ComparedSoFar ledger values m held now
    compared_no_cell h = counted (record {
      of_least = no_cell s.of_least (omega (arith, names, s.of_least.cells_length));
      of_greatest = no_cell s.of_greatest (omega (arith, names, s.of_least.cells_length, lengths.greatest_length));
    })

    pub compared_unmeasured : is_measured value ≡ false → ComparedSoFar ledger values m held now
    compared_unmeasured h = counted (record { of_least = unmeasured s.of_least (rw (← has) h); of_greatest = unmeasured s.of_greatest (rw (← has) h) })

    pub compared_measured : {echo : ℕ} → cell < length now.least → is_measured value ≡ true → echo ≡ echo_of value → ComparedSoFar ledger values m held (record { least = set now.least cell (min (get_or now.least cell 0) echo); greatest = set now.greatest cell (max (get_or now.greatest cell 0) echo) })
    compared_measured {echo} h is p =
        let there : get_or ledger n 0 < length held.least = omega (arith, names, s.of_least.cells_length) in
        let there_measured : is_measured (get_or values n 0) ≡ true = ap is_measured (sym has) ∙ is in
        let of : echo ≡ echo_of (get_or values n 0) = p ∙ ap echo_of has in
        rw names (counted (record {
          of_least = measured s.of_least there there_measured of (is_lesser _ _);
          of_greatest = measured s.of_greatest (omega (arith, there, lengths.greatest_length)) there_measured of (is_greater _ _);
        }))

  pub compared_all : n ≡ length ledger → now ≡ compared ledger values held
  unfolding compared
  compared_all e i = record {
    least = after_last s.of_least (omega arith) (omega arith) i;
    greatest = after_last s.of_greatest (omega arith) (omega arith) i;
  }
